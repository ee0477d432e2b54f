-- A record and its 32-byte image are inverse. No axiom.
use Rattle.octets.proofs.Vocabulary.{◌≡◌, sym, ap, ◌∙◌, ℕ, zero, suc, ◌+◌, ◌*◌, ◌/◌, ◌%◌, ◌^◌, ◌<◌, ◌≤◌, List, [], ◌∷◌, ◌++◌, append_assoc, append-nil, length, take, drop, length-append, length-take, length-drop, take-append-drop, drop_of_length-le, drop-cons, drop-drop, get_or-append-add, take_at, arith, add-zero, zero-add, le_of_eq, div-div-eq-div-mul}
use Rattle.octets.specs.Octets.{byte, part}
use Rattle.records.specs.declared.Device.{Device}
use Rattle.records.specs.Device.{with_endpoints, Sized}
use Rattle.records.specs.Image.{four_bytes, bytes_of_four, device_of, image_of}

-- a record is known by its alternates, halts and toggles, and the rest
pub same-device : (d : Device) {a : List ℕ} {h t : ℕ} → a ≡ d.alternates → h ≡ d.halts → t ≡ d.toggles → with_endpoints a h t d ≡ d
same-device d p q r = rw (p, q, r)

-- ---- a list spelled out
-- n bytes from i on, one by one
unfoldable pub window : ℕ → ℕ → List ℕ → List ℕ
window zero i bytes = []
window (suc n) i bytes = byte bytes i ∷ window n (suc i) bytes

pub window-drop : (n i : ℕ) (bytes : List ℕ) → n + i ≤ length bytes → drop i bytes ≡ window n i bytes ++ drop (n + i) bytes
unfolding window
window-drop zero i bytes h = rw zero-add
window-drop (suc n) i bytes h =
    let l : i < length bytes = omega arith in
    let s : n + suc i ≡ suc n + i = omega arith in
    drop-cons bytes i 0 l ∙ ap (λ (t : List ℕ). byte bytes i ∷ t) (window-drop n (suc i) bytes (omega arith) ∙ rw s)

-- a list of a known length
pub spelled : (n : ℕ) (bytes : List ℕ) → length bytes ≡ n → bytes ≡ window n 0 bytes
spelled n bytes e =
    let past : length bytes ≤ n + 0 = omega arith in
    window-drop n 0 bytes (omega arith) ∙ rw (drop_of_length-le bytes past, append-nil)

-- ---- a number of four bytes
four-at : (xs ys : List ℕ) (k : ℕ) → length xs ≡ k → four_bytes (xs ++ ys) k ≡ four_bytes ys 0
unfolding four_bytes
four-at xs ys k e = rw (← e, rw add-zero at (get_or-append-add xs ys 0 0), get_or-append-add xs ys 1 0, get_or-append-add xs ys 2 0, get_or-append-add xs ys 3 0)

whole : (n : ℕ) (rest : List ℕ) → n < 2 ^ 32 → four_bytes (bytes_of_four n ++ rest) 0 ≡ n
unfolding four_bytes bytes_of_four
whole n rest h =
    let e2 : n / 256 / 256 ≡ n / 65536 = div-div-eq-div-mul n 256 256 in
    let e3 : n / 65536 / 256 ≡ n / 16777216 = div-div-eq-div-mul n 65536 256 in
    let top : n / 16777216 % 256 ≡ n / 16777216 = omega arith in
    omega arith

-- the bytes of a number are the four that it is made of
module _ (a b c d : ℕ) (ha : a < 256) (hb : b < 256) (hc : c < 256) (hd : d < 256) where
  byte0 : (a + b * 256 + c * 65536 + d * 16777216) % 256 ≡ a
  byte0 = omega arith

  byte1 : (a + b * 256 + c * 65536 + d * 16777216) / 256 % 256 ≡ b
  byte1 = omega arith

  byte2 : (a + b * 256 + c * 65536 + d * 16777216) / 65536 % 256 ≡ c
  byte2 = omega arith

  byte3 : (a + b * 256 + c * 65536 + d * 16777216) / 16777216 % 256 ≡ d
  byte3 = omega arith

  apart : bytes_of_four (a + b * 256 + c * 65536 + d * 16777216) ≡ a ∷ b ∷ c ∷ d ∷ []
  unfolding bytes_of_four
  apart = rw (byte0, byte1, byte2, byte3)

-- ---- from the record and back
-- the eight bytes before the alternates
abbrev pub front : Device → List ℕ
front d = d.state ∷ d.address ∷ d.waiting ∷ d.configuration ∷ d.wakeup ∷ d.power ∷ d.suspended ∷ d.speed ∷ []

module _ (d : Device) (sized : Sized d) where
  front_length : length (front d ++ d.alternates) ≡ 24
  front_length = rw sized.sixteen

  alternates-back : part (image_of d) 8 16 ≡ d.alternates
  unfolding image_of
  alternates-back = ap (take 16) (append_assoc d.alternates (bytes_of_four d.halts) (bytes_of_four d.toggles)) ∙ take_at d.alternates _ 16 sized.sixteen

  halts-back : four_bytes (image_of d) 24 ≡ d.halts
  unfolding image_of
  halts-back =
      ap (λ (l : List ℕ). four_bytes l 24) (append_assoc (front d ++ d.alternates) (bytes_of_four d.halts) (bytes_of_four d.toggles))
      ∙ four-at (front d ++ d.alternates) _ 24 front_length ∙ whole d.halts (bytes_of_four d.toggles) sized.halts-fit

  toggles-back : four_bytes (image_of d) 28 ≡ d.toggles
  unfolding image_of bytes_of_four
  toggles-back =
      let n : length (front d ++ d.alternates ++ bytes_of_four d.halts) ≡ 28 = rw (length-append (front d ++ d.alternates) (bytes_of_four d.halts), front_length) in
      four-at (front d ++ d.alternates ++ bytes_of_four d.halts) (bytes_of_four d.toggles) 28 n ∙ whole d.toggles [] sized.toggles-fit

  pub device-image : device_of (image_of d) ≡ d
  unfolding device_of image_of
  device-image = same-device d alternates-back halts-back toggles-back

pub image-length : (d : Device) → length d.alternates ≡ 16 → length (image_of d) ≡ 32
unfolding image_of bytes_of_four
image-length d sixteen =
    rw (length-append (d.alternates ++ bytes_of_four d.halts) (bytes_of_four d.toggles), length-append d.alternates (bytes_of_four d.halts), sixteen)

-- ---- from the image and back
pub alternates-length : (image : List ℕ) → length image ≡ 32 → length (part image 8 16) ≡ 16
alternates-length image long = rw (length-take, length-drop, long)

module _ (image : List ℕ) (long : length image ≡ 32) (bytes : (i : ℕ) → byte image i < 256) where
  four-back : (k : ℕ) → bytes_of_four (four_bytes image k) ≡ byte image k ∷ byte image (k + 1) ∷ byte image (k + 2) ∷ byte image (k + 3) ∷ []
  unfolding four_bytes
  four-back k = apart _ _ _ _ (bytes k) (bytes (k + 1)) (bytes (k + 2)) (bytes (k + 3))

  four_below : (k : ℕ) → four_bytes image k < 2 ^ 32
  unfolding four_bytes
  four_below k = omega (arith, bytes k, bytes (k + 1), bytes (k + 2), bytes (k + 3))

  words_back : bytes_of_four (four_bytes image 24) ++ bytes_of_four (four_bytes image 28) ≡ drop 24 image
  unfolding window
  words_back = sym (window-drop 8 24 image (omega arith) ∙ rw (drop_of_length-le image (le_of_eq long), four-back 24, four-back 28))

  from-alternates : part image 8 16 ++ bytes_of_four (four_bytes image 24) ++ bytes_of_four (four_bytes image 28) ≡ drop 8 image
  from-alternates = rw (append_assoc, words_back, ← drop-drop 16 8 image) (take-append-drop 16 (drop 8 image))

  pub image-device : image_of (device_of image) ≡ image
  unfolding device_of image_of window
  image-device = ap (λ (rest : List ℕ). window 8 0 image ++ rest) from-alternates ∙ sym (window-drop 8 0 image (omega arith))

  pub device-sized : Sized (device_of image)
  unfolding device_of
  device-sized = record { sixteen = alternates-length image long; halts-fit = four_below 24; toggles-fit = four_below 28 }
