-- An image whose bytes are written one by one, or part by part. No axiom.
use Rattle.octets.proofs.Vocabulary.{◌≡◌, refl, sym, ◌∙◌, ℕ, ◌+◌, ◌-◌, ◌<◌, List, [], ◌∷◌, ◌++◌, append_assoc, append-nil, Bool, true, false, length, set, take, drop, replicate, length-append, length-take, length-set, drop_of_length-le, ltb, take_at, drop_at, arith, le_of_eq, lt-ltb}
use Rattle.std.proofs.lemmas.List.{set-append_left, set-append_right}
use Rattle.octets.specs.Sentences.{pick}
use borrow.Rule.Slice.PartMut.{put_mid}
use Rattle.records.specs.declared.Device.{Device}
use Rattle.records.specs.declared.Change.{Change}
use Rattle.records.specs.declared.Change.TheVariants.{Kept, Waiting, Wakeup, Power, Suspended, Address, Configuration, Setting, Endpoints, Passed, Fresh, TestMode}
use Rattle.records.specs.Device.{with_configuration, with_endpoints}
use Rattle.records.specs.Image.{bytes_of_four, image_of}
use Rattle.records.specs.Change.{with_setting, changed, after, waits_after, settled_with}
use Rattle.records.proofs.Image.{front}

-- a byte written in a list that is known
pub put_on : (k v : ℕ) {n : ℕ} {was from : List ℕ} → n ≡ v → was ≡ from → set was k n ≡ set from k v
put_on k v e p = rw (e, p)

-- a part written behind what comes before it
pub put-after : (p q m : List ℕ) (n k : ℕ) → length p ≡ n → put_mid n k (p ++ q) m ≡ p ++ m ++ drop k q
put-after p q m n k e = rw (take_at p q n e, drop_at p q n e) (sym (append_assoc p m (drop k q)))

-- settling keeps the alternate settings
pub settled-sixteen : (settles : Bool) (waits : ℕ) (d : Device) → length d.alternates ≡ 16 → length (settled_with settles waits d).alternates ≡ 16
settled-sixteen true waits d e = e
settled-sixteen false waits d e = e

-- the address that is to wait is written at once
pub settles-once : (settles : Bool) (c : Change) (d : Device) → changed c (settled_with settles (waits_after c) d) ≡ after settles c d
settles-once false c d = refl
settles-once true Kept d = refl
settles-once true (Waiting address) d = refl
settles-once true (Wakeup on) d = refl
settles-once true (Power source) d = refl
settles-once true (Suspended on) d = refl
settles-once true (Address state address) d = refl
settles-once true (Configuration state value) d = refl
settles-once true (Setting j alternate halts toggles) d = refl
settles-once true (Endpoints halts toggles) d = refl
settles-once true (Passed toggles) d = refl
settles-once true (Fresh power speed) d = refl
settles-once true (TestMode speed) d = refl

pub setting-sixteen : (j alternate : ℕ) (l : List ℕ) → length l ≡ 16 → length (with_setting j alternate l) ≡ 16
setting-sixteen j alternate l e = go (ltb j 16)
  where
    go : (b : Bool) → length (pick b (set l j alternate) l) ≡ 16
    go true = length-set l j alternate ∙ e
    go false = e

-- ---- the parts of an image
module _ (d : Device) where
  -- what lies behind the eight bytes
  abbrev behind : List ℕ
  behind = d.alternates ++ bytes_of_four d.halts ++ bytes_of_four d.toggles

  pub cleared : length (image_of d) ≡ 32 → (state value : ℕ) {image zeros : List ℕ} → image ≡ set (set (image_of d) 0 state) 3 value → zeros ≡ replicate (length (take 24 (drop 8 image))) 0
      → put_mid 8 24 image zeros ≡ image_of (with_configuration state value d)
  unfolding image_of bytes_of_four
  cleared long state value p q =
      let f = state ∷ d.address ∷ d.waiting ∷ value ∷ d.wakeup ∷ d.power ∷ d.suspended ∷ d.speed ∷ [] in
      let n : length behind ≡ 24 = omega (arith, long) in
      let m : length (take 24 behind) ≡ 24 = rw (length-take, n) in
      let past : drop 24 behind ≡ [] = drop_of_length-le behind (le_of_eq n) in
      rw (q, p, m) (put-after f behind (replicate 24 0) 8 24 refl ∙ rw past)

  module _ (sixteen : length d.alternates ≡ 16) where
    words-at : length (front d ++ d.alternates) ≡ 24
    words-at = rw (length-append (front d) d.alternates, sixteen)

    pub setting-put : (j alternate : ℕ) → j < 16 → set (image_of d) (8 + j) alternate ≡ image_of (with_endpoints (with_setting j alternate d.alternates) d.halts d.toggles d)
    unfolding image_of
    setting-put j alternate h =
        let a = d.alternates in
        let b = bytes_of_four d.halts in
        let n : length (front d ++ a ++ b) ≡ length (front d ++ a) + length b = length-append (front d ++ a) b in
        let l : 8 + j < length (front d ++ a) = omega (arith, words-at, h) in
        let m : 8 + j < length (front d ++ a ++ b) = omega (arith, n, l) in
        let z : 8 + j - 8 ≡ j = omega arith in
        let s : set (front d ++ a) (8 + j) alternate ≡ front d ++ set a j alternate = set-append_right (front d) a 8 (8 + j) alternate refl (omega arith) ∙ rw z in
        rw (set-append_left (front d ++ a ++ b) (bytes_of_four d.toggles) (8 + j) alternate m, set-append_left (front d ++ a) b (8 + j) alternate l, s, lt-ltb j 16 h)

    pub toggles-put : (toggles : ℕ) {image part : List ℕ} → image ≡ image_of d → part ≡ bytes_of_four toggles → put_mid 28 4 image part ≡ image_of (with_endpoints d.alternates d.halts toggles d)
    unfolding image_of bytes_of_four
    toggles-put toggles p q =
        let n : length (front d ++ d.alternates ++ bytes_of_four d.halts) ≡ 28 = rw (length-append (front d ++ d.alternates) (bytes_of_four d.halts), words-at) in
        rw (p, q) (put-after (front d ++ d.alternates ++ bytes_of_four d.halts) (bytes_of_four d.toggles) (bytes_of_four toggles) 28 4 n ∙ append-nil _)

    pub halts-put : (halts : ℕ) {image part : List ℕ} → image ≡ image_of d → part ≡ bytes_of_four halts → put_mid 24 4 image part ≡ image_of (with_endpoints d.alternates halts d.toggles d)
    unfolding image_of bytes_of_four
    halts-put halts p q =
        rw (p ∙ append_assoc (front d ++ d.alternates) (bytes_of_four d.halts) (bytes_of_four d.toggles), q) (put-after (front d ++ d.alternates) (bytes_of_four d.halts ++ bytes_of_four d.toggles) (bytes_of_four halts) 24 4 words-at)
