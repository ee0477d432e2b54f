-- `records::store` meets its contract: four parts are written, each after the one before it, and together they are all 32 bytes. No axiom.
use Rattle.octets.proofs.Vocabulary.{◌≡◌, refl, ◌∙◌, ℕ, List, [], ◌++◌, append-nil, length, drop, length-append, drop_of_length-le, drop-drop, le_of_eq, rules}
use borrow.Rule.Slice.PartMut.{put_mid}
use Rattle.records.specs.declared.Device.{Device}
use Rattle.records.specs.Image.{bytes_of_four, image_of}
use Rattle.records.proofs.Image.{front}
use Rattle.records.proofs.Putting.{put-after}
use Rattle.records.proofs.store.Goals as goal

all-put : (f a h t image : List ℕ) → length f ≡ 8 → length a ≡ 16 → length h ≡ 4 → length image ≡ 32
    → put_mid 28 4 (put_mid 24 4 (put_mid 8 16 (f ++ drop 8 image) a) h) t ≡ f ++ a ++ h ++ t
all-put f a h t image ef ea eh long =
    let n1 : length (f ++ a) ≡ 24 = rw (length-append f a, ef, ea) in
    let n2 : length (f ++ a ++ h) ≡ 28 = rw (length-append (f ++ a) h, n1, eh) in
    let past : drop 4 (drop 4 (drop 16 (drop 8 image))) ≡ [] = simp drop-drop (drop_of_length-le image (le_of_eq long)) in
    rw (put-after f (drop 8 image) a 8 16 ef, put-after (f ++ a) (drop 16 (drop 8 image)) h 24 4 n1, put-after (f ++ a ++ h) (drop 4 (drop 16 (drop 8 image))) t 28 4 n2, past, append-nil)

stored : (d : Device) {f a h t : List ℕ} (image : List ℕ) → length d.alternates ≡ 16 → length image ≡ 32
    → f ≡ front d → a ≡ d.alternates → h ≡ bytes_of_four d.halts → t ≡ bytes_of_four d.toggles
    → put_mid 28 4 (put_mid 24 4 (put_mid 8 16 (f ++ drop 8 image) a) h) t ≡ image_of d
unfolding image_of bytes_of_four
stored d image sixteen long p q r s = rw (p, q, r, s) (all-put (front d) d.alternates (bytes_of_four d.halts) (bytes_of_four d.toggles) image refl sixteen refl long)

pub returns-clause-written : goal.returns-clause-written
unfolding bytes_of_four
returns-clause-written c =
    let d = c.args.device in
    let image = c.args.image.now in
    let n : length d.alternates ≡ 16 = search rules in
    stored d image n c.requires
    c.copy_from_slice.ensures.after
    c.copy_from_slice-2.ensures.after
    (c.copy_from_slice-3.ensures.after ∙ c.to_le_bytes.ensures)
    (c.copy_from_slice-4.ensures.after ∙ c.to_le_bytes-2.ensures)
