-- L11's sentences about the buffer and the requests. No axiom.
use Rattle.octets.proofs.Vocabulary.{◌≡◌, refl, sym, ap, ◌∙◌, ℕ, ◌-◌, ◌<◌, List, [], ◌∷◌, ◌++◌, map, Bool, true, false, Option, some, none, Option·map, length, take, drop, length-append, length-replicate, eqb, leb, arith, eq-eqb, eqb-true}
use Rattle.octets.specs.Octets.{byte, Bytes}
use Rattle.octets.specs.Sentences.{every, only, first}
use Rattle.octets.proofs.Sentences.{cases, both, conjunct}
use Rattle.descriptors.specs.declared.limits.Limits.{Limits}
use Rattle.descriptors.specs.Configuration.{configuration_of}
use Rattle.sets.specs.declared.Entry.{Entry}
use Rattle.sets.specs.Contents as sets
use Rattle.sets.specs.Contents.{entries, bodies, good_frame}
use Rattle.sets.specs.Device.{device_body, iSerialNumber}
use Rattle.sets.specs.Strings.{words, languages_in, languages}
use Rattle.sets.specs.Opening.{lent, opening}
use Rattle.sets.specs.Found.{is_at}
use Rattle.sets.proofs.Groups.{groups}
use Rattle.sets.proofs.Strings.{string-zero}
use Rattle.sets.specs.Pieces.{Piece, piece_for}
use Rattle.set_writer.specs.Writer.{laid_length, laid}
use Rattle.set_writer.proofs.Laid.{laid-length}
use Rattle.set_writer.proofs.Canonical.{canonical}
use Rattle.set_writer.proofs.Stream.{two_bytes}
use Rattle.trimming.specs.Trim.{zero_stays, kept, kept_pieces, trimmed, zero_filled, Trims}
use Rattle.trimming.specs.Asked.{body_in, body_under, left}
use Rattle.set_writer.proofs.InPieces.{same-bodies, same-device}
use Rattle.maker_laws.proofs.TrimAgain.{alike, same_bytes, there, unchanged}
use Rattle.maker_laws.proofs.TrimOpens.{opens-again}

-- ---- "That set is the buffer's first total bytes"
total-front : (ps : List Piece) (rest : List ℕ) → sets.total (laid ps ++ rest) ≡ laid_length ps
unfolding laid
total-front ps rest = two_bytes (laid_length ps)

module _ {limits : Limits} {set serial after : List ℕ} {n : ℕ} (t : Trims limits set serial after n) (z : n ≡ 0) where
  bytes : after ≡ zero_filled (trimmed set) (length set)
  bytes = t.bytes ∙ rw (eq-eqb n 0 z)

  pub total-is : sets.total after ≡ length (trimmed set)
  total-is = ap sets.total bytes ∙ total-front (kept_pieces set) _ ∙ sym (laid-length (kept_pieces set))

  -- "After a trim that freed something the whole buffer is refused with 1"
  pub whole-refused : length (trimmed set) < length set → opening limits (lent after serial) ≡ 1
  unfolding opening good_frame
  whole-refused h =
      let l : length after ≡ length set = ap length bytes ∙ length-append (trimmed set) _ ∙ (let r = length-replicate {A = ℕ} (length set - length (trimmed set)) 0 in omega (arith, r, h)) in
      let f : good_frame after ≡ false = cases (good_frame after)
      (λ q. absurd (let e = eqb-true (sets.total after) (length after) (conjunct 2 (leb 4 (length after) ∷ leb (length after) 16384 ∷ eqb (sets.total after) (length after) ∷ leb 1 (sets.count after) ∷ leb (sets.count after) 64 ∷ eqb (byte after 3) 0 ∷ leb (sets.bodies_at after) (sets.total after) ∷ []) q) in omega (arith, e, l, total-is, h)))
      (λ q. q) in
      rw f

-- ---- a set with nothing to drop stays
only-all : {A : Type 0} (f : A → Bool) (xs : List A) → every f xs ≡ true → only f xs ≡ xs
unfolding only every
only-all f [] p = refl
only-all f (x ∷ xs) p = let (a, q) = both (f x) (every f xs) p in rw (a, only-all f xs q)

pub nothing-to-drop : (limits : Limits) (set serial : List ℕ) → Bytes set → opening limits (lent set serial) ≡ 0 → every (kept set) (entries set) ≡ true → trimmed set ≡ set
nothing-to-drop limits set serial small p h =
    let g = groups limits (lent set serial) p in
    ap (λ (es : List Entry). laid (map (piece_for set) es)) (only-all (kept set) (entries set) h) ∙ canonical limits set small g.frame g.contents

-- ---- what requests read besides: the configurations, the serial number's index, and the languages
pub same-configured : (set : List ℕ) → map configuration_of (bodies 2 (trimmed set)) ≡ map configuration_of (bodies 2 set)
same-configured set = ap (map configuration_of) (same-bodies (alike set))

pub same-serial : (set : List ℕ) → iSerialNumber (device_body (trimmed set)) ≡ iSerialNumber (device_body set)
same-serial set = ap iSerialNumber (same-device (alike set))

abbrev languages_at : Option (List ℕ) → List ℕ
languages_at none = []
languages_at (some body) = words (drop 2 body)

languages-at : (set : List ℕ) (o : Option Entry) → languages_in (Option·map (piece_for set) o) ≡ languages_at (body_in set o)
languages-at set none = refl
languages-at set (some e) = refl

languages-under : (set : List ℕ) → languages set ≡ languages_at (body_under set 3 0 0)
unfolding languages
languages-under set = ap languages_in (string-zero set) ∙ languages-at set (first (is_at 3 0 0) (entries set))

pub same-languages : (set : List ℕ) → zero_stays set ≡ true → languages (trimmed set) ≡ languages set
same-languages set z = languages-under (trimmed set) ∙ ap languages_at (same_bytes 3 0 0 set z) ∙ sym (languages-under set)

-- ---- L11, of the buffer that trimming leaves: its first total bytes are the trimmed set, they open with the same serial block, and trimming them again changes nothing
module _ {limits : Limits} {set serial after : List ℕ} {n : ℕ} (t : Trims limits set serial after n) (z : n ≡ 0) where
  abbrev pub kept-part : List ℕ
  kept-part = take (sets.total after) after

  pub first-total : kept-part ≡ trimmed set
  first-total = ap (λ (k : ℕ). take k after) (total-is t z) ∙ there t z

  pub part-opens : Bytes set → opening limits (lent kept-part serial) ≡ 0
  part-opens small = ap (λ (s : List ℕ). opening limits (lent s serial)) first-total ∙ opens-again limits set serial small (sym t.number ∙ z)

  pub part-unchanged : {again : List ℕ} {m : ℕ} → Trims limits kept-part serial again m → again ≡ kept-part
  part-unchanged u = unchanged limits set serial (rw first-total at u) ∙ sym first-total

  pub part-same-bytes : (kind index language : ℕ) → left set kind index ≡ true → body_under kept-part kind index language ≡ body_under set kind index language
  part-same-bytes kind index language h = ap (λ (s : List ℕ). body_under s kind index language) first-total ∙ same_bytes kind index language set h
