-- Trimming a set in its own buffer (document 02, L11).
use Rattle.std.specs.Prelude.{ℕ, ◌-◌, ◌≡◌, Bool, ◌&&◌, ◌||◌, not, List, map, ◌++◌, length, replicate, eqb, leb}
use Rattle.octets.specs.Sentences.{pick, any, only, member}
use Rattle.descriptors.specs.declared.limits.Limits.{Limits}
use Rattle.sets.specs.declared.Entry.{Entry}
use Rattle.sets.specs.Contents.{entries, is_kind}
use Rattle.sets.specs.Device.{device_body, iSerialNumber}
use Rattle.sets.specs.Strings.{references}
use Rattle.sets.specs.Opening.{lent, opening}
use Rattle.sets.specs.Pieces.{Piece, piece_for}
use Rattle.set_writer.specs.Writer.{laid}

-- ---- which entries stay: "drop string entries with indices that none of the five reference fields names"
-- iManufacturer, iProduct, iSerialNumber, an iConfiguration or an iInterface is this index
abbrev pub referenced : List ℕ → ℕ → Bool
referenced set j = member j (references set)

-- a string entry that a reference names
abbrev pub referenced_string : List ℕ → Entry → Bool
referenced_string set e = is_kind 3 e && leb 1 e.index && referenced set e.index

-- "String index 0 stays if another string entry does or iSerialNumber is nonzero"
abbrev pub zero_stays : List ℕ → Bool
zero_stays set = any (referenced_string set) (entries set) || leb 1 (iSerialNumber (device_body set))

abbrev pub kept : List ℕ → Entry → Bool
kept set e = not (is_kind 3 e) || pick (eqb e.index 0) (zero_stays set) (referenced set e.index)

-- the entries that stay, with their bodies
abbrev pub kept_pieces : List ℕ → List Piece
kept_pieces set = map (piece_for set) (only (kept set) (entries set))

-- "drop .., close the gaps, rewrite contents and total"
abbrev pub trimmed : List ℕ → List ℕ
trimmed set = laid (kept_pieces set)

-- "the freed bytes at the end become zero"
abbrev pub zero_filled : List ℕ → ℕ → List ℕ
zero_filled bytes size = bytes ++ replicate (size - length bytes) 0

-- "A refused set is left unchanged, under its opening number."
pub record Trims (limits : Limits) (set serial after : List ℕ) (answer : ℕ) : Type 0 where
  pub number : answer ≡ opening limits (lent set serial)
  pub bytes : after ≡ pick (eqb answer 0) (zero_filled (trimmed set) (length set)) set
