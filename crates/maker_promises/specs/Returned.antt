-- Document 02, L5, sentence by sentence: what is promised of dumps. A dump is any list of numbers; only where it is said must a set be bytes.
use Rattle.std.specs.Prelude.{ℕ, ◌+◌, ◌*◌, ◌≤◌, ◌≡◌, true, List, [], ◌∷◌, map, length, take, eqb, leb, ltb}
use Rattle.std.proofs.Common.{ap, ◌∙◌, le-ltb}
use Rattle.octets.specs.Sentences.{pick, every}
use Rattle.descriptors.specs.Limits.{full_speed}
use Rattle.sets.specs.Contents.{entries}
use Rattle.sets.specs.Contents as contents
use Rattle.sets.specs.Device.{device_body}
use Rattle.sets.specs.Strings.{references}
use Rattle.octets.specs.Octets.{Bytes}
use Rattle.sets.specs.Pieces.{Piece, pieces_in}
use Rattle.set_writer.specs.Writer.{laid, opens_as, Filled}
use Rattle.set_writer.proofs.Filling.{there}
use Rattle.set_writer.proofs.ReadBack.{read_back}
use Rattle.dumps.specs.Dump.{splits, device_in, configurations_in, zeroed_device, zeroed_configuration, device_piece, numbered, zeroed, imported, exported, exporting, importing}
use Rattle.dumps.specs.Export.{own}
use Rattle.dumps.specs.Import.{Accepted}
use Rattle.maker_laws.proofs.DumpHome as laws
use Rattle.maker_laws.proofs.DumpImports as imports
use Rattle.maker_laws.proofs.DumpSame as same
use Rattle.maker_laws.proofs.DumpTaken as takes

-- ---- "Import accepts exactly if the dump splits, the resulting set opens with an empty serial block and the buffer holds it."
-- (That it has at most 64 pieces and 16,384 bytes is no condition of its own: the opener asks both.)
pub accepted : (dump : List ℕ) (room : ℕ) → importing dump room ≡ 0 → Accepted dump room
accepted = imports.accepted

pub accepts : (dump : List ℕ) (room : ℕ) → Accepted dump room → importing dump room ≡ 0
accepts = imports.accepts

-- ---- "with string references set to zero": none is left in an imported set that opens
pub no_references : (dump : List ℕ) → opens_as full_speed (imported dump) [] ≡ true → every (λ r. eqb r 0) (references (imported dump)) ≡ true
no_references = imports.no-references

-- ---- "Export of an imported dump gives the dump back but for the zeroed references": `zeroed` says which bytes. For every dump, also one that is refused
pub again : (dump : List ℕ) → exported (imported dump) ≡ zeroed dump
again = imports.again

pub same_length : (dump : List ℕ) → splits dump ≡ true → length (zeroed dump) ≡ length dump
same_length = imports.same_length

-- export then answers 0, if its buffer is as long as the dump
pub exports : (dump : List ℕ) (room : ℕ) → Accepted dump room → (buffer : ℕ) → length dump ≤ buffer → exporting (imported dump) [] buffer ≡ 0
exports = imports.exports

-- the two calls one after the other, by what they leave: the second buffer begins with the dump, but for the zeroed references
pub round_trip : (dump out set buffer dumped : List ℕ) (n m : ℕ) → Filled (imported dump) out set (importing dump (length out)) n → n ≡ 0
    → Filled (exported (take (length (imported dump)) set)) buffer dumped (exporting (take (length (imported dump)) set) [] (length buffer)) m → m ≡ 0
    → take (length (zeroed dump)) dumped ≡ zeroed dump
round_trip dump out set buffer dumped n m v z w y = let i = there v z in let e = rw (i, again dump) at (there w y) in e

-- importing, exporting and importing again gives the same set
pub twice : (dump : List ℕ) → opens_as full_speed (imported dump) [] ≡ true → imported (zeroed dump) ≡ imported dump
twice = same.twice

-- "a set without strings, with string references set to zero": the pieces of another's device and configurations
abbrev pub zeroed_pieces : List ℕ → List Piece
zeroed_pieces set = device_piece (zeroed_device (device_body set)) ∷ numbered 0 (map zeroed_configuration (contents.bodies 2 set))

-- ---- "export a set's device and configuration bodies in that form": what is exported from a set that opens splits into these
module _ (set serial : List ℕ) (opens : opens_as full_speed set serial ≡ true) where
  pub exported_splits : splits (exported set) ≡ true
  exported_splits = laws.exported-splits set serial opens

  pub exported_device : device_in (exported set) ≡ device_body set
  exported_device = laws.exported-device set serial opens

  pub exported_configurations : configurations_in (exported set) ≡ contents.bodies 2 set
  exported_configurations = laws.exported-configurations set serial opens

  -- ---- the other way round: import makes of it the set of those pieces and of nothing else, which opens with an empty serial block; it takes every such dump,
  -- if the buffer holds the set
  pub imported_set : imported (exported set) ≡ laid (zeroed_pieces set)
  imported_set = takes.is_made set serial opens

  pub imported_pieces : pieces_in (imported (exported set)) ≡ zeroed_pieces set
  imported_pieces = ap pieces_in imported_set ∙ read_back (zeroed_pieces set)

  pub imported_size : length (imported (exported set)) ≡ 4 + 8 * (1 + length (contents.bodies 2 set)) + length (exported set)
  imported_size = takes.size set serial opens

  pub imported_opens : opens_as full_speed (imported (exported set)) [] ≡ true
  imported_opens = takes.opens set serial opens

  pub imported_number : (room : ℕ) → importing (exported set) room ≡ pick (ltb room (length (imported (exported set)))) 22 0
  imported_number = takes.answered set serial opens

  -- ---- of a set without references its device and configurations come back as they were (types, indices, languages, bodies), and a set without strings byte for byte
  module _ (none : every (λ r. eqb r 0) (references set) ≡ true) where
    pub home : pieces_in (imported (exported set)) ≡ own set
    home = laws.home set serial opens none

    pub taken : (room : ℕ) → length (laid (own set)) ≤ room → importing (exported set) room ≡ 0
    taken room h = imported_number room ∙ rw (laws.back set serial opens none, le-ltb room (length (laid (own set))) h)

    pub whole_set : Bytes set → every (λ e. leb e.kind 2) (entries set) ≡ true → imported (exported set) ≡ set
    whole_set bytes p = same.whole_set set serial opens bytes p none
