-- Working definitions for the contracts of what writes into a lent buffer; no promise cites them.
use Rattle.std.specs.Prelude.{ℕ, ◌+◌, ◌≤◌, ◌≡◌, List, length}
use Rattle.std.proofs.lemmas.List.Edits.{sets}
use Rattle.buffers.specs.declared.Writer.{Writer}

-- a buffer has room for a text at the writer's place
abbrev pub Room : Writer → List ℕ → Type 0
Room w text = w.at + length text ≤ length w.out.now

-- a text was written at a writer's place: its buffer after it, every other byte as it was, and its place, where the text ends
pub record Wrote (was : Writer) (text : List ℕ) (is : Writer) : Type 0 where
  pub bytes : is.out.now ≡ sets was.out.now was.at text
  pub place : is.at ≡ was.at + length text
  pub same : is.out.ghost_name ≡ was.out.ghost_name
