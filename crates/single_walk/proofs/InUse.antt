-- Two sets, one for each speed: of those that open the one in use opens. No axiom.
use Rattle.octets.proofs.Vocabulary.{◌≡◌, ℕ, List, Bool, true, false, some, eqb}
use Rattle.octets.specs.Octets.{Bytes}
use Rattle.octets.specs.Sentences.{pick}
use Rattle.sets.specs.Opening.{lent_two, opening}
use Rattle.sets.specs.Pair.{opening_two}
use Rattle.records.proofs.InUse.{row_for, opens_for}
use Rattle.steps.specs.Gathering.{Openable}

pub openable : (full high serial : List ℕ) (speed : ℕ) → opening_two full high serial ≡ 0 → Openable (pick (eqb speed 0) full high) serial
unfolding opening
openable full high serial speed z = (row_for (some high) speed, opens_for (lent_two full high serial) speed z)

pub either-bytes : (t : Bool) (x y : List ℕ) → Bytes x → Bytes y → Bytes (pick t x y)
either-bytes true x y p q = p
either-bytes false x y p q = q
