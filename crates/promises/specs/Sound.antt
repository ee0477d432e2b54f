-- Every set of an accepted board is sound: interfaces and alternates below 16, every endpoint in a setting with an address of its own, values
-- from 1, and every body inside the set. No axiom.
use Rattle.std.specs.Prelude.{ℕ, ◌≡◌, true}
use Rattle.std.proofs.Common.{eqb-true}
use Rattle.sets.specs.Opening.{Board, BytesOf}
use Rattle.sets.specs.View.{opening_of, accepted}
use Rattle.sets.specs.Sound.{Sound}
use Rattle.sets.proofs.Acceptance
use Rattle.records.specs.Current.{set_for, board_for, view_for}
use Rattle.records.proofs.InUse.{row_for, opens_for, bytes_for}

pub sound : (b : Board) → BytesOf b → accepted b ≡ true → (speed : ℕ) → Sound (set_for b speed) (view_for b speed)
sound b bytes ok speed =
    let s = Acceptance.sound (row_for b.high speed) (board_for b speed) (bytes_for b speed bytes) (opens_for b speed (eqb-true (opening_of b) 0 ok)) in
    record { configurations = s.configurations; values = s.values; entries = s.entries }
