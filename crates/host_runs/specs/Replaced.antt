-- Non-interference by replacement: two runs from one opening that have the same calls but for those that arrive in Configured and concern another interface than k, whatever the other
-- drivers did instead: k's calls and the whole device's are given the same, and what k can tell of the record ends alike. Proved in proofs/Replaced.
use Rattle.std.specs.Prelude.{ℕ, ◌≡◌, List, false, length}
use Rattle.sets.specs.Opening.{Board, BytesOf}
use Rattle.records.specs.Image.{device_of}
use Rattle.promises.specs.Struck.{PageRun}
use Rattle.board.specs.Exports.{Opens, Spots}
use Rattle.board.specs.Runs.{Call, event_of, Given, Runs, leaves}
use Rattle.board.specs.Unnoticed.{kept, kept_of, Alike, QuietRun}

-- two runs from an opening that gave 0, each with this premise, that agree on the calls of k and of the whole device
abbrev pub ReplacedIf : (Board → Spots → ℕ → List ℕ → List Call → Type 0) → Type 0
ReplacedIf Premise =
    (b : Board) (lie : Spots) (k : ℕ) → BytesOf b → (start image : List ℕ) → length start ≡ 32 → Opens b start 0 image
    → (xs ys : List Call) (gs hs : List Given) (last other : List ℕ)
    → (one : Runs b lie image xs gs last) → Premise b lie k image xs
    → (two : Runs b lie image ys hs other) → Premise b lie k image ys
    → kept b lie k image xs ≡ kept b lie k image ys
    → (kept_of b lie k one ≡ kept_of b lie k two) × Alike b lie k last other

-- with L9's premises: "no struck setup may lie between a test mode request and the next status end", "no struck event arrived while suspended"
abbrev pub ReplacedByPage : Type 0
ReplacedByPage = ReplacedIf (λ b lie k image cs. PageRun b k device_of event_of (leaves b lie) false image cs)

-- with the weaker: no struck event while suspended, no struck setup while a test mode waits
abbrev pub Replaced : Type 0
Replaced = ReplacedIf QuietRun
