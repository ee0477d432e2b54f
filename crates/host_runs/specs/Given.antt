-- What the host reads is what the maker gave: after whatever calls GET_DESCRIPTOR of each piece that was written gives its body; and what a host collects of a device is what hk_export
-- writes. Proved in proofs/Given.
use Rattle.std.specs.Prelude.{ℕ, ◌≤◌, ◌≡◌, false, take, eqb}
use mathlib.Core.List.{List, ◌∷◌, map, Memᴰ}
use Rattle.octets.specs.Octets.{Bytes}
use Rattle.octets.specs.Sentences.{pick, up_to}
use Rattle.descriptors.specs.Configuration.{wTotalLength}
use Rattle.descriptors.specs.Limits.{full_speed}
use Rattle.sets.specs.Device.{device_body, bNumConfigurations}
use Rattle.sets.specs.Pieces.{Piece}
use Rattle.sets.specs.Opening.{Board, BytesOf, lent, lent_two}
use Rattle.set_writer.specs.Writer.{pieces, set_of}
use Rattle.records.specs.Device.{in_test_mode, settled}
use Rattle.records.specs.Image.{device_of}
use Rattle.records.specs.Current.{set_for}
use Rattle.dumps.specs.Dump.{flat}
use Rattle.enumeration.specs.Script.{Line, line, reading, get_descriptor}
use Rattle.enumeration.specs.Bodies.{configuration_body}
use Rattle.board.specs.Exports.{Spots}
use Rattle.board.specs.Makers.{Writes, Dumps}
use Rattle.board.specs.Runs.{Call, event_of, Given, Meets}
use Rattle.host_runs.specs.Calls.{seen_given, Played, CalledSince}

-- any call of an export that asks for this descriptor sees these bytes
abbrev pub ReadFrom : Board → Spots → List ℕ → ℕ → ℕ → ℕ → ℕ → List ℕ → Type 0
ReadFrom b lie last kind index language asked bytes =
    (call : Call) (g : Given) (next : List ℕ) → event_of call ≡ get_descriptor kind index language asked → Meets b lie last call g next → seen_given g ≡ reading bytes

-- ---- hk_write gave 0 on these pieces, and hk_open on what it wrote (it does: `written_opens` of maker_calls): after any run of calls each piece is read, to any length
abbrev pub ReadsGiven : Type 0
ReadsGiven = (stream serial buffer left : List ℕ) (size : ℕ) → Writes full_speed stream serial buffer 0 left size
    → (lie : Spots) (last : List ℕ) → CalledSince (lent (take size left) serial) lie last
    → (p : Piece) → Memᴰ p (pieces stream) → (asked : ℕ) → asked ≤ 65535
    → ReadFrom (lent (take size left) serial) lie last p.kind p.index p.language asked (take asked p.body)

-- ---- the same of the two sets of a pair, each the set of its pieces by the writer's rules: at either speed the pieces of the set in use are read. (No export writes a set of a
-- pair; hk_two_open says whether the two go together.)
abbrev pub ReadsGivenTwo : Type 0
ReadsGivenTwo = (slow fast serial : List ℕ) → (let b = lent_two (set_of slow) (set_of fast) serial in
    BytesOf b → (lie : Spots) (last : List ℕ) → CalledSince b lie last → in_test_mode (device_of last) ≡ false
    → (p : Piece) → Memᴰ p (pieces (pick (eqb (device_of last).speed 0) slow fast)) → (asked : ℕ) → asked ≤ 65535
    → ReadFrom b lie last p.kind p.index p.language asked (take asked p.body))

-- ---- what a host collects: the device descriptor, and every configuration, whole
abbrev pub whole_line : List ℕ → ℕ → Line
whole_line set i = let body = configuration_body set i in line (get_descriptor 2 i 0 (wTotalLength body)) (reading body)

abbrev pub collecting : Board → ℕ → List Line
collecting b speed =
    let device = device_body (set_for b speed) in
    line (get_descriptor 1 0 0 18) (reading device) ∷ map (whole_line (set_for b speed)) (up_to (bNumConfigurations device))

-- after any run it collects them, and they are, one after the other, what hk_export writes of the set
pub record Collects (set serial : List ℕ) (lie : Spots) (last : List ℕ) : Type 0 where
  pub plays : Played (lent set serial) lie last (collecting (lent set serial) 0) (settled (device_of last))
  pub exports : (buffer left : List ℕ) (size : ℕ) → Dumps set serial buffer 0 left size → take size left ≡ flat (map (λ (l : Line). l.1.reads) (collecting (lent set serial) 0))

abbrev pub CollectsWhatIsExported : Type 0
CollectsWhatIsExported = (set serial : List ℕ) (lie : Spots) → Bytes set → (last : List ℕ) → CalledSince (lent set serial) lie last → Collects set serial lie last
