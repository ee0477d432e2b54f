-- Theorems of board at work where an opening is computed already: hk_record_event beside the other way, and one driver that does not notice the other (L9); each export that takes an
-- event on a SuperSpeed set (L13).
use Rattle.octets.proofs.Vocabulary.{◌≡◌, refl, ℕ, List, [], ◌∷◌, ◌++◌, false}
use Rattle.sets.specs.Opening.{lent_two}
use Rattle.records.specs.declared.Device.{Device}
use Rattle.records.specs.Device.{fresh}
use Rattle.records.specs.Image.{device_of, image_of}
use Rattle.laws.specs.Parts.{Same, rest}
use Rattle.promises.specs.Examples.{computed, bytes, T}
use Rattle.promises.specs.Inhabited.{bytes_t, configured, configured_sized}
use Rattle.promises.specs.Kinds.{alone, as_high}
use Rattle.promises.specs.Pairs.{pair}
use Rattle.promises.specs.Refusal.{fresh_image}
use Rattle.promises.specs.Struck.{PageRun}
use Rattle.promises.specs.SuperSpeed.{S3}
use Rattle.board.specs.Exports.{Opens, Spot, numbered, AnswersSetup, AnswersRecordEvent, AnswersImage, AnswersPortEvent}
use Rattle.board.specs.Runs.{Call, Given, record_event, event_of, leaves}
use Rattle.board.specs.Order.{told}
use Rattle.board.specs.Unnoticed.{kept, kept_of, unnoticed_record}
use Rattle.board.specs.Records.{RecordRuns, as_images}
use Rattle.board.specs.Ways.{same_record}
use Rattle.board.specs.Kinds.{opens_s3, super_not_opens, super_setup, super_record, super_image, super_port}
use Rattle.board.specs.InhabitedRuns.{start, lie}
use Rattle.board.specs.InhabitedExports.{configuring, fresh_sized, opens_record}

-- ---- hk_record_event on a record that is lent: T opened and configured; without interface 0's packet at 81 interface 1's SET_INTERFACE 1 and halt at 85 are given the same
abbrev whole_run : List Call
whole_run = configuring ++ record_event 4 0x81 [] ∷ record_event 0 0 (bytes 8 0x010B010001000000) ∷ record_event 3 0x85 [] ∷ []

abbrev left_run : List Call
left_run = configuring ++ record_event 0 0 (bytes 8 0x010B010001000000) ∷ record_event 3 0x85 [] ∷ []

struck_out : kept T lie 1 (image_of fresh) whole_run ≡ left_run
unfolding computed
struck_out = refl

page : PageRun T 1 device_of event_of (leaves T lie) false (image_of fresh) whole_run
unfolding computed
page = (λ p. (refl, λ q. refl), (λ p. (refl, λ q. refl), (λ p. (refl, λ q. refl), (λ p. (refl, λ q. refl), (λ p. (refl, λ q. refl), (λ p. (refl, λ q. refl), tt))))))

pub unnoticed_record_t : {gs others : List Given} {last other : Device} (one : RecordRuns T lie fresh whole_run gs last) → RecordRuns T lie fresh left_run others other
    → (kept_of T lie 1 (as_images T lie bytes_t fresh_sized one).0 ≡ told left_run others) × (Same T 1 last other × (rest last ≡ rest other))
unnoticed_record_t {others = others} {other = other} one two =
    let left : RecordRuns T lie fresh (kept T lie 1 (image_of fresh) whole_run) others other = rw struck_out two in
    rw struck_out at (unnoticed_record T lie 1 bytes_t {start = start} refl opens_record fresh_sized one page left)

-- ---- both ways to tell T, Configured, that a packet passed at 81: the record's image is the image left, and all that is given is the same
pub same_record_t : {left : Device} {n m : ℕ} {other handed_back others : List ℕ} {count also : ℕ} {shown piece : List ℕ} {spot place : Spot}
    → AnswersRecordEvent T lie configured (numbered 4 0x81 []) n left handed_back count shown spot → AnswersImage T lie (image_of configured) (numbered 4 0x81 []) m other others also piece place
    → (image_of left ≡ other) × ((n ≡ m) × (handed_back ≡ others) × (count ≡ also) × (shown ≡ piece) × (spot ≡ place))
same_record_t p q = same_record configured_sized p q

-- ---- the bench set as a SuperSpeed device: hk_open does not accept it; each export that takes an event gives 7
pub not_opens_s3 : {after : List ℕ} → Opens S3 start 0 after → ⊥
not_opens_s3 = super_not_opens {image = start} refl opens_s3 alone refl

pub setup_s3 : {n : ℕ} {after handed_back : List ℕ} {count : ℕ} {shown : List ℕ} {spot : Spot}
    → AnswersSetup S3 lie fresh_image (bytes 8 0x8006000100004000) n after handed_back count shown spot → n ≡ 7
setup_s3 = super_setup {image = start} refl opens_s3 alone

pub record_s3 : {n : ℕ} {after : Device} {handed_back : List ℕ} {count : ℕ} {shown : List ℕ} {spot : Spot}
    → AnswersRecordEvent S3 lie fresh (numbered 2 0 []) n after handed_back count shown spot → (n ≡ 7) × (after ≡ fresh)
record_s3 = super_record {image = start} refl opens_s3 alone

-- lent as the high-speed set of two
pub image_s3 : {n : ℕ} {after handed_back : List ℕ} {count : ℕ} {shown : List ℕ} {spot : Spot}
    → AnswersImage (lent_two pair.set S3.set S3.serial) lie fresh_image (numbered 2 1 []) n after handed_back count shown spot → n ≡ 7
image_s3 = super_image {image = start} refl opens_s3 (as_high pair.set)

-- at port 1 of two, and at port 2, which is not there
pub port_s3 : {n : ℕ} {after : List Device} {handed_back : List ℕ} {count : ℕ} {shown : List ℕ} {spot : Spot}
    → AnswersPortEvent S3 lie (fresh ∷ fresh ∷ []) 1 (numbered 2 0 []) n after handed_back count shown spot → (n ≡ 7) × (after ≡ fresh ∷ fresh ∷ [])
port_s3 = super_port {image = start} refl opens_s3 alone

pub no_port_s3 : {n : ℕ} {after : List Device} {handed_back : List ℕ} {count : ℕ} {shown : List ℕ} {spot : Spot}
    → AnswersPortEvent S3 lie (fresh ∷ fresh ∷ []) 2 (numbered 2 0 []) n after handed_back count shown spot → (n ≡ 18) × (after ≡ fresh ∷ fresh ∷ [])
no_port_s3 = super_port {image = start} refl opens_s3 alone
