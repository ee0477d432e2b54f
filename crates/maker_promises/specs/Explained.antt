-- Document 02, U3, sentence by sentence: what is promised of the rule that a maker is told. A board is any, and a row of limits too.
use Rattle.std.specs.Prelude.{ℕ, ◌/◌, ◌<◌, ◌≡◌, Bool, true, List, length}
use Rattle.std.proofs.Math.Option.{some}
use Rattle.octets.specs.Sentences.{every, first}
use Rattle.descriptors.specs.declared.limits.Limits.{Limits}
use Rattle.descriptors.specs.Limits.{full_speed, paired_full, high_speed, super_speed}
use Rattle.descriptors.specs.Configuration.{good_configuration}
use Rattle.sets.specs.Contents.{bodies, good_frame, good_contents}
use Rattle.sets.specs.Device.{device_body, iSerialNumber}
use Rattle.sets.specs.Pieces.{pieces_in}
use Rattle.sets.specs.Strings.{good_strings}
use Rattle.sets.specs.Opening.{Board, opening, good_devices, good_configurations, good_block}
use Rattle.sets.specs.Pair.{agrees, opening_two}
use Rattle.rules.specs.Findings.{Finding}
use Rattle.rules.specs.Frame.{frame_findings, contents_findings}
use Rattle.rules.specs.Device.{device_findings, serial_findings}
use Rattle.rules.specs.Configurations.{configurations_findings}
use Rattle.rules.specs.Strings.{strings_findings}
use Rattle.rules.specs.Explained.{is_broken, inside, explained}
use Rattle.rules.proofs.Told.{told-number}
use Rattle.pair_rules.specs.Pair.{pair_findings}
use Rattle.pair_rules.specs.Explained.{Placed, is_broken_there, explained_two}
use Rattle.pair_rules.proofs.First.{told-number as told-number-two}
use Rattle.maker_laws.specs.RuleNamed.{NamesFirst, holds_here, holds_there}
use Rattle.maker_laws.proofs.RuleFirst as firstly
use Rattle.rules.proofs.RuleFrames as frames
use Rattle.rules.proofs.RuleBodies as bodywise
use Rattle.rules.proofs.RuleTexts as texts
use Rattle.rules.proofs.RuleBelongs as belonging
use Rattle.pair_rules.proofs.RulePair as paired

-- ---- "the opening number"
pub told_number : (limits : Limits) (b : Board) → (explained limits b).number ≡ opening limits b
told_number = told-number

-- ---- "Which rule comes first where several are broken is said by one definition": the named one is broken, and each before it in the one list holds
pub names_first : (xs : List Finding) {x : Finding} → first is_broken xs ≡ some x → NamesFirst holds_here xs x
names_first = firstly.names-first holds_here

-- the byte that is told is one of what was lent
pub place_inside : (bytes : List ℕ) (place : ℕ) → 0 < length bytes → inside bytes place < length bytes
place_inside = firstly.place_inside

-- ---- the rules of a group hold exactly where the opener's definition of the group does
abbrev pub all_hold : List Finding → Bool
all_hold xs = every (λ x. x.holds) xs

pub frame_same : (set : List ℕ) → all_hold (frame_findings set) ≡ good_frame set
frame_same = frames.frame_same

pub contents_same : (limits : Limits) (set : List ℕ) → all_hold (contents_findings limits set) ≡ good_contents limits set
contents_same = frames.contents-same

pub devices_same : (limits : Limits) (set : List ℕ) → all_hold (device_findings limits set) ≡ good_devices limits (pieces_in set)
devices_same = frames.devices-same

pub configurations_same : (limits : Limits) (set : List ℕ) → all_hold (configurations_findings limits set) ≡ good_configurations limits (pieces_in set)
configurations_same = bodywise.configurations-same

pub strings_same : (limits : Limits) (set : List ℕ) → every (good_configuration limits) (bodies 2 set) ≡ true → all_hold (strings_findings set) ≡ good_strings (pieces_in set)
strings_same = texts.strings-same

pub block_same : (set serial : List ℕ) → all_hold (serial_findings (iSerialNumber (device_body set)) serial) ≡ good_block (pieces_in set) serial
block_same = frames.block_same

-- ---- the named rule is of the group that opening names, and an accepted set gives rule 0, for every row of limits
module _ (limits : Limits) (b : Board) where
  pub belongs : (explained limits b).rule / 100 ≡ opening limits b
  belongs = belonging.belongs limits b

  pub accepted_none : opening limits b ≡ 0 → (explained limits b).rule ≡ 0
  accepted_none = belonging.accepted-none limits b

-- document 01's kind, the two kinds of a pair, and SuperSpeed's
module _ (b : Board) where
  pub belongs_here : (explained full_speed b).rule / 100 ≡ opening full_speed b
  belongs_here = belongs full_speed b

  pub accepted_here : opening full_speed b ≡ 0 → (explained full_speed b).rule ≡ 0
  accepted_here = accepted_none full_speed b

  pub belongs_paired : (explained paired_full b).rule / 100 ≡ opening paired_full b
  belongs_paired = belongs paired_full b

  pub belongs_high : (explained high_speed b).rule / 100 ≡ opening high_speed b
  belongs_high = belongs high_speed b

  pub belongs_super : (explained super_speed b).rule / 100 ≡ opening super_speed b
  belongs_super = belongs super_speed b

-- ---- two sets lent together: what the one says of the other, rule by rule, and the number of opening both
pub pair_same : (set other : List ℕ) → all_hold (pair_findings set other) ≡ agrees set other
pair_same = paired.pair_same

pub names_first_two : (xs : List Placed) {x : Placed} → first is_broken_there xs ≡ some x → NamesFirst holds_there xs x
names_first_two = firstly.names-first holds_there

module _ (full high serial : List ℕ) where
  pub told_number_two : (explained_two full high serial).number ≡ opening_two full high serial
  told_number_two = told-number-two full high serial

  pub belongs_two : (explained_two full high serial).rule / 100 ≡ opening_two full high serial
  belongs_two = paired.belongs-two full high serial
