-- What the exports for makers promise, whole: the number and all that is left, for everything that may be lent. The contracts of src/makers.rt cite these.
-- `octets`: what is lent is bytes, by its type in C
use Rattle.std.specs.Prelude.{ℕ, ◌≡◌, List, length, eqb}
use Rattle.octets.specs.Octets.{Bytes}
use Rattle.octets.specs.Sentences.{pick}
use Rattle.descriptors.specs.declared.limits.Limits.{Limits}
use Rattle.sets.specs.Opening.{Board, lent, opening}
use Rattle.sets.specs.Pair.{opening_two}
use Rattle.records.specs.Device.{fresh}
use Rattle.records.specs.Image.{image_of}
use Rattle.events.specs.Step.{Opened}
use Rattle.set_writer.specs.Writer.{set_of, writing, Filled}
use Rattle.dumps.specs.Dump.{imported, importing, exported, exporting}
use Rattle.trimming.specs.Trim.{trimmed, Trims}
use Rattle.rules.specs.Explained.{explained}
use Rattle.pair_rules.specs.Explained.{explained_two}

-- hk_super_open: its number, and the image left. Opening on an image, for a kind of set, as `opened` says it of full speed: "an image not 32 bytes gives 8
-- before group 1; else it becomes the fresh record, accepted or not"
abbrev pub opened_as : Limits → Board → List ℕ → Opened
opened_as limits b image =
    pick (eqb (length image) 32) (record { number = opening limits b; image = image_of fresh })
    (record { number = 8; image = image })

pub record OpensAs (limits : Limits) (b : Board) (image : List ℕ) (answer : ℕ) (left : List ℕ) : Type 0 where
  pub number : answer ≡ (opened_as limits b image).number
  pub leaves : left ≡ (opened_as limits b image).image

-- hk_write and hk_super_write: its number, the buffer left, and the set's length, 0 after a refusal
pub record Writes (limits : Limits) (pieces serial buffer : List ℕ) (answer : ℕ) (left : List ℕ) (written : ℕ) : Type 0 where
  pub fills : Filled (set_of pieces) buffer left (writing limits pieces serial (length buffer)) answer
  pub counts : written ≡ pick (eqb answer 0) (length (set_of pieces)) 0
  pub octets : Bytes pieces

-- hk_import: the same, of a dump
pub record Takes (dump buffer : List ℕ) (answer : ℕ) (left : List ℕ) (written : ℕ) : Type 0 where
  pub fills : Filled (imported dump) buffer left (importing dump (length buffer)) answer
  pub counts : written ≡ pick (eqb answer 0) (length (imported dump)) 0
  pub octets : Bytes dump

-- hk_export: the same, of a set with its serial block
pub record Dumps (set serial buffer : List ℕ) (answer : ℕ) (left : List ℕ) (written : ℕ) : Type 0 where
  pub fills : Filled (exported set) buffer left (exporting set serial (length buffer)) answer
  pub counts : written ≡ pick (eqb answer 0) (length (exported set)) 0
  pub octets : Bytes set

-- hk_trim: its number, what it leaves of the set's buffer, and the trimmed set's length, 0 after a refusal
pub record Shortens (limits : Limits) (set serial : List ℕ) (answer : ℕ) (left : List ℕ) (total : ℕ) : Type 0 where
  pub trims : Trims limits set serial left answer
  pub counts : total ≡ pick (eqb answer 0) (length (trimmed set)) 0
  pub octets : Bytes set

-- hk_explain and hk_super_explain: opening's number, the first rule that is broken, 0 where none is, and the byte where it is broken
pub record Tells (limits : Limits) (set serial : List ℕ) (answer rule place : ℕ) : Type 0 where
  pub number : answer ≡ opening limits (lent set serial)
  pub broken : rule ≡ (explained limits (lent set serial)).rule
  pub lies : place ≡ (explained limits (lent set serial)).place

-- hk_two_explain: the number of opening both, the first rule that is broken, 0 where none is, the block that it is about, and the byte there
pub record TellsTwo (full high serial : List ℕ) (answer block rule place : ℕ) : Type 0 where
  pub number : answer ≡ opening_two full high serial
  pub about : block ≡ (explained_two full high serial).block
  pub broken : rule ≡ (explained_two full high serial).rule
  pub lies : place ≡ (explained_two full high serial).place
