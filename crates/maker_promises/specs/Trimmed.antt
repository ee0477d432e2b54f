-- Document 02, L11, sentence by sentence: what is promised of a trimmed set. A set is any list of numbers; only where it is said must one be bytes.
use Rattle.std.specs.Prelude.{ℕ, ◌-◌, ◌<◌, ◌≡◌, true, false, ◌&&◌, length, take, drop, replicate, leb}
use mathlib.Core.List.{List, Memᴰ, map}
use Rattle.std.proofs.Math.Option.{none}
use Rattle.octets.specs.Octets.{Bytes}
use Rattle.octets.specs.Sentences.{every, only}
use Rattle.descriptors.specs.declared.limits.Limits.{Limits}
use Rattle.descriptors.specs.Configuration.{configuration_of}
use Rattle.sets.specs.Contents.{entries, bodies, total}
use Rattle.sets.specs.Device.{device_body, iSerialNumber}
use Rattle.sets.specs.Strings.{languages}
use Rattle.sets.specs.Opening.{lent, opening}
use Rattle.sets.specs.View.{accepted}
use Rattle.records.specs.declared.Device.{Device}
use Rattle.records.specs.Fits.{fits_on}
use Rattle.events.specs.declared.Event.{Event}
use Rattle.events.specs.Step.{step, event}
use Rattle.sets.specs.Pieces.{Piece, pieces_in, kind_of}
use Rattle.trimming.specs.Trim.{referenced, zero_stays, kept, trimmed, Trims}
use Rattle.trimming.specs.Asked.{body_under, left}
use Rattle.maker_laws.specs.TrimRequests.{asks_dropped, SaysSame}
use Rattle.maker_laws.proofs.TrimAgain as again
use Rattle.maker_laws.proofs.TrimBuffer as buffer
use Rattle.maker_laws.proofs.TrimOpens as opens
use Rattle.maker_laws.proofs.TrimRequests as requests

-- ---- "drop string entries with indices that none of the five reference fields names": what stays is what `left` says, each with its body
module _ (set : List ℕ) where
  pub reads_back : pieces_in (trimmed set) ≡ only (λ p. left set p.kind p.index) (pieces_in set)
  reads_back = again.reads-back set

  pub stays : (p : Piece) → Memᴰ p (pieces_in set) → left set p.kind p.index ≡ true → Memᴰ p (pieces_in (trimmed set))
  stays = again.stays set

  -- nothing unnamed stays, but string 0 where it must
  pub nothing_else : (p : Piece) → Memᴰ p (pieces_in (trimmed set)) → Memᴰ p (pieces_in set) × (left set p.kind p.index ≡ true)
  nothing_else = again.was-there set

  -- no string that a reference names goes
  pub nothing_named_dropped : (p : Piece) → Memᴰ p (pieces_in set) → (kind_of 3 p && leb 1 p.index && referenced set p.index) ≡ true → Memᴰ p (pieces_in (trimmed set))
  nothing_named_dropped = again.nothing-named-dropped set

  -- what a request for a descriptor looks up: the same body, or none where the string was dropped
  pub same_body : (kind index language : ℕ) → left set kind index ≡ true → body_under (trimmed set) kind index language ≡ body_under set kind index language
  same_body kind index language = again.same_bytes kind index language set

  pub gone : (kind index language : ℕ) → left set kind index ≡ false → body_under (trimmed set) kind index language ≡ none
  gone kind index language = again.gone kind index language set

  -- what an event asks of a set besides: its configurations, the serial number's index, and the languages, where string 0 stays
  pub same_configured : map configuration_of (bodies 2 (trimmed set)) ≡ map configuration_of (bodies 2 set)
  same_configured = buffer.same-configured set

  pub same_serial : iSerialNumber (device_body (trimmed set)) ≡ iSerialNumber (device_body set)
  same_serial = buffer.same-serial set

  pub same_languages : zero_stays set ≡ true → languages (trimmed set) ≡ languages set
  same_languages = buffer.same-languages set

  -- "trimming those again changes nothing"
  pub trimmed_again : trimmed (trimmed set) ≡ trimmed set
  trimmed_again = again.trimmed-again set

-- ---- "The trimmed set opens with the same serial block"
pub opens_again : (limits : Limits) (set serial : List ℕ) → Bytes set → opening limits (lent set serial) ≡ 0 → opening limits (lent (trimmed set) serial) ≡ 0
opens_again = opens.opens-again

-- a set with nothing to drop stays byte for byte
pub nothing_to_drop : (limits : Limits) (set serial : List ℕ) → Bytes set → opening limits (lent set serial) ≡ 0 → every (kept set) (entries set) ≡ true → trimmed set ≡ set
nothing_to_drop = buffer.nothing-to-drop

pub unchanged : (limits : Limits) (set serial : List ℕ) {after : List ℕ} {n : ℕ} → Trims limits (trimmed set) serial after n → after ≡ trimmed set
unchanged = again.unchanged

-- ---- the buffer after the call, by its contract
module _ {limits : Limits} {set serial after : List ℕ} {n : ℕ} (t : Trims limits set serial after n) where
  -- "A refused set is left unchanged"
  pub untouched : (n ≡ 0 → ⊥) → after ≡ set
  untouched = again.untouched t

  module _ (z : n ≡ 0) where
    -- "That set is the buffer's first total bytes"
    pub there : take (length (trimmed set)) after ≡ trimmed set
    there = again.there t z

    pub total_is : total after ≡ length (trimmed set)
    total_is = buffer.total-is t z

    pub first_total : take (total after) after ≡ trimmed set
    first_total = buffer.first-total t z

    -- "the freed bytes at the end become zero"
    pub zeros_behind : drop (length (trimmed set)) after ≡ replicate (length set - length (trimmed set)) 0
    zeros_behind = again.zeros-behind t z

    -- if something was freed, the whole buffer is refused
    pub whole_refused : length (trimmed set) < length set → opening limits (lent after serial) ≡ 1
    whole_refused = buffer.whole-refused t z

    pub part_opens : Bytes set → opening limits (lent (take (total after) after) serial) ≡ 0
    part_opens = buffer.part-opens t z

    pub part_same_body : (kind index language : ℕ) → left set kind index ≡ true → body_under (take (total after) after) kind index language ≡ body_under set kind index language
    part_same_body = buffer.part-same-bytes t z

    pub part_unchanged : {also : List ℕ} {m : ℕ} → Trims limits (take (total after) after) serial also m → also ≡ take (total after) after
    part_unchanged = buffer.part-unchanged t z

-- ---- "every request other than for a dropped string gets the same bytes": every event, on every record; and a record fits after as before
module _ (set serial : List ℕ) where
  pub fits_again : (d : Device) → fits_on (lent set serial) d ≡ fits_on (lent (trimmed set) serial) d
  fits_again = requests.fits-again set serial

  module _ (bytes : Bytes set) (ok : accepted (lent set serial) ≡ true) where
    pub same_step : (d : Device) (e : Event) → asks_dropped set e ≡ false
        → SaysSame set (trimmed set) serial (step (lent set serial) d e).answer (step (lent (trimmed set) serial) d e).answer
        × ((step (lent set serial) d e).device ≡ (step (lent (trimmed set) serial) d e).device)
    same_step = requests.step-alike set serial bytes ok

    pub same_event : (image : List ℕ) (e : Event) → asks_dropped set e ≡ false
        → SaysSame set (trimmed set) serial (event (lent set serial) image e).answer (event (lent (trimmed set) serial) image e).answer
        × ((event (lent set serial) image e).image ≡ (event (lent (trimmed set) serial) image e).image)
    same_event = requests.event-alike set serial bytes ok
