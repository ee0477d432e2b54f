-- The premises of the theorems hold of something: the bench set S, records that fit it, and events that change and refuse them.
use Rattle.std.specs.Prelude.{ℕ, zero, suc, ◌+◌, ◌^◌, ◌≡◌, refl, List, [], ◌∷◌, true, false, replicate, ltb}
use Rattle.std.proofs.Common.{arith, ltb-true}
use Rattle.octets.specs.Sentences.{every}
use Rattle.octets.proofs.Sentences.{both}
use Rattle.sets.specs.Opening.{Board, BytesOf, lent}
use Rattle.sets.specs.View.{view_of, accepted}
use Rattle.records.specs.declared.Device.{Device}
use Rattle.records.specs.Device.{nothing, zeros, fresh, with_waiting, with_endpoints, Sized}
use Rattle.records.specs.Fits.{fits_on}
use Rattle.events.specs.declared.Event.{Event}
use Rattle.events.specs.declared.Event.TheVariants.{StatusEnd, BusReset, Halt}
use Rattle.events.specs.Answer.{SetPart, SerialPart, Refused, number_of, bytes_of, part_of}
use Rattle.events.specs.Step.{step, event, opened, setup_event}
use Rattle.requests.specs.Table.{setup_of}
use Rattle.packets.specs.Packets.{can_cut}
use Rattle.promises.specs.Examples.{bytes, computed, S, T}
use Rattle.octets.specs.Octets.{Bytes}
use Rattle.sets.specs.Sound.{Sound}
use Rattle.promises.specs.Sound.{sound}
use Rattle.promises.specs.Keeps.{FitImage, Reached, after_opening, after_event, step_fits, opened_fits, reached_fits}
use Rattle.promises.specs.Refusals.{refusal_empty}
use Rattle.promises.specs.Replies.{reply_cuts}
use Rattle.promises.specs.Refusal.{empty_part}

-- ---- the bench set S, and the titrator T
pub accepted_s : accepted S ≡ true
unfolding computed
accepted_s = refl

-- a list whose numbers are all below 256 is a list of bytes
pub octets : (l : List ℕ) → every (λ x. ltb x 256) l ≡ true → Bytes l
unfolding every
octets [] p i = omega arith
octets (x ∷ l) p zero = ltb-true x 256 (both (ltb x 256) (every (λ x. ltb x 256) l) p).0
octets (x ∷ l) p (suc i) = octets l (both (ltb x 256) (every (λ x. ltb x 256) l) p).1 i

pub bytes_s : BytesOf S
unfolding computed
bytes_s = (octets S.set refl, tt)

pub sound_s : Sound S.set (view_of S)
unfolding view_of
sound_s = sound S bytes_s accepted_s 0

pub accepted_t : accepted T ≡ true
unfolding computed
accepted_t = refl

pub bytes_t : BytesOf T
unfolding computed
bytes_t = (octets T.set refl, tt)

-- ---- records: Default with address 5 waiting, Configured at address 5
abbrev pub waiting : Device
waiting = with_waiting 5 fresh

abbrev pub configured : Device
configured = record { state = 2; address = 5; waiting = nothing; configuration = 1; wakeup = 0; power = 0; suspended = 0; speed = 0; alternates = zeros; halts = 0; toggles = 0 }

pub waiting_fits : fits_on S waiting ≡ true
unfolding computed
waiting_fits = refl

pub configured_fits : fits_on S configured ≡ true
unfolding computed
configured_fits = refl

pub configured_sized : Sized configured
configured_sized = record { sixteen = refl; halts-fit = omega arith; toggles-fit = omega arith }

-- ---- step_fits: the function halts endpoint 81, and the record that is left, which is another one, fits
abbrev pub halted : Device
halted = with_endpoints zeros (2 ^ 17) 0 configured

pub halts_it : (step S configured (Halt 0x81)).device ≡ halted
unfolding computed
halts_it = refl

pub still_fits : fits_on S halted ≡ true
still_fits = rw halts_it at (step_fits S bytes_s accepted_s configured (Halt 0x81) configured_sized configured_fits).0

-- a record that does not fit is refused, so `fits` is no empty word: a halt where no endpoint stands
pub unfit : (fits_on S (with_endpoints zeros 2 0 configured) ≡ false) × (number_of (step S (with_endpoints zeros 2 0 configured) (BusReset 0)).answer ≡ 8)
unfolding computed
unfit = (refl, refl)

-- ---- step_keeps: 13 drops the waiting address, 16 keeps it, 7 and 8 keep the record
-- GET_DESCRIPTOR of type 6, which no set has
abbrev pub qualifier : Event
qualifier = setup_event (bytes 8 0x8006000600000A00)

pub drops13 : ((step S waiting qualifier).answer ≡ Refused 13) × ((step S waiting qualifier).device ≡ fresh)
unfolding computed
drops13 = (refl, refl)

pub keeps16 : ((step S waiting (Halt 0x81)).answer ≡ Refused 16) × ((step S waiting (Halt 0x81)).device ≡ waiting)
unfolding computed
keeps16 = (refl, refl)

pub keeps9 : ((step S waiting (setup_event [])).answer ≡ Refused 9) × ((step S waiting (setup_event [])).device ≡ waiting)
unfolding computed
keeps9 = (refl, refl)

pub keeps7 : ((step (lent [] []) waiting StatusEnd).answer ≡ Refused 7) × ((step (lent [] []) waiting StatusEnd).device ≡ waiting)
unfolding computed
keeps7 = (refl, refl)

pub empty_answer : (bytes_of (Refused 13) ≡ []) × (part_of (Refused 13) ≡ empty_part)
empty_answer = refusal_empty (Refused 13) (omega arith)

-- ---- event_keeps: the same on the image, 32 bytes
abbrev pub waiting_image : List ℕ
waiting_image = 0 ∷ 0 ∷ 5 ∷ replicate 29 0

pub image_drops13 : ((event S waiting_image qualifier).answer ≡ Refused 13) × ((event S waiting_image qualifier).image ≡ 0 ∷ 0 ∷ 255 ∷ replicate 29 0)
unfolding computed
image_drops13 = (refl, refl)

-- ---- a part that is not empty, inside the set: the device descriptor
pub device_part : (step S fresh (setup_event (bytes 8 0x8006000100004000))).answer ≡ SetPart 20 18
unfolding computed
device_part = refl

-- ---- never_eight: opening any 32 bytes, then SET_ADDRESS 5 and its status end
pub reached : Reached S (event S (event S (opened S (replicate 32 170)).image (setup_event (bytes 8 0x0005050000000000))).image StatusEnd).image
reached = after_event StatusEnd (after_event (setup_event (bytes 8 0x0005050000000000)) (after_opening (replicate 32 170) refl))

pub opened_image : FitImage S (opened S (replicate 32 170)).image
opened_image = opened_fits S bytes_s accepted_s (replicate 32 170) refl

pub reached_image : FitImage S (event S (event S (opened S (replicate 32 170)).image (setup_event (bytes 8 0x0005050000000000))).image StatusEnd).image
reached_image = reached_fits S bytes_s accepted_s reached

pub reached_address : (event S (event S (opened S (replicate 32 170)).image (setup_event (bytes 8 0x0005050000000000))).image StatusEnd).image ≡ 1 ∷ 5 ∷ 255 ∷ replicate 29 0
unfolding computed
reached_address = refl

-- ---- opening: a refused set leaves the fresh record too (S with its interface's bLength 0), and an image that is not 32 bytes stays
abbrev pub broken : Board
broken = lent (bytes 63 0x3F00020001000000140012000200000026001900120100_02FF0000083412785600010000000109021900010100803200040000_01FF0000000705810308000A) []

pub opens_broken : ((opened broken (replicate 32 170)).number ≡ 4) × ((opened broken (replicate 32 170)).image ≡ 0 ∷ 0 ∷ 255 ∷ replicate 29 0)
unfolding computed
opens_broken = (refl, refl)

pub opens_short : ((opened S (replicate 31 170)).number ≡ 8) × ((opened S (replicate 31 170)).image ≡ replicate 31 170)
unfolding computed
opens_short = (refl, refl)

-- ---- on T: both interfaces' bulk and interrupt endpoints halted in setting 1, toggles up; SET_INTERFACE to the same setting clears interface 0's bits alone,
-- and the record that is left, which is another one, fits
abbrev pub busy : Device
busy = with_endpoints (1 ∷ 1 ∷ replicate 14 0) (2 ^ 17 + 2 ^ 2 + 2 ^ 21) (2 ^ 17 + 2 ^ 21) configured

abbrev pub calmed : Device
calmed = with_endpoints (1 ∷ 1 ∷ replicate 14 0) (2 ^ 21) (2 ^ 21) configured

pub busy_fits : fits_on T busy ≡ true
unfolding computed
busy_fits = refl

pub sets_interface : (step T busy (setup_event (bytes 8 0x010B010000000000))).device ≡ calmed
unfolding computed
sets_interface = refl

pub calmed_fits : fits_on T calmed ≡ true
calmed_fits = rw sets_interface at (step_fits T bytes_t accepted_t busy (setup_event (bytes 8 0x010B010000000000)) (record { sixteen = refl; halts-fit = omega arith; toggles-fit = omega arith }) busy_fits).0

-- the serial number, string 3, is a part of the serial block
pub serial_part : (step T fresh (setup_event (bytes 8 0x800603030904FF00))).answer ≡ SerialPart 4
unfolding computed
serial_part = refl

-- ---- reply_cuts: what S answers to GET_DESCRIPTOR(device), asked with 64, can be cut into packets of its bMaxPacketSize0, 8
pub device_cuts : can_cut 18 64 8 ≡ true
unfolding computed
device_cuts = reply_cuts S fresh (setup_of (bytes 8 0x8006000100004000)) accepted_s
