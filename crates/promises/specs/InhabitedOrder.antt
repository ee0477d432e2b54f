-- Demand 3 at work: the titrator T, a Configured record, and two orders of a run with refused, class, vendor and function events.
use Rattle.std.specs.Prelude.{ℕ, zero, suc, ◌+◌, ◌^◌, ◌<◌, ◌≤◌, ◌≡◌, refl, true, false, List, [], ◌∷◌, ◌++◌, set, replicate, ltb}
use Rattle.std.proofs.Common.{arith, sym, ◌∙◌, ltb-true, ne_eqb}
use Rattle.std.proofs.Math.Option.{Option, some, none}
use Rattle.std.proofs.Math.ListN.{get_elem?}
use Rattle.octets.specs.Sentences.{every, only}
use Rattle.octets.proofs.Sentences.{both}
use Rattle.sets.specs.Opening.{Board}
use Rattle.records.specs.declared.Device.{Device}
use Rattle.records.specs.Device.{zeros, with_endpoints}
use Rattle.records.specs.Fits.{fits_on}
use Rattle.records.specs.Image.{device_of}
use Rattle.events.specs.Answer.{Answer, Done, TwoBytes, Refused}
use Rattle.events.specs.declared.Event.{Event}
use Rattle.events.specs.declared.Event.TheVariants.{Halt, PacketPassed, StatusEnd}
use Rattle.events.specs.Concerns.{concerns_on}
use Rattle.events.specs.Step.{setup_event}
use Rattle.order.specs.Run.{log}
use Rattle.order.specs.Places.{Permuted}
use Rattle.order.specs.Strike.{strike, left, FairRun}
use Rattle.order.specs.Owners.{Owners}
use Rattle.promises.specs.Examples.{bytes, computed, T}
use Rattle.octets.specs.Octets.{Bytes}
use Rattle.promises.specs.Inhabited.{octets, accepted_t, bytes_t, configured, configured_sized}
use Rattle.promises.specs.Keeps.{FitImage, fit_image}
use Rattle.laws.specs.Parts.{Good, or_nobody, Same, rest, owned, who, kind, settle}
use Rattle.promises.specs.Rearranged.{is_this, events_of, Rearranged, answer_of, answer_at, next_of, after, answered, heard, Values, image_after, image_answered, image_heard}
use Rattle.promises.specs.Order.{places, placed, step_locality, order, order_places, order_images, order_images_places, concerns_throughout, struck_for, Quiet, unnoticed}

pub configured_fits_t : fits_on T configured ≡ true
unfolding computed
configured_fits_t = refl

-- ---- the events
-- of interface 0: a class request, a packet at 81, SET_FEATURE(ENDPOINT_HALT) there, and a packet that the halt refuses
abbrev idle_rate : Event
idle_rate = setup_event (bytes 8 0x210A000000000000)

abbrev halt_in : Event
halt_in = setup_event (bytes 8 0x0203000081000000)

-- of interface 1: a halt at 85, which its setting 0 does not have; SET_INTERFACE to its setting 1; the halt again; a vendor request to 85;
-- and GET_STATUS there
abbrev setting_one : Event
setting_one = setup_event (bytes 8 0x010B010001000000)

abbrev vendor : Event
vendor = setup_event (bytes 8 0xC201000085000100)

abbrev status : Event
status = setup_event (bytes 8 0x8200000085000200)

abbrev pub one_order : List Event
one_order =
    Halt 0x85 ∷ idle_rate ∷ setting_one ∷ PacketPassed 0x81 ∷ Halt 0x85 ∷ halt_in ∷ vendor ∷ PacketPassed 0x81 ∷ status ∷ []

abbrev pub other_order : List Event
other_order =
    idle_rate ∷ PacketPassed 0x81 ∷ halt_in ∷ Halt 0x85 ∷ setting_one ∷ Halt 0x85 ∷ PacketPassed 0x81 ∷ vendor ∷ status ∷ []

-- what they are answered, in one order
pub one_answered : answered T configured one_order ≡
    Refused 16 ∷ Refused 10 ∷ Done ∷ Done ∷ Done ∷ Done ∷ Refused 10 ∷ Refused 16 ∷ TwoBytes 1 0 ∷ []
unfolding computed
one_answered = refl

-- ---- each interface has the same events in the same order
-- no event concerns an interface from n on, so no interface from n on has any
past : (b : Board) (d : Device) (n k : ℕ) → n ≤ k → (xs : List Event) → every (λ e. ltb (who b d e) n) xs ≡ true → events_of b d k xs ≡ []
unfolding every only
past b d n k l [] p = refl
past b d n k l (e ∷ xs) p =
    let (q, r) = both (ltb (who b d e) n) (every (λ e. ltb (who b d e) n) xs) p in
    rw (not-this (concerns_on b d e) (ltb-true (who b d e) n q)) (past b d n k l xs r)
  where
    not-this : (o : Option ℕ) → or_nobody o < n → is_this k o ≡ false
    not-this none m = refl
    not-this (some j) m = ne_eqb j k (λ p. omega arith)

same : (k : ℕ) → events_of T configured k one_order ≡ events_of T configured k other_order
unfolding computed
same zero = refl
same (suc zero) = refl
same (suc (suc k)) = past_one one_order refl ∙ sym (past_one other_order refl)
  where
    past_one : (xs : List Event) → every (λ e. ltb (who T configured e) 2) xs ≡ true
        → events_of T configured (suc (suc k)) xs ≡ []
    past_one = past T configured 2 (suc (suc k)) (omega arith)

pub rearranged : Rearranged T configured one_order other_order
unfolding computed
rearranged = record { one = refl; other = refl; same = same }

-- ---- the theorems
pub titrator_locality : Owners (answer_of T) (next_of T) (Good T)
    (owned T) (who T) (Same T) rest kind settle
titrator_locality = step_locality T bytes_t accepted_t

pub same_end : after T configured one_order ≡ after T configured other_order
same_end = (order T bytes_t accepted_t configured configured_sized configured_fits_t one_order other_order rearranged).0

pub same_answers : (k : ℕ) → heard T configured k one_order ≡ heard T configured k other_order
same_answers = (order T bytes_t accepted_t configured configured_sized configured_fits_t one_order other_order rearranged).1

-- what they are: interface 1's setting is 1, 81 and 85 are halted, and 81's toggle is flipped
pub the_end : after T configured one_order ≡ with_endpoints (set zeros 1 1) (2 ^ 17 + 2 ^ 21) (2 ^ 17) configured
unfolding computed
the_end = refl

pub heard_by_one : heard T configured 1 other_order
    ≡ (Halt 0x85, Refused 16) ∷ (setting_one, Done) ∷ (Halt 0x85, Done) ∷ (vendor, Refused 10) ∷ (status, TwoBytes 1 0) ∷ []
unfolding computed
heard_by_one = refl

-- two events of one interface may not change places: its halt at 85 is refused before its setting 1 and done after it
pub order_counts : (answered T configured (Halt 0x85 ∷ setting_one ∷ []) ≡ Refused 16 ∷ Done ∷ [])
    × (answered T configured (setting_one ∷ Halt 0x85 ∷ []) ≡ Done ∷ Done ∷ [])
unfolding computed
order_counts = (refl, refl)

-- place by place
abbrev moved : Permuted (who T configured) one_order other_order
moved = places T configured one_order other_order rearranged

pub same_place : (i : ℕ) (a : Answer) → get_elem? (answered T configured one_order) i ≡ some a
    → get_elem? (answered T configured other_order) (moved.to i) ≡ some a
same_place = (order_places T bytes_t accepted_t configured configured_sized configured_fits_t one_order other_order rearranged.one moved).1

pub back_again : Rearranged T configured one_order other_order
back_again = placed T configured one_order other_order rearranged.one moved

pub concerns_still : (f : Event) → concerns_on T (after T configured one_order) f ≡ concerns_on T configured f
concerns_still = concerns_throughout T bytes_t accepted_t configured one_order (configured_sized, configured_fits_t) rearranged.one

-- on the image, 32 bytes
abbrev pub configured_image : List ℕ
configured_image = 2 ∷ 5 ∷ 255 ∷ 1 ∷ replicate 28 0

pub image_bytes : Bytes configured_image
unfolding computed
image_bytes = octets configured_image refl

pub image_fits : fits_on T (device_of configured_image) ≡ true
unfolding computed
image_fits = refl

-- 32 bytes, of a record that fits
pub configured_fit : FitImage T configured_image
configured_fit = fit_image T configured_image refl image_bytes image_fits

pub image_rearranged : Rearranged T (device_of configured_image) one_order other_order
unfolding computed
image_rearranged = rearranged

pub same_image : image_after T configured_image one_order ≡ image_after T configured_image other_order
same_image = (order_images T bytes_t accepted_t configured_image configured_fit one_order other_order image_rearranged).0

pub same_values : (k : ℕ) → image_heard T configured_image k one_order ≡ image_heard T configured_image k other_order
same_values = (order_images T bytes_t accepted_t configured_image configured_fit one_order other_order image_rearranged).1

abbrev image_moved : Permuted (who T (device_of configured_image)) one_order other_order
image_moved = places T (device_of configured_image) one_order other_order image_rearranged

pub same_values_place : (i : ℕ) (a : Values) → get_elem? (image_answered T configured_image one_order) i ≡ some a
    → get_elem? (image_answered T configured_image other_order) (image_moved.to i) ≡ some a
same_values_place =
    (order_images_places T bytes_t accepted_t configured_image configured_fit one_order other_order image_rearranged.one image_moved).1

pub the_image : image_after T configured_image other_order
    ≡ 2 ∷ 5 ∷ 255 ∷ 1 ∷ 0 ∷ 0 ∷ 0 ∷ 0 ∷ 0 ∷ 1 ∷ replicate 14 0 ++ 0 ∷ 0 ∷ 34 ∷ 0 ∷ 0 ∷ 0 ∷ 2 ∷ 0 ∷ []
unfolding computed
the_image = refl

-- ---- one driver does not notice the other: without interface 0's events, interface 1 hears the same
abbrev whole : List Event
whole = Halt 0x85 ∷ halt_in ∷ StatusEnd ∷ PacketPassed 0x81 ∷ setting_one ∷ []

pub struck : strike (next_of T) (struck_for T 1) configured whole ≡ Halt 0x85 ∷ StatusEnd ∷ setting_one ∷ []
unfolding computed
struck = refl

quiet_throughout : FairRun (next_of T) (struck_for T 1) Quiet configured whole
unfolding computed
quiet_throughout = (λ p. (refl, λ q. refl), (λ p. (refl, λ q. refl), (λ p. (refl, λ q. refl), (λ p. (refl, λ q. refl), (λ p. (refl, λ q. refl), tt)))))

pub unnoticed_by_one : left (answer_at T) (next_of T) (struck_for T 1) configured whole
    ≡ log (answer_at T) (next_of T) configured (strike (next_of T) (struck_for T 1) configured whole)
unnoticed_by_one = (unnoticed T bytes_t accepted_t configured configured_sized configured_fits_t 1 whole quiet_throughout).0
