-- The words of demand 1: what a refusal may leave and hand back, and which numbers there are.
use Rattle.std.specs.Prelude.{ℕ, List, ◌∷◌, Bool, false, ◌&&◌, ◌||◌, length, replicate, eqb, leb}
use Rattle.octets.specs.Sentences.{pick, is_some}
use Rattle.sets.specs.Opening.{Board}
use Rattle.sets.specs.View.{accepted}
use Rattle.records.specs.declared.Device.{Device}
use Rattle.records.specs.Device.{in_test_mode, settled}
use Rattle.records.specs.Image.{device_of, settled_image}
use Rattle.records.specs.Fits.{fits_on}
use Rattle.laws.specs.Parts.{drops}
use Rattle.events.specs.declared.Event.{Event}
use Rattle.events.specs.declared.Event.TheVariants.{Request, Malformed, StatusEnd, BusReset, Halt, PacketPassed, Power, Suspend, Resume, Wake}
use Rattle.events.specs.Answer.{of_first, Part}

-- "10 .. drops a waiting address only", 11 to 14 "as 10", and 17 once a test mode is entered (L7): the refusals of a setup that has settled
abbrev pub after_settling : ℕ → Bool
after_settling n = (leb 10 n && leb n 14) || eqb n 17

-- the record that a refusal numbered n leaves: as it was, but that 10 to 14 drop an address or a test mode still waiting (L7; with 17 nothing
-- waits); "Setups refused with 10 to 14 now also clear byte 6, and so does 17" (L12)
abbrev pub left_by : ℕ → Device → Device
left_by n d = pick (after_settling n) (settled d) d

-- an event's own refusals: "for a setup 9 to 14, for a function event 16"; "a power event with a value above 1 gets 16" (L2); "a reset to a speed
-- above 1, or to 1 with one set lent, gets 16" (L7); "19 wake not allowed" (L12); the others have none
abbrev pub refuses : Event → ℕ → Bool
refuses (Request s) n = leb 10 n && leb n 14
refuses Malformed n = eqb n 9
refuses StatusEnd n = false
refuses (BusReset speed) n = eqb n 16
refuses (Halt a) n = eqb n 16
refuses (PacketPassed a) n = eqb n 16
refuses (Power source) n = eqb n 16
refuses Suspend n = false
refuses Resume n = false
refuses Wake n = eqb n 19

-- on a record that fits: in a test mode a setup gets 17, and 17 is given nowhere else
abbrev pub allows_fit : Device → Event → ℕ → Bool
allows_fit d e n = pick (in_test_mode d && drops e) (eqb n 17) (eqb n 0 || refuses e n)

-- "Order: 7, 8, then for a setup 9 to 14, for a function event 16"; "17 any 8-byte setup once test mode is entered, after 9" (L7); 0 is done
abbrev pub allows : Board → Device → Event → ℕ → Bool
allows b d e n = pick (accepted b) (pick (fits_on b d) (allows_fit d e n) (eqb n 8)) (eqb n 7)

-- "an empty part"
abbrev pub empty_part : Part
empty_part = record { block = of_first; offset = 0; length = 0 }

-- ---- on images
-- as for records, but that an image of another length does not fit
abbrev pub allows_image : Board → List ℕ → Event → ℕ → Bool
allows_image b image e n = pick (accepted b) (pick (eqb (length image) 32 && fits_on b (device_of image)) (allows_fit (device_of image) e n) (eqb n 8)) (eqb n 7)

-- the image that a refusal numbered n leaves: byte for byte as it was, but that 10 to 14 and 17 put 255 ("none") into byte 2, what waits, and 0
-- into byte 6
abbrev pub image_left_by : ℕ → List ℕ → List ℕ
image_left_by n image = pick (after_settling n) (settled_image image) image

-- ---- at opening
-- 8 where the image is not 32 bytes, and then it stays as it was; otherwise 0 to 6, or where two sets are lent 24 (L7), and the fresh record,
-- accepted or not
abbrev pub opens : Board → List ℕ → ℕ → Bool
opens b image n = pick (eqb (length image) 32) (leb n 6 || (is_some b.high && eqb n 24)) (eqb n 8)

-- "Fresh: all zero but byte 2 = 255."
abbrev pub fresh_image : List ℕ
fresh_image = 0 ∷ 0 ∷ 255 ∷ replicate 29 0
