-- Toggles never drift: a host that keeps its data toggles as USB 2.0 says agrees with the record at every current bulk and interrupt endpoint, after every run.
-- USB 2.0: a toggle is flipped at each packet that passes (8.6), and is DATA0 after a bus reset, SET_CONFIGURATION, SET_INTERFACE and CLEAR_FEATURE(ENDPOINT_HALT) (9.1.1.5, 9.4.5).
use Rattle.std.specs.Prelude.{ℕ, ◌≡◌, Bool, true, false, ◌&&◌, not, eqb}
use mathlib.Core.List.{List, [], ◌∷◌, Memᴰ}
use Rattle.octets.specs.Bit.{bit}
use Rattle.octets.specs.Sentences.{pick, any, is_some}
use Rattle.descriptors.specs.declared.Endpoint.{Endpoint}
use Rattle.descriptors.specs.Configuration.{Configuration, can_halt, bit_of}
use Rattle.sets.specs.Opening.{Board, BytesOf}
use Rattle.sets.specs.View.{accepted, by_value}
use Rattle.records.specs.declared.Device.{Device}
use Rattle.records.specs.Device.{fresh, in_test_mode}
use Rattle.records.specs.Current.{view_for, view_at, current_endpoints}
use Rattle.requests.specs.declared.Setup.{Setup}
use Rattle.requests.specs.Table.{recipient}
use Rattle.events.specs.declared.Event.{Event}
use Rattle.events.specs.declared.Event.TheVariants.{Request, Malformed, StatusEnd, BusReset, Halt, PacketPassed, Power, Suspend, Resume, Wake}
use Rattle.events.specs.Step.{good_reset}
use Rattle.order.specs.Run.{log}
use Rattle.promises.specs.Rearranged.{next_of, after}
use Rattle.enumeration.specs.Script.{Line, sees, Ready}

-- ---- what a host keeps: the speed of its last reset, the configuration that it set, and a toggle for each endpoint, by number and direction (false: DATA0)
pub record Book : Type 0 where
  pub speed : ℕ
  pub configuration : ℕ
  pub toggles : ℕ → Bool

abbrev pub new_book : ℕ → Book
new_book speed = record { speed = speed; configuration = 0; toggles = λ k. false }

abbrev pub with_toggles : (ℕ → Bool) → Book → Book
with_toggles t h = record { speed = h.speed; configuration = h.configuration; toggles = t }

-- ---- how it keeps them
-- whether a setting of an interface has this endpoint: the host has read the configuration
abbrev pub in_setting : Configuration → ℕ → ℕ → ℕ → Bool
in_setting c interface alternate k = any (λ e. eqb e.interface interface && eqb e.alternate alternate && eqb (bit_of e.address) k) c.endpoints

abbrev pub notes_setup : Board → Book → Setup → Book
notes_setup b h s =
    -- SET_CONFIGURATION: all are DATA0
    pick (eqb s.bRequest 0x09) (record { speed = h.speed; configuration = s.wValue; toggles = λ k. false })
    -- SET_INTERFACE: those of the setting that is chosen
    (pick (eqb s.bRequest 0x0B)
    (let c = by_value (record { 0 = h.configuration }) (view_for b h.speed).configurations in
    with_toggles (λ k. pick (in_setting c s.wIndex s.wValue k) false (h.toggles k)) h)
    -- CLEAR_FEATURE of an endpoint: that one
    (pick (eqb s.bRequest 0x01 && eqb (recipient s) 2) (with_toggles (λ k. pick (eqb (bit_of s.wIndex) k) false (h.toggles k)) h) h))

abbrev pub notes_event : Board → Book → Event → Book
notes_event b h (Request s) = notes_setup b h s
notes_event b h (BusReset speed) = new_book speed
notes_event b h (PacketPassed a) = with_toggles (λ k. pick (eqb (bit_of a) k) (not (h.toggles k)) (h.toggles k)) h
notes_event b h Malformed = h
notes_event b h StatusEnd = h
notes_event b h (Halt a) = h
notes_event b h (Power source) = h
notes_event b h Suspend = h
notes_event b h Resume = h
notes_event b h Wake = h

-- what is refused changes nothing
abbrev pub notes : Board → Book → Line → Book
notes b h l = pick (eqb l.1.number 0) (notes_event b h l.0) h

abbrev pub keeps : Board → Book → List Line → Book
keeps b h [] = h
keeps b h (l ∷ ls) = keeps b (notes b h l) ls

-- ---- it agrees with a record
pub record Agrees (b : Board) (h : Book) (d : Device) : Type 0 where
  pub speed : h.speed ≡ d.speed
  pub configuration : h.configuration ≡ d.configuration
  pub toggles : (e : Endpoint) → Memᴰ e (current_endpoints (view_at b d) d) → can_halt e ≡ true → h.toggles (bit_of e.address) ≡ bit d.toggles (bit_of e.address)

-- the book after a run, from what the host saw of it
abbrev pub book_after : Board → Book → Device → List Event → Book
book_after b h d es = keeps b h (log (sees b) (next_of b) d es)

-- ---- the sentences, for every accepted board and every run that ends in no test mode: from an opening, and from a bus reset, whatever the host had in its book
abbrev pub NeverDriftFromOpening : Type 0
NeverDriftFromOpening = (b : Board) → BytesOf b → accepted b ≡ true → (es : List Event)
    → in_test_mode (after b fresh es) ≡ false → Agrees b (book_after b (new_book 0) fresh es) (after b fresh es)

abbrev pub NeverDriftFromReset : Type 0
NeverDriftFromReset = (b : Board) → BytesOf b → accepted b ≡ true → (d : Device) → Ready b d → (h : Book)
    → (speed : ℕ) → good_reset (is_some b.high) speed ≡ true → (es : List Event) → (let run = BusReset speed ∷ es in
    in_test_mode (after b d run) ≡ false → Agrees b (book_after b h d run) (after b d run))
