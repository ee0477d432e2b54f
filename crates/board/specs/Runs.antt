-- Runs of exported calls over one 32-byte image: demands 1, 2 and 3 for any device whose calls meet the exports' statements, whatever it is
-- inside. No axiom.
use Rattle.std.specs.Prelude.{ℕ, ◌≡◌, refl, List, [], ◌∷◌, true, length}
use Rattle.std.proofs.Common.{sym, ap, ◌∙◌, eq-eqb, ne_eqb, eqb-true}
use Rattle.sets.specs.Opening.{Board, BytesOf}
use Rattle.sets.specs.View.{accepted}
use Rattle.octets.specs.Octets.{Bytes}
use Rattle.records.specs.Image.{bytes_of_four, device_of, image_of}
use Rattle.events.specs.declared.Event.{Event}
use Rattle.events.specs.declared.Event.TheVariants.{StatusEnd, BusReset, Halt, PacketPassed, Power, Suspend, Resume, Wake}
use Rattle.events.specs.Answer.{Answer, Part, number_of, part_of, InsideAt, bytes_at}
use Rattle.events.specs.Step.{setup_event, event, opened}
use Rattle.order.specs.Run.{run, answers}
use Rattle.promises.specs.Rearranged.{Values, values_of, image_answer, image_next}
use Rattle.promises.specs.Refusal.{allows_image, image_left_by, fresh_image}
use Rattle.promises.specs.Refusals.{event_number, event_inside, refusal_empty}
use Rattle.promises.proofs.Refusals.{event_keeps}
use Rattle.promises.specs.Keeps.{Reached, after_opening, after_event, never_eight}
use Rattle.board.specs.Exports.{Opens, Happens, AnswersSetup, Spot, Spots, padded, spot_of_part, numbered, AnswersImage}

-- ---- what an export that answers no setup tells
pub data Happening : Type 0 where
  status_end bus_reset suspend resume wake : Happening
  bus_reset_to halt packet_passed power : ℕ → Happening

-- a call as C makes it, but for the set, the serial block and the image, which a run lends to each of its calls
pub data Call : Type 0 where
  setup : List ℕ → Call
  tell : Happening → Call
  -- hk_record_event on the record whose image it is, or hk_two_event: an event's number, a value, and a setup's bytes
  record_event : ℕ → ℕ → List ℕ → Call

-- the event that it is
abbrev pub happened : Happening → Event
happened status_end = StatusEnd
happened bus_reset = BusReset 0
happened (bus_reset_to speed) = BusReset speed
happened (halt endpoint) = Halt endpoint
happened (packet_passed endpoint) = PacketPassed endpoint
happened (power source) = Power source
happened suspend = Suspend
happened resume = Resume
happened wake = Wake

abbrev pub event_of : Call → Event
event_of (setup bytes) = setup_event bytes
event_of (tell h) = happened h
event_of (record_event kind value bytes) = numbered kind value bytes

-- what it gives back: a number alone, or of a setup and of hk_record_event the number, the two bytes, how many of them count, the part's bytes and where they lie
pub data Given : Type 0 where
  number : ℕ → Given
  handed : ℕ → List ℕ → ℕ → List ℕ → Spot → Given

abbrev pub number_given : Given → ℕ
number_given (number n) = n
number_given (handed n bytes count shown spot) = n

-- ---- a call meets its export's statement: what it gives, and the image that it leaves
pub data Meets (b : Board) (lie : Spots) (image : List ℕ) : Call → Given → List ℕ → Type 0 where
  by_setup : {bytes : List ℕ} {n : ℕ} {left handed_back : List ℕ} {count : ℕ} {shown : List ℕ} {spot : Spot}
      → AnswersSetup b lie image bytes n left handed_back count shown spot → Meets b lie image (setup bytes) (handed n handed_back count shown spot) left
  by_happening : {h : Happening} {n : ℕ} {left : List ℕ} → Happens b image (happened h) n left → Meets b lie image (tell h) (number n) left
  by_record_event : {kind value : ℕ} {bytes : List ℕ} {n : ℕ} {left handed_back : List ℕ} {count : ℕ} {shown : List ℕ} {spot : Spot}
      → AnswersImage b lie image (numbered kind value bytes) n left handed_back count shown spot
      → Meets b lie image (record_event kind value bytes) (handed n handed_back count shown spot) left

-- ---- a run: each call meets its statement, and the image that it leaves is lent to the next
pub data Runs (b : Board) (lie : Spots) : List ℕ → List Call → List Given → List ℕ → Type 0 where
  ends : {image : List ℕ} → Runs b lie image [] [] image
  calls : {image : List ℕ} {c : Call} {g : Given} {left : List ℕ} {cs : List Call} {gs : List Given} {last : List ℕ}
      → Meets b lie image c g left → Runs b lie left cs gs last → Runs b lie image (c ∷ cs) (g ∷ gs) last

-- ---- what the statements say of a call, as functions of the image
-- document 01's number, bytes and part, as the call hands them out
abbrev pub handed_as : Board → Spots → ℕ → Values → Given
handed_as b lie speed v =
    handed v.number (padded v.bytes) (length v.bytes) (bytes_at b speed v.part) (spot_of_part b speed lie v.part)

-- a part is of the set in use, by byte 7 as the call found it
abbrev pub given_as : Board → Spots → Call → ℕ → Values → Given
given_as b lie (setup bytes) speed v = handed_as b lie speed v
given_as b lie (tell h) speed v = number v.number
given_as b lie (record_event kind value bytes) speed v = handed_as b lie speed v

module _ (b : Board) (lie : Spots) where
  abbrev pub gives : List ℕ → Call → Given
  gives image c = given_as b lie c (device_of image).speed (image_answer b image (event_of c))

  abbrev pub leaves : List ℕ → Call → List ℕ
  leaves image c = image_next b image (event_of c)

  -- a call that meets its statement gives and leaves this
  hand : {n m : ℕ} {bytes others : List ℕ} {count also : ℕ} {part piece : List ℕ} {spot place : Spot}
      → n ≡ m → bytes ≡ others → count ≡ also → part ≡ piece → spot ≡ place → handed n bytes count part spot ≡ handed m others also piece place
  hand p q r s t = rw (p, q, r, s, t)

  pub met : {image : List ℕ} {c : Call} {g : Given} {left : List ℕ} → Meets b lie image c g left → (g ≡ gives image c) × (left ≡ leaves image c)
  met (by_setup r) = let h = r.answers in (hand h.number h.hands h.counts h.shows h.lies, r.leaves)
  met (by_happening h) = (ap number h.number, h.leaves)
  met (by_record_event r) = let h = r.answers in (hand h.number h.hands h.counts h.shows h.lies, r.leaves)

  -- and what gives and leaves this meets it
  pub meets : (image : List ℕ) (c : Call) → Meets b lie image c (gives image c) (leaves image c)
  meets image (setup bytes) = by_setup (record { leaves = refl; answers = record { number = refl; hands = refl; counts = refl; shows = refl; lies = refl } })
  meets image (tell h) = by_happening (record { number = refl; leaves = refl })
  meets image (record_event kind value bytes) =
      by_record_event (record { leaves = refl; answers = record { number = refl; hands = refl; counts = refl; shows = refl; lies = refl } })

  -- ---- so a run is the run of its events: from every image, every list of calls has a run, and one alone
  pub ran : {image : List ℕ} {cs : List Call} {gs : List Given} {last : List ℕ} → Runs b lie image cs gs last
      → (gs ≡ answers gives leaves image cs) × (last ≡ run leaves image cs)
  ran ends = (refl, refl)
  ran (calls {image} {c} {g} {left} {cs} {gs} {last} m r) =
      let (p, q) = met m in
      let (s, t) = ran r in
      (rw (p, ← q, s), rw (← q) t)

  pub runs : (image : List ℕ) (cs : List Call) → Runs b lie image cs (answers gives leaves image cs) (run leaves image cs)
  runs image [] = ends
  runs image (c ∷ cs) = calls (meets image c) (runs (leaves image c) cs)

  -- ---- the statements decide a run: two runs of the same calls from the same image give the same and leave the same
  pub decided : {image : List ℕ} {cs : List Call} {gs others : List Given} {last other : List ℕ}
      → Runs b lie image cs gs last → Runs b lie image cs others other → (gs ≡ others) × (last ≡ other)
  decided one two =
      let (p, q) = ran one in
      let (s, t) = ran two in
      (p ∙ sym s, q ∙ sym t)

-- ---- what holds of every call of a run: P of the image lent, the call, what it gave and the image that it left
abbrev pub Throughout : {b : Board} {lie : Spots} {image : List ℕ} {cs : List Call} {gs : List Given} {last : List ℕ}
    → (List ℕ → Call → Given → List ℕ → Type 0) → Runs b lie image cs gs last → Type 0
Throughout P ends = Unit {0}
Throughout P (calls {image} {c} {g} {left} m r) = P image c g left × Throughout P r

-- ---- demand 1
-- no bytes and an empty part; a call that gives a number alone hands back neither
abbrev pub NothingHanded : Given → Type 0
NothingHanded (number n) = Unit {0}
NothingHanded (handed n bytes count shown spot) = (bytes ≡ 0 ∷ 0 ∷ []) × (count ≡ 0) × (shown ≡ [])

-- a part lies inside the set in use, by byte 7 as the call found it, or the serial block that was lent; an empty part in the first set
abbrev pub LiesInside : Board → Spots → ℕ → Given → Type 0
LiesInside b lie speed (number n) = Unit {0}
LiesInside b lie speed (handed n bytes count shown spot) =
    (p : Part) × InsideAt b speed p × (shown ≡ bytes_at b speed p) × (spot ≡ spot_of_part b speed lie p)

-- its number is one of the documents' for that board, image and event, in its order; a refusal leaves the image as it was, but that 10 to 14
-- and 17 put 255 into byte 2 and 0 into byte 6, and hands nothing back; and a part lies inside the set in use or the serial block. (C's images are of bytes.)
pub record Refuses (b : Board) (lie : Spots) (image : List ℕ) (c : Call) (g : Given) (left : List ℕ) : Type 0 where
  pub allowed : allows_image b image (event_of c) (number_given g) ≡ true
  pub keeps : (number_given g ≡ 0 → ⊥) → Bytes image → left ≡ image_left_by (number_given g) image
  pub empty : (number_given g ≡ 0 → ⊥) → NothingHanded g
  pub inside : LiesInside b lie (device_of image).speed g

module _ (b : Board) (lie : Spots) where
  pub number-of : (image : List ℕ) (c : Call) → number_given (gives b lie image c) ≡ number_of (event b image (event_of c)).answer
  number-of image (setup bytes) = refl
  number-of image (tell h) = refl
  number-of image (record_event kind value bytes) = refl

  empty-handed : (speed : ℕ) (a : Answer) → (number_of a ≡ 0 → ⊥) → NothingHanded (handed_as b lie speed (values_of a))
  empty-handed speed a z = let (p, q) = refusal_empty a z in (ap padded p, ap length p, ap (bytes_at b speed) q)

  nothing-handed : (image : List ℕ) (c : Call) → (number_of (event b image (event_of c)).answer ≡ 0 → ⊥) → NothingHanded (gives b lie image c)
  nothing-handed image (setup bytes) z = empty-handed (device_of image).speed (event b image (setup_event bytes)).answer z
  nothing-handed image (tell h) z = tt
  nothing-handed image (record_event kind value bytes) z = empty-handed (device_of image).speed (event b image (numbered kind value bytes)).answer z

  lies-inside : (image : List ℕ) (c : Call) → LiesInside b lie (device_of image).speed (gives b lie image c)
  lies-inside image (setup bytes) = (part_of (event b image (setup_event bytes)).answer, event_inside b image (setup_event bytes), refl, refl)
  lies-inside image (tell h) = tt
  lies-inside image (record_event kind value bytes) =
      let e = numbered kind value bytes in
      (part_of (event b image e).answer, event_inside b image e, refl, refl)

  pub call_refuses : {image : List ℕ} {c : Call} {g : Given} {left : List ℕ} → Meets b lie image c g left → Refuses b lie image c g left
  call_refuses {image} {c} m =
      let (p, q) = met b lie m in
      rw (p, q) (record {
        allowed = rw (number-of image c) (event_number b image (event_of c));
        keeps = rw (number-of image c) (λ z octets. event_keeps b image (event_of c) octets z);
        empty = rw (number-of image c) (nothing-handed image c);
        inside = lies-inside image c;
      })

  pub refusals : {image : List ℕ} {cs : List Call} {gs : List Given} {last : List ℕ} (r : Runs b lie image cs gs last)
      → Throughout (Refuses b lie) r
  refusals ends = tt
  refusals (calls m r) = (call_refuses m, refusals r)

-- ---- demand 2
-- opening gives 0 exactly for a board that is accepted, and leaves the fresh record either way
pub opening : {b : Board} {image : List ℕ} {n : ℕ} {left : List ℕ} → length image ≡ 32 → Opens b image n left
    → (n ≡ 0 → accepted b ≡ true) × (accepted b ≡ true → n ≡ 0) × (left ≡ fresh_image)
unfolding opened image_of bytes_of_four
opening {b} {image} l o =
    let p = rw (eq-eqb (length image) 32 l) at o.number in
    let q = rw (eq-eqb (length image) 32 l) at o.leaves in
    (λ z. eq-eqb _ 0 (sym p ∙ z), λ a. p ∙ eqb-true _ 0 a, q)

-- an image of another length gets 8 and stays as it was
pub opening_other : {b : Board} {image : List ℕ} {n : ℕ} {left : List ℕ} → (length image ≡ 32 → ⊥) → Opens b image n left → (n ≡ 8) × (left ≡ image)
unfolding opened
opening_other {b} {image} l o = let p = ne_eqb (length image) 32 l in (rw p at o.number, rw p at o.leaves)

-- ---- a run from an opening
-- the image that it leaves is one of the library's own
pub reached : {b : Board} {lie : Spots} {image : List ℕ} {cs : List Call} {gs : List Given} {last : List ℕ}
    → Reached b image → Runs b lie image cs gs last → Reached b last
reached from ends = from
reached {b} {lie} from (calls {c = c} m r) = reached (rw (met b lie m).1 (after_event (event_of c) from)) r

pub opened_reached : {b : Board} {start image : List ℕ} {n : ℕ} → length start ≡ 32 → Opens b start n image → Reached b image
opened_reached {start = start} l o = rw o.leaves (after_opening start l)

-- and no call of it gives 8
abbrev pub NotEight : List ℕ → Call → Given → List ℕ → Type 0
NotEight image c g left = number_given g ≡ 8 → ⊥

never-eight : (b : Board) (lie : Spots) → BytesOf b → {image : List ℕ} {cs : List Call} {gs : List Given} {last : List ℕ}
    → Reached b image → (r : Runs b lie image cs gs last) → Throughout NotEight r
never-eight b lie bytes from ends = tt
never-eight b lie bytes {image} from (calls {c = c} m r) = (
  λ eight. never_eight b bytes from (event_of c) (sym (ap number_given (met b lie m).0 ∙ number-of b lie image c) ∙ eight),
  never-eight b lie bytes (reached from (calls m ends)) r,
)

pub never_eight_after : (b : Board) (lie : Spots) → BytesOf b → {start image : List ℕ} {n : ℕ} {cs : List Call} {gs : List Given} {last : List ℕ}
    → length start ≡ 32 → Opens b start n image → (r : Runs b lie image cs gs last) → Throughout NotEight r
never_eight_after b lie bytes l o r = never-eight b lie bytes (opened_reached l o) r
