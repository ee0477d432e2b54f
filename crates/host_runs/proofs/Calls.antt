-- A script that is played on the record is played by the exported calls, in packets (specs/Calls). No axiom.
use Rattle.octets.proofs.Vocabulary.{◌≡◌, refl, sym, ap, subst, ◌∙◌, ℕ, zero, suc, List, [], ◌∷◌, ◌++◌, map, true, ◌&&◌, not, Option, some, none, length, take, eqb, leb, eq-eqb}
use Rattle.descriptors.specs.declared.Endpoint.{Endpoint}
use Rattle.octets.specs.Bit.{bit}
use Rattle.descriptors.specs.Configuration.{can_halt, bit_of}
use Rattle.sets.specs.Opening.{Board, BytesOf}
use Rattle.sets.specs.View.{accepted}
use Rattle.records.specs.declared.Device.{Device}
use Rattle.records.specs.Device.{nothing, test_waits}
use Rattle.records.specs.Image.{device_of, image_of}
use Rattle.records.specs.Current.{view_at, endpoint_at}
use Rattle.records.specs.Fits.{fits_on}
use Rattle.records.proofs.Image.{device-image}
use Rattle.events.specs.declared.Event.{Event}
use Rattle.events.specs.declared.Event.TheVariants.{Request, Malformed, StatusEnd, BusReset, Halt, PacketPassed, Power, Suspend, Resume, Wake}
use Rattle.events.specs.Answer.{Answer, Done, OneByte, TwoBytes, SetPart, SerialPart, Refused, Outcome, number_of, bytes_of, part_of, bytes_at}
use Rattle.events.specs.Step.{good_reset, step, event, respond, status_end, halt, packet_passed, halt_at, pass_at}
use Rattle.set_writer.proofs.Stream.{two_bytes}
use Rattle.laws.proofs.Outcomes.{chosen}
use Rattle.promises.specs.Keeps.{FitImage, step_fits, event_fits}
use Rattle.promises.specs.Rearranged.{next_of, after}
use Rattle.order.specs.Run.{answers, log}
use Rattle.enumeration.specs.Script.{Seen, seen_of, sees, Line, does, Plays}
use Rattle.board.specs.Exports.{Spot, Spots, padded, AnswersSetup}
use Rattle.board.specs.Runs.{Happening, Call, setup, tell, record_event, event_of, happened, Given, Meets, by_setup, by_happening, by_record_event, Runs, ends, calls, gives, met, status_end as end_of_status, bus_reset as to_full, suspend, resume, wake as wake_up, bus_reset_to, halt as halt_of, packet_passed as passed_at, power as supply}
use Rattle.board.specs.Transfers.{reply, as_setup, transfer}
use Rattle.host_runs.specs.Calls.{seen_given, Cut, Arrives, ArriveAs, InPackets, Played, call_of, calls_of}

-- the padding does not count
unpadded : (a : Answer) → take (length (bytes_of a)) (padded (bytes_of a)) ≡ bytes_of a
unpadded Done = refl
unpadded (OneByte x) = refl
unpadded (TwoBytes x y) = refl
unpadded (SetPart offset size) = refl
unpadded (SerialPart size) = refl
unpadded (Refused n) = refl

-- what tells an event without a setup hands back nothing
module _ (b : Board) (d : Device) where
  abbrev Silent : Outcome → Type 0
  Silent o = bytes_of o.answer ++ bytes_at b d.speed (part_of o.answer) ≡ []

  stepped : (e : Event) → Silent (respond (view_at b d) d e) → Silent (step b d e)
  unfolding step
  stepped e r = chosen Silent (accepted b) (λ p. chosen Silent (fits_on b d) (λ q. r) (λ q. refl)) (λ p. refl)

  halted : (o : Option Endpoint) → Silent (halt_at d o)
  halted none = refl
  halted (some e) = chosen Silent (can_halt e) (λ p. refl) (λ p. refl)

  passed : (o : Option Endpoint) → Silent (pass_at d o)
  passed none = refl
  passed (some e) = chosen Silent (can_halt e && not (bit d.halts (bit_of e.address))) (λ p. refl) (λ p. refl)

  silent : (h : Happening) → Silent (step b d (happened h))
  unfolding status_end halt packet_passed
  silent end_of_status = stepped StatusEnd (chosen Silent (eqb d.waiting nothing) (λ p. refl) (λ p. chosen Silent (test_waits d) (λ p. refl) (λ p. refl)))
  silent to_full = stepped (BusReset 0) refl
  silent suspend = stepped Suspend refl
  silent resume = stepped Resume refl
  silent wake_up = stepped Wake (chosen Silent (eqb d.suspended 1 && eqb d.wakeup 1) (λ p. refl) (λ p. refl))
  silent (bus_reset_to speed) = stepped (BusReset speed) (chosen Silent (good_reset (view_at b d).paired speed) (λ p. refl) (λ p. refl))
  silent (halt_of a) = stepped (Halt a) (halted (endpoint_at (view_at b d) d a))
  silent (passed_at a) = stepped (PacketPassed a) (passed (endpoint_at (view_at b d) d a))
  silent (supply source) = stepped (Power source) (chosen Silent (leb source 1) (λ p. refl) (λ p. refl))

module _ (b : Board) (lie : Spots) (image : List ℕ) (f : FitImage b image) where
  on-image : (e : Event) → (event b image e).answer ≡ (step b (device_of image) e).answer
  unfolding event
  on-image e = rw (eq-eqb (length image) 32 f.long) refl

  left-image : (e : Event) → (event b image e).image ≡ image_of (step b (device_of image) e).device
  unfolding event
  left-image e = rw (eq-eqb (length image) 32 f.long) refl

  shown-as : (a : Answer) → record { number = number_of a; reads = reply (padded (bytes_of a)) (length (bytes_of a)) (bytes_at b (device_of image).speed (part_of a)) } ≡ seen_of b (device_of image).speed a
  shown-as a = ap (λ (l : List ℕ). record { number = number_of a; reads = l ++ bytes_at b (device_of image).speed (part_of a) }) (unpadded a)

  pub sees_call : (c : Call) → seen_given (gives b lie image c) ≡ sees b (device_of image) (event_of c)
  sees_call (setup bytes) = shown-as (event b image (event_of (setup bytes))).answer ∙ ap (seen_of b (device_of image).speed) (on-image (event_of (setup bytes)))
  sees_call (tell h) = ap (λ (a : Answer). record { number = number_of a; reads = [] }) (on-image (happened h)) ∙ ap (λ (l : List ℕ). record { number = number_of (step b (device_of image) (happened h)).answer; reads = l }) (sym (silent b (device_of image) h))
  sees_call (record_event kind value bytes) = shown-as (event b image (event_of (record_event kind value bytes))).answer ∙ ap (seen_of b (device_of image).speed) (on-image (event_of (record_event kind value bytes)))

-- ---- a script that is played on the record is played by the calls: any calls whose events are the script's
-- the next image is that of the next record
module _ (b : Board) (bytes : BytesOf b) (ok : accepted b ≡ true) (image : List ℕ) (f : FitImage b image) (e : Event) where
  pub next_fits : FitImage b (event b image e).image
  next_fits = event_fits b bytes ok image e f

  pub next-record : device_of (event b image e).image ≡ next_of b (device_of image) e
  next-record = ap device_of (left-image b (record { set = sp; high = sp; serial = sp }) image f e) ∙ device-image _ (step_fits b bytes ok (device_of image) e f.sized f.fit).1
    where
      sp : Spot
      sp = record { block = 0; offset = 0 }

module _ (b : Board) (lie : Spots) (bytes : BytesOf b) (ok : accepted b ≡ true) where
  ran-as : {image : List ℕ} {cs : List Call} {hs : List Given} {final : List ℕ} → FitImage b image → Runs b lie image cs hs final
      → (map seen_given hs ≡ answers (sees b) (next_of b) (device_of image) (map event_of cs)) × (final ≡ image_of (after b (device_of image) (map event_of cs)))
  ran-as f ends = (refl, sym f.back)
  ran-as {image} f (calls {c = c} {left = left} m r) =
      let (g, l) = met b lie m in
      let (s, t) = ran-as (rw l (next_fits b bytes ok image f (event_of c))) r in
      let n : device_of left ≡ next_of b (device_of image) (event_of c) = ap device_of l ∙ next-record b bytes ok image f (event_of c) in
      (rw (g, s, n, sees_call b lie image f c), t ∙ rw n)

  answered-by : (d : Device) (es : List Event) → answers (sees b) (next_of b) d es ≡ map (λ (l : Line). l.1) (log (sees b) (next_of b) d es)
  answered-by d [] = refl
  answered-by d (e ∷ es) = ap (λ (l : List Seen). sees b d e ∷ l) (answered-by (next_of b d e) es)

  -- what the script says of each call, which it was given, arrives in packets
  arrives : {image asked left bytes shown : List ℕ} {n counted : ℕ} {spot : Spot} → AnswersSetup b lie image asked n left bytes counted shown spot
      → n ≡ 0 → (c : Cut b image asked (reply bytes counted shown)) → Arrives c
  arrives a z c = let (t, g, p) = transfer (rw z at a) c.at c.numbers c.packets c.places c.meets in record { together = t; given = g; past = p }

  arrives-as : {image left : List ℕ} {c : Call} {g : Given} → Meets b lie image c g left → (seen_given g).number ≡ 0 → ArriveAs b image c (seen_given g).reads
  arrives-as (by_setup a) z = arrives a z
  arrives-as (by_happening h) z = tt
  arrives-as (by_record_event {kind = zero} a) z = arrives (as_setup a) z
  arrives-as (by_record_event {kind = suc k} a) z = tt

  in-packets : {image : List ℕ} {cs : List Call} {gs : List Given} {last : List ℕ} (r : Runs b lie image cs gs last) (ls : List Line)
      → map seen_given gs ≡ map (λ (l : Line). l.1) ls → InPackets r ls
  in-packets ends ls e = tt
  in-packets (calls m r) [] e = tt
  in-packets (calls {image} {c} {g} {gs = gs} m r) (l ∷ ls) e =
      let here : seen_given g ≡ l.1 = cc in
      let rest : map seen_given gs ≡ map (λ (l : Line). l.1) ls = cc in
      (subst (λ (x : Seen). x.number ≡ 0 → ArriveAs b image c x.reads) here (arrives-as m), in-packets r ls rest)

  pub played_by_calls : {image : List ℕ} → FitImage b image → (script : List Line) (end : Device) → Plays b (device_of image) script end → Played b lie image script end
  played_by_calls {image} f script end p cs gs last same r =
      let (s, t) = ran-as f r in
      let d = device_of image in
      let heard = s ∙ ap (answers (sees b) (next_of b) d) same ∙ answered-by d (does script) ∙ ap (map (λ (l : Line). l.1)) p.heard in
      record { seen = heard; arrives = in-packets r script heard; leaves = t ∙ ap (λ (es : List Event). image_of (after b d es)) same ∙ ap image_of p.ends }

-- ---- the calls of a script are its events
is_called : (e : Event) → event_of (call_of e) ≡ e
is_called (Request s) = ap Request (rw (two_bytes s.wValue, two_bytes s.wIndex, two_bytes s.wLength) refl)
is_called Malformed = refl
is_called StatusEnd = refl
is_called (BusReset speed) = refl
is_called (Halt a) = refl
is_called (PacketPassed a) = refl
is_called (Power source) = refl
is_called Suspend = refl
is_called Resume = refl
is_called Wake = refl

pub are_called : (es : List Event) → map event_of (calls_of es) ≡ es
are_called [] = refl
are_called (e ∷ es) = ap (λ (x : Event). x ∷ map event_of (calls_of es)) (is_called e) ∙ ap (λ (l : List Event). e ∷ l) (are_called es)
