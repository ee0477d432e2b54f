-- Replies and packets: a packet's number is 0 or 15, and 15 shows nothing; the packets of what a setup handed back, cut by any cutter that
-- meets its statement, are the reply, and only those past the last are refused. No axiom.
use Prim.Native.Nat.{ℕ, zero, suc, ◌+◌, ◌-◌, ◌%◌, ◌<◌, ◌≤◌}
use native.Mathlib.Omega.{arith}
use Rattle.std.proofs.Common.{add-zero, div-le_self, sym, ap, ◌∙◌, inl, inr, ⊎_elim, length-append, length-take}
use Rattle.std.specs.Prelude.{◌≡◌, ◌⊎◌, Bool, ◌&&◌, ◌||◌, length, take, drop, eqb, ltb}
use Rattle.std.proofs.Math.Path.{refl}
use mathlib.Core.List.{List, [], ◌∷◌, ◌++◌, map, flat_map}
use Rattle.std.proofs.Math.Bool.{true, false}
use Rattle.std.proofs.Math.Dec.{leb}
use borrow.Author.Tests.{eqb-true, eqb-false, leb-true, lt-ltb, le-ltb}
use Rattle.octets.specs.Octets.{part}
use Rattle.octets.specs.Sentences.{pick, every, from, up_to}
use Rattle.octets.proofs.Sentences.{cases, both, either, conjunct}
use Rattle.sets.specs.Device.{bMaxPacketSize0, device_body}
use Rattle.sets.specs.Opening.{Board}
use Rattle.sets.specs.View.{View, accepted}
use Rattle.records.specs.declared.Device.{Device}
use Rattle.records.specs.Device.{in_test_mode}
use Rattle.records.specs.Image.{device_of}
use Rattle.records.specs.Current.{set_for, view_at}
use Rattle.records.specs.Fits.{fits_on}
use Rattle.requests.specs.declared.Setup.{Setup}
use Rattle.requests.specs.Table.{setup_of, largest_index, refusal}
use Rattle.events.specs.declared.Event.{Event}
use Rattle.events.specs.declared.Event.TheVariants.{Request, Malformed}
use Rattle.events.specs.Answer.{Answer, Done, OneByte, TwoBytes, SetPart, SerialPart, Refused, Outcome, number_of, bytes_of, part_of, in_block, bytes_at}
use Rattle.events.specs.Step.{asks_test_mode, test_mode_in_state, test_mode_fits, test_mode_refusal, refusal_for, answer_setup, respond, step, Reply, event, setup_event}
use Rattle.laws.proofs.Outcomes.{chosen, ruled}
use Rattle.packets.specs.Packets.{packet_count, can_cut, packet_where, packet}
use Rattle.promises.specs.Packets.{joined, whole-reply}
use Rattle.promises.specs.Replies.{size_cuts, event_within, done_accepted}
use Rattle.board.specs.Exports.{Spot, Spots, padded, AnswersSetup, AnswersImage, CutsPacket}

-- ---- one packet
-- 0 or 15; and 15 shows the reply's first 0 bytes
pub packet_number : {reply : List ℕ} {at : Spot} {asked size k n : ℕ} {shown : List ℕ} {spot : Spot} → CutsPacket reply at asked size k n shown spot
    → (n ≡ 0) ⊎ ((n ≡ 15) × (shown ≡ []) × (spot ≡ at))
unfolding packet
packet_number {reply} {at} {asked} {size} {k} c =
    go (can_cut (length reply) asked size && ltb k (packet_count (length reply) asked size)) c.number c.shows c.lies
  where
    go : (t : Bool) {n : ℕ} {shown : List ℕ} {spot : Spot} → (let q = packet_where t (length reply) size k in
        n ≡ q.number → shown ≡ part reply q.offset q.length → spot ≡ record { block = at.block; offset = at.offset + q.offset }
        → (n ≡ 0) ⊎ ((n ≡ 15) × (shown ≡ []) × (spot ≡ at)))
    go true p q r = inl p
    go false p q r = inr (p, q, r ∙ ap (λ o. record { block = at.block; offset = o }) (add-zero at.offset))

-- ---- all packets of a reply that can be cut, by numbers of 32 bits; what was asked for is a number of 16
size_small : (p : ℕ) → (eqb p 8 || eqb p 16 || eqb p 32 || eqb p 64) ≡ true → p ≤ 64
size_small p h = go (either (eqb p 8 || eqb p 16 || eqb p 32) (eqb p 64) h)
  where
    first : ((eqb p 8 || eqb p 16) ≡ true) ⊎ (eqb p 32 ≡ true) → p ≤ 64
    first (inl q) = ⊎_elim (λ e. omega (arith, eqb-true p 8 e)) (λ e. omega (arith, eqb-true p 16 e)) (either (eqb p 8) (eqb p 16) q)
    first (inr e) = omega (arith, eqb-true p 32 e)

    go : ((eqb p 8 || eqb p 16 || eqb p 32) ≡ true) ⊎ (eqb p 64 ≡ true) → p ≤ 64
    go (inl q) = first (either (eqb p 8 || eqb p 16) (eqb p 32) q)
    go (inr e) = omega (arith, eqb-true p 64 e)

few-packets : (r w p : ℕ) → can_cut r w p ≡ true → w < 65536 → packet_count r w p < 4294967296
few-packets r w p can h =
    let (size, long) = both (eqb p 8 || eqb p 16 || eqb p 32 || eqb p 64) (leb r w) can in
    let l = leb-true r w long in
    let s = size_small p size in
    cases (eqb r w) (λ e. rw e (omega (arith, div-le_self (r + p - 1) p, l, s, h))) (λ e. rw e (omega (arith, div-le_self r p, l, h)))

module _ (reply : List ℕ) (at : Spot) (asked size : ℕ) (number : ℕ → ℕ) (shown : ℕ → List ℕ) (spot : ℕ → Spot)
    (cuts : (k : ℕ) → k < 4294967296 → CutsPacket reply at asked size k (number k) (shown k) (spot k)) (can : can_cut (length reply) asked size ≡ true) (small : asked < 65536) where
  abbrev many : ℕ
  many = packet_count (length reply) asked size

  pub few : many < 4294967296
  few = few-packets (length reply) asked size can small

  pub within : (k : ℕ) → k < many → number k ≡ 0
  unfolding packet
  within k l = (cuts k (omega (arith, l, few))).number ∙ rw (can, lt-ltb k many l) refl

  pub beyond : (k : ℕ) → k < 4294967296 → many ≤ k → number k ≡ 15
  unfolding packet
  beyond k h l = (cuts k h).number ∙ rw (can, le-ltb k many l) refl

  -- put together they are the reply
  from_on : (j n : ℕ) → j + n < 4294967296 → flat_map shown (from j n) ≡ joined reply (map (packet (length reply) asked size) (from j n))
  unfolding flat_map from
  from_on j zero h = refl
  from_on j (suc n) h = rw ((cuts j (omega arith)).shows, from_on (suc j) n (omega arith))

  pub together : flat_map shown (up_to many) ≡ reply
  together = from_on 0 many (omega (arith, few)) ∙ whole-reply reply asked size can

-- ---- what a setup hands back
-- the bytes that count, or the part: what goes out is one of the two (`one_of_two`)
abbrev pub reply : List ℕ → ℕ → List ℕ → List ℕ
reply bytes counted shown = take counted bytes ++ shown

-- the size in which it goes out: that of the set in use
abbrev pub packet_size : Board → List ℕ → ℕ
packet_size b image = bMaxPacketSize0 (device_body (set_for b (device_of image).speed))

bytes-or-part : (a : Answer) → (length (bytes_of a) ≡ 0) ⊎ ((part_of a).length ≡ 0)
bytes-or-part Done = inl refl
bytes-or-part (OneByte x) = inr refl
bytes-or-part (TwoBytes x y) = inr refl
bytes-or-part (SetPart offset size) = inl refl
bytes-or-part (SerialPart size) = inl refl
bytes-or-part (Refused n) = inl refl

-- the padding does not count
unpadded : (a : Answer) → take (length (bytes_of a)) (padded (bytes_of a)) ≡ bytes_of a
unpadded Done = refl
unpadded (OneByte x) = refl
unpadded (TwoBytes x y) = refl
unpadded (SetPart offset size) = refl
unpadded (SerialPart size) = refl
unpadded (Refused n) = refl

-- what is answered 0 has passed the table
module _ (b : Board) (image setup : List ℕ) where
  abbrev s : Setup
  s = setup_of setup

  abbrev Small : Answer → Type 0
  Small a = number_of a ≡ 0 → s.wLength < 65536

  not_done : (n : ℕ) → (n ≡ 0 → ⊥) → Small (Refused n)
  not_done n h z = absurd (h z)

  by-table : (state : ℕ) → refusal state s ≡ 0 → s.wLength < 65536
  unfolding every
  by-table state p =
      let (r, f, k, i, h) = ruled (λ r. leb r.longest 65535) refl state s p in
      let l = leb-true s.wLength r.longest (conjunct 3 (leb s.wValue r.value ∷ leb s.wIndex (largest_index r s.wValue) ∷ leb r.shortest s.wLength ∷ leb s.wLength r.longest ∷ []) h) in
      omega (arith, l, leb-true r.longest 65535 f)

  by-test-mode : (d : Device) → test_mode_refusal d s ≡ 0 → s.wLength < 65536
  by-test-mode d p = cases (test_mode_in_state d)
      (λ q. cases (test_mode_fits s)
      (λ f. let (i, l) = both (eqb (s.wIndex % 256) 0) (eqb s.wLength 0) f in omega (arith, eqb-true s.wLength 0 l))
      (λ f. let z : 12 ≡ 0 = rw (q, f) at p in omega (arith, z)))
      (λ q. let z : 11 ≡ 0 = rw q at p in omega (arith, z))

  passed : (paired : Bool) (d : Device) → refusal_for paired d s ≡ 0 → s.wLength < 65536
  passed paired d p = cases (asks_test_mode paired s) (λ t. by-test-mode d (rw t at p)) (λ t. by-table d.state (rw t at p))

  in-answer : (v : View) (d : Device) → Small (answer_setup v d s).answer
  unfolding answer_setup
  in-answer v d = chosen (λ (o : Outcome). Small o.answer) (in_test_mode d) (λ t. not_done 17 (λ z. omega arith))
      (λ t. chosen (λ (o : Outcome). Small o.answer) (eqb (refusal_for v.paired d s) 0)
      (λ n z. passed v.paired d (eqb-true (refusal_for v.paired d s) 0 n)) (λ n. not_done (refusal_for v.paired d s) (eqb-false (refusal_for v.paired d s) 0 n)))

  in_step : (d : Device) (e : Event) → ((v : View) → Small (respond v d e).answer) → Small (step b d e).answer
  unfolding step
  in_step d e h = chosen (λ (o : Outcome). Small o.answer) (accepted b)
      (λ p. chosen (λ (o : Outcome). Small o.answer) (fits_on b d) (λ f. h (view_at b d)) (λ f. not_done 8 (λ z. omega arith)))
      (λ p. not_done 7 (λ z. omega arith))

  in-event : (e : Event) → ((d : Device) (v : View) → Small (respond v d e).answer) → Small (event b image e).answer
  unfolding event
  in-event e h = chosen (λ (r : Reply). Small r.answer) (eqb (length image) 32) (λ l. in_step (device_of image) e (h (device_of image)))
      (λ l. not_done (pick (accepted b) 8 7) (unread (accepted b)))
    where
      unread : (t : Bool) → pick {A = ℕ} t 8 7 ≡ 0 → ⊥
      unread true z = omega arith
      unread false z = omega arith

  asked-small : number_of (event b image (setup_event setup)).answer ≡ 0 → s.wLength < 65536
  asked-small = chosen (λ (e : Event). Small (event b image e).answer) (eqb (length setup) 8)
      (λ l. in-event (Request s) (λ d v. in-answer v d)) (λ l. in-event Malformed (λ d v. not_done 9 (λ z. omega arith)))

module _ {b : Board} {lie : Spots} {image setup : List ℕ} {n : ℕ} {left bytes : List ℕ} {counted : ℕ} {shown : List ℕ} {spot : Spot}
    (r : AnswersSetup b lie image setup n left bytes counted shown spot) where
  abbrev answer : Answer
  answer = (event b image (setup_event setup)).answer

  pub one_of_two : (counted ≡ 0) ⊎ (shown ≡ [])
  one_of_two = go (bytes-or-part answer)
    where
      go : (length (bytes_of answer) ≡ 0) ⊎ ((part_of answer).length ≡ 0) → (counted ≡ 0) ⊎ (shown ≡ [])
      go (inl p) = inl (r.answers.counts ∙ p)
      go (inr p) = inr (r.answers.shows ∙ rw p)

  -- never longer than asked
  pub reply_length : length (reply bytes counted shown) ≤ (setup_of setup).wLength
  reply_length =
      let slice = in_block b.set (set_for b (device_of image).speed) b.serial (part_of answer).block in
      let most = event_within b image setup in
      rw (
        r.answers.hands,
        r.answers.counts,
        r.answers.shows,
        unpadded answer,
        length-append (bytes_of answer) (bytes_at b (device_of image).speed (part_of answer)),
        length-take (part_of answer).length (drop (part_of answer).offset slice),
      ) (omega arith)

  -- a setup that was answered 0 asked for a number of 16 bits: the table lets no other through
  pub asked_small : n ≡ 0 → (setup_of setup).wLength < 65536
  asked_small z = asked-small b image setup (sym r.answers.number ∙ z)

  -- so where the setup was answered 0, it can be cut into packets of the bMaxPacketSize0 of the set in use
  pub reply_cuts : n ≡ 0 → can_cut (length (reply bytes counted shown)) (setup_of setup).wLength (packet_size b image) ≡ true
  reply_cuts z = size_cuts b (done_accepted b image (setup_event setup) (sym r.answers.number ∙ z)) (device_of image).speed _ (setup_of setup).wLength reply_length

-- a setup that hk_two_event answered is one that hk_setup would answer so
pub as_setup : {b : Board} {lie : Spots} {image setup : List ℕ} {n : ℕ} {left bytes : List ℕ} {counted : ℕ} {shown : List ℕ} {spot : Spot}
    → AnswersImage b lie image (setup_event setup) n left bytes counted shown spot → AnswersSetup b lie image setup n left bytes counted shown spot
as_setup r = record { leaves = r.leaves; answers = r.answers }

-- ---- the whole transfer: a setup that was answered 0, and the packets of what it handed back, wherever that lies, by any cutter that meets
-- its statement: those below the count put together are the reply, each of them is given, and every later one is refused with 15
pub transfer : {b : Board} {lie : Spots} {image setup : List ℕ} {left bytes : List ℕ} {counted : ℕ} {shown : List ℕ} {spot : Spot}
    → AnswersSetup b lie image setup 0 left bytes counted shown spot
    → (at : Spot) (number : ℕ → ℕ) (packets : ℕ → List ℕ) (place : ℕ → Spot)
    → ((k : ℕ) → k < 4294967296 → CutsPacket (reply bytes counted shown) at (setup_of setup).wLength (packet_size b image) k (number k) (packets k) (place k))
    → (let many = packet_count (length (reply bytes counted shown)) (setup_of setup).wLength (packet_size b image) in
    (flat_map packets (up_to many) ≡ reply bytes counted shown) × ((k : ℕ) → k < many → number k ≡ 0) × ((k : ℕ) → k < 4294967296 → many ≤ k → number k ≡ 15))
transfer {b} {image = image} {setup = setup} {bytes = bytes} {counted} {shown} r at number packets place cuts =
    let can = reply_cuts r refl in
    let small = asked_small r refl in
    let out = reply bytes counted shown in
    let w = (setup_of setup).wLength in (
      together out at w (packet_size b image) number packets place cuts can small,
      within out at w (packet_size b image) number packets place cuts can small,
      beyond out at w (packet_size b image) number packets place cuts can small,
    )
