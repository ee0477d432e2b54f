-- What the packets of a reply promise (document 01, "Packets"): put together in order they are the reply, and only the last may be shorter than p.
use Rattle.std.specs.Prelude.{ℕ, zero, suc, ◌+◌, ◌-◌, ◌*◌, ◌/◌, ◌≤◌, ◌<◌, min, ◌≡◌, refl, Bool, true, false, ◌&&◌, length, take, drop, eqb, ltb}
use Rattle.std.proofs.Common.{arith, suc-mul, zero-mul, sym, ap, ◌∙◌, take-append-drop, length-drop, drop_of_length-le, take_all, drop-drop, lt-ltb, eqb-true}
use Rattle.std.proofs.Math.Decide.{dec_le}
use mathlib.Core.List.{List, [], ◌∷◌, map, flat_map}
use Rattle.octets.specs.Octets.{part}
use Rattle.octets.specs.Sentences.{pick, from}
use Rattle.octets.proofs.Sentences.{cases}
use Rattle.packets.specs.Packets.{Packet, packet_count, can_cut, packet_where, packet, packets}
use Rattle.packets.proofs.Sizes.{by_size}
use Rattle.promises.specs.Examples.{computed}

-- the bytes of packets, one after the other
abbrev pub joined : List ℕ → List Packet → List ℕ
joined reply ps = flat_map (λ q. part reply q.offset q.length) ps

-- ---- each packet
below-count : (r w p k : ℕ) → can_cut r w p ≡ true → k < packet_count r w p → packet r w p k ≡ record { number = 0; offset = k * p; length = min p (r - k * p) }
unfolding packet
below-count r w p k h b = rw (h, lt-ltb k (packet_count r w p) b)

-- "at most p long"
pub at_most : (r w p k : ℕ) → (packet r w p k).length ≤ p
unfolding packet
at_most r w p k = go (can_cut r w p && ltb k (packet_count r w p))
  where
    go : (b : Bool) → (packet_where b r p k).length ≤ p
    go true = omega arith
    go false = omega arith

Whole : ℕ → ℕ → ℕ → ℕ → Type 0
Whole r w k p = suc k < packet_count r w p → suc k * p ≤ r

whole-at : (r w k p : ℕ) → (suc k < (r + p - 1) / p → suc k * p ≤ r) → (suc k < r / p + 1 → suc k * p ≤ r) → Whole r w k p
unfolding Whole
whole-at r w k p f g = go (eqb r w)
  where
    go : (b : Bool) → suc k < pick b ((r + p - 1) / p) (r / p + 1) → suc k * p ≤ r
    go true h = f h
    go false h = g h

-- a packet that is not the last is p long
pub all-but-the-last : (r w p k : ℕ) → can_cut r w p ≡ true → suc k < packet_count r w p → (packet r w p k).length ≡ p
unfolding Whole
all-but-the-last r w p k h b =
    let whole = by_size (Whole r w k)
    (whole-at r w k 8 (λ q. omega arith) (λ q. omega arith))
    (whole-at r w k 16 (λ q. omega arith) (λ q. omega arith))
    (whole-at r w k 32 (λ q. omega arith) (λ q. omega arith))
    (whole-at r w k 64 (λ q. omega arith) (λ q. omega arith))
    r w p h b in
    let e : suc k * p ≡ k * p + p = suc-mul k p in
    ap (λ (q : Packet). q.length) (below-count r w p k h (omega arith)) ∙ omega arith

-- a reply shorter than asked ends with a packet shorter than p, so that the host knows its end
Short : ℕ → ℕ → Type 0
Short r p = r - r / p * p < p

pub ends-short : (r w p : ℕ) → can_cut r w p ≡ true → r < w → (packet_count r w p ≡ r / p + 1) × ((packet r w p (r / p)).length < p)
unfolding Short
ends-short r w p h l =
    let n : eqb r w ≡ false = cases (eqb r w) (λ e. let q = eqb-true r w e in absurd (omega arith)) (λ e. e) in
    let c : packet_count r w p ≡ r / p + 1 = rw n in
    let b : r / p < packet_count r w p = omega (arith, c) in
    let s = by_size (Short r) (omega arith) (omega arith) (omega arith) (omega arith) r w p h in
    (c, rw (below-count r w p (r / p) h b) (omega arith))

-- ---- all of them
Covers : ℕ → ℕ → ℕ → Type 0
Covers r w p = r ≤ packet_count r w p * p

covers_at : (r w p : ℕ) → r ≤ (r + p - 1) / p * p → r ≤ (r / p + 1) * p → Covers r w p
unfolding Covers
covers_at r w p f g = go (eqb r w)
  where
    go : (b : Bool) → r ≤ pick b ((r + p - 1) / p) (r / p + 1) * p
    go true = f
    go false = g

covers : (r w p : ℕ) → can_cut r w p ≡ true → Covers r w p
covers r w p h =
    by_size (Covers r w)
    (covers_at r w 8 (omega arith) (omega arith))
    (covers_at r w 16 (omega arith) (omega arith))
    (covers_at r w 32 (omega arith) (omega arith))
    (covers_at r w 64 (omega arith) (omega arith))
    r w p h

-- as much of l as a packet takes
pub least : (p : ℕ) (l : List ℕ) → take (min p (length l)) l ≡ take p l
least p l = go (dec_le p (length l))
  where
    go : Dec (p ≤ length l) → take (min p (length l)) l ≡ take p l
    go (yes h) = let e : min p (length l) ≡ p = omega arith in rw e
    go (no n) =
        let e : min p (length l) ≡ length l = omega arith in
        let m : length l ≤ p = omega arith in
        rw e (take_all (length l) l (omega arith) ∙ sym (take_all p l m))

-- the packets from the k-th on are what is left of the reply there
left-from : (reply : List ℕ) (w p k n : ℕ) → can_cut (length reply) w p ≡ true → k + n ≡ packet_count (length reply) w p
    → joined reply (map (packet (length reply) w p) (from k n)) ≡ drop (k * p) reply
unfolding flat_map from Covers
left-from reply w p k zero h e =
    let q : k ≡ packet_count (length reply) w p = omega arith in
    let c : length reply ≤ k * p = rw q (covers (length reply) w p h) in
    sym (drop_of_length-le reply c)
left-from reply w p k (suc n) h e =
    let q : k * p + p ≡ suc k * p = sym (suc-mul k p) in
    let i = left-from reply w p (suc k) n h (omega arith) in
    let here : packet (length reply) w p k ≡ record { number = 0; offset = k * p; length = min p (length reply - k * p) } = below-count (length reply) w p k h (omega arith) in
    rw (here, ← length-drop (k * p) reply, least p (drop (k * p) reply), i, ← q, ← drop-drop p (k * p) reply) (take-append-drop p (drop (k * p) reply))

-- a reply's packets put together in order are the reply
pub whole-reply : (reply : List ℕ) (w p : ℕ) → can_cut (length reply) w p ≡ true → joined reply (packets (length reply) w p) ≡ reply
whole-reply reply w p h = left-from reply w p 0 (packet_count (length reply) w p) h (omega arith) ∙ rw (zero-mul p)

-- ---- inhabited: 16 bytes at size 8, asked exactly (two packets) and asked longer (a third, empty one)
pub asked-exactly : map (λ q. q.length) (packets 16 16 8) ≡ 8 ∷ 8 ∷ []
unfolding computed
asked-exactly = refl

pub asked-longer : map (λ q. q.length) (packets 16 64 8) ≡ 8 ∷ 8 ∷ 0 ∷ []
unfolding computed
asked-longer = refl

pub joins : joined (1 ∷ 2 ∷ 3 ∷ []) (packets 3 255 64) ≡ 1 ∷ 2 ∷ 3 ∷ []
joins = whole-reply (1 ∷ 2 ∷ 3 ∷ []) 255 64 refl
