-- The packets of a reply, put together: the first ones are its beginning, all of them are the reply, and a reply of at most two bytes is one packet. No axiom.
use Rattle.octets.proofs.Vocabulary.{◌≡◌, refl, sym, ap, ◌∙◌, ℕ, zero, suc, ◌+◌, ◌-◌, ◌*◌, ◌/◌, ◌≤◌, ◌<◌, min, List, [], ◌∷◌, flat_map, map, Bool, true, false, length, take, drop, length-drop, eqb, take_all, take-add, drop-drop, arith, suc-mul, zero-mul, lt-ltb, eqb-true}
use Rattle.octets.specs.Octets.{part}
use Rattle.octets.specs.Sentences.{pick, from, up_to}
use Rattle.packets.specs.Packets.{Packet, packet_count, can_cut, packet}
use Rattle.packets.proofs.Sizes.{by_size}
use Rattle.promises.specs.Packets.{joined, least, whole-reply}
use Rattle.pipe_runs.specs.Packets.{packet_of, packets_of}

-- ---- a packet below the count is the next p bytes, or what is left
module _ (bytes : List ℕ) (w p : ℕ) (can : can_cut (length bytes) w p ≡ true) where
  packet-is : (k : ℕ) → k < packets_of bytes w p → packet_of bytes w p k ≡ take p (drop (k * p) bytes)
  unfolding packet
  packet-is k l =
      let here : packet (length bytes) w p k ≡ record { number = 0; offset = k * p; length = min p (length bytes - k * p) } = rw (can, lt-ltb k (packet_count (length bytes) w p) l) in
      ap (λ (q : Packet). part bytes q.offset q.length) here ∙ rw (← length-drop (k * p) bytes) (least p (drop (k * p) bytes))

  from_on : (k n : ℕ) → k + n ≤ packets_of bytes w p → flat_map (packet_of bytes w p) (from k n) ≡ take (n * p) (drop (k * p) bytes)
  unfolding flat_map from
  from_on k zero h = rw (zero-mul p)
  from_on k (suc n) h =
      let q : k * p + p ≡ suc k * p = sym (suc-mul k p) in
      let s : suc n * p ≡ p + n * p = suc-mul n p ∙ omega arith in
      rw (packet-is k (omega arith), from_on (suc k) n (omega arith), ← q, ← drop-drop p (k * p) bytes, s) (sym (take-add p (n * p) (drop (k * p) bytes)))

  -- the first n packets are the reply's beginning
  pub beginning : (n : ℕ) → n ≤ packets_of bytes w p → flat_map (packet_of bytes w p) (up_to n) ≡ take (n * p) bytes
  beginning n h = from_on 0 n (omega arith) ∙ rw (zero-mul p)

  mapped : (ks : List ℕ) → flat_map (packet_of bytes w p) ks ≡ joined bytes (map (packet (length bytes) w p) ks)
  unfolding flat_map
  mapped [] = refl
  mapped (k ∷ ks) = rw (mapped ks)

  -- all of them are the reply
  pub whole : flat_map (packet_of bytes w p) (up_to (packets_of bytes w p)) ≡ bytes
  whole = mapped (up_to (packets_of bytes w p)) ∙ whole-reply bytes w p can

-- ---- a reply that was asked for has a packet
Some : ℕ → ℕ → ℕ → Type 0
Some r w p = (w ≡ 0 → ⊥) → 0 < packet_count r w p

some_at : (r w p : ℕ) → (1 ≤ r → 0 < (r + p - 1) / p) → 0 < r / p + 1 → (r ≡ w → (w ≡ 0 → ⊥) → 1 ≤ r) → Some r w p
unfolding Some
some_at r w p f g h n = go (eqb r w) refl
  where
    go : (b : Bool) → eqb r w ≡ b → 0 < pick b ((r + p - 1) / p) (r / p + 1)
    go true e = f (h (eqb-true r w e) n)
    go false e = g

pub some-packet : (r w p : ℕ) → can_cut r w p ≡ true → (w ≡ 0 → ⊥) → 0 < packet_count r w p
unfolding Some
some-packet r w p h =
    by_size (Some r w)
    (some_at r w 8 (λ l. omega arith) (omega arith) one)
    (some_at r w 16 (λ l. omega arith) (omega arith) one)
    (some_at r w 32 (λ l. omega arith) (omega arith) one)
    (some_at r w 64 (λ l. omega arith) (omega arith) one)
    r w p h
  where
    one : r ≡ w → (w ≡ 0 → ⊥) → 1 ≤ r
    one e n = omega arith

-- ---- one of at most two bytes is one packet
Wide : ℕ → Type 0
Wide p = 8 ≤ p

pub one-whole : (bytes : List ℕ) (w p : ℕ) → can_cut (length bytes) w p ≡ true → (w ≡ 0 → ⊥) → length bytes ≤ 2 → packet_of bytes w p 0 ≡ bytes
unfolding Wide
one-whole bytes w p can asks short =
    let wide = by_size Wide (omega arith) (omega arith) (omega arith) (omega arith) (length bytes) w p can in
    packet-is bytes w p can 0 (some-packet (length bytes) w p can asks) ∙ rw (zero-mul p) (take_all p bytes (omega arith))
