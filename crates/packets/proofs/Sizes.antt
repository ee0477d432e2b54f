-- What follows from a size of 8, 16, 32 or 64: a packet below the count begins inside the reply. No axiom.
use Rattle.octets.proofs.Vocabulary.{◌≡◌, refl, sym, subst, ℕ, ◌+◌, ◌-◌, ◌*◌, ◌/◌, ◌≤◌, ◌<◌, min, Bool, true, false, ◌&&◌, ◌||◌, false≢true, eqb, leb, ltb, arith, eqb-true, leb-true, ltb-true, lt-ltb}
use Rattle.octets.specs.Sentences.{pick}
use Rattle.packets.specs.Packets.{can_cut, packet_count, packet_where, packet}

-- what holds of the four sizes holds of the size
pub by_size : (P : ℕ → Type 0) → P 8 → P 16 → P 32 → P 64 → (r w p : ℕ) → can_cut r w p ≡ true → P p
by_size P a b c d r w p = go (eqb p 8) refl (eqb p 16) refl (eqb p 32) refl (eqb p 64) refl
  where
    go : (s : Bool) → eqb p 8 ≡ s → (t : Bool) → eqb p 16 ≡ t → (u : Bool) → eqb p 32 ≡ u → (v : Bool) → eqb p 64 ≡ v
        → (s || t || u || v) && leb r w ≡ true → P p
    go true e t f u g v i h = subst P (sym (eqb-true p 8 e)) a
    go false e true f u g v i h = subst P (sym (eqb-true p 16 f)) b
    go false e false f true g v i h = subst P (sym (eqb-true p 32 g)) c
    go false e false f false g true i h = subst P (sym (eqb-true p 64 i)) d
    go false e false f false g false i h = absurd (false≢true h)

pub not-longer : (r w p : ℕ) → can_cut r w p ≡ true → r ≤ w
not-longer r w p = go (eqb p 8 || eqb p 16 || eqb p 32 || eqb p 64)
  where
    go : (s : Bool) → s && leb r w ≡ true → r ≤ w
    go true h = leb-true r w h
    go false h = absurd (false≢true h)

Begins : ℕ → ℕ → ℕ → ℕ → Type 0
Begins r w k p = k < packet_count r w p → k * p ≤ r

begins-at : (r w k p : ℕ) → (k < (r + p - 1) / p → k * p ≤ r) → (k < r / p + 1 → k * p ≤ r) → Begins r w k p
unfolding Begins
begins-at r w k p f g = go (eqb r w)
  where
    go : (b : Bool) → k < pick b ((r + p - 1) / p) (r / p + 1) → k * p ≤ r
    go true h = f h
    go false h = g h

pub begins : (r w p k : ℕ) → can_cut r w p ≡ true → k < packet_count r w p → k * p ≤ r
unfolding Begins
begins r w p k h =
    by_size (Begins r w k)
    (begins-at r w k 8 (λ q. omega arith) (λ q. omega arith))
    (begins-at r w k 16 (λ q. omega arith) (λ q. omega arith))
    (begins-at r w k 32 (λ q. omega arith) (λ q. omega arith))
    (begins-at r w k 64 (λ q. omega arith) (λ q. omega arith))
    r w p h

-- every packet lies inside the reply
pub inside : (r w p k : ℕ) → (packet r w p k).offset + (packet r w p k).length ≤ r
unfolding packet
inside r w p k = go (can_cut r w p) refl (ltb k (packet_count r w p)) refl
  where
    go : (b : Bool) → can_cut r w p ≡ b → (t : Bool) → ltb k (packet_count r w p) ≡ t → (packet_where (b && t) r p k).offset + (packet_where (b && t) r p k).length ≤ r
    go true e true f = let h = begins r w p k e (ltb-true k (packet_count r w p) f) in omega arith
    go true e false f = omega arith
    go false e t f = omega arith

-- what the code makes of a packet below the count, and of every other
pub is-packet : (r w p k l : ℕ) → can_cut r w p ≡ true → k < packet_count r w p → l ≡ min p (r - k * p)
    → record { number = 0; offset = k * p; length = l } ≡ packet r w p k
unfolding packet
is-packet r w p k l h b q = rw (h, lt-ltb k (packet_count r w p) b, q)

pub is-refused : (r w p k : ℕ) → can_cut r w p && ltb k (packet_count r w p) ≡ false → record { number = 15; offset = 0; length = 0 } ≡ packet r w p k
unfolding packet
is-refused r w p k h = rw h
