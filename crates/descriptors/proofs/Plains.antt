-- Descriptors of types that no walk looks at: what a walk knows before one of them, it knows behind it. No axiom.
use Rattle.octets.proofs.Vocabulary.{◌≡◌, refl, ap, ◌∙◌, ℕ, ◌+◌, ◌-◌, ◌≤◌, ◌<◌, List, false, length, take, drop, get_or-take, get_or-drop, arith, add_comm, ne_eqb}
use Rattle.octets.specs.Octets.{byte}
use Rattle.descriptors.specs.Descriptor.{is_interface, is_endpoint}
use Rattle.descriptors.specs.Walk.{Plain, Plains, nothing, onward}
use Rattle.descriptors.proofs.Walks.{spanned}

module _ {body : List ℕ} {from : ℕ} where
  -- what holds at the first of them, and behind each if it holds before it, holds behind the last
  pub plains-through : (P : ℕ → Type 0) → ((r : ℕ) → Plain body r → P r → P (r + byte body r)) → {r : ℕ} → Plains body from r → P from → P r
  plains-through P f nothing p = p
  plains-through P f (onward {r = r} ds d) p = f r d (plains-through P f ds p)

  pub plains-on : {r : ℕ} → Plains body from r → from ≤ r
  plains-on ds = plains-through (λ r. from ≤ r) (λ r d p. omega arith) ds (omega arith)

  pub plains-after : {r s : ℕ} → Plains body from r → Plains body r s → Plains body from s
  plains-after ds nothing = ds
  plains-after ds (onward es e) = onward (plains-after ds es) e

-- ---- the types by themselves: the slice from the second byte on
pub kind-behind : (body : List ℕ) (k : ℕ) → k + 1 < length body → byte (take (length body - 1) (drop 1 body)) k ≡ byte body (k + 1)
kind-behind body k l = get_or-take (length body - 1) (drop 1 body) k 0 (omega arith) ∙ get_or-drop 1 body k 0 ∙ ap (byte body) (add_comm 1 k)

-- one whose length and type were read
pub plain-at : (body : List ℕ) {at : ℕ} → at < length body - 1 → 2 ≤ byte body at → 8 ≤ byte (take (length body - 1) (drop 1 body)) at → Plain body at
plain-at body {at} l two plain = let inside : at + 1 < length body = omega arith in record { inside = inside; two = two; plain = rw (← kind-behind body at inside) plain }

-- ---- the type of a descriptor
type-here : (body : List ℕ) (at end : ℕ) → end ≡ at + byte body at → 2 ≤ byte body at → byte (spanned body at end) 1 ≡ byte body (at + 1)
type-here body at end e two = get_or-take (end - at) (drop at body) 1 0 (omega arith) ∙ get_or-drop at body 1 0

-- it is no interface's and no endpoint's
module _ (body : List ℕ) (r : ℕ) (d : Plain body r) where
  pub plain-kind : byte (spanned body r (r + byte body r)) 1 ≡ byte body (r + 1)
  plain-kind = type-here body r (r + byte body r) refl d.two

  pub no-interface : is_interface (spanned body r (r + byte body r)) ≡ false
  no-interface = rw plain-kind (ne_eqb (byte body (r + 1)) 4 (λ e. omega (arith, d.plain)))

  pub no-endpoint : is_endpoint (spanned body r (r + byte body r)) ≡ false
  no-endpoint = rw plain-kind (ne_eqb (byte body (r + 1)) 5 (λ e. omega (arith, d.plain)))
