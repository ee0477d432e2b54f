-- The bits of endpoints in a word: which are set, what clearing them leaves, and whether a word stands at them alone. No axiom.
use Rattle.octets.proofs.Vocabulary.{◌≡◌, refl, sym, ap, ◌∙◌, ℕ, ◌^◌, ◌<◌, ◌≤◌, List, [], ◌∷◌, Bool, true, false, ◌&&◌, ◌||◌, not, or_assoc, or-false, and-true, eqb, arith}
use Rattle.octets.specs.Bit.{bit, set_bit, clear_bit}
use Rattle.octets.specs.Sentences.{any, only, below, ◌⇒◌}
use Rattle.octets.proofs.Sentences.{below_alike, any-only}
use Rattle.octets.proofs.Bits.{bit-zero, ext-bits}
use Rattle.octets.proofs.Words.{set-digit, clear-digit}
use Rattle.descriptors.specs.declared.Endpoint.{Endpoint}
use Rattle.descriptors.specs.Configuration.{can_halt, bit_of, cleared}
use Rattle.descriptors.specs.Lookup.{bits_from, bits_of}

-- ---- the bits of endpoints
abbrev pub at_bit : ℕ → Endpoint → Bool
at_bit k e = eqb (bit_of e.address) k

from-digit : (w : ℕ) (es : List Endpoint) (k : ℕ) → bit (bits_from w es) k ≡ (bit w k || any (at_bit k) es)
unfolding bits_from any
from-digit w [] k = sym (or-false (bit w k))
from-digit w (e ∷ es) k =
    from-digit (set_bit w (bit_of e.address)) es k ∙ ap (λ (b : Bool). b || any (at_bit k) es) (set-digit w (bit_of e.address) k) ∙
    or_assoc (bit w k) (at_bit k e) (any (at_bit k) es)

pub bits-digit : (es : List Endpoint) (k : ℕ) → bit (bits_of es) k ≡ any (at_bit k) es
bits-digit es k = from-digit 0 es k ∙ ap (λ (b : Bool). b || any (at_bit k) es) (bit-zero k)

pub cleared-digit : (es : List Endpoint) (w k : ℕ) → bit (cleared es w) k ≡ (bit w k && not (any (at_bit k) es))
unfolding cleared any
cleared-digit [] w k = sym (and-true (bit w k))
cleared-digit (e ∷ es) w k =
    cleared-digit es (clear_bit w (bit_of e.address)) k ∙ ap (λ (b : Bool). b && not (any (at_bit k) es)) (clear-digit w (bit_of e.address) k) ∙
    neither (bit w k) (at_bit k e) (any (at_bit k) es)
  where
    neither : (a b c : Bool) → (a && not b && not c) ≡ (a && not (b || c))
    neither true true c = refl
    neither true false c = refl
    neither false b c = refl

cleared-le : (es : List Endpoint) (w : ℕ) → cleared es w ≤ w
unfolding cleared
cleared-le [] w = omega arith
cleared-le (e ∷ es) w = let l = cleared-le es (clear_bit w (bit_of e.address)) in less (bit w (bit_of e.address)) refl l
  where
    less : (b : Bool) → bit w (bit_of e.address) ≡ b → cleared es (clear_bit w (bit_of e.address)) ≤ clear_bit w (bit_of e.address) → cleared es (clear_bit w (bit_of e.address)) ≤ w
    less true p l = rw p (let m = rw p at l in omega arith)
    less false p l = rw p (rw p at l)

module _ (es : List Endpoint) (w m r : ℕ) (lw : w < 2 ^ 32) (lr : r < 2 ^ 32) (e : m ≡ bits_of es) where
  -- a word without the bits of endpoints is the word with those bits cleared, one after another
  pub clears : ((k : ℕ) → k < 32 → bit r k ≡ (bit w k && not (bit m k))) → r ≡ cleared es w
  clears h =
      let n = cleared-le es w in
      ext-bits 32 r (cleared es w) lr (omega arith)
      (λ k l. h k l ∙ ap (λ (b : Bool). bit w k && not b) (ap (λ (x : ℕ). bit x k) e ∙ bits-digit es k) ∙ sym (cleared-digit es w k))

-- a word within the bits of the endpoints that can halt stands at such endpoints alone
pub stands : (es : List Endpoint) (w : ℕ)
    → below 32 (λ k. bit w k ⇒ bit (bits_of (only can_halt es)) k) ≡ below 32 (λ k. bit w k ⇒ any (λ e. can_halt e && at_bit k e) es)
stands es w = below_alike (λ k. bit w k ⇒ bit (bits_of (only can_halt es)) k) (λ k. bit w k ⇒ any (λ e. can_halt e && at_bit k e) es) 32
    (λ k h. ap (λ (b : Bool). bit w k ⇒ b) (bits-digit (only can_halt es) k ∙ any-only (at_bit k) can_halt es))
