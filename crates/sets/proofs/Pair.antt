-- What the opening of a pair tells: both sets open, each by its row, and they agree both ways. No axiom.
use Rattle.octets.proofs.Vocabulary.{◌≡◌, refl, ℕ, List, Bool, true, false, eqb, arith, eqb-true, eqb-false}
use Rattle.octets.specs.Sentences.{pick}
use Rattle.octets.proofs.Sentences.{both, cases}
use Rattle.descriptors.specs.Limits.{paired_full, high_speed}
use Rattle.sets.specs.Opening.{lent, opening}
use Rattle.sets.specs.Pair.{agrees, or_else, opening_two}

pub record Opened (full high serial : List ℕ) : Type 0 where
  pub slow : opening paired_full (lent full serial) ≡ 0
  pub fast : opening high_speed (lent high serial) ≡ 0
  pub here : agrees full high ≡ true
  pub there : agrees high full ≡ true

both_zero : (n m : ℕ) → or_else n m ≡ 0 → (n ≡ 0) × (m ≡ 0)
both_zero n m p = cases (eqb n 0) (λ q. (eqb-true n 0 q, rw q at p)) (λ q. absurd (eqb-false n 0 q (rw q at p)))

picked : (b : Bool) → ◌≡◌ {A = ℕ} (pick b 0 24) 0 → b ≡ true
picked true p = refl
picked false p = absurd (omega arith)

pub opened : (full high serial : List ℕ) → opening_two full high serial ≡ 0 → Opened full high serial
unfolding opening_two
opened full high serial p =
    let (a, q) = both_zero (opening paired_full (lent full serial)) _ p in
    let (b, r) = both_zero (opening high_speed (lent high serial)) _ q in
    let (c, d) = both (agrees full high) (agrees high full) (picked _ r) in
    record { slow = a; fast = b; here = c; there = d }
