-- What a search of the table tells, and what `refusal` is then. No axiom.
use Rattle.std.specs.Prelude.{Some, None}
use Rattle.octets.proofs.Vocabulary.{◌≡◌, refl, ℕ, true, false, Option as Maybe, some, none, arith}
use Rattle.octets.specs.Sentences.{pick}
use Rattle.requests.specs.declared.Setup.{Setup}
use Rattle.requests.specs.declared.Row.{Row}
use Rattle.requests.specs.Table.{row_of, in_state, fields_fit, refusal}
use Rattle.requests.specs.Found.{found_of}

pub is_some : (o : Maybe Row) {r : Row} → found_of o ≡ Some r → o ≡ some r
is_some none p = let z : ◌≡◌ {A = ℕ} 0 1 = cc in absurd (omega arith)
is_some (some row) p = cc

pub is_none : (o : Maybe Row) → found_of o ≡ None → o ≡ none
is_none none p = refl
is_none (some row) p = let z : ◌≡◌ {A = ℕ} 0 1 = cc in absurd (omega arith)

-- 10, 11, 12 or 0
module _ (state : ℕ) (s : Setup) where
  pub without-row : row_of s ≡ none → refusal state s ≡ 10
  unfolding refusal
  without-row p = rw p

  module _ {r : Row} (p : row_of s ≡ some r) where
    pub by_row : refusal state s ≡ pick (in_state r state) (pick (fields_fit r s) 0 12) 11
    unfolding refusal
    by_row = rw p

    pub wrong-state : in_state r state ≡ false → refusal state s ≡ 11
    wrong-state q = rw (by_row, q)

    pub wrong-field : in_state r state ≡ true → fields_fit r s ≡ false → refusal state s ≡ 12
    wrong-field q t = rw (by_row, q, t)

    pub no-refusal : in_state r state ≡ true → fields_fit r s ≡ true → refusal state s ≡ 0
    no-refusal q t = rw (by_row, q, t)
