-- The table's states are document 01's sentence: "Default allows 05 and 06. Address allows all but 0A and 0B. Configured allows all but 05."
-- Computed over the table, and so of each setup that has a row. No axiom.
use Rattle.octets.proofs.Vocabulary.{◌≡◌, refl, ap, ◌∙◌, ℕ, Bool, true, false, ◌&&◌, ◌||◌, not, Bool·beq, false≢true, some, eqb, eqb-true}
use Rattle.octets.specs.Sentences.{every}
use Rattle.octets.proofs.Sentences.{both, every-member, first_some}
use Rattle.requests.specs.declared.Setup.{Setup}
use Rattle.requests.specs.declared.Row.{Row}
use Rattle.requests.specs.Table.{request_table, row_of, in_state}

abbrev pub allowed_in_default : ℕ → Bool
allowed_in_default code = eqb code 0x05 || eqb code 0x06

abbrev pub allowed_in_address : ℕ → Bool
allowed_in_address code = not (eqb code 0x0A) && not (eqb code 0x0B)

abbrev pub allowed_in_configured : ℕ → Bool
allowed_in_configured code = not (eqb code 0x05)

equal : (a b : Bool) → Bool·beq a b ≡ true → a ≡ b
equal true true p = refl
equal true false p = absurd (false≢true p)
equal false true p = absurd (false≢true p)
equal false false p = refl

-- whether a row's interval has a state exactly when its code is allowed there
abbrev agrees : ℕ → (ℕ → Bool) → Row → Bool
agrees state allowed r = Bool·beq (in_state r state) (allowed r.bRequest)

module _ (s : Setup) {r : Row} (p : row_of s ≡ some r) where
  same_code : r.bRequest ≡ s.bRequest
  same_code = eqb-true _ _ (both (eqb r.bmRequestType s.bmRequestType) (eqb r.bRequest s.bRequest) (first_some _ request_table p).1).1

  by-table : (state : ℕ) (allowed : ℕ → Bool) → every (agrees state allowed) request_table ≡ true → in_state r state ≡ allowed s.bRequest
  by-table state allowed q = equal _ _ (every-member (agrees state allowed) q (first_some _ request_table p).0) ∙ ap allowed same_code

  pub in-default : in_state r 0 ≡ allowed_in_default s.bRequest
  unfolding every
  in-default = by-table 0 allowed_in_default refl

  pub in-address : in_state r 1 ≡ allowed_in_address s.bRequest
  unfolding every
  in-address = by-table 1 allowed_in_address refl

  pub in-configured : in_state r 2 ≡ allowed_in_configured s.bRequest
  unfolding every
  in-configured = by-table 2 allowed_in_configured refl
