-- The row that lets a setup through, and the recipients of the table's requests: 05, 06, 08 and 09 are a device's, 00, 01 and 03 anybody's, 0A and 0B an interface's. No axiom.
use Rattle.octets.proofs.Vocabulary.{◌≡◌, refl, sym, ap, ◌∙◌, ℕ, ◌%◌, ◌≤◌, List-as-Memᴰ, Bool, true, false, ◌&&◌, ◌||◌, false≢true, Option, some, none, eqb, leb, arith, eqb-true, eq-eqb, leb-true}
use Rattle.octets.specs.Sentences.{pick, ◌⇒◌, every}
use Rattle.octets.proofs.Sentences.{cases, never, both, if-then, first_some, every-member}
use Rattle.requests.specs.declared.Setup.{Setup}
use Rattle.requests.specs.declared.Row.{Row}
use Rattle.requests.specs.Table.{recipient, request_table, row_of, in_state, fields_fit, refusal_at, refusal}
use Rattle.records.specs.declared.Device.{Device}
use Rattle.events.specs.Requests.{names_test_mode}
use Rattle.events.specs.Step.{asks_test_mode, test_mode_in_state, test_mode_fits, refusal_for}

-- the row that let a setup through
pub let_through : (state : ℕ) (s : Setup) → refusal state s ≡ 0
    → (r : Row) × List-as-Memᴰ r request_table × (r.bmRequestType ≡ s.bmRequestType) × (r.bRequest ≡ s.bRequest) × (in_state r state ≡ true) × (fields_fit r s ≡ true)
unfolding refusal
let_through state s p = go (row_of s) refl p
  where
    passed : (a b : Bool) → pick {A = ℕ} a (pick b 0 12) 11 ≡ 0 → (a ≡ true) × (b ≡ true)
    passed true true e = (refl, refl)
    passed true false e = absurd (omega arith)
    passed false b e = absurd (omega arith)

    go : (o : Option Row) → row_of s ≡ o → refusal_at o state s ≡ 0
        → (r : Row) × List-as-Memᴰ r request_table × (r.bmRequestType ≡ s.bmRequestType) × (r.bRequest ≡ s.bRequest) × (in_state r state ≡ true) × (fields_fit r s ≡ true)
    go none q n = absurd (omega arith)
    go (some r) q n =
        let (m, e) = first_some (λ x. eqb x.bmRequestType s.bmRequestType && eqb x.bRequest s.bRequest) request_table q in
        let (k, c) = both (eqb r.bmRequestType s.bmRequestType) (eqb r.bRequest s.bRequest) e in
        let (i, h) = passed (in_state r state) (fields_fit r s) n in
        (r, m, eqb-true r.bmRequestType s.bmRequestType k, eqb-true r.bRequest s.bRequest c, i, h)

-- what holds of every row's type and code holds of a setup that the table does not refuse
tabled : (P : ℕ → ℕ → Bool) → every (λ r. P r.bmRequestType r.bRequest) request_table ≡ true
    → (state : ℕ) (s : Setup) → refusal state s ≡ 0 → P s.bmRequestType s.bRequest ≡ true
tabled P all state s p =
    let (r, m, k, c, i, h) = let_through state s p in
    sym (ap (λ x. P x r.bRequest) k ∙ ap (P s.bmRequestType) c) ∙ every-member (λ x. P x.bmRequestType x.bRequest) all m

-- the requests of a device alone; those of a device, an interface or an endpoint; the others are an interface's
abbrev pub of_device : ℕ → Bool
of_device code = eqb code 5 || eqb code 6 || eqb code 8 || eqb code 9

abbrev pub of_any : ℕ → Bool
of_any code = eqb code 0 || eqb code 1 || eqb code 3

abbrev in_table : ℕ → ℕ → Bool
in_table kind code = leb (kind % 32) 2 && (of_device code ⇒ eqb (kind % 32) 0) && (of_device code || of_any code || eqb (kind % 32) 1)

pub record Tabled (s : Setup) : Type 0 where
  pub known : recipient s ≤ 2
  pub alone : of_device s.bRequest ≡ true → recipient s ≡ 0
  pub other : of_device s.bRequest ≡ false → of_any s.bRequest ≡ false → recipient s ≡ 1

table_fits : (state : ℕ) (s : Setup) → refusal state s ≡ 0 → Tabled s
unfolding every
table_fits state s p =
    let f = tabled in_table refl state s p in
    let (g, c) = both (leb (recipient s) 2 && (of_device s.bRequest ⇒ eqb (recipient s) 0)) _ f in
    let (a, b) = both (leb (recipient s) 2) (of_device s.bRequest ⇒ eqb (recipient s) 0) g in
    record {
      known = leb-true _ _ a;
      alone = λ q. eqb-true _ _ (if-then (of_device s.bRequest) (eqb (recipient s) 0) b q);
      other = λ q r. eqb-true _ _ (rw (q, r) at c);
    }

-- ---- the setup of the test mode, which the table does not judge
pub test-code : (paired : Bool) (s : Setup) → asks_test_mode paired s ≡ true → (s.bmRequestType ≡ 0x00) × (s.bRequest ≡ 0x03)
test-code paired s t =
    let (k, c) = both (names_test_mode paired s && eqb s.bmRequestType 0x00) (eqb s.bRequest 0x03) t in
    (eqb-true _ _ (both (names_test_mode paired s) (eqb s.bmRequestType 0x00) k).1, eqb-true _ _ c)

-- any other setup that is not refused is let through by the table
pub table-judges : (paired : Bool) (d : Device) (s : Setup) {code : ℕ} → s.bRequest ≡ code → eqb code 0x03 ≡ false → refusal_for paired d s ≡ 0 → refusal d.state s ≡ 0
table-judges paired d s c n p = cases (asks_test_mode paired s) (λ t. never (eq-eqb _ 0x03 (sym c ∙ (test-code paired s t).1)) n) (λ t. rw t at p)

-- its refusals are among the table's
pub refusal-of : (P : ℕ → Type 0) (paired : Bool) (d : Device) (s : Setup) → P 0 → P 11 → P 12 → P (refusal d.state s) → P (refusal_for paired d s)
refusal-of P paired d s zero eleven twelve other = cases (asks_test_mode paired s)
    (λ t. rw t (cases (test_mode_in_state d) (λ q. rw q (cases (test_mode_fits s) (λ r. rw r zero) (λ r. rw r twelve))) (λ q. rw q eleven)))
    (λ t. rw t other)

pub table-passes : (paired : Bool) (d : Device) (s : Setup) → refusal_for paired d s ≡ 0 → Tabled s
table-passes paired d s p = cases (asks_test_mode paired s)
    (λ t. let (k, c) = test-code paired s t in record {
      known = rw k (omega arith);
      alone = λ q. rw k refl;
      other = λ q r. absurd (false≢true (sym (rw c at r)));
    })
    (λ t. table_fits d.state s (rw t at p))
