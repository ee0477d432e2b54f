-- What the table's row tells of a setup that it does not refuse. No axiom.
use Rattle.octets.proofs.Vocabulary.{◌≡◌, refl, ap, ◌∙◌, ℕ, ◌<◌, [], ◌∷◌, Bool, true, false, ◌&&◌, Option, some, none, eqb, leb, arith, eqb-true, leb-true}
use Rattle.octets.specs.Sentences.{pick, ◌⇒◌, every}
use Rattle.octets.proofs.Sentences.{cases, never, both, conjunct, if-then, every-member, first_some}
use Rattle.records.specs.declared.Device.{Device}
use Rattle.requests.specs.declared.Setup.{Setup}
use Rattle.requests.specs.declared.Row.{Row}
use Rattle.events.specs.Requests.{names_test_mode}
use Rattle.events.specs.Step.{asks_test_mode, refusal_for}
use Rattle.events.specs.Facts.{takes_byte}
use Rattle.requests.specs.Table.{request_table, row_of, in_state, largest_index, fields_fit, refusal_at, refusal}

-- the rows of SET_ADDRESS and SET_CONFIGURATION ask for a wValue of one byte
bytes : every (λ r. takes_byte r.bRequest ⇒ leb r.value 255) request_table ≡ true
unfolding every
bytes = refl

fitting : (t f : Bool) → ◌≡◌ {A = ℕ} (pick t (pick f 0 12) 11) 0 → f ≡ true
fitting true true p = refl
fitting true false p = absurd (omega arith)
fitting false f p = absurd (omega arith)

pub one_byte : (state : ℕ) (s : Setup) → refusal state s ≡ 0 → takes_byte s.bRequest ≡ true → s.wValue < 256
unfolding refusal
one_byte state s p q = go (row_of s) refl p
  where
    go : (o : Option Row) → row_of s ≡ o → refusal_at o state s ≡ 0 → s.wValue < 256
    go none e p = absurd (omega arith)
    go (some r) e p =
        let (m, t) = first_some (λ r. eqb r.bmRequestType s.bmRequestType && eqb r.bRequest s.bRequest) request_table e in
        let same = eqb-true r.bRequest s.bRequest (both (eqb r.bmRequestType s.bmRequestType) (eqb r.bRequest s.bRequest) t).1 in
        let asked = if-then (takes_byte r.bRequest) (leb r.value 255) (every-member (λ r. takes_byte r.bRequest ⇒ leb r.value 255) bytes m) (ap takes_byte same ∙ q) in
        let fits = conjunct 0 (leb s.wValue r.value ∷ leb s.wIndex (largest_index r s.wValue) ∷ leb r.shortest s.wLength ∷ leb s.wLength r.longest ∷ []) (fitting (in_state r state) (fields_fit r s) p) in
        omega (arith, leb-true s.wValue r.value fits, leb-true r.value 255 asked)

-- the setup of the test mode is neither's
pub one_byte_for : (paired : Bool) (d : Device) (s : Setup) → refusal_for paired d s ≡ 0 → takes_byte s.bRequest ≡ true → s.wValue < 256
one_byte_for paired d s p q = cases (asks_test_mode paired s)
    (λ t. never q (ap takes_byte (eqb-true s.bRequest 3 (both (names_test_mode paired s && eqb s.bmRequestType 0x00) (eqb s.bRequest 0x03) t).1)))
    (λ t. one_byte d.state s (rw t at p) q)
