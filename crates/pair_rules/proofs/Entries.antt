-- The entries of types 6 and 7, asked rule by rule: the one that was found, those beside the configurations that are left, and the end. No axiom.
use Rattle.std.specs.Prelude.{Option, Some, None}
use Rattle.octets.proofs.Vocabulary.{◌≡◌, refl, sym, ◌∙◌, ℕ, zero, suc, ◌+◌, ◌*◌, List, [], ◌∷◌, false, length, drop, get_elem?, leb, arith, eq-eqb, ne_eqb, lt-leb, le-leb, leb-true}
use Rattle.octets.specs.Sentences.{is_empty}
use Rattle.octets.proofs.Sentences.{same_test}
use Rattle.sets.specs.declared.Entry.{Entry}
use Rattle.sets.specs.Contents.{body_of}
use Rattle.sets.specs.Found.{found}
use Rattle.sets.proofs.Devices.{at_same, at-missing}
use Rattle.rules.specs.declared.Fault.{Fault}
use Rattle.rules.specs.Findings.{asked, byte_at}
use Rattle.rules.specs.Device.{behind_strings}
use Rattle.rules.specs.After.{after}
use Rattle.rules.proofs.After.{or_broken, after-append}
use Rattle.rules.proofs.Entries.{next-at}
use Rattle.pair_rules.specs.Pair.{qualifier_findings, qualifier_entry_findings, mirror_findings, beside_findings, later, mirrors_from}

-- ---- type 6
pub qualifier-found : (set device : List ℕ) (es : List Entry) {e : Entry} → found (get_elem? es 0) ≡ Some e
    → qualifier_entry_findings set device es ≡ (asked 2401 (byte_at 0 (behind_strings set) 8) (leb (length es) 1) ∷ qualifier_findings set device (behind_strings set) e)
qualifier-found set device [] p = at-missing (sym p)
qualifier-found set device (d ∷ []) p = rw (at_same p)
qualifier-found set device (d ∷ x ∷ xs) p = rw (← at_same p, lt-leb (length (d ∷ x ∷ xs)) 1 (omega arith))

-- ---- type 7: the k-th configuration, as it is looked up
module _ (set other : List ℕ) (at : ℕ) (e : Entry) where
  pub beside-found : (fs : List Entry) (k : ℕ) {f : Entry} → found (get_elem? fs k) ≡ Some f → beside_findings set other at e (drop k fs) ≡ mirror_findings set at e f (body_of other f)
  beside-found [] zero p = at-missing (sym p)
  beside-found [] (suc k) p = at-missing (sym p)
  beside-found (f ∷ fs) zero p = rw (at_same p)
  beside-found (f ∷ fs) (suc k) p = beside-found fs k p

  pub beside-missing : (fs : List Entry) (k : ℕ) → found (get_elem? fs k) ≡ None → beside_findings set other at e (drop k fs) ≡ (asked 2406 (byte_at 0 at 0) false ∷ [])
  beside-missing [] zero p = refl
  beside-missing [] (suc k) p = refl
  beside-missing (f ∷ fs) zero p = at-missing p
  beside-missing (f ∷ fs) (suc k) p = beside-missing fs k p

later-drop : (fs : List Entry) (k : ℕ) → later (drop k fs) ≡ drop (k + 1) fs
later-drop [] zero = refl
later-drop [] (suc k) = let e : suc k + 1 ≡ suc (k + 1) = omega arith in rw e
later-drop (f ∷ fs) zero = refl
later-drop (f ∷ fs) (suc k) = let e : suc k + 1 ≡ suc (k + 1) = omega arith in rw e (later-drop fs k)

none_left : (fs : List Entry) (k : ℕ) → is_empty (drop k fs) ≡ leb (length fs) k
none_left [] zero = refl
none_left [] (suc k) = sym (le-leb 0 (suc k) (omega arith))
none_left (f ∷ fs) zero = sym (lt-leb (length (f ∷ fs)) 0 (omega arith))
none_left (f ∷ fs) (suc k) =
    let n = length fs in
    none_left fs k
    ∙ same_test (leb n k) (leb (suc n) (suc k)) (λ p. let h = leb-true n k p in le-leb (suc n) (suc k) (omega arith))
    (λ p. let h = leb-true (suc n) (suc k) p in le-leb n k (omega arith))

-- a turn of the loop over the entries, one that is passed by, and the end
module _ (set other : List ℕ) (i k : ℕ) (fs : List Entry) (f : Option Fault) where
  pub mirrors-in : (e : Entry) (es : List Entry) → e.kind ≡ 7 → {g : Option Fault} → g ≡ after f (beside_findings set other (4 + 8 * i) e (drop k fs))
      → after f (mirrors_from set other (4 + 8 * i) (drop k fs) (e ∷ es)) ≡ after g (mirrors_from set other (4 + 8 * (i + 1)) (drop (k + 1) fs) es)
  unfolding mirrors_from
  mirrors-in e es t p =
      rw (eq-eqb e.kind 7 t) (after-append f (beside_findings set other (4 + 8 * i) e (drop k fs)) _ ∙ rw (p, next-at i, later-drop fs k))

  pub mirrors-past : (e : Entry) (es : List Entry) → (e.kind ≡ 7 → ⊥)
      → after f (mirrors_from set other (4 + 8 * i) (drop k fs) (e ∷ es)) ≡ after f (mirrors_from set other (4 + 8 * (i + 1)) (drop k fs) es)
  unfolding mirrors_from
  mirrors-past e es t = rw (ne_eqb e.kind 7 t, next-at i)

  pub mirrors-end : {n : ℕ} → i ≡ n → after f (mirrors_from set other (4 + 8 * i) (drop k fs) []) ≡ or_broken f (asked 2406 (byte_at 0 (4 + 8 * n) 0) (leb (length fs) k))
  unfolding mirrors_from after
  mirrors-end p = rw (p, none_left fs k)
