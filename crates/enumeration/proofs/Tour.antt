-- A host's whole tour: it enumerates, and the configuration that it then has is the one whose body it read; it visits each of its settings in turn. No axiom.
use Rattle.octets.proofs.Vocabulary.{◌≡◌, refl, sym, ap, subst, ◌∙◌, ℕ, ◌<◌, List, [], ◌∷◌, map, List-as-Memᴰ, List·Memᴰ·head, List·Memᴰ·tail, true, not, false≢true, Option, some, none, ◌⊎◌, inl, inr, eqb, eqb-true, eqb-false, eq-eqb, ne_eqb, not-true}
use Rattle.octets.specs.Sentences.{first, is_some}
use Rattle.octets.proofs.Sentences.{member-any, first_any, first_some, pairs-members}
use Rattle.descriptors.specs.declared.Setting.{Setting}
use Rattle.descriptors.specs.Configuration.{Configuration, configuration_of, bConfigurationValue}
use Rattle.sets.specs.Contents.{bodies}
use Rattle.sets.specs.Device.{device_body, bNumConfigurations}
use Rattle.sets.specs.Opening.{Board, BytesOf, distinct_values}
use Rattle.sets.specs.View.{accepted, or_none, by_value, view_of}
use Rattle.sets.proofs.Bodies.{mapped}
use Rattle.sets.proofs.Groups.{each-rule}
use Rattle.set_writer.proofs.Accepted.{mapping}
use Rattle.records.specs.declared.Device.{Device}
use Rattle.records.specs.Device.{in_configured}
use Rattle.records.specs.Current.{set_for, view_for, view_at, selected}
use Rattle.records.proofs.InUse.{row_for}
use Rattle.enumeration.specs.Script.{Plays, Ready}
use Rattle.enumeration.specs.Bodies.{configuration_body}
use Rattle.enumeration.specs.Enumeration.{enumeration}
use Rattle.enumeration.specs.Works.{selecting, after_selecting, visiting, after_visiting, Tours}
use Rattle.enumeration.proofs.Found.{rules, configuration_entry}
use Rattle.enumeration.proofs.Playing.{played, append}
use Rattle.enumeration.proofs.Enumerates.{enumerates, enumerated_ready}
use Rattle.enumeration.proofs.Settings.{every_setting, selecting_ready}

-- ---- from every record in Configured that fits and is in no test mode; no setting changes which configuration is selected
visits : (b : Board) → BytesOf b → accepted b ≡ true → {d : Device} → Ready b d → d.state ≡ in_configured
    → (ss : List Setting) → ((s : Setting) → List-as-Memᴰ s ss → List-as-Memᴰ s (selected (view_at b d) d).settings) → Plays b d (visiting ss) (after_visiting b d ss)
visits b octets ok {d} r c [] all = played
visits b octets ok {d} r c (s ∷ ss) all =
    let m = all s (List·Memᴰ·head refl) in
    append (selecting s) (every_setting b octets ok d r c s m).plays
    (visits b octets ok {d = after_selecting b d s} (selecting_ready b octets ok r c s m) c ss (λ t n. all t (List·Memᴰ·tail n)))

module _ (b : Board) (octets : BytesOf b) (ok : accepted b ≡ true) (speed : ℕ) (i : ℕ) (there : i < bNumConfigurations (device_body (set_for b speed))) where
  abbrev set : List ℕ
  set = set_for b speed

  abbrev body : List ℕ
  body = configuration_body set i

  distinct-turn : (x y : List ℕ) → distinct_values x y ≡ true → distinct_values y x ≡ true
  distinct-turn x y p = ap not (ne_eqb (bConfigurationValue y) (bConfigurationValue x) (λ z. eqb-false (bConfigurationValue x) (bConfigurationValue y) (not-true _ p) (sym z)))

  -- the configuration with the value of a body is that body's: values are distinct
  by_its_value : by_value (record { 0 = bConfigurationValue body }) (view_for b speed).configurations ≡ configuration_of body
  unfolding view_of configuration_of
  by_its_value = go (first (λ (c : Configuration). eqb c.value (bConfigurationValue body)) (map configuration_of (bodies 2 set))) refl
    where
      here : List-as-Memᴰ body (bodies 2 set)
      here = (configuration_entry b ok speed i there).listed

      go : (o : Option Configuration) → first (λ (c : Configuration). eqb c.value (bConfigurationValue body)) (map configuration_of (bodies 2 set)) ≡ o → or_none o ≡ configuration_of body
      go none e = absurd (false≢true (ap is_some (sym e) ∙ first_any (λ (c : Configuration). eqb c.value (bConfigurationValue body)) (map configuration_of (bodies 2 set))
          ∙ member-any (λ (c : Configuration). eqb c.value (bConfigurationValue body)) (mapping configuration_of here) (eq-eqb (bConfigurationValue body) (bConfigurationValue body) refl)))
      go (some c) e =
          let (m, v) = first_some (λ (c : Configuration). eqb c.value (bConfigurationValue body)) (map configuration_of (bodies 2 set)) e in
          let (x, n, q) = mapped configuration_of (bodies 2 set) m in
          let w : bConfigurationValue x ≡ bConfigurationValue body = ap (λ (k : Configuration). k.value) (sym q) ∙ eqb-true c.value (bConfigurationValue body) v in
          q ∙ ap configuration_of (same x w (pairs-members distinct_values distinct-turn (bodies 2 set) (each-rule (row_for b.high speed) set (rules b ok speed).configurations).distinct n here))
        where
          same : (x : List ℕ) → bConfigurationValue x ≡ bConfigurationValue body → (x ≡ body) ⊎ (distinct_values x body ≡ true) → x ≡ body
          same x w (inl p) = p
          same x w (inr p) = absurd (eqb-false (bConfigurationValue x) (bConfigurationValue body) (not-true _ p) w)

-- ---- the whole tour
pub tours : Tours
tours b octets ok d r speed good a low high i there =
    let body = configuration_body (set_for b speed) i in
    append (enumeration b speed a i) (enumerates b octets ok d r speed good a low high i there)
    (visits b octets ok (enumerated_ready b octets ok d r speed good a low high i there) refl (configuration_of body).settings
    (λ s m. subst (λ (c : Configuration). List-as-Memᴰ s c.settings) (sym (by_its_value b octets ok speed i there)) m))
