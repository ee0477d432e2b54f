-- "Interfaces and endpoints other than zero exist only in Configured": elsewhere a record selects no configuration, so it has no interface and no current
-- endpoint. And of a record that fits the configuration value alone says it: outside Configured that is 0, which no configuration has. No axiom.
use Rattle.std.specs.Prelude.{ℕ, ◌≤◌, ◌≡◌, true, false, [], eqb}
use Rattle.std.proofs.Common.{arith, ne_eqb}
use Rattle.std.proofs.Math.Path.{refl}
use Rattle.std.proofs.Math.Option.{none}
use Rattle.octets.specs.Sentences.{any, only, first}
use Rattle.octets.proofs.Sentences.{none_any}
use Rattle.descriptors.specs.Configuration.{has_interface}
use Rattle.sets.specs.Opening.{Board, BytesOf}
use Rattle.sets.specs.View.{View, accepted, by_value, unconfigured}
use Rattle.promises.specs.Sound.{sound}
use Rattle.records.specs.declared.Device.{Device}
use Rattle.records.specs.Device.{fresh, in_configured}
use Rattle.records.specs.Current.{view_at, selected, current_endpoints, endpoint_at}
use Rattle.records.specs.Fits.{fits_on}
use Rattle.records.proofs.Fitting.{value-selects}
use Rattle.promises.specs.Examples.{computed, S}
use Rattle.promises.specs.Inhabited.{accepted_s, bytes_s}

module _ (v : View) (d : Device) (n : d.state ≡ in_configured → ⊥) where
  pub outside_configured : selected v d ≡ unconfigured
  outside_configured = rw (ne_eqb d.state in_configured n)

  -- so nothing is there
  pub nothing_there : ((j : ℕ) → has_interface (selected v d) j ≡ false) × (current_endpoints v d ≡ []) × ((a : ℕ) → endpoint_at v d a ≡ none)
  unfolding any only first
  nothing_there = rw outside_configured (λ j. refl, refl, λ a. refl)

-- in every state, of a record that fits an accepted board
pub value_selects : (b : Board) → BytesOf b → accepted b ≡ true → (d : Device) → fits_on b d ≡ true
    → by_value (record { 0 = d.configuration }) (view_at b d).configurations ≡ selected (view_at b d) d
value_selects b bytes ok d f = value-selects (view_at b d) d
    (none_any (λ c. eqb c.value 0) (view_at b d).configurations (λ c m. ne_eqb c.value 0 (λ p. let l : 1 ≤ c.value = ((sound b bytes ok d.speed).values c m).0 in omega arith))) f

-- ---- inhabited: S, fresh
pub fresh_selects : (selected (view_at S fresh) fresh ≡ unconfigured) × (by_value (record { 0 = fresh.configuration }) (view_at S fresh).configurations ≡ selected (view_at S fresh) fresh)
unfolding computed
fresh_selects = (outside_configured (view_at S fresh) fresh (λ p. omega arith), value_selects S bytes_s accepted_s fresh refl)
