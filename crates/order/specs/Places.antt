-- Another order, said by places: the event at place i of xs stands at place `to i` of ys, each place of ys is taken once, and two events
-- of one owner keep their order.
use Rattle.std.specs.Prelude.{ℕ, ◌<◌, ◌≡◌, List}
use Rattle.std.proofs.Math.Option.{some}
use Rattle.std.proofs.Math.ListN.{get_elem?}

pub record Permuted {E : Type 0} (who : E → ℕ) (xs ys : List E) : Type 0 where
  pub to : ℕ → ℕ
  pub from : ℕ → ℕ
  pub there : (i : ℕ) (e : E) → get_elem? xs i ≡ some e → get_elem? ys (to i) ≡ some e
  pub here : (j : ℕ) (e : E) → get_elem? ys j ≡ some e → get_elem? xs (from j) ≡ some e
  pub from-to : (i : ℕ) (e : E) → get_elem? xs i ≡ some e → from (to i) ≡ i
  pub to-from : (j : ℕ) (e : E) → get_elem? ys j ≡ some e → to (from j) ≡ j
  pub in_order : (i j : ℕ) (e f : E) → get_elem? xs i ≡ some e → get_elem? xs j ≡ some f → who e ≡ who f → i < j → to i < to j
