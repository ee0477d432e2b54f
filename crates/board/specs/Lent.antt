-- What is lent to hk_open and hk_two_open is bytes, by its type in C: the opening says so itself, and the theorems over what follows it ask nothing of the board. No axiom.
use Rattle.std.specs.Prelude.{ℕ, ◌≡◌, refl, List, length}
use Rattle.sets.specs.Opening.{Board, BytesOf}
use Rattle.promises.specs.Keeps.{FitImage, reached_fits}
use Rattle.board.specs.Exports.{Opens, Spot, Spots, GivesEndpoint}
use Rattle.board.specs.Runs.{Call, Given, Runs, Throughout, NotEight, opening, reached, opened_reached, never_eight_after}
use Rattle.board.specs.Order.{Reordered, told_to, order_after_opening}
use Rattle.board.specs.Endpoints.{endpoint_never_eight}

-- what hk_open and hk_two_open promise: the number, the image left, and that what they were lent is bytes
pub record OpensBytes (b : Board) (image : List ℕ) (answer : ℕ) (left : List ℕ) : Type 0 where
  pub opens : Opens b image answer left
  pub octets : BytesOf b

module _ {b : Board} {lie : Spots} {start image : List ℕ} {n : ℕ} (long : length start ≡ 32) (o : OpensBytes b start n image) where
  -- no call after it gives 8, nor does a question for an endpoint
  pub opened_never_eight : {cs : List Call} {gs : List Given} {last : List ℕ} (r : Runs b lie image cs gs last) → Throughout NotEight r
  opened_never_eight = never_eight_after b lie o.octets long o.opens

  pub opened_endpoint_never_eight : {cs : List Call} {gs : List Given} {now : List ℕ} → Runs b lie image cs gs now → {k m : ℕ} {shown : List ℕ} {spot : Spot}
      → GivesEndpoint b lie now k m shown spot → m ≡ 8 → ⊥
  opened_endpoint_never_eight r = endpoint_never_eight b o.octets (reached (opened_reached long o.opens) r)

module _ {b : Board} {lie : Spots} {start image : List ℕ} (long : length start ≡ 32) (o : OpensBytes b start 0 image) {cs : List Call} {gs : List Given} {now : List ℕ} (r : Runs b lie image cs gs now) where
  -- after an opening that gave 0, the image fits whatever was called
  pub opened_fits : FitImage b now
  opened_fits = reached_fits b o.octets ((opening long o.opens).0 refl) (reached (opened_reached long o.opens) r)

  -- and two orders of what follows end the same
  pub opened_order : {xs ys : List Call} {some others : List Given} {last other : List ℕ}
      → Runs b lie now xs some last → Runs b lie now ys others other → Reordered b now xs ys
      → (last ≡ other) × ((k : ℕ) → told_to b now k xs some ≡ told_to b now k ys others)
  opened_order = order_after_opening b lie o.octets long o.opens r
