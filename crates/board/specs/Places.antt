-- Calls on an image that fits are events on its record: so demand 3 holds place by place too, over runs of exported calls. No axiom.
use Rattle.std.specs.Prelude.{ℕ, ◌≡◌, List, true}
use Rattle.std.proofs.Common.{sym, ap, ◌∙◌}
use Rattle.std.proofs.Math.Option.{some}
use Rattle.std.proofs.Math.ListN.{get_elem?}
use Rattle.octets.specs.Sentences.{every}
use Rattle.sets.specs.Opening.{Board, BytesOf}
use Rattle.sets.specs.View.{accepted}
use Rattle.records.specs.Image.{device_of, image_of}
use Rattle.order.specs.Places.{Permuted}
use Rattle.order.proofs.Places.{order-places}
use Rattle.order.proofs.Owners.{square-at, like-self}
use Rattle.order.proofs.Beside.{square-beside}
use Rattle.promises.specs.Keeps.{FitImage, event_fits}
use Rattle.promises.specs.Images.{answers_as, leaves_as}
use Rattle.laws.specs.Parts.{who}
use Rattle.promises.specs.Rearranged.{values_of, answer_of, next_of}
use Rattle.laws.proofs.Picking.{all_of}
use Rattle.promises.specs.Order.{step_locality_at}
use Rattle.board.specs.Exports.{Spots}
use Rattle.board.specs.Runs.{Call, event_of, Given, Runs, given_as, gives, leaves, ran}
use Rattle.board.specs.Order.{concerns_any}

-- the interface that a call concerns
abbrev pub whom : Board → List ℕ → Call → ℕ
whom b image c = who b (device_of image) (event_of c)

module _ (b : Board) (lie : Spots) (bytes : BytesOf b) (ok : accepted b ≡ true) where
  -- ---- what a call gives and leaves is what its event does on the image's record
  pub says : (image : List ℕ) (c : Call) → FitImage b image
      → gives b lie image c ≡ given_as b lie c (device_of image).speed (values_of (answer_of b (device_of image) (event_of c)))
  says image c f = ap (λ a. given_as b lie c (device_of image).speed (values_of a)) (answers_as b image (event_of c) f)

  pub reads : (image : List ℕ) (c : Call) → FitImage b image → device_of (leaves b lie image c) ≡ next_of b (device_of image) (event_of c)
  reads image c f = leaves_as b image (event_of c) f bytes

  pub keeps : (image : List ℕ) (c : Call) → FitImage b image → FitImage b (leaves b lie image c)
  keeps image c f = event_fits b bytes ok image (event_of c) f

  one-image : (p q : List ℕ) → FitImage b p → FitImage b q → device_of p ≡ device_of q → p ≡ q
  one-image p q f g e = sym f.back ∙ ap image_of e ∙ g.back

  -- ---- demand 3 place by place: the call at place i of xs, which stands at place `to i` of ys, is given the same there
  pub order_places : {image : List ℕ} → FitImage b image → {xs ys : List Call} {gs others : List Given} {last other : List ℕ}
      → Runs b lie image xs gs last → Runs b lie image ys others other
      → every (concerns_any b image) xs ≡ true → (w : Permuted (whom b image) xs ys)
      → (last ≡ other) × ((i : ℕ) (g : Given) → get_elem? gs i ≡ some g → get_elem? others (w.to i) ≡ some g)
  order_places {image} f {xs} {ys} one two concerned w =
      let laws = step_locality_at b bytes ok in
      let square = square-beside device_of event_of (λ c a. given_as b lie c a.0 (values_of a.1)) (FitImage b) keeps says reads (square-at laws (device_of image)) one-image in
      let (end, places) = order-places square image (f, like-self laws (device_of image) (f.sized, f.fit)) xs ys (all_of (concerns_any b image) xs concerned) w in
      let (p, q) = ran b lie one in
      let (s, t) = ran b lie two in
      (q ∙ end ∙ sym t, λ i g at. ap (λ l. get_elem? l (w.to i)) s ∙ places i g (ap (λ l. get_elem? l i) (sym p) ∙ at))
