-- The text of a board that is refused and of one that is accepted, and a whole text at a buffer's start. No axiom.
use Rattle.octets.proofs.Vocabulary.{◌≡◌, sym, ap, ◌∙◌, ℕ, ◌+◌, ◌≤◌, List, [], ◌∷◌, true, length, sets, length-sets, sets-eq, length-take-le, arith, zero-add, eq-eqb, ne_eqb}
use Rattle.octets.specs.Sentences.{every}
use Rattle.descriptors.specs.declared.limits.Limits.{Limits}
use Rattle.descriptors.specs.Configuration.{good_configuration}
use Rattle.sets.specs.Contents.{bodies}
use Rattle.sets.specs.Opening.{Board, opening}
use Rattle.sets.proofs.Groups.{groups, each-rule}
use Rattle.listing.specs.Listing.{line, refused_word, accepted_lines, listing}
use Rattle.buffers.specs.declared.Writer.{Writer}
use Rattle.buffers.specs.Written.{Wrote}
use Rattle.listing.specs.Listed.{room, Listed}
use Rattle.listing.proofs.Bound.{listing-length}

-- n is what opening answered
module _ (limits : Limits) (b : Board) (n : ℕ) (o : n ≡ opening limits b) where
  pub refused : (n ≡ 0 → ⊥) → listing limits b ≡ line refused_word (n ∷ [])
  unfolding listing
  refused p = rw (o, ne_eqb (opening limits b) 0 (λ q. p (o ∙ q)))

  pub accepted : n ≡ 0 → listing limits b ≡ accepted_lines b.set
  unfolding listing
  accepted p = rw (eq-eqb (opening limits b) 0 (sym o ∙ p))

  pub good : n ≡ 0 → (l : Limits) × (every (good_configuration l) (bodies 2 b.set) ≡ true)
  good p = (limits, (each-rule limits b.set (groups limits b (sym o ∙ p)).configurations).good)

-- its text, in a buffer that is long enough for any
module _ (limits : Limits) (b : Board) (out : List ℕ) (h : room ≤ length out) where
  pub enough : 0 + length (listing limits b) ≤ length out
  enough = omega (arith, listing-length limits b)

  pub listed : {w is : Writer} {after : List ℕ} → w.at ≡ 0 → w.out.now ≡ out → Wrote w (listing limits b) is → after ≡ is.out.now → Listed limits b out after is.at
  listed {w} {is} {after} z given r left =
      let text = listing limits b in
      let bytes : after ≡ sets out 0 text = left ∙ r.bytes ∙ rw (z, given) in
      let size : is.at ≡ length text = omega (arith, r.place, z) in
      let kept : length after ≡ length out = ap length bytes ∙ length-sets out 0 text in
      let fits : is.at ≤ length after = omega (arith, enough) in
      record {
        text = bytes ∙ sets-eq text out 0 enough ∙ rw zero-add;
        end = size;
        inside = fits;
        whole = sym (length-take-le is.at after fits);
      }
