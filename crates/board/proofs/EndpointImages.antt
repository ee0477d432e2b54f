-- What hk_endpoint answers by the image's length, and that its part lies in the set in use. No axiom.
use Rattle.octets.proofs.Vocabulary.{◌≡◌, ℕ, List, Bool, true, false, length, eqb, arith, eq-eqb, ne_eqb}
use Rattle.octets.proofs.Sentences.{cases}
use Rattle.sets.specs.Opening.{Board}
use Rattle.sets.specs.View.{View}
use Rattle.records.specs.Image.{device_of}
use Rattle.events.specs.Answer.{Refused, part_of, InsideAt}
use Rattle.steps.specs.Endpoint.{endpoint_on}
use Rattle.steps.specs.Gathering.{endpoint_in, endpoint_on_in}
use Rattle.steps.proofs.EndpointParts.{endpoint-inside}

-- with whether what is lent opens, and the view of the set in use
module _ (t : Bool) (v : View) (set image : List ℕ) (k : ℕ) where
  module _ (s : length image ≡ 32 → ⊥) where
    pub short : t ≡ true → endpoint_on_in t v set image k ≡ Refused 8
    short q = rw (ne_eqb (length image) 32 s, q)

    pub refused : t ≡ false → endpoint_on_in t v set image k ≡ Refused 7
    refused q = rw (ne_eqb (length image) 32 s, q)

  pub whole : length image ≡ 32 → endpoint_on_in t v set image k ≡ endpoint_in t v set (device_of image) k
  whole l = rw (eq-eqb (length image) 32 l)

pub inside : (b : Board) (image : List ℕ) (k : ℕ) → InsideAt b (device_of image).speed (part_of (endpoint_on b image k))
unfolding endpoint_on
inside b image k = cases (eqb (length image) 32) (λ p. rw p (endpoint-inside b (device_of image) k)) (λ p. rw p (omega arith))
