-- The whole body: its first descriptor, the walk behind it, and what both tell. No axiom.
use Rattle.octets.proofs.Vocabulary.{◌≡◌, sym, ap, ◌∙◌, ℕ, ◌<◌, List, Bool, true, false, ◌&&◌, and-true, and-false, ltb, length, take, drop, arith, zero-add}
use Rattle.octets.specs.Bit.{bit}
use Rattle.octets.specs.Octets.{byte}
use Rattle.octets.proofs.Sentences.{cases}
use Rattle.descriptors.specs.declared.limits.Limits.{Limits}
use Rattle.descriptors.specs.declared.survey.Asked.{Asked}
use Rattle.descriptors.specs.declared.survey.Survey.{Survey}
use Rattle.descriptors.specs.Configuration.{Configuration, bNumInterfaces, good_head, good_configuration}
use Rattle.descriptors.specs.Walk.{Pace, before, steps_on, step_of, walked}
use Rattle.descriptors.specs.Check.{starting, checking}
use Rattle.descriptors.specs.Cut.{cut}
use Rattle.descriptors.specs.Survey.{Surveys}
use Rattle.descriptors.proofs.CheckWhole.{check-head}
use Rattle.single_walk.specs.declared.walk.Finds.{Finds}
use Rattle.single_walk.specs.Course.{Tells, SurveyOf}

-- the first descriptor ends where its first byte says
pub first_ends : (body : List ℕ) (step : Pace) → step ≡ step_of body 0 before → 0 < step.end → step.end ≡ byte body 0
first_ends body step e m = cases (steps_on body 0)
    (λ p. rw (e, p) (zero-add (byte body 0)))
    (λ p. let z : step.end ≡ 0 = rw (e, p) in absurd (omega arith))

-- what is found says what the survey says
pub surveys-found : {c : Configuration} {alternates : List ℕ} {asked : Asked} {seen s : Survey} {f : Finds} {n : ℕ} → Surveys c alternates asked seen → Tells asked seen f
    → ((k : ℕ) → k < 32 → bit seen.existing k ≡ ltb k n) → SurveyOf f n s → Surveys c alternates asked s
surveys-found t g x v = record {
  interfaces = record {
    exists = λ k h. t.interfaces.exists k h ∙ x k h ∙ sym (v.existing k);
    stands = λ k h. t.interfaces.stands k h ∙ ap (λ (w : ℕ). bit w k) (sym (v.current ∙ g.current));
  };
  halts = v.halting ∙ g.halting ∙ t.halts;
  asked = v.endpoint ∙ g.endpoint ∙ t.asked;
  there = v.there ∙ g.there ∙ t.there;
  bits = v.bits ∙ g.bits ∙ t.bits;
}

-- behind a good head the walk decides
pub behind-head : (limits : Limits) (body : List ℕ) (step : Pace) → step ≡ step_of body 0 before → 0 < step.end → good_head (length body) (take step.end body) ≡ true
    → good_configuration limits body ≡ walked (checking limits (bNumInterfaces (take step.end body))) starting before (cut (drop step.end body))
behind-head limits body step e w p = check-head limits body step e w ∙ rw p

-- the first reference and the others
pub both-refer : (walked named : Bool) {others one all : Bool} → walked ≡ others → named ≡ one → all ≡ (one && others) → (walked && named) ≡ all
both-refer walked named p q r = swapped walked named ∙ sym (r ∙ rw (← p, ← q))
  where
    swapped : (a b : Bool) → (a && b) ≡ (b && a)
    swapped true b = sym (and-true b)
    swapped false b = sym (and-false b)
