-- `descriptors::check::good_companions` meets its contract: what is asked of all is asked of the descriptors ahead. No axiom.
use Rattle.octets.proofs.Vocabulary.{◌≡◌, refl, sym, ap, ◌∙◌, ℕ, Bool, true, false, not, eqb, le_refl}
use Rattle.octets.specs.Sentences.{◌⇒◌}
use Rattle.octets.proofs.Sentences.{never}
use Rattle.descriptors.proofs.Walks.{walk-stop, walk-on, walk_at, walk_end}
use Rattle.descriptors.proofs.CheckWhole.{companions-stuck}
use Rattle.descriptors.proofs.check.good_companions.Goals as goal

asked : (companions : Bool) {a b : Bool} → not companions ≡ false → a ≡ b → a ≡ (companions ⇒ b)
asked true l e = e
asked false l e = never refl l

pub returns-in_default : goal.returns-in_default
returns-in_default c = asked c.args.limits.companions c.if-not-limits.false (companions-stuck c.loop-at.invariant c.in_default.ensures.steps c.loop-at-test.true (le_refl c.loop-at.at))

pub returns-then-not-is_accompanied : goal.returns-then-not-is_accompanied
returns-then-not-is_accompanied c =
    let no = sym c.is_accompanied.ensures ∙ c.if-not-is_accompanied.true in
    asked c.args.limits.companions c.if-not-limits.false (walk-stop c.loop-at.invariant c.in-Some.ensures.steps.steps c.loop-at-test.true c.in-Some.ensures.onward false (rw no))

pub loop-at-preserved : goal.loop-at-preserved
loop-at-preserved c =
    let so = sym c.is_accompanied.ensures ∙ c.if-not-is_accompanied.false in
    walk_at (walk-on c.loop-at.invariant c.in-Some.ensures.steps.steps c.loop-at-test.true c.in-Some.ensures.onward (rw so) (ap (λ (x : ℕ). eqb x 5) c.peek-due.ensures)) c.in-Some.ensures.steps.apart

pub returns : goal.returns
returns c = asked c.args.limits.companions c.if-not-limits.false (walk_end c.loop-at.invariant c.loop-at-test.false)
