-- `descriptors::walk::behind` meets its contract: descriptors of types that no walk looks at, two in a turn. No axiom.
use Rattle.octets.proofs.Vocabulary.{arith}
use Rattle.descriptors.specs.Walk.{nothing, onward}
use Rattle.descriptors.proofs.Plains.{plains-on, plains-after, plain-at}
use Rattle.descriptors.proofs.walk.behind.Goals as goal

pub loop-place-init : goal.loop-place-init
loop-place-init c = nothing

pub returns-then-last-next : goal.returns-then-last-next
returns-then-last-next c = onward c.loop-place.invariant (plain-at c.args.body.now c.loop-place-test.true c.if-first-lt2.false c.if-kinds-place-lt-CLASS.false)

pub returns-then-looked_at : goal.returns-then-looked_at
returns-then-looked_at c = onward c.loop-place.invariant (plain-at c.args.body.now c.loop-place-test.true c.if-first-lt2.false c.if-kinds-place-lt-CLASS.false)

pub returns-then-second-lt2 : goal.returns-then-second-lt2
returns-then-second-lt2 c = onward c.loop-place.invariant (plain-at c.args.body.now c.loop-place-test.true c.if-first-lt2.false c.if-kinds-place-lt-CLASS.false)

pub loop-place-smaller-then-second-first : goal.loop-place-smaller-then-second-first
loop-place-smaller-then-second-first c = omega (arith, plains-on c.pass_run-place.ensures, c.if-first-lt2.false, c.loop-place-test.true)

pub loop-place-preserved-then-second-first : goal.loop-place-preserved-then-second-first
loop-place-preserved-then-second-first c =
    plains-after (onward c.loop-place.invariant (plain-at c.args.body.now c.loop-place-test.true c.if-first-lt2.false c.if-kinds-place-lt-CLASS.false)) c.pass_run-place.ensures

pub loop-place-preserved : goal.loop-place-preserved
loop-place-preserved c =
    let body = c.args.body.now in
    onward (onward c.loop-place.invariant (plain-at body c.loop-place-test.true c.if-first-lt2.false c.if-kinds-place-lt-CLASS.false))
    (plain-at body (omega (arith, c.if-last-next.false)) c.if-second-lt2.false c.if-looked_at.false)
