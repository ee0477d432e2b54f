-- `descriptors::walk::pass_run` meets its contract: a run, as far as it goes. No axiom.
use Rattle.octets.proofs.Vocabulary.{◌≡◌, ◌<◌, ◌-◌, length, arith}
use Rattle.octets.specs.Octets.{byte}
use Rattle.descriptors.specs.Walk.{nothing, onward}
use Rattle.descriptors.proofs.Plains.{plain-at}
use Rattle.descriptors.proofs.walk.pass_run.Goals as goal

pub returns-then-body-size : goal.returns-then-body-size
returns-then-body-size c = nothing

pub loop-place-init : goal.loop-place-init
loop-place-init c = nothing

pub loop-place-preserved : goal.loop-place-preserved
loop-place-preserved c =
    let body = c.args.body.now in
    let place = c.loop-place.place in
    let size : byte body place ≡ c.args.size = c.if-body-place.false in
    let left : place < length body - 1 = omega (arith, c.loop-place-test.true, c.if-body-size.false, c.requires.1) in
    rw (← size) (onward c.loop-place.invariant (plain-at body left (rw size c.requires.1) c.if-kinds-place-lt-CLASS.false))
