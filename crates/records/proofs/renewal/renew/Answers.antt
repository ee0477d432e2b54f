-- `records::renewal::renew` meets its contract: by the length; settled first, then changed. No axiom.
use Rattle.octets.proofs.Vocabulary.{rules, sym, ap, ◌∙◌, ℕ, ◌<◌, eq-eqb, ne_eqb}
use Rattle.octets.specs.Octets.{byte}
use Rattle.records.specs.Image.{device_of, image_of}
use Rattle.records.specs.Change.{waits_after, settled_with, renewed}
use Rattle.records.proofs.Image.{device-sized, image-device}
use Rattle.records.proofs.Putting.{settled-sixteen, settles-once}
use Rattle.records.proofs.renewal.renew.Goals as goal

pub returns-in-Some : goal.returns-in-Some
unfolding renewed
returns-in-Some c =
    let a = c.args in
    let image = a.image.now in
    let long = c.in-Some.ensures.cases.long in
    let bytes : (i : ℕ) → byte image i < 256 = λ i. search rules in
    let d = device_of image in
    let w = waits_after a.change in
    let settled = rw c.waits_after.ensures at (c.settle.ensures d (c.in-Some.ensures.cases.same ∙ sym (image-device image long bytes))) in
    rw (eq-eqb _ _ long)
    (c.apply.ensures (settled_with a.settles w d) (settled-sixteen a.settles w d (device-sized image long bytes).sixteen) settled ∙ ap image_of (settles-once a.settles a.change d))

pub returns-in_default : goal.returns-in_default
unfolding renewed
returns-in_default c = rw (ne_eqb _ _ c.in_default.ensures.cases)
