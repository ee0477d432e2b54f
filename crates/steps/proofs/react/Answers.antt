-- `steps::react` meets its contract: the reaction at the record of the image, and the image renewed. No axiom.
use Rattle.octets.proofs.Vocabulary.{◌∙◌, rules}
use Rattle.records.specs.Image.{device_of}
use Rattle.records.proofs.Image.{device-sized}
use Rattle.steps.proofs.Images.{after-sized, answered, left_behind, replied}
use Rattle.steps.proofs.react.Goals as goal

pub returns : goal.returns
returns c =
    let a = c.args in
    let image = a.image.now in
    let r = c.reaction_to-reaction in
    let left = c.renew.ensures in
    record {
      answer = λ v h. answered a.accepted v image a.event r.result (r.ensures v h);
      image = λ v h. left ∙ left_behind a.accepted v image a.event r.result (r.ensures v h);
      device = λ v h long. let sized = after-sized r.result.settles r.result.next _ r.type_inv.1.1.1.1.0 (device_of image) (device-sized image long (λ i. search rules)) in
          rw left (replied a.accepted v image a.event r.result long sized (r.ensures v h));
    }
