-- `sets::device::device_body` meets its contract. No axiom.
use Rattle.octets.proofs.Vocabulary.{sym, ap, ◌∙◌}
use Rattle.sets.specs.Contents.{entries_of}
use Rattle.sets.specs.Pieces.{head_body}
use Rattle.sets.proofs.Pieces.{of-kind}
use Rattle.sets.proofs.Devices.{head-found, head-missing}
use Rattle.sets.proofs.device.device_body.Goals as goal

pub returns-in-Some : goal.returns-in-Some
returns-in-Some c =
    let set = c.args.set.now in
    c.body_of.ensures ∙ head-found set (entries_of 1 set) (sym c.entry_of.ensures ∙ c.in-Some.is) ∙ ap head_body (of-kind set 1)

pub returns-in-None : goal.returns-in-None
returns-in-None c =
    let set = c.args.set.now in
    head-missing set (entries_of 1 set) (sym c.entry_of.ensures ∙ c.in-None.is) ∙ ap head_body (of-kind set 1)
