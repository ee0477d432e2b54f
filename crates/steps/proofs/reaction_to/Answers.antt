-- `steps::reaction_to` meets its contract: by the order of refusals, for the record that is read. No axiom.
use Rattle.octets.proofs.Vocabulary.{sym, ◌∙◌}
use Rattle.records.specs.Change.{valued}
use Rattle.events.specs.Facts.{question_of, asked_by, TellsOf}
use Rattle.steps.specs.Selected.{Told}
use Rattle.steps.proofs.Steps.{record-refused, responds, told, at-work}
use Rattle.steps.proofs.reaction_to.Goals as goal

pub returns-then-not-fits : goal.returns-then-not-fits
returns-then-not-fits c = λ v h. let a = c.args in
    let read = c.read-device in
    let d = read.result in
    let opens = c.if-not-accepted.false in
    let t : Told v a.paired d a.event a.known a.sought = rw read.ensures (h opens) in
    let fit = c.fits.ensures v (asked_by (question_of a.event)) t.tells.surveyed t.nonzero t.tells.configured t.tells.waking t.tells.paired in
    rw (c.refused-then-not-fits.ensures, ← read.ensures) (sym (record-refused a.accepted v d a.event opens (sym fit ∙ c.if-not-fits.true)))

pub respond-requires : goal.respond-requires
respond-requires c = let a = c.args in
    let read = c.read-device in
    let d = read.result in
    let opens = c.if-not-accepted.false in
    let v = (c.requires opens).0 in
    let t : Told v a.paired d a.event a.known a.sought = rw read.ensures (c.requires opens).1 in
    let fit = c.fits.ensures v (asked_by (question_of a.event)) t.tells.surveyed t.nonzero t.tells.configured t.tells.waking t.tells.paired in
    let (w, p) = at-work v d (sym fit ∙ c.if-not-fits.false) in record { wakeup_bound = w; power_bound = p }

pub returns : goal.returns
returns c = λ v h. let a = c.args in
    let read = c.read-device in
    let d = read.result in
    let opens = c.if-not-accepted.false in
    let t : Told v a.paired d a.event a.known a.sought = rw read.ensures (h opens) in
    let fit = c.fits.ensures v (asked_by (question_of a.event)) t.tells.surveyed t.nonzero t.tells.configured t.tells.waking t.tells.paired in
    let right = sym fit ∙ c.if-not-fits.false in
    let f : TellsOf v (valued v d) d (question_of a.event) c.gather-facts.result = rw c.gather-facts.ensures t.tells in
    rw read.ensures at (c.respond.ensures v (told v d (question_of a.event) t.nonzero right f) ∙ sym (responds a.accepted v d a.event opens right))
