-- `board::tell` meets its contract: the event's number, and the image that it leaves. No axiom.
use Rattle.octets.proofs.Vocabulary.{ap, ◌∙◌}
use Rattle.events.specs.Answer.{number_of}
use Rattle.board.proofs.tell.Goals as goal

pub returns : goal.returns
returns c =
    let e = c.event.ensures in
    record { number = c.number.ensures ∙ ap number_of e.answer; leaves = e.image }
