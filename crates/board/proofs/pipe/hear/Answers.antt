-- `board::pipe::hear` meets its contract: what the library answered settles the pipe, or the transfer goes on. No axiom.
use Rattle.octets.proofs.Vocabulary.{refl, sym, ap, ◌∙◌, ℕ, List, length}
use Rattle.sets.specs.Opening.{lent}
use Rattle.events.specs.Coded.{answer_in}
use Rattle.pipes.specs.Hearing.{Moved}
use Rattle.pipes.specs.Pipe.{packet_size}
use Rattle.board.proofs.Piping.{still-long, told-gets, going-gets}
use Rattle.board.proofs.pipe.hear.Goals as goal

pub settle-requires : goal.settle-requires
settle-requires c =
    let a = c.args in
    let looked = c.in-Told.ensures in
    ap (λ (l : List ℕ). length l) looked.pipe ∙ still-long (lent a.set.now a.serial.now) a.image.now a.pipe.now a.setup.now a.reply.now a.wire (ap (λ (m : Moved). m.ended) (sym looked.moved))

pub returns-in-Ordered : goal.returns-in-Ordered
returns-in-Ordered c =
    let a = c.args in
    let looked = c.in-Ordered.ensures in
    going-gets (lent a.set.now a.serial.now) a.image.now a.pipe.now a.setup.now a.reply.now a.wire _ looked.moved refl looked.pipe c.plain.ensures

pub returns-in-Unfit : goal.returns-in-Unfit
returns-in-Unfit c =
    let a = c.args in
    let looked = c.in-Unfit.ensures in
    going-gets (lent a.set.now a.serial.now) a.image.now a.pipe.now a.setup.now a.reply.now a.wire _ looked.moved refl looked.pipe c.plain-in-Unfit.ensures

pub returns-in-Told : goal.returns-in-Told
returns-in-Told c =
    let a = c.args in
    let b = lent a.set.now a.serial.now in
    let looked = c.in-Told.ensures in
    let what = c.library_event-what in
    let e = c.event-answer in
    let s = c.setup_of in
    let z = c.settle.ensures in
    told-gets b a.image.now a.pipe.now a.setup.now a.reply.now a.wire _ what.result (answer_in e.result) s.result (packet_size b a.image.now)
    looked.moved refl looked.pipe what.ensures e.ensures.answer e.ensures.image s.ensures refl z.response z.pipe
