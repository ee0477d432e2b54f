-- `board::pipe::hear_two` meets its contract: as `hear`, with the set in use. No axiom.
use Rattle.octets.proofs.Vocabulary.{refl, sym, ap, ◌∙◌, ℕ, List, length}
use Rattle.sets.specs.Opening.{lent_two}
use Rattle.sets.specs.Device.{device_body, bMaxPacketSize0}
use Rattle.events.specs.Coded.{answer_in}
use Rattle.events.specs.Step.{Reply}
use Rattle.pipes.specs.Pipe.{lengths_in}
use Rattle.pipes.specs.Hearing.{Moved, looked, pipe_looked}
use Rattle.board.proofs.TwoSets.{opens-two, chosen, openable, event-two}
use Rattle.board.proofs.Piping.{still-long, told-gets, going-gets}
use Rattle.board.proofs.pipe.hear_two.Goals as goal

pub happen-answer-requires : goal.happen-answer-requires
happen-answer-requires c =
    let a = c.args in
    let opens = opens-two a.full.now a.high.now a.serial.now c.opened.result c.opened.ensures c.is_ok-accepted.ensures.value in
    openable a.full.now a.high.now a.serial.now a.image.now (chosen a.full.now a.high.now a.serial.now a.image.now c.peek.ensures c.in_use-used.ensures.bytes) opens

pub settle-requires : goal.settle-requires
settle-requires c =
    let a = c.args in
    let u = chosen a.full.now a.high.now a.serial.now a.image.now c.peek.ensures c.in_use-used.ensures.bytes in
    let l = c.in-Told.ensures in
    let moved = l.moved ∙ ap (λ (x : List ℕ). looked (lengths_in x a.serial.now a.reply.now) a.wire a.pipe.now) u in
    let left = l.pipe ∙ ap (λ (x : List ℕ). pipe_looked (lengths_in x a.serial.now a.reply.now) a.wire a.pipe.now) u in
    ap (λ (x : List ℕ). length x) left ∙ still-long (lent_two a.full.now a.high.now a.serial.now) a.image.now a.pipe.now a.setup.now a.reply.now a.wire (ap (λ (m : Moved). m.ended) (sym moved))

pub returns-in-Ordered : goal.returns-in-Ordered
returns-in-Ordered c =
    let a = c.args in
    let u = chosen a.full.now a.high.now a.serial.now a.image.now c.peek.ensures c.in_use-used.ensures.bytes in
    let l = c.in-Ordered.ensures in
    going-gets (lent_two a.full.now a.high.now a.serial.now) a.image.now a.pipe.now a.setup.now a.reply.now a.wire _
    (l.moved ∙ ap (λ (x : List ℕ). looked (lengths_in x a.serial.now a.reply.now) a.wire a.pipe.now) u) refl
    (l.pipe ∙ ap (λ (x : List ℕ). pipe_looked (lengths_in x a.serial.now a.reply.now) a.wire a.pipe.now) u) c.plain.ensures

pub returns-in-Unfit : goal.returns-in-Unfit
returns-in-Unfit c =
    let a = c.args in
    let u = chosen a.full.now a.high.now a.serial.now a.image.now c.peek.ensures c.in_use-used.ensures.bytes in
    let l = c.in-Unfit.ensures in
    going-gets (lent_two a.full.now a.high.now a.serial.now) a.image.now a.pipe.now a.setup.now a.reply.now a.wire _
    (l.moved ∙ ap (λ (x : List ℕ). looked (lengths_in x a.serial.now a.reply.now) a.wire a.pipe.now) u) refl
    (l.pipe ∙ ap (λ (x : List ℕ). pipe_looked (lengths_in x a.serial.now a.reply.now) a.wire a.pipe.now) u) c.plain-in-Unfit.ensures

pub returns-in-Told : goal.returns-in-Told
returns-in-Told c =
    let a = c.args in
    let opens = opens-two a.full.now a.high.now a.serial.now c.opened.result c.opened.ensures c.is_ok-accepted.ensures.value in
    let b = lent_two a.full.now a.high.now a.serial.now in
    let u = chosen a.full.now a.high.now a.serial.now a.image.now c.peek.ensures c.in_use-used.ensures.bytes in
    let l = c.in-Told.ensures in
    let what = c.library_event-what in
    let h = c.happen-answer in
    let q = event-two a.full.now a.high.now a.serial.now a.image.now u opens what.result in
    let s = c.setup_of in
    let z = c.settle.ensures in
    told-gets b a.image.now a.pipe.now a.setup.now a.reply.now a.wire _ what.result (answer_in h.result) s.result (bMaxPacketSize0 (device_body c.in_use-used.result.now))
    (l.moved ∙ ap (λ (x : List ℕ). looked (lengths_in x a.serial.now a.reply.now) a.wire a.pipe.now) u) refl
    (l.pipe ∙ ap (λ (x : List ℕ). pipe_looked (lengths_in x a.serial.now a.reply.now) a.wire a.pipe.now) u) what.ensures
    (h.ensures.answer ∙ ap (λ (r : Reply). r.answer) q) (h.ensures.image ∙ ap (λ (r : Reply). r.image) q) s.ensures (ap (λ (x : List ℕ). bMaxPacketSize0 (device_body x)) u) z.response z.pipe
