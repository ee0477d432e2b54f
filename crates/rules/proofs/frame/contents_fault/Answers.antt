-- `rules::frame::contents_fault` meets its contract. No axiom.
use Rattle.std.specs.Option.{option_or}
use Rattle.octets.proofs.Vocabulary.{sym, ap, ◌∙◌, ◌+◌, ◌*◌, arith}
use Rattle.sets.proofs.Entries.{asked-next, asked-end}
use Rattle.rules.specs.After.{after, is_first, last_of}
use Rattle.sets.specs.Contents.{total}
use Rattle.rules.specs.Frame.{contents_asked}
use Rattle.rules.proofs.After.{ends}
use Rattle.rules.proofs.Entries.{contents-turn, contents-end}
use Rattle.rules.proofs.frame.contents_fault.Goals as goal

pub loop-i-preserved : goal.loop-i-preserved
loop-i-preserved c =
    let a = c.args in
    let l = c.loop-i in
    let set = a.set.now in
    let e = c.entry_at-e in (
      omega (arith, c.loop-i-test.true),
      asked-next (λ es. after l.found (contents_asked a.limits (total set) (4 + 8 * l.i) (is_first l.last) (last_of l.last) l.start es)) set _ c.peek-count.ensures l.i l.invariant.1 c.loop-i-test.true e.result e.ensures
          ∙ contents-turn a.limits (total set) l.i l.last l.start l.found e.result _ (ends _ c.or-found.ensures _ c.entry_fault.ensures),
    )

pub returns : goal.returns
returns c =
    let a = c.args in
    let l = c.loop-i in
    let set = a.set.now in
    c.or.ensures
    ∙ ap (option_or l.found) (rw c.word.ensures at c.ask.ensures)
    ∙ sym
    (asked-end (λ es. after l.found (contents_asked a.limits (total set) (4 + 8 * l.i) (is_first l.last) (last_of l.last) l.start es)) set _ c.peek-count.ensures l.i l.invariant.1 c.loop-i-test.false
    ∙ contents-end a.limits (total set) l.i l.last l.start l.found c.peek-count.result (omega (arith, c.loop-i.auto.i-end, c.loop-i-test.false)))
