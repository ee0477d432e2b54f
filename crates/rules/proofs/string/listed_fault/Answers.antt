-- `rules::string::listed_fault` meets its contract. No axiom.
use Rattle.octets.proofs.Vocabulary.{sym, ap, ◌∙◌, ◌+◌, ◌*◌, drop}
use Rattle.sets.proofs.Entries.{asked-next, asked-end}
use Rattle.rules.specs.After.{after}
use Rattle.sets.specs.Strings.{words}
use Rattle.rules.specs.Strings.{listed_from}
use Rattle.std.specs.Option.{option_or}
use Rattle.rules.proofs.Entries.{listed_in, listed-past, listed-end}
use Rattle.rules.proofs.string.listed_fault.Goals.{then-e-eq-STRING, else-e-eq-STRING}
use Rattle.rules.proofs.string.listed_fault.Goals as goal

pub loop-i-preserved : goal.loop-i-preserved
loop-i-preserved c =
    let a = c.args in
    let l = c.loop-i in
    let e = c.entry_at-e in
    let turn = asked-next (λ es. after l.found (listed_from a.set.now (words (drop 2 a.zero.now)) (4 + 8 * l.i) es)) a.set.now _ c.peek-i-end.ensures l.i l.invariant c.loop-i-test.true e.result e.ensures in
    elim c.if-e-eq-STRING.branch [
      | then-e-eq-STRING w ↦ turn ∙ listed_in a.set.now (words (drop 2 a.zero.now)) l.i l.found e.result _ w.if-e-eq-STRING.true (w.or-found.ensures ∙ ap (option_or l.found) w.language_fault.ensures) ∙ rw w.found-is
      | else-e-eq-STRING w ↦ turn ∙ listed-past a.set.now (words (drop 2 a.zero.now)) l.i l.found e.result _ w.if-e-eq-STRING.false ∙ rw w.found-is
    ]

pub returns : goal.returns
returns c =
    let a = c.args in
    let l = c.loop-i in
    sym (asked-end (λ es. after l.found (listed_from a.set.now (words (drop 2 a.zero.now)) (4 + 8 * l.i) es)) a.set.now _ c.peek-i-end.ensures l.i l.invariant c.loop-i-test.false ∙ listed-end a.set.now (words (drop 2 a.zero.now)) (4 + 8 * l.i) l.found)
