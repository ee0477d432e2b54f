-- `rules::string::references_fault` meets its contract. No axiom.
use Rattle.octets.proofs.Vocabulary.{sym, ◌∙◌}
use Rattle.sets.proofs.Entries.{asked-next, asked-end}
use Rattle.rules.specs.After.{after}
use Rattle.rules.specs.Strings.{references_from}
use Rattle.rules.proofs.After.{ends}
use Rattle.rules.proofs.Entries.{references-in, references-past, references-end}
use Rattle.rules.proofs.string.references_fault.Goals.{then-e-eq-CONFIGURATION, else-e-eq-CONFIGURATION}
use Rattle.rules.proofs.string.references_fault.Goals as goal

pub loop-i-preserved : goal.loop-i-preserved
loop-i-preserved c =
    let a = c.args in
    let l = c.loop-i in
    let e = c.entry_at-e in
    let turn = asked-next (λ es. after l.found (references_from c.args.judge.now.set.now es)) c.args.judge.now.set.now _ c.peek-i-end.ensures l.i l.invariant c.loop-i-test.true e.result e.ensures in
    elim c.if-e-eq-CONFIGURATION.branch [
      | then-e-eq-CONFIGURATION w ↦ turn ∙ references-in c.args.judge.now.set.now l.found e.result _ w.if-e-eq-CONFIGURATION.true (ends _ w.or-found.ensures _ w.configuration_fault.ensures) ∙ rw w.found-is
      | else-e-eq-CONFIGURATION w ↦ turn ∙ references-past c.args.judge.now.set.now l.found e.result _ w.if-e-eq-CONFIGURATION.false ∙ rw w.found-is
    ]

pub returns : goal.returns
returns c =
    let a = c.args in
    let l = c.loop-i in
    sym (asked-end (λ es. after l.found (references_from c.args.judge.now.set.now es)) c.args.judge.now.set.now _ c.peek-i-end.ensures l.i l.invariant c.loop-i-test.false ∙ references-end c.args.judge.now.set.now l.found)
