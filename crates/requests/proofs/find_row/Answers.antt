-- `requests::find_row` meets its contract. The invariant: the first among the rows not yet passed is the first of the table. No axiom.
use Rattle.octets.proofs.Vocabulary.{sym, ap, ◌∙◌}
use Rattle.octets.proofs.Sentences.{first-end, first-here, first_on}
use Rattle.requests.specs.Table.{request_table}
use Rattle.requests.specs.Found.{found_of}
use Rattle.requests.proofs.find_row.Invariants.{asked}
use Rattle.requests.proofs.find_row.Goals as goal

pub returns-then-row-setup : goal.returns-then-row-setup
returns-then-row-setup c = ap found_of (sym (first-here (asked c.args.setup) request_table _ _ c.loop-i-test.true c.if-row-setup.true) ∙ c.loop-i.invariant)

pub loop-i-preserved : goal.loop-i-preserved
loop-i-preserved c = sym (first_on (asked c.args.setup) request_table _ _ c.loop-i-test.true c.if-row-setup.false) ∙ c.loop-i.invariant

pub returns : goal.returns
returns c = ap found_of (sym (first-end (asked c.args.setup) request_table c.loop-i.i c.loop-i-test.false) ∙ c.loop-i.invariant)
