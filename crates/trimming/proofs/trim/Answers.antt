-- `trimming::trim` meets its contract: refused, or trimmed. No axiom.
use Rattle.octets.proofs.Vocabulary.{sym, rules}
use Rattle.trimming.proofs.Trimming.{walks, framing, lies, trims}
use Rattle.trimming.proofs.trim.Goals as goal

pub of-keeping-requires : goal.of-keeping-requires
of-keeping-requires c = walks c.args.limits c.args.set.now c.args.serial.now (sym c.in_ok-opening.ensures)

pub rebuild-requires : goal.rebuild-requires
rebuild-requires c =
    let p = sym c.in_ok-opening.ensures in
    record { set_value = framing c.args.limits c.args.set.now c.args.serial.now p; set_value_2 = lies c.args.limits c.args.set.now c.args.serial.now p }

pub returns : goal.returns
returns c =
    let k = c.of-keeping in
    trims c.args.limits c.args.set.now c.args.serial.now (λ i. search rules) c.in_ok-opening.ensures k.result.names k.ensures.names k.result.zero k.ensures.zero c.rebuild.ensures
