-- `steps::facts::locate` meets its contract: a string by its index and the language that is given for it. No axiom.
use Rattle.octets.proofs.Vocabulary.{arith}
use Rattle.events.specs.Requests.{locate}
use Rattle.steps.proofs.facts.locate.Goals as goal

pub returns-in-3 : goal.returns-in-3
unfolding locate
returns-in-3 c = λ paired p. grind (arith, c.locate_string.ensures paired, c.language_for.ensures paired c.args.serial.now)
