-- `requests::find_row` meets its contract. The invariant: the first among the rows not yet passed is the first of the table. No axiom.
use Rattle.octets.proofs.Vocabulary.{◌≡◌, Bool, ◌&&◌, drop, eqb}
use Rattle.octets.specs.Sentences.{first}
use Rattle.requests.specs.declared.Setup.{Setup}
use Rattle.requests.specs.declared.Row.{Row}
use Rattle.requests.specs.Table.{request_table, row_of}
use Rattle.requests.proofs.find_row.Given as goal

-- whether a row has the setup's type and code
abbrev pub asked : Setup → Row → Bool
asked s r = eqb r.bmRequestType s.bmRequestType && eqb r.bRequest s.bRequest

abbrev pub invariant-loop-i : goal.invariant-loop-i
invariant-loop-i l = first (asked l.setup) (drop l.i request_table) ≡ row_of l.setup
