-- `records::renewal::put_all` meets its contract. The invariant: the bytes before k are the other slice's, the others as they were. No axiom.
use Rattle.octets.proofs.Vocabulary.{◌≡◌, ◌++◌, take, drop}
use Rattle.records.proofs.renewal.put_all.Given as goal

abbrev pub invariant-loop-k : goal.invariant-loop-k
invariant-loop-k l = l.bytes ≡ take l.k l.next ++ drop l.k l.initial.bytes
