-- `records::renewal::clear` meets its contract. The invariant: the bytes before the index are 0, the others as they were. No axiom.
use Rattle.octets.proofs.Vocabulary.{◌≡◌, ◌++◌, drop, replicate}
use Rattle.records.proofs.renewal.clear.Given as goal

abbrev pub invariant-loop-byte : goal.invariant-loop-byte
invariant-loop-byte l = l.bytes ≡ replicate l.byte-index 0 ++ drop l.byte-index l.initial.bytes
