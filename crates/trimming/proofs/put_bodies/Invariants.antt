-- `trimming::put_bodies` meets its contract: what is still to be read has not been written over. No axiom.
use Rattle.octets.proofs.Vocabulary.{◌≡◌, ◌≤◌, true, length, drop}
use Rattle.octets.specs.Sentences.{only}
use Rattle.sets.specs.Contents.{entries, end_to_end}
use Rattle.sets.proofs.Entries.{rest}
use Rattle.buffers.proofs.Written.{Going}
use Rattle.trimming.specs.Keeping.{keeps_by}
use Rattle.trimming.specs.Entries.{bodies_with}
use Rattle.trimming.proofs.put_bodies.Given as goal

abbrev pub invariant-loop-i : goal.invariant-loop-i
invariant-loop-i l =
    (l.w.at ≤ l.from)
    × (end_to_end l.from (length l.initial.w.out.now) (rest l.contents l.i) ≡ true)
    × (drop l.from l.w.out.now ≡ drop l.from l.initial.w.out.now)
    × Going l.initial.w (bodies_with l.initial.w.out.now (only (keeps_by l.keeping.names l.keeping.zero) (entries l.contents))) l.w (bodies_with l.initial.w.out.now (only (keeps_by l.keeping.names l.keeping.zero) (rest l.contents l.i)))
