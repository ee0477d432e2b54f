-- `trimming::put_contents` meets its contract: the entries that are left. No axiom.
use Rattle.octets.proofs.Vocabulary.{◌+◌, ◌<◌}
use Rattle.octets.specs.Sentences.{only}
use Rattle.sets.specs.Contents.{entries}
use Rattle.sets.proofs.Entries.{rest}
use Rattle.buffers.proofs.Written.{Going}
use Rattle.trimming.specs.Keeping.{keeps_by}
use Rattle.trimming.specs.Entries.{contents_with, lengths}
use Rattle.trimming.proofs.put_contents.Given as goal

abbrev pub invariant-loop-i : goal.invariant-loop-i
invariant-loop-i l =
    (l.offset + lengths (only (keeps_by l.keeping.names l.keeping.zero) (rest l.contents l.i)) < 65536)
    × Going l.initial.w (contents_with l.start (only (keeps_by l.keeping.names l.keeping.zero) (entries l.contents))) l.w (contents_with l.offset (only (keeps_by l.keeping.names l.keeping.zero) (rest l.contents l.i)))
