-- `pair_rules::beside::pair_fault` meets its contract. No axiom.
use Rattle.std.specs.Prelude.{None}
use Rattle.octets.proofs.Vocabulary.{◌∙◌}
use Rattle.sets.specs.Contents.{entries, entries_of}
use Rattle.sets.specs.Device.{device_body}
use Rattle.rules.proofs.After.{first-broken, joins, ends}
use Rattle.pair_rules.specs.Pair.{qualifier_entry_findings, mirrors_from, pair_findings}
use Rattle.pair_rules.proofs.beside.pair_fault.Goals as goal

pub returns : goal.returns
returns c =
    let set = c.args.set.now in
    let other = c.args.other.now in
    joins None (qualifier_entry_findings set (device_body other) (entries_of 6 set)) (mirrors_from set other 4 (entries_of 2 other) (entries set)) (rw c.device_body.ensures at c.qualifiers_fault.ensures)
    (ends _ c.or.ensures _ c.mirrors_fault.ensures)
    ∙ first-broken (pair_findings set other)
