-- `rules::string::strings_fault` meets its contract. No axiom.
use Rattle.std.specs.Prelude.{Option, Some, None, is_some as is_there}
use Rattle.octets.proofs.Vocabulary.{◌≡◌, sym, ◌∙◌, List, ℕ}
use Rattle.octets.specs.Sentences.{first, is_some}
use Rattle.sets.specs.declared.Entry.{Entry}
use Rattle.sets.specs.Contents.{entries}
use Rattle.sets.specs.Device.{device_body, iSerialNumber}
use Rattle.sets.specs.Found.{found, is_at}
use Rattle.sets.specs.Strings.{string_zero, languages}
use Rattle.sets.proofs.Pieces.{none_of}
use Rattle.sets.proofs.Strings.{zero-some, zero-none}
use Rattle.rules.specs.Strings.{strings_from, listed_from, device_references, references_from}
use Rattle.rules.proofs.After.{joins, then-rule, then-list, ends}
use Rattle.rules.proofs.string.strings_fault.Goals as goal

zero-there : (set : List ℕ) {o : Option Entry} → o ≡ found (first (is_at 3 0 0) (entries set)) → is_there o ≡ is_some (string_zero set)
zero-there set {o = None} p = rw (zero-none set (sym p))
zero-there set {o = Some e} p = rw (zero-some set (sym p))

pub of-judge-requires-clause-found : goal.of-judge-requires-clause-found
of-judge-requires-clause-found c = c.is_some-there.ensures ∙ zero-there c.args.set.now c.find_entry.ensures

pub returns : goal.returns
returns c =
    let set = c.args.set.now in
    let listed = c.string_zero-zero.ensures in
    let j = c.of-judge.result.judges in
    joins None (strings_from set (languages set) (iSerialNumber (device_body set)) 4 (entries set)) _ (rw (listed, j.index, c.of-judge.ensures) at c.entries_fault.ensures)
    (then-rule _ c.or.ensures _ _ (rw (none_of set 3, c.is_some-there.ensures, zero-there set c.find_entry.ensures) at c.missing_fault.ensures)
    (then-list _ c.or-2.ensures (listed_from set (languages set) 4 (entries set)) _ (rw listed at c.listed_fault.ensures)
    (then-list _ c.or-3.ensures (device_references set) _ (rw c.of-judge.ensures at c.device_fault.ensures)
    (ends _ c.or-4.ensures (references_from set (entries set)) (rw c.of-judge.ensures at c.references_fault.ensures)))))
