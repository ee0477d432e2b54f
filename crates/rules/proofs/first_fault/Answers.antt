-- `rules::first_fault` meets its contract: group after group. No axiom.
use Rattle.std.specs.Prelude.{None}
use Rattle.octets.proofs.Vocabulary.{ap, ◌∙◌}
use Rattle.sets.specs.Device.{device_body, iSerialNumber}
use Rattle.sets.specs.Opening.{lent}
use Rattle.rules.specs.Frame.{frame_findings, contents_findings}
use Rattle.rules.specs.Device.{device_findings, serial_findings}
use Rattle.rules.specs.Configuration.{configurations_findings}
use Rattle.rules.specs.Strings.{strings_findings}
use Rattle.rules.specs.After.{fault_in}
use Rattle.rules.proofs.After.{first-broken, joins, then-list, ends}
use Rattle.rules.proofs.Walked.{walked_findings, walked-told}
use Rattle.rules.proofs.first_fault.Goals as goal

pub returns : goal.returns
returns c =
    let a = c.args in
    let set = a.set.now in
    joins None (frame_findings set) _ c.frame_fault-found.ensures
    (then-list _ c.or-found.ensures (contents_findings a.limits set) _ c.contents_fault.ensures
    (then-list _ c.or-found-2.ensures (device_findings a.limits set) _ c.device_fault.ensures
    (then-list _ c.or-found-3.ensures (configurations_findings a.limits set) _ c.configurations_fault.ensures
    (then-list _ c.or-found-4.ensures (strings_findings set) _ c.strings_fault.ensures
    (ends _ c.or.ensures (serial_findings (iSerialNumber (device_body set)) a.serial.now) (rw c.serial_index-index.ensures at c.serial_fault.ensures))))))
    ∙ first-broken (walked_findings a.limits (lent set a.serial.now))
    ∙ ap fault_in (walked-told a.limits (lent set a.serial.now))
