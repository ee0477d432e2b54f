-- All rules as the code asks them: they break first where the list of rules does. No axiom.
use Rattle.octets.proofs.Vocabulary.{◌≡◌, refl, List, ◌++◌}
use Rattle.octets.specs.Sentences.{first}
use Rattle.descriptors.specs.declared.limits.Limits.{Limits}
use Rattle.sets.specs.Device.{device_body, iSerialNumber}
use Rattle.sets.specs.Opening.{Board}
use Rattle.rules.specs.Findings.{Finding}
use Rattle.rules.specs.Frame.{frame_findings, contents_findings}
use Rattle.rules.specs.Device.{device_findings, serial_findings}
use Rattle.rules.specs.Configuration.{configurations_findings}
use Rattle.rules.specs.Strings.{strings_findings}
use Rattle.rules.specs.Explained.{findings, is_broken}
use Rattle.rules.proofs.Bodies.{then_same, both-same, configurations-told}

abbrev pub walked_findings : Limits → Board → List Finding
walked_findings limits b =
    frame_findings b.set ++
    (contents_findings limits b.set ++
    (device_findings limits b.set ++
    (configurations_findings limits b.set ++
    (strings_findings b.set ++
    serial_findings (iSerialNumber (device_body b.set)) b.serial))))

pub walked-told : (limits : Limits) (b : Board) → first is_broken (walked_findings limits b) ≡ first is_broken (findings limits b)
unfolding findings
walked-told limits b =
    then_same (frame_findings b.set) _ _ (λ p.
    then_same (contents_findings limits b.set) _ _ (λ q.
    then_same (device_findings limits b.set) _ _ (λ r.
    both-same (configurations_findings limits b.set) _ _ _ (configurations-told limits b.set) refl)))
