-- What hk_explain tells: opening's number, the first rule that is broken, and the byte where it is broken.
use Rattle.std.specs.Prelude.{ℕ, ◌-◌, List, ◌++◌, Bool, not, length, eqb, ltb}
use Rattle.std.proofs.Math.Option.{Option, some, none}
use Rattle.octets.specs.Sentences.{pick, first}
use Rattle.descriptors.specs.declared.limits.Limits.{Limits}
use Rattle.sets.specs.Device.{device_body, iSerialNumber}
use Rattle.sets.specs.Opening.{Board, opening}
use Rattle.rules.specs.Findings.{Finding}
use Rattle.rules.specs.Frame.{frame_findings, contents_findings}
use Rattle.rules.specs.Device.{device_findings, serial_findings}
use Rattle.rules.specs.Configurations.{configurations_findings}
use Rattle.rules.specs.Strings.{strings_findings}

-- every rule in its order: group by group; within a group entry by entry and descriptor by descriptor, and at one descriptor in the page's order
unfoldable pub findings : Limits → Board → List Finding
findings limits b =
    frame_findings b.set ++
    (contents_findings limits b.set ++
    (device_findings limits b.set ++
    (configurations_findings limits b.set ++
    (strings_findings b.set ++
    serial_findings (iSerialNumber (device_body b.set)) b.serial))))

abbrev pub is_broken : Finding → Bool
is_broken x = not x.holds

-- the first rule that is broken, and its byte
pub record Fault : Type 0 where
  pub rule : ℕ
  pub place : ℕ

-- rule 0 where nothing is broken
abbrev pub fault_of : Option Finding → Fault
fault_of none = record { rule = 0; place = 0 }
fault_of (some x) = record { rule = x.rule; place = x.place }

-- a byte that is missing is looked for at the last that is there, and at 0 where nothing is lent
abbrev pub inside : List ℕ → ℕ → ℕ
inside bytes place = pick (ltb place (length bytes)) place (length bytes - 1)

-- the slice that a group is about: the serial block in group 6, else the set
abbrev pub lent_for : Board → ℕ → List ℕ
lent_for b number = pick (eqb number 6) b.serial b.set

-- opening's number, the rule, and the byte of the set, or of the serial block in group 6
pub record Explained : Type 0 where
  pub number : ℕ
  pub rule : ℕ
  pub place : ℕ

unfoldable pub explained : Limits → Board → Explained
explained limits b =
    let number = opening limits b in
    let fault = fault_of (first is_broken (findings limits b)) in
    record { number = number; rule = fault.rule; place = inside (lent_for b number) fault.place }
