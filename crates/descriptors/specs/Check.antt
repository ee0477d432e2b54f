-- Working definitions for the check of a configuration body, a descriptor at a time; no promise cites them.
use Rattle.std.specs.Prelude.{ℕ, ◌-◌, List, [], ◌∷◌, Bool, false, ◌&&◌, ◌||◌, not, length, eqb, leb}
use Rattle.octets.specs.Bit.{bit, set_bit}
use Rattle.octets.specs.Sentences.{pick, ◌⇒◌, every}
use Rattle.descriptors.specs.declared.limits.Limits.{Limits}
use Rattle.descriptors.specs.declared.Setting.{Setting}
use Rattle.descriptors.specs.declared.walk.Stand.{Stand}
use Rattle.descriptors.specs.declared.check.Verdict.{Verdict}
use Rattle.descriptors.specs.Companion.{is_companion}
use Rattle.descriptors.specs.Descriptor.{is_interface, is_endpoint, bNumEndpoints, iInterface, bEndpointAddress, type_allowed, interface_long_enough, good_endpoint, good_descriptor}
use Rattle.descriptors.specs.Interfaces.{follows, number_zero, alternate_zero, alternate_within, is_last_number}
use Rattle.descriptors.specs.Configuration.{bit_of, configuration_references}
use Rattle.descriptors.specs.Walk.{setting_at, Walk, testing}
use Rattle.octets.specs.Table.{has}

-- how far the check is: how many endpoints of this setting are still to come; and, a bit for each address, the addresses of this setting, of this
-- interface's settings, and of all that was seen. Where it stands is the step's to say
pub record Progress : Type 0 where
  pub coming : ℕ
  pub setting : ℕ
  pub interface : ℕ
  pub seen : ℕ

-- a setting may come after a descriptor that stands at `last`: the first is number 0, alternate 0; a later one follows the one before it;
-- alternates end at 15
abbrev pub placed : Stand → Setting → Bool
placed last t =
    ((last.inside && follows (setting_at last) t) || (not last.inside && number_zero t && alternate_zero t)) && alternate_within t

-- "An address occurs once in a setting": one that was seen before does not stand in this setting
abbrev pub once_in_setting : Progress → ℕ → Bool
once_in_setting w address = bit w.seen (bit_of address) ⇒ not (bit w.setting (bit_of address))

-- "and in no second interface": one that was seen before stands in this interface
abbrev pub in_no_second_interface : Progress → ℕ → Bool
in_no_second_interface w address = bit w.seen (bit_of address) ⇒ bit w.interface (bit_of address)

abbrev pub fresh : Progress → ℕ → Bool
fresh w address = once_in_setting w address && in_no_second_interface w address

-- "The endpoints after an interface, before the next, number its bNumEndpoints": all of them came; and one more may come, which is never so before the first interface
abbrev pub all_came : Progress → Bool
all_came w = eqb w.coming 0

abbrev pub one_may_come : Progress → Bool
one_may_come w = leb 1 w.coming

-- a descriptor may come next: by where it and the one before it stand and the count of endpoints, and by its address
abbrev pub in_order : Progress → Stand → Stand → List ℕ → Bool
in_order w last stand d =
    (is_interface d ⇒ (all_came w && placed last (setting_at stand))) &&
    (is_endpoint d ⇒ one_may_come w)

abbrev pub unshared : Progress → Stand → Stand → List ℕ → Bool
unshared w last stand d = is_endpoint d ⇒ fresh w (bEndpointAddress d)

abbrev pub allowed : Limits → Progress → Stand → Stand → List ℕ → Bool
allowed limits w last stand d = good_descriptor limits d && in_order w last stand d && unshared w last stand d

-- the same of an interface descriptor, and of an endpoint descriptor
abbrev pub may_begin : Progress → Stand → Stand → List ℕ → Bool
may_begin w last stand d = interface_long_enough d && (type_allowed 4 && all_came w && placed last (setting_at stand))

abbrev pub may_list : Limits → Progress → List ℕ → Bool
may_list limits w d = type_allowed 5 && good_endpoint limits d && one_may_come w && fresh w (bEndpointAddress d)

-- what is known after it: after an interface descriptor, after an endpoint descriptor, and after either, or another
abbrev pub at_interface : Progress → Stand → Stand → List ℕ → Progress
at_interface w last stand d = record {
  coming = bNumEndpoints d;
  setting = 0;
  interface = pick (eqb stand.interface last.interface) w.interface 0;
  seen = w.seen;
}

abbrev pub at_endpoint : Progress → List ℕ → Progress
at_endpoint w d = record {
  coming = w.coming - 1;
  setting = set_bit w.setting (bit_of (bEndpointAddress d));
  interface = set_bit w.interface (bit_of (bEndpointAddress d));
  seen = set_bit w.seen (bit_of (bEndpointAddress d));
}

abbrev pub onward : Progress → Stand → Stand → List ℕ → Progress
onward w last stand d = pick (is_interface d) (at_interface w last stand d) (pick (is_endpoint d) (at_endpoint w d) w)

-- "the last number is bNumInterfaces − 1", and so there is one: the last descriptor stands at `last`
abbrev pub reaches_last : ℕ → Stand → Bool
reaches_last n last = last.inside && is_last_number n (setting_at last)

-- the body may end there, for n interfaces
abbrev pub ended : ℕ → Progress → Stand → Bool
ended n w last = reaches_last n last && all_came w

abbrev pub beginning : Progress
beginning = record { coming = 0; setting = 0; interface = 0; seen = 0 }

-- a descriptor may come as to companions, just behind an endpoint (one is due) or not
abbrev pub accompanied : Bool → List ℕ → Bool
accompanied due d = pick due (is_companion d && leb 6 (length d)) (not (is_companion d))

-- how far the check is, and whether a companion is due; of a kind without them that is never asked
pub record Course : Type 0 where
  pub progress : Progress
  pub due : Bool

abbrev pub starting : Course
starting = record { progress = beginning; due = false }

abbrev pub passing : Limits → Course → Stand → Stand → List ℕ → Course
passing limits c last stand d = record { progress = onward c.progress last stand d; due = pick limits.companions (is_endpoint d) c.due }

-- the walk over the descriptors after the first, for n interfaces
abbrev pub checking : Limits → ℕ → Walk Course Bool
checking limits n = testing
    (λ c last stand d. allowed limits c.progress last stand d && (limits.companions ⇒ accompanied c.due d))
    (passing limits)
    (λ c last. ended n c.progress last && (limits.companions ⇒ not c.due))

-- as to companions alone: whether one is due
abbrev pub accompanying : Walk Bool Bool
accompanying = testing (λ due last stand d. accompanied due d) (λ due last stand d. is_endpoint d) (λ due last. not due)

-- the string reference of a descriptor, if it has one; the walk that collects those behind the first
abbrev pub reference_of : List ℕ → List ℕ
reference_of d = pick (is_interface d) (iInterface d ∷ []) []

abbrev pub referring : ℕ → Stand → List ℕ → List ℕ
referring at stand d = reference_of d

-- every reference of a configuration is in a table
abbrev pub configuration_refers : List ℕ → List ℕ → Bool
configuration_refers names body = every (has names) (configuration_references body)

-- what the code says of something that is good or not, and refers to what is there or not
abbrev pub verdict : Bool → Bool → Verdict
verdict good refers = record { good = good; refers = good && refers }
