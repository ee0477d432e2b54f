-- Whether a record fits a set (document 01: "A record fits a set when ..").
use Rattle.std.specs.Prelude.{ℕ, ◌%◌, List, Bool, ◌&&◌, ◌||◌, not, get_or, eqb, leb}
use Rattle.octets.specs.Bit.{bit}
use Rattle.octets.specs.Sentences.{pick, ◌⇒◌, any, below}
use Rattle.descriptors.specs.declared.Endpoint.{Endpoint}
use Rattle.descriptors.specs.Configuration.{Configuration, has_interface, has_setting, can_halt, bit_of}
use Rattle.sets.specs.Opening.{Board}
use Rattle.sets.specs.View.{View, has_value, wakes}
use Rattle.records.specs.declared.Device.{Device}
use Rattle.records.specs.Device.{in_default, in_address, in_configured, nothing, at_full_speed, at_high_speed, test_waits, test_entered, in_test_mode}
use Rattle.records.specs.Current.{view_at, selected, current_endpoints}

-- byte 7: 0; where two sets are lent, also 1, or "1 plus 16 times the selector", a selector of 1–5 (L7)
abbrev pub good_speed : Bool → ℕ → Bool
good_speed paired speed = eqb speed at_full_speed || (paired && eqb (speed % 16) at_high_speed && leb speed (test_entered 5))

-- "those ranges hold": the state, the wakeup byte, the power source ("Fitting a record now allows 0 or 1 there", L2),
-- suspended ("0 or 1", L12), and the speed
abbrev pub in_range : Bool → Device → Bool
in_range paired d = leb d.state 2 && leb d.wakeup 1 && leb d.power 1 && leb d.suspended 1 && good_speed paired d.speed

-- "a waiting address is at most 127"; "Once entered, .. a record fits only if nothing waits then; one in which a test mode waits fits only if
-- byte 7 is 1" (L7)
abbrev pub good_waiting : Device → Bool
good_waiting d =
    eqb d.waiting nothing ||
    (leb d.waiting 127 && not (in_test_mode d)) ||
    (test_waits d && eqb d.speed at_high_speed)

-- "in Default, address and configuration are 0; in Address, address 1–127 and configuration 0;
-- in Configured, address 1–127, a configuration value of the set, nothing waiting", or a test mode: "Configured included" (L7)
abbrev pub good_state : View → Device → Bool
good_state v d =
    (eqb d.state in_default ⇒ (eqb d.address 0 && eqb d.configuration 0)) &&
    (eqb d.state in_address ⇒ (leb 1 d.address && leb d.address 127 && eqb d.configuration 0)) &&
    (eqb d.state in_configured ⇒ (leb 1 d.address && leb d.address 127 && has_value (record { 0 = d.configuration }) v.configurations && (eqb d.waiting nothing || test_waits d)))

-- "alternates exist, and are 0 for interfaces that do not"
abbrev pub good_alternates : Configuration → Device → Bool
good_alternates c d = below 16 (λ j. pick (has_interface c j) (has_setting c j (get_or d.alternates j 0)) (eqb (get_or d.alternates j 0) 0))

-- "halts stand only at bulk or interrupt endpoints of the current settings, toggles likewise"
abbrev pub stands_at : List Endpoint → ℕ → Bool
stands_at es word = below 32 (λ k. bit word k ⇒ any (λ e. can_halt e && eqb (bit_of e.address) k) es)

unfoldable pub fits : View → Device → Bool
fits v d =
    let es = current_endpoints v d in
    in_range v.paired d && good_waiting d && good_state v d &&
    good_alternates (selected v d) d &&
    stands_at es d.halts && stands_at es d.toggles &&
    (eqb d.wakeup 1 ⇒ wakes v)

-- a board: the set in use there
abbrev pub fits_on : Board → Device → Bool
fits_on b d = fits (view_at b d) d
