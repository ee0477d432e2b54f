-- What exists at a record: the set in use, the selected configuration, and the endpoints of the current settings.
use Rattle.std.specs.Prelude.{ℕ, List, [], Bool, eqb}
use Rattle.std.proofs.Math.Option.{Option, some, none}
use Rattle.octets.specs.Sentences.{pick, is_some}
use Rattle.descriptors.specs.declared.Endpoint.{Endpoint}
use Rattle.descriptors.specs.Configuration.{Configuration, current_of, addressed}
use Rattle.sets.specs.Opening.{Board, lent}
use Rattle.sets.specs.View.{View, view_of, unconfigured, by_value}
use Rattle.records.specs.declared.Device.{Device}
use Rattle.records.specs.Device.{in_configured, at_full_speed}

-- "record byte 7 says which is in use (0 full, 1 high)" (L7): of two things that belong to the two sets, that of the set in use;
-- where one set is lent, the first
abbrev pub in_use : {A : Type 0} → Option (List ℕ) → ℕ → A → A → A
in_use none speed full high = full
in_use (some set) speed full high = pick (eqb speed at_full_speed) full high

abbrev pub or_empty : Option (List ℕ) → List ℕ
or_empty none = []
or_empty (some set) = set

-- the set in use; and with the serial block, as a board that lends it alone
abbrev pub set_for : Board → ℕ → List ℕ
set_for b speed = in_use b.high speed b.set (or_empty b.high)

abbrev pub board_for : Board → ℕ → Board
board_for b speed = lent (set_for b speed) b.serial

-- its view; that two sets are lent is known of the whole board
abbrev pub paired_as : Bool → View → View
paired_as paired v = record {
  entries = v.entries;
  languages = v.languages;
  serial_index = v.serial_index;
  serial_length = v.serial_length;
  configurations = v.configurations;
  paired = paired;
}

abbrev pub view_for : Board → ℕ → View
view_for b speed = paired_as (is_some b.high) (view_of (board_for b speed))

abbrev pub set_at : Board → Device → List ℕ
set_at b d = set_for b d.speed

abbrev pub view_at : Board → Device → View
view_at b d = view_for b d.speed

-- the configuration that a state and a value select: "Interfaces and endpoints other than zero exist only in Configured"
abbrev pub selected_in : View → ℕ → ℕ → Configuration
selected_in v state value = pick (eqb state in_configured) (by_value (record { 0 = value }) v.configurations) unconfigured

abbrev pub selected : View → Device → Configuration
selected v d = selected_in v d.state d.configuration

abbrev pub current_endpoints : View → Device → List Endpoint
current_endpoints v d = current_of d.alternates (selected v d)

-- the endpoint with this whole address in a current setting
abbrev pub endpoint_at : View → Device → ℕ → Option Endpoint
endpoint_at v d address = addressed address (current_endpoints v d)
