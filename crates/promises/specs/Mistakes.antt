-- "Errors a good engineer makes here": each wrong rule beside an example on which it would answer otherwise.
use Rattle.std.specs.Prelude.{ℕ, ◌%◌, ◌≡◌, refl, List, [], ◌∷◌, map, length, get_or, eqb, ltb}
use Rattle.octets.specs.Sentences.{pick, first}
use Rattle.octets.specs.Bit.{bit}
use Rattle.sets.specs.View.{View, view_of}
use Rattle.records.specs.declared.Device.{Device}
use Rattle.records.specs.Device.{in_address, in_configured, zeros, fresh, with_address, with_configuration, with_endpoints}
use Rattle.records.specs.Current.{current_endpoints}
use Rattle.requests.specs.declared.Setup.{Setup}
use Rattle.requests.specs.Table.{setup_of}
use Rattle.events.specs.declared.Event.TheVariants.{Request}
use Rattle.events.specs.Answer.{Outcome, done, refused}
use Rattle.events.specs.Requests.{set_interface, halt_feature, set_halt, clear_halt, endpoint_feature}
use Rattle.events.specs.Step.{step}
use Rattle.promises.specs.Examples.{bytes, computed, S, T}
use Rattle.promises.specs.Refusal.{empty_part}
use Rattle.promises.specs.Rearranged.{Values, values_of}
use Rattle.promises.specs.Bench.{configured}

abbrev setup : ℕ → Setup
setup x = setup_of (bytes 8 x)

-- ---- the five wrong rules
-- taking an address at once
abbrev address_at_once : View → Device → Setup → Outcome
address_at_once v d s = done (with_address in_address s.wValue d)

-- clearing halts only when the setting differs
abbrev setting_if_other : View → Device → Setup → Outcome
setting_if_other v d s = pick (eqb (get_or d.alternates s.wIndex 0) s.wValue) (done d) (set_interface v d s)

-- selecting a configuration by index
abbrev configuration_by_index : View → Device → Setup → Outcome
configuration_by_index v d s = pick (ltb s.wValue (length v.configurations)) (done (with_configuration in_configured s.wValue d)) (refused 13 d)

-- looking up an endpoint without its direction bit
abbrev halt_without_direction : View → Device → Setup → Outcome
halt_without_direction v d s = halt_feature set_halt d s (first (λ e. eqb (e.address % 128) (s.wIndex % 128)) (current_endpoints v d))

-- clearing a toggle only if halted
abbrev clear_if_halted : Device → ℕ → Device
clear_if_halted d k = pick (bit d.halts k) (clear_halt d k) d

abbrev toggle_if_halted : View → Device → Setup → Outcome
toggle_if_halted = endpoint_feature clear_if_halted

-- ---- on which they err
abbrev halted : Device
halted = with_endpoints zeros 0x20000 0 configured

abbrev toggled : Device
toggled = with_endpoints zeros 0 0x20000 configured

pub record Mistake : Type 0 where
  pub right : Outcome
  pub wrong : Outcome

abbrev pub mistake : Outcome → Outcome → Mistake
mistake r w = record { right = r; wrong = w }

pub mistakes : List Mistake
mistakes =
    mistake (step S fresh (Request (setup 0x0005050000000000))) (address_at_once (view_of S) fresh (setup 0x0005050000000000)) ∷
    mistake (step T halted (Request (setup 0x010B000000000000))) (setting_if_other (view_of T) halted (setup 0x010B000000000000)) ∷
    mistake (step S configured (Request (setup 0x0009010000000000))) (configuration_by_index (view_of S) configured (setup 0x0009010000000000)) ∷
    mistake (step S configured (Request (setup 0x0203000001000000))) (halt_without_direction (view_of S) configured (setup 0x0203000001000000)) ∷
    mistake (step S toggled (Request (setup 0x0201000081000000))) (toggle_if_halted (view_of S) toggled (setup 0x0201000081000000)) ∷ []

-- what tells a right outcome from a wrong one: document 01's number, bytes and part, the address, halts and toggles
pub record Seen : Type 0 where
  pub answer : Values
  pub address : ℕ
  pub halts : ℕ
  pub toggles : ℕ

abbrev pub seen : Outcome → Seen
seen o = record { answer = values_of o.answer; address = o.device.address; halts = o.device.halts; toggles = o.device.toggles }

-- a number, with no bytes and an empty part
abbrev pub looks : ℕ → ℕ → ℕ → ℕ → Seen
looks n d h t = record { answer = record { number = n; bytes = []; part = empty_part }; address = d; halts = h; toggles = t }

pub rights : map (λ m. seen m.right) mistakes ≡ looks 0 0 0 0 ∷ looks 0 5 0 0 ∷ looks 0 5 0 0 ∷ looks 13 5 0 0 ∷ looks 0 5 0 0 ∷ []
unfolding computed mistakes
rights = refl

pub wrongs : map (λ m. seen m.wrong) mistakes ≡ looks 0 5 0 0 ∷ looks 0 5 0x20000 0 ∷ looks 13 5 0 0 ∷ looks 0 5 0x20000 0 ∷ looks 0 5 0 0x20000 ∷ []
unfolding computed mistakes
wrongs = refl
