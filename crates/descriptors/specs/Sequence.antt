-- Working definitions for the order of settings and endpoints, as the check keeps it in a few numbers; no promise cites them.
use Rattle.std.specs.Prelude.{ℕ, ◌+◌, ◌-◌, ◌%◌, ◌<◌, ◌≤◌, List, Bool, true, false, ◌&&◌, ◌||◌, not, ◌≡◌, length, eqb, leb, ltb, Option, is_some, IfSome}
use Rattle.std.proofs.Math.Path.{refl}
use Rattle.octets.specs.Bit.{bit, set_bit}
use Rattle.octets.specs.Sentences.{pick}
use Rattle.octets.specs.Table.{has}
use Rattle.descriptors.specs.declared.limits.Limits.{Limits}
use Rattle.descriptors.specs.declared.sequence.Order.{Order}
use Rattle.descriptors.specs.declared.checked.Checked.{Checked}
use Rattle.descriptors.specs.Descriptor.{bDescriptorType, is_interface, is_endpoint, bNumEndpoints, iInterface, bEndpointAddress, transfer_type, good_address, good_attributes, good_size, good_interval, type_allowed, good_endpoint}
use Rattle.descriptors.specs.Configuration.{bit_of}
use Rattle.descriptors.specs.Walk.{before_first}

-- ---- the order of settings, each as one number: the next interface's first setting, and whether a setting may come after `last`, as its next
-- alternate or as the next interface's first
abbrev pub next_of : ℕ → ℕ
next_of last = (last % 256 + 1) % 256

abbrev pub settles : ℕ → ℕ → Bool
settles last setting = pick (eqb setting (last + 256)) (ltb setting 4096) (eqb setting (next_of last) && ltb setting 16)

-- the addresses of the interfaces before, and those of this interface's settings, once a setting is begun
pub record Takes (o : Order) (setting others own : ℕ) : Type 0 where
  pub owns : own ≡ pick (eqb setting (o.last + 256)) o.own 0
  pub takes : (e : ℕ) → e < 32 → bit others e ≡ pick (eqb setting (o.last + 256)) (bit o.others e) (bit o.others e || bit o.own e)

pub record Places (o : Order) (setting : ℕ) (r : Option Order) : Type 0 where
  pub may : is_some r ≡ settles o.last setting
  pub on : IfSome r (λ p. Takes o setting p.others p.own)

-- ---- an interface descriptor, of a setting: whether it may come, and the order after it
abbrev pub begins : Order → ℕ → List ℕ → Bool
begins o setting d = leb 9 (length d) && eqb o.coming 0 && settles o.last setting

pub record BegunBy (o : Order) (setting : ℕ) (d : List ℕ) (next : Order) : Type 0 where
  pub last : next.last ≡ setting
  pub comes : next.coming ≡ bNumEndpoints d
  pub rest : Takes o setting next.others next.own
  pub clear : next.setting ≡ 0

pub record Begins (o : Order) (setting : ℕ) (d : List ℕ) (r : Option Order) : Type 0 where
  pub may : is_some r ≡ begins o setting d
  pub on : IfSome r (BegunBy o setting d)

-- ---- an endpoint descriptor: its attributes, size and interval; whether it may come, and the order after it
abbrev pub good_kind : Limits → ℕ → ℕ → ℕ → Bool
good_kind limits attributes size interval =
    good_attributes attributes && good_size limits (transfer_type attributes) size && good_interval limits (transfer_type attributes) interval

abbrev pub free : Order → List ℕ → Bool
free o d = not (bit o.others (bit_of (bEndpointAddress d)) || bit o.setting (bit_of (bEndpointAddress d)))

abbrev pub comes : Order → List ℕ → Bool
comes o d = leb 7 (length d) && good_address (bEndpointAddress d) && leb 1 o.coming && free o d

abbrev pub listable : Limits → Order → List ℕ → Bool
listable limits o d = type_allowed 5 && good_endpoint limits d && leb 1 o.coming && free o d

abbrev pub listed_in : Order → List ℕ → Order
listed_in o d = record {
  last = o.last;
  coming = o.coming - 1;
  others = o.others;
  own = set_bit o.own (bit_of (bEndpointAddress d));
  setting = set_bit o.setting (bit_of (bEndpointAddress d));
}

-- ---- a descriptor of any type
abbrev pub setting_out : Order
setting_out = record { last = before_first; coming = 0; others = 0; own = 0; setting = 0 }

abbrev pub checking_out : Checked
checking_out = record { order = setting_out; refers = true; low = refl }

abbrev pub proceeds : Limits → Order → ℕ → List ℕ → Bool
proceeds limits o setting d = pick (is_endpoint d) (listable limits o d) (pick (is_interface d) (begins o setting d) (type_allowed (bDescriptorType d)))

-- what the check alone knows after it: the order, and whether every reference so far is in a table
pub record TurnedBy (names : List ℕ) (w : Checked) (setting : ℕ) (d : List ℕ) (next : Checked) : Type 0 where
  pub lists : is_endpoint d ≡ true → (next.order ≡ listed_in w.order d) × (next.refers ≡ w.refers)
  pub starts : is_interface d ≡ true → BegunBy w.order setting d next.order × (next.refers ≡ (w.refers && has names (iInterface d)))
  pub passes : is_interface d ≡ false → is_endpoint d ≡ false → next ≡ w

pub record Turns (limits : Limits) (names : List ℕ) (w : Checked) (setting : ℕ) (d : List ℕ) (r : Option Checked) : Type 0 where
  pub may : is_some r ≡ proceeds limits w.order setting d
  pub on : IfSome r (TurnedBy names w setting d)

-- what is asked of the call that walks: the body is short enough that no place overflows
pub record Ready (body : List ℕ) (n from : ℕ) : Type 0 where
  pub short : length body ≤ 65535
  pub some_bytes : 1 ≤ length body
  pub inside : from ≤ length body
  pub one : 1 ≤ n
  pub few : n ≤ 16

-- ---- the same limits, but that no companion is asked for
abbrev pub unaccompanied : Limits → Limits
unaccompanied limits = record {
  control = limits.control;
  speed = limits.speed;
  entries = limits.entries;
  companions = false;
}
