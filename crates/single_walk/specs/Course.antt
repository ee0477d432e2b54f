-- Working definitions for the contracts of the walk that checks and collects, a descriptor at a time; no promise cites them.
use Rattle.std.specs.Prelude.{ℕ, ◌+◌, ◌*◌, ◌/◌, ◌%◌, ◌<◌, List, Bool, true, false, ◌&&◌, ◌||◌, ◌≡◌, get_or, drop, eqb, leb, ltb, Option, Some, None, is_some, IfSome}
use Rattle.std.proofs.Math.Path.{refl}
use Rattle.octets.specs.Bit.{bit, set_bit}
use Rattle.octets.specs.Sentences.{pick, every}
use Rattle.octets.specs.Table.{has}
use Rattle.descriptors.specs.declared.Endpoint.{Endpoint}
use Rattle.descriptors.specs.declared.limits.Limits.{Limits}
use Rattle.descriptors.specs.declared.survey.Asked.{Asked}
use Rattle.descriptors.specs.declared.survey.Survey.{Survey}
use Rattle.descriptors.specs.Limits.{full_speed, high_speed}
use Rattle.descriptors.specs.Descriptor.{is_interface, is_endpoint, iInterface, bEndpointAddress, bmAttributes, transfer_type}
use Rattle.descriptors.specs.Cut.{cut}
use Rattle.descriptors.specs.Walk.{before, walked, collected}
use Rattle.descriptors.specs.Check.{starting, checking, referring}
use Rattle.descriptors.specs.Sequence.{begins, BegunBy, listable, listed_in, next_of, proceeds}
use Rattle.descriptors.specs.Sequence.{setting_out as order_out}
use Rattle.descriptors.specs.Lookup.{with_bit}
use Rattle.descriptors.specs.Survey.{earlier, nothing_seen, surveying}
use Rattle.single_walk.specs.declared.walk.Wanted.{Wanted}
use Rattle.single_walk.specs.declared.course.Role.{Role}
use Rattle.single_walk.specs.declared.course.Role.TheVariants.{Other, AskedFor, Current, CurrentAskedFor}
use Rattle.single_walk.specs.declared.walk.Finds.{Finds}
use Rattle.single_walk.specs.declared.course.Course.{Course}
use Rattle.single_walk.specs.declared.walk.Turned.{Turned}
use Rattle.single_walk.specs.declared.walk.Walked.{Walked}

-- ---- the limits of a speed
abbrev pub limits_at : Bool → Limits
limits_at high = pick high high_speed full_speed

-- ---- what is asked: both numbers of a setting in one, which is a descriptor's two bytes if these are the numbers, and else none's
abbrev pub wanted_of : Bool → Asked → Wanted
wanted_of high asked = record {
  high = high;
  address = asked.address;
  interface = asked.interface;
  setting = asked.interface % 256 + 256 * asked.alternate + 16777216 * (asked.interface / 256);
}

-- ---- what is found. A current setting's role is of the interface that is asked for or not; of the others only the setting that is asked for counts
abbrev pub role_of : List ℕ → Wanted → ℕ → Role
role_of alternates wanted setting =
    pick (eqb (setting / 256) (get_or alternates (setting % 256) 0)) (pick (eqb (setting % 256) wanted.interface) CurrentAskedFor Current)
    (pick (eqb setting wanted.setting) AskedFor Other)

abbrev pub begin_current : Finds → ℕ → Wanted → Finds
begin_current f setting wanted = record {
  current = set_bit f.current (setting % 256);
  halting = f.halting;
  bits = f.bits;
  endpoint = f.endpoint;
  there = f.there || eqb setting wanted.setting;
}

abbrev pub begin_other : Finds → Finds
begin_other f = record { current = f.current; halting = f.halting; bits = f.bits; endpoint = f.endpoint; there = true }

abbrev pub with_setting : Finds → ℕ → Role → Wanted → Finds
with_setting f setting Other wanted = f
with_setting f setting AskedFor wanted = begin_other f
with_setting f setting Current wanted = begin_current f setting wanted
with_setting f setting CurrentAskedFor wanted = begin_current f setting wanted

-- the endpoint that a descriptor lists, in a setting; and the one that was found before, or else this one
abbrev pub endpoint_of : ℕ → List ℕ → Endpoint
endpoint_of setting d = record { interface = setting % 256; alternate = setting / 256 % 256; address = bEndpointAddress d; attributes = bmAttributes d }

abbrev pub first_found : Option Endpoint → ℕ → List ℕ → Wanted → Option Endpoint
first_found endpoint setting d wanted = earlier endpoint (pick (eqb (bEndpointAddress d) wanted.address) (Some (endpoint_of setting d)) None)

abbrev pub at_other : Finds → List ℕ → Finds
at_other f d = record { current = f.current; halting = f.halting; bits = with_bit f.bits true d; endpoint = f.endpoint; there = f.there }

abbrev pub at_current : Finds → List ℕ → ℕ → Bool → Wanted → Finds
at_current f d setting asked_for wanted = record {
  current = f.current;
  halting = with_bit f.halting (leb 2 (transfer_type (bmAttributes d))) d;
  bits = with_bit f.bits asked_for d;
  endpoint = first_found f.endpoint setting d wanted;
  there = f.there;
}

abbrev pub with_endpoint : Finds → List ℕ → ℕ → Role → Wanted → Finds
with_endpoint f d setting Other wanted = f
with_endpoint f d setting AskedFor wanted = at_other f d
with_endpoint f d setting Current wanted = at_current f d setting false wanted
with_endpoint f d setting CurrentAskedFor wanted = at_current f d setting true wanted

-- ---- a descriptor of any type
abbrev pub setting_out : Course
setting_out = record {
  order = order_out;
  finds = record { current = 0; halting = 0; bits = 0; endpoint = None; there = false };
  role = Other;
  refers = true;
  low = refl;
}

pub record ListedBy (wanted : Wanted) (c : Course) (d : List ℕ) (next : Course) : Type 0 where
  pub order : next.order ≡ listed_in c.order d
  pub role : next.role ≡ c.role
  pub finds : next.finds ≡ with_endpoint c.finds d c.order.last c.role wanted
  pub refers : next.refers ≡ c.refers

pub record StartedBy (names alternates : List ℕ) (wanted : Wanted) (c : Course) (setting : ℕ) (d : List ℕ) (next : Course) : Type 0 where
  pub order : BegunBy c.order setting d next.order
  pub role : next.role ≡ role_of alternates wanted setting
  pub finds : next.finds ≡ with_setting c.finds setting (role_of alternates wanted setting) wanted
  pub refers : next.refers ≡ (c.refers && has names (iInterface d))

pub record Starts (names alternates : List ℕ) (wanted : Wanted) (c : Course) (setting : ℕ) (d : List ℕ) (r : Turned) : Type 0 where
  pub may : r.good ≡ begins c.order setting d
  pub on : r.good ≡ true → StartedBy names alternates wanted c setting d r.course

pub record Lists (limits : Limits) (wanted : Wanted) (c : Course) (d : List ℕ) (r : Turned) : Type 0 where
  pub may : r.good ≡ listable limits c.order d
  pub on : r.good ≡ true → ListedBy wanted c d r.course

pub record Turns (limits : Limits) (names alternates : List ℕ) (wanted : Wanted) (c : Course) (setting : ℕ) (d : List ℕ) (r : Turned) : Type 0 where
  pub may : r.good ≡ proceeds limits c.order setting d
  pub lists : is_endpoint d ≡ true → r.good ≡ true → ListedBy wanted c d r.course
  pub starts : is_interface d ≡ true → r.good ≡ true → StartedBy names alternates wanted c setting d r.course
  pub passes : is_interface d ≡ false → is_endpoint d ≡ false → r.course ≡ c

-- ---- the whole walk
-- how it ends: a good body came to its end, where no interface and no endpoint is missing
abbrev pub ended : Course → Bool → ℕ → Bool
ended c whole n = whole && eqb (next_of c.order.last) n && eqb c.order.coming 0

pub record Ends (c : Course) (whole : Bool) (n : ℕ) (r : Option Walked) : Type 0 where
  pub good : is_some r ≡ ended c whole n
  pub on : IfSome r (λ w. (w.refers ≡ c.refers) × (w.finds ≡ c.finds))

-- what is found says what a survey says, but for the interfaces that exist
pub record Tells (asked : Asked) (s : Survey) (f : Finds) : Type 0 where
  pub current : f.current ≡ s.current
  pub halting : f.halting ≡ s.halting
  pub bits : f.bits ≡ s.bits
  pub endpoint : f.endpoint ≡ s.endpoint
  pub there : f.there ≡ s.there

-- what the walk over the descriptors from `from` on answers: whether they are good, and of good ones what is found
pub record RestsOf (names alternates : List ℕ) (asked : Asked) (body : List ℕ) (n from : ℕ) (w : Walked) : Type 0 where
  pub refers : w.refers ≡ every (has names) (collected referring body before from)
  pub tells : Tells asked (walked (surveying alternates asked) nothing_seen before (cut (drop from body))) w.finds
  pub exists : (k : ℕ) → k < 32 → bit (walked (surveying alternates asked) nothing_seen before (cut (drop from body))).existing k ≡ ltb k n

pub record Rests (limits : Limits) (names alternates : List ℕ) (asked : Asked) (body : List ℕ) (n from : ℕ) (r : Option Walked) : Type 0 where
  pub good : is_some r ≡ walked (checking limits n) starting before (cut (drop from body))
  pub on : IfSome r (RestsOf names alternates asked body n from)

-- a survey made of what was found, for n interfaces, numbered from 0 on
pub record SurveyOf (f : Finds) (n : ℕ) (s : Survey) : Type 0 where
  pub existing : (k : ℕ) → bit s.existing k ≡ ltb k n
  pub current : s.current ≡ f.current
  pub halting : s.halting ≡ f.halting
  pub bits : s.bits ≡ f.bits
  pub endpoint : s.endpoint ≡ f.endpoint
  pub there : s.there ≡ f.there
