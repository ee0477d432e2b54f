-- Working definitions for the contracts of walks over a body; no promise cites them.
use Rattle.std.specs.Prelude.{ℕ, ◌+◌, ◌-◌, ◌/◌, ◌%◌, ◌≤◌, ◌<◌, List, [], ◌++◌, Bool, true, false, ◌&&◌, ◌≡◌, length, drop, leb, ltb, Option, Some, None}
use Rattle.std.proofs.Math.Option.{Option as Maybe, some, none}
use Rattle.octets.specs.Octets.{byte, word, part}
use Rattle.octets.specs.Sentences.{pick}
use Rattle.descriptors.specs.declared.Setting.{Setting}
use Rattle.descriptors.specs.declared.walk.Stand.{Stand}
use Rattle.descriptors.specs.declared.walk.Step.{Step}
use Rattle.descriptors.specs.Cut.{Cutting, whole, broken, descriptor, cut}
use Rattle.descriptors.specs.Descriptor.{is_interface, bInterfaceNumber, bAlternateSetting}

-- the setting of a stand
abbrev pub setting_at : Stand → Setting
setting_at stand = record { interface = stand.interface; alternate = stand.alternate }

-- before the first interface; and where a descriptor stands that follows one at `last`
abbrev pub before : Stand
before = record { inside = false; interface = 0; alternate = 0 }

abbrev pub stand_of : Stand → List ℕ → Stand
stand_of last d = pick (is_interface d) (record { inside = true; interface = bInterfaceNumber d; alternate = bAlternateSetting d }) last

-- a descriptor begins at `at` and is whole
abbrev pub steps_on : List ℕ → ℕ → Bool
steps_on body at = leb 2 (byte body at) && ltb at (length body) && leb (byte body at) (length body - at)

-- the one step over a descriptor: where it ends, and where it stands
pub record Pace : Type 0 where
  pub end : ℕ
  pub stand : Stand

abbrev pub step_of : List ℕ → ℕ → Stand → Pace
step_of body at last =
    pick (steps_on body at) (record { end = at + byte body at; stand = stand_of last (part body at (byte body at)) }) (record { end = at; stand = last })

-- ---- the same with the setting as one number, bInterfaceNumber + 256 × bAlternateSetting: the number before the first interface, the stand that a
-- number is, and the number that follows one
abbrev pub before_first : ℕ
before_first = 65791

abbrev pub stand_in : ℕ → Stand
stand_in setting = pick (ltb setting 65536) (record { inside = true; interface = setting % 256; alternate = setting / 256 }) before

abbrev pub setting_after : ℕ → List ℕ → ℕ
setting_after last d = pick (is_interface d) (word d 2) last

pub record SetAfter (last : ℕ) (d : List ℕ) (setting : ℕ) : Type 0 where
  pub sets : setting ≡ setting_after last d
  pub stands : stand_in setting ≡ stand_of (stand_in last) d

-- what a step tells: what the one step says, and its stand as a number, which the next step takes
abbrev pub pace_of : Step → Pace
pace_of step = record { end = step.end; stand = step.stand }

abbrev pub staying : ℕ → ℕ → Step
staying at last = record { end = at; setting = last; stand = stand_in last }

pub record Steps (body : List ℕ) (at last : ℕ) (step : Step) : Type 0 where
  pub steps : pace_of step ≡ step_of body at (stand_in last)
  pub apart : step.stand ≡ stand_in step.setting
  pub sets : step.setting ≡ pick (steps_on body at) (setting_after last (part body at (byte body at))) last

-- the step where nothing is known of the body: one that goes on, or none, where the one step stays
pub record Goes (body : List ℕ) (at last : ℕ) (step : Step) : Type 0 where
  pub steps : Steps body at last step
  pub onward : at < step.end

abbrev pub Advances : List ℕ → ℕ → ℕ → Option Step → Type 0
Advances body at last None = Steps body at last (staying at last)
Advances body at last (Some step) = Goes body at last step

-- a descriptor begins at `at`, of a type that no walk looks at; it may end past the body
pub record Plain (body : List ℕ) (at : ℕ) : Type 0 where
  pub inside : at + 1 < length body
  pub two : 2 ≤ byte body at
  pub plain : 8 ≤ byte body (at + 1)

-- such descriptors one behind the other, from `from` on, and where the last of them ends
pub data Plains (body : List ℕ) (from : ℕ) : ℕ → Type 0 where
  nothing : Plains body from from
  onward : {r : ℕ} → Plains body from r → Plain body r → Plains body from (r + byte body r)

-- a walk over a body: what is known (W) when a descriptor comes, which stands at the second stand, the one before it at the first; the answer that
-- it may give at once, or what is known after it; the answer at the body's end, where the last descriptor stands there, and where the body is broken
pub record Walk (W A : Type 0) : Type 0 where
  pub stop : W → Stand → Stand → List ℕ → Maybe A
  pub on : W → Stand → Stand → List ℕ → W
  pub finish : W → Stand → A
  pub astray : W → A

abbrev pub or_else : {A : Type 0} → Maybe A → A → A
or_else none b = b
or_else (some a) b = a

-- every walk: the step alone says where a descriptor stands
unfoldable pub walked : {W A : Type 0} → Walk W A → W → Stand → Cutting → A
walked R w last whole = R.finish w last
walked R w last broken = R.astray w
walked R w last (descriptor d ds) =
    let stand = stand_of last d in
    or_else (R.stop w last stand d) (walked R (R.on w last stand d) stand ds)

-- a walk that gathers, and one that tests
abbrev pub gathering : {W : Type 0} → (W → Stand → List ℕ → W) → Walk W W
gathering on = record {
  stop = λ w last stand d. none;
  on = λ w last stand d. on w stand d;
  finish = λ w stand. w;
  astray = λ w. w;
}

abbrev pub testing : {W : Type 0} → (W → Stand → Stand → List ℕ → Bool) → (W → Stand → Stand → List ℕ → W) → (W → Stand → Bool) → Walk W Bool
testing test on finish = record {
  stop = λ w last stand d. pick (test w last stand d) none (some false);
  on = on;
  finish = finish;
  astray = λ w. false;
}

-- and one that collects a list: what a descriptor adds to it, given where it begins in the body, where it stands, and its bytes
pub record Collection (X : Type 0) : Type 0 where
  pub at : ℕ
  pub items : List X

abbrev pub collecting : {X : Type 0} → (ℕ → Stand → List ℕ → List X) → Walk (Collection X) (List X)
collecting adds = record {
  stop = λ w last stand d. none;
  on = λ w last stand d. record { at = w.at + length d; items = w.items ++ adds w.at stand d };
  finish = λ w stand. w.items;
  astray = λ w. w.items;
}

-- what it collects from a place in a body on, behind a descriptor that stands at `last`
abbrev pub collected : {X : Type 0} → (ℕ → Stand → List ℕ → List X) → List ℕ → Stand → ℕ → List X
collected adds body last at = walked (collecting adds) (record { at = at; items = [] }) last (cut (drop at body))
