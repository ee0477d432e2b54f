-- What opening gives: where the groups before are met, the next one decides. No axiom.
use Rattle.std.specs.Prelude.{Some, Result, Ok, Err, IsErrAnd}
use Rattle.octets.proofs.Vocabulary.{◌≡◌, sym, ◌∙◌, ℕ, ◌+◌, ◌≤◌, List, Bool, true, false, ◌&&◌, not, length, get_elem?, arith}
use Rattle.octets.specs.Octets.{Bytes, byte, part}
use Rattle.octets.specs.Sentences.{pick}
use Rattle.descriptors.specs.declared.check.Verdict.{Verdict}
use Rattle.descriptors.specs.declared.limits.Limits.{Limits}
use Rattle.sets.specs.declared.Entry.{Entry}
use Rattle.sets.specs.declared.opening.Broken.{Broken}
use Rattle.sets.specs.declared.opening.Broken.TheVariants.{Frame, Contents, Device, Configuration, Strings, Serial, Pair}
use Rattle.sets.specs.Contents.{entries, entries_of, good_frame, good_contents}
use Rattle.sets.specs.Pieces.{pieces_in}
use Rattle.sets.specs.Opening.{lent, good_devices, good_configurations, good_serial, good_block, opening}
use Rattle.sets.specs.Strings.{good_strings}
use Rattle.sets.specs.Found.{found}
use Rattle.sets.specs.Broken.{number_of, opened_number}
use Rattle.sets.specs.Checks.{device_refers, Begins, Ready}
use Rattle.sets.proofs.GoodStrings.{strings-told}
use Rattle.sets.proofs.Groups.{laid-inside}
use Rattle.sets.proofs.Lookups.{kind-member}
use Rattle.sets.proofs.Strings.{found_some}

module _ (limits : Limits) (set serial : List ℕ) where
  pub first-broken : good_frame set ≡ false → 1 ≡ opening limits (lent set serial)
  unfolding opening
  first-broken p = rw p

  module _ (f : good_frame set ≡ true) where
    pub second-broken : good_contents limits set ≡ false → 2 ≡ opening limits (lent set serial)
    unfolding opening
    second-broken p = rw (f, p)

    pub third-broken : good_contents limits set ≡ true → good_devices limits (pieces_in set) ≡ false → 3 ≡ opening limits (lent set serial)
    unfolding opening
    third-broken p q = rw (f, p, q)

  module _ (b : Begins limits set) where
    pub fourth-broken : good_configurations limits (pieces_in set) ≡ false → 4 ≡ opening limits (lent set serial)
    unfolding opening
    fourth-broken p = rw (b.frame, b.contents, b.devices, p)

    module _ (g : good_configurations limits (pieces_in set) ≡ true) where
      pub fifth-broken : good_strings (pieces_in set) ≡ false → 5 ≡ opening limits (lent set serial)
      unfolding opening
      fifth-broken p = rw (b.frame, b.contents, b.devices, g, p)

      pub sixth-decides : {x : Bool} → good_strings (pieces_in set) ≡ true → good_block (pieces_in set) serial ≡ x → pick (not x) 6 0 ≡ opening limits (lent set serial)
      unfolding opening
      sixth-decides s p = rw (b.frame, b.contents, b.devices, g, s, p)

-- the device entry lies inside a set whose contents are good
pub device-inside : (limits : Limits) (set : List ℕ) → good_frame set ≡ true → good_contents limits set ≡ true → {e : Entry} → found (get_elem? (entries_of 1 set) 0) ≡ Some e
    → e.offset + e.length ≤ length set
device-inside limits set f g {e} p = laid-inside limits set f g e (kind-member 1 0 (entries set) (found_some _ p))

-- groups 5 and 6, once the strings and the configurations are read
module _ (set names : List ℕ) (good : Bool) (v : Verdict) (device : ℕ) (r : Ready set names good v device) (fits : Bytes set) (told : v.good ≡ true) where
  abbrev body : List ℕ
  body = part set device 18

  pub strings-decide : (v.refers && device_refers names body && good) ≡ good_strings (pieces_in set)
  strings-decide = rw r.described (strings-told set fits names v.refers good (record { entries = r.entries; named = r.named; told = r.told told }))

  pub serial-decides : (limits : Limits) (serial : List ℕ) {x : Bool} → Begins limits set → v.good ≡ good_configurations limits (pieces_in set)
      → (v.refers && device_refers names body && good) ≡ true → x ≡ good_serial (byte body 16) serial → pick (not x) 6 0 ≡ opening limits (lent set serial)
  unfolding good_block
  serial-decides limits serial b g s p = sixth-decides limits set serial b (sym g ∙ told) (sym strings-decide ∙ s) (sym (rw r.described at p))

-- what is broken has a number that is not 0
pub number-nonzero : (b : Broken) → number_of b ≡ 0 → ⊥
number-nonzero Frame p = omega arith
number-nonzero Contents p = omega arith
number-nonzero Device p = omega arith
number-nonzero Configuration p = omega arith
number-nonzero Strings p = omega arith
number-nonzero Serial p = omega arith
number-nonzero Pair p = omega arith

-- what a `?` hands on keeps its number
pub handed-on : (r : Result (Unit {0}) Broken) (b : Broken) {n : ℕ} → IsErrAnd r (λ y. y ≡ b) → number_of b ≡ n → opened_number r ≡ n
handed-on (Ok _) b p q = absurd p
handed-on (Err y) b p q = rw p q
