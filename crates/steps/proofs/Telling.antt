-- What was learned and sought in a set that opens is true of its view. No axiom.
use Rattle.octets.proofs.Vocabulary.{◌≡◌, refl, sym, ◌∙◌, ℕ, ◌<◌, List, [], ◌∷◌, Bool, true, false, ◌&&◌, length, eqb, arith, eqb-true, leb-true}
use Rattle.octets.specs.Octets.{Bytes}
use Rattle.octets.specs.Sentences.{pick}
use Rattle.octets.proofs.Sentences.{conjunct}
use Rattle.sets.specs.Pieces.{pieces_in}
use Rattle.sets.specs.Device.{device_body_of, iSerialNumber}
use Rattle.sets.specs.Strings.{says_its_length, typed_string, even_length, up_to254}
use Rattle.sets.specs.Opening.{lent, block_empty, at_least4, good_block}
use Rattle.sets.proofs.Groups.{groups}
use Rattle.sets.proofs.Lookups.{value_there, wakes-found}
use Rattle.records.specs.declared.Device.{Device}
use Rattle.events.specs.declared.Event.{Event}
use Rattle.events.specs.Facts.{question_of, asked_by}
use Rattle.steps.specs.declared.facts.Selected.{Selected}
use Rattle.steps.specs.declared.facts.Sought.{Sought}
use Rattle.steps.specs.Gathering.{Openable, view_in}
use Rattle.steps.specs.Selected.{Knows, Seeks, Told}
use Rattle.steps.proofs.Configurations.{usable, among, selected-by-value, no_zero}

pub told_in : (paired : Bool) (set serial : List ℕ) (d : Device) (e : Event) {k : Selected} {f : Sought} → Bytes set → Openable set serial
    → Knows set d.configuration d.alternates (asked_by (question_of e)) k → Seeks (view_in paired set serial) (question_of e) f
    → Told (view_in paired set serial) paired d e k f
told_in paired set serial d e bytes o k s =
    let usable = usable o.0 (lent set serial) bytes o.1 d.configuration in
    let here = selected-by-value set d.configuration in
    let seen = rw here at k.surveyed in
    record {
      nonzero = no_zero o.0 (lent set serial) o.1;
      tells = record {
        paired = refl;
        configured = k.configured ∙ sym (value_there set d.configuration);
        waking = k.waking ∙ sym (wakes-found set);
        surveyed = seen;
        interface = among (rw here at usable.few) seen.interfaces (question_of e).wIndex;
        small = (rw here at usable.small) (question_of e).wIndex (question_of e).wValue;
        configuration = s.configuration;
        located = s.located;
      };
    }

-- the serial block of a set that opens is short
pub serial_short : (set serial : List ℕ) → Openable set serial → length serial < 65536
unfolding good_block
serial_short set serial o = go (eqb (iSerialNumber (device_body_of (pieces_in set))) 0) (groups o.0 (lent set serial) o.1).serial
  where
    go : (t : Bool) → pick t (block_empty serial) (at_least4 serial && up_to254 serial && even_length serial && says_its_length serial && typed_string serial) ≡ true → length serial < 65536
    go true p = omega (arith, eqb-true (length serial) 0 p)
    go false p = omega (arith, leb-true (length serial) 254 (conjunct 1 (at_least4 serial ∷ up_to254 serial ∷ even_length serial ∷ says_its_length serial ∷ typed_string serial ∷ []) p))
