-- The language of a string, sentence by sentence (L6), for every accepted board and every record that fits: GET_DESCRIPTOR of a string index from 1 on, in any
-- language. What follows where the asked one is not listed, and at the serial index, stands in proofs/Language. No axiom.
use Rattle.std.specs.Prelude.{ℕ, ◌+◌, ◌*◌, ◌/◌, ◌%◌, ◌≤◌, ◌≡◌, refl, true, false, ◌&&◌, length, get_or, eqb}
use native.Mathlib.Omega.{arith}
use Rattle.std.proofs.Common.{sym, ◌∙◌}
use Rattle.std.proofs.Math.Bool.{and-false}
use borrow.Author.Tests.{ne_eqb, le-leb}
use Rattle.octets.specs.Sentences.{first, is_some, member}
use Rattle.sets.specs.Opening.{Board}
use Rattle.sets.specs.View.{View, accepted}
use Rattle.records.specs.declared.Device.{Device}
use Rattle.records.specs.Device.{in_test_mode, settled}
use Rattle.records.specs.Current.{view_at}
use Rattle.records.specs.Fits.{fits_on}
use Rattle.requests.specs.declared.Setup.{Setup}
use Rattle.requests.specs.Table.{refusal}
use Rattle.events.specs.declared.Event.{Event}
use Rattle.events.specs.declared.Event.TheVariants.{Request}
use Rattle.events.specs.Requests.{names_test_mode, language_for, locate_string, locate, describe, get_descriptor}
use Rattle.events.specs.Step.{request, asks_test_mode, answer_setup, respond, step}
use Rattle.laws.proofs.Fitting.{fitting}
use Rattle.promises.specs.Examples.{computed, T}
use Rattle.promises.specs.Inhabited.{accepted_t, configured}

-- GET_DESCRIPTOR of the string with an index, in a language
abbrev pub get_string : ℕ → ℕ → ℕ → Setup
get_string index asked length = record { bmRequestType = 0x80; bRequest = 0x06; wValue = 3 * 256 + index; wIndex = asked; wLength = length }

-- the first listed language
abbrev pub first_language : View → ℕ
first_language v = get_or v.languages 0 0

-- ---- the language chosen
module _ (v : View) (index : ℕ) (from : 1 ≤ index) where
  pub listed_stays : (asked : ℕ) → member asked v.languages ≡ true → language_for v index asked ≡ asked
  listed_stays asked m = rw (ne_eqb index 0 (λ p. omega arith), m)

  -- "in the first listed language when the asked one is not listed"
  pub unlisted_first : (asked : ℕ) → member asked v.languages ≡ false → language_for v index asked ≡ first_language v
  unlisted_first asked m = rw (ne_eqb index 0 (λ p. omega arith), m)

module _ (b : Board) (ok : accepted b ≡ true) (d : Device) (fit : fits_on b d ≡ true) (outside : in_test_mode d ≡ false) (index asked size : ℕ) (from : 1 ≤ index) (to : index ≤ 255)
    (two : asked ≤ 65535) (short : size ≤ 65535) where
  abbrev v : View
  v = view_at b d

  steps : (e : Event) → step b d e ≡ respond v d e
  unfolding step
  steps e = rw (ok, fit)

  kind : (3 * 256 + index) / 256 ≡ 3
  kind = omega arith

  low : (3 * 256 + index) % 256 ≡ index
  low = omega arith

  no_test : asks_test_mode (is_some b.high) (get_string index asked size) ≡ false
  no_test = and-false (names_test_mode (is_some b.high) (get_string index asked size) && eqb 0x80 0x00)

  -- the answer: the string where it lies in the language chosen
  pub located : step b d (Request (get_string index asked size)) ≡ describe (settled d) size (locate_string v index (language_for v index asked))
  unfolding answer_setup refusal request get_descriptor locate first
  located = steps (Request (get_string index asked size)) ∙ rw (
    outside,
    no_test,
    kind,
    low,
    le-leb 0 d.state (omega arith),
    le-leb d.state 2 (fitting v d fit).common.range.stated,
    le-leb (3 * 256 + index) 65535 (omega arith),
    le-leb asked 65535 two,
    le-leb 0 size (omega arith),
    le-leb size 65535 short,
  )

-- ---- instances: T lists German and English. In French its string 1 is the German one, string 5, which is English alone, is missing, and the serial number is there
abbrev pub french : ℕ → Event
french index = Request (get_string index 0x040C 255)

pub in_german : step T configured (french 1) ≡ step T configured (Request (get_string 1 0x0407 255))
unfolding computed
in_german = located T accepted_t configured refl refl 1 0x040C 255 (omega arith) (omega arith) (omega arith) (omega arith)
    ∙ sym (located T accepted_t configured refl refl 1 0x0407 255 (omega arith) (omega arith) (omega arith) (omega arith))
