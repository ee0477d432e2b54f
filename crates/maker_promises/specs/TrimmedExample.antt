-- Trimming at work, by computing: the titrator T, whose string 5 nothing names, loses it.
use Rattle.std.specs.Prelude.{ℕ, ◌≡◌, refl, true, false, List, [], ◌∷◌, map}
use Rattle.descriptors.specs.Limits.{full_speed}
use Rattle.sets.specs.Opening.{lent, opening}
use Rattle.events.specs.Answer.{number_of}
use Rattle.events.specs.Step.{step, setup_event}
use Rattle.sets.specs.Pieces.{pieces_in}
use Rattle.set_writer.specs.Writer.{contents, body_bytes, laid}
use Rattle.promises.specs.Examples.{bytes, computed, S, T}
use Rattle.promises.specs.Inhabited.{accepted_t, bytes_t, configured}
use Rattle.trimming.specs.Trim.{trimmed}
use Rattle.maker_laws.specs.TrimRequests.{asks_dropped, SaysSame}
use Rattle.maker_promises.specs.Trimmed.{same_step}

-- a statement that says `unfolding trimming` computes with the definitions of trimming
unfoldable pub trimming : ℕ
unfolding contents body_bytes laid computed
trimming = 0

-- S has no strings: nothing goes
pub nothing_goes : trimmed S.set ≡ S.set
unfolding trimming
nothing_goes = refl

-- T's indices but the last, string 5
pub five_goes : map (λ p. p.index) (pieces_in (trimmed T.set)) ≡ 0 ∷ 0 ∷ 0 ∷ 1 ∷ 2 ∷ 1 ∷ 2 ∷ []
unfolding trimming
five_goes = refl

pub opens_still : opening full_speed (lent (trimmed T.set) T.serial) ≡ 0
unfolding trimming
opens_still = refl

-- GET_DESCRIPTOR of string 2 in English is no request for a dropped string, so it is answered alike
abbrev pub ask_two : List ℕ
ask_two = bytes 8 0x800602030904FF00

pub not_dropped : asks_dropped T.set (setup_event ask_two) ≡ false
unfolding trimming
not_dropped = refl

pub answered_alike : SaysSame T.set (trimmed T.set) T.serial
    (step T configured (setup_event ask_two)).answer (step (lent (trimmed T.set) T.serial) configured (setup_event ask_two)).answer
answered_alike = (same_step T.set T.serial bytes_t.0 accepted_t configured (setup_event ask_two) not_dropped).0

-- string 5 is dropped: it was given, and is refused after
abbrev pub ask_five : List ℕ
ask_five = bytes 8 0x800605030904FF00

pub dropped : asks_dropped T.set (setup_event ask_five) ≡ true
unfolding trimming
dropped = refl

pub was_given : number_of (step T configured (setup_event ask_five)).answer ≡ 0
unfolding trimming
was_given = refl

pub is_refused : number_of (step (lent (trimmed T.set) T.serial) configured (setup_event ask_five)).answer ≡ 13
unfolding trimming
is_refused = refl
