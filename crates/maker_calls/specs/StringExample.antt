-- A string read back: T written from its pieces, the last first, and asked for string 2 in English, which it lists.
use Rattle.std.specs.Prelude.{ℕ, ◌+◌, ◌≡◌, refl, false, List, [], ◌∷◌, length, take, eqb}
use Rattle.std.proofs.Common.{arith}
use Rattle.octets.specs.Sentences.{any}
use Rattle.descriptors.specs.Limits.{full_speed}
use Rattle.sets.specs.Device.{device_body, iSerialNumber}
use Rattle.sets.specs.Opening.{lent}
use Rattle.records.specs.Image.{image_of}
use Rattle.set_writer.specs.Writer.{pieces}
use Rattle.set_writer.specs.Stream.{stream_of}
use Rattle.promises.specs.Examples.{bytes, T, string}
use Rattle.promises.specs.Inhabited.{octets, configured}
use Rattle.maker_promises.specs.WrittenExample.{assembled}
use Rattle.maker_promises.specs.WrittenRuns.{titrator_stream}
use Rattle.board.specs.Exports.{Spots, AnswersSetup}
use Rattle.board.specs.Makers.{Writes}
use Rattle.maker_calls.specs.Written.{AsksString, StringGiven, written_string}

-- into a buffer of its own length
pub writes_t : Writes full_speed titrator_stream T.serial T.set 0 T.set (length T.set)
unfolding assembled stream_of
writes_t = record { fills = record { number = refl; bytes = refl }; counts = refl; octets = octets titrator_stream refl }

abbrev pub ask_two : List ℕ
ask_two = bytes 8 0x800602030904FF00

asks_two : AsksString ask_two 2 0x0409
asks_two = record { whole = refl; request = refl; kind = refl; index_is = refl; language-is = refl }

-- it is given: 54 00, the piece of index 2 and language 0409
pub answers_t : (lie : Spots) → AnswersSetup (lent (take (length T.set) T.set) T.serial) lie (image_of configured) ask_two 0 (image_of configured) (0 ∷ 0 ∷ []) 0 (string (84 ∷ 0 ∷ [])) (record { block = lie.set.block; offset = lie.set.offset + 203 })
unfolding assembled stream_of
answers_t lie = record { leaves = refl; answers = record { number = refl; hands = refl; counts = refl; shows = refl; lies = refl } }

-- in a language that it does not list it is given too, the German 54 00 at 195, and no piece has that language: so the round trip has to ask
abbrev pub ask_unlisted : List ℕ
ask_unlisted = bytes 8 0x800602031004FF00

pub unlisted_given : (lie : Spots) → AnswersSetup (lent T.set T.serial) lie (image_of configured) ask_unlisted 0 (image_of configured) (0 ∷ 0 ∷ []) 0 (string (84 ∷ 0 ∷ [])) (record { block = lie.set.block; offset = lie.set.offset + 195 })
unfolding assembled stream_of
unlisted_given lie = record { leaves = refl; answers = record { number = refl; hands = refl; counts = refl; shows = refl; lies = refl } }

pub no_such_piece : any (λ p. eqb p.language 0x0410) (pieces titrator_stream) ≡ false
unfolding assembled stream_of
no_such_piece = refl

pub string_of_t : (lie : Spots) → StringGiven titrator_stream T.serial 2 0x0409 (iSerialNumber (device_body (take (length T.set) T.set))) 255 (string (84 ∷ 0 ∷ []))
unfolding assembled stream_of
string_of_t lie = written_string writes_t (answers_t lie) asks_two (omega arith) refl
