-- "every request other than for a dropped string gets the same bytes" (document 02, L11): which requests, and what is the same.
use Rattle.std.specs.Prelude.{ℕ, ◌/◌, ◌%◌, ◌≡◌, Bool, false, ◌&&◌, not, List, eqb}
use Rattle.events.specs.declared.Event.{Event}
use Rattle.events.specs.declared.Event.TheVariants.{Request, Malformed, StatusEnd, BusReset, Halt, PacketPassed, Power, Suspend, Resume, Wake}
use Rattle.events.specs.Answer.{Answer, number_of, bytes_of, part_of, bytes_in}
use Rattle.octets.specs.Sentences.{any}
use Rattle.sets.specs.Contents.{entries, is_kind}
use Rattle.trimming.specs.Trim.{kept}

-- a dropped string, by its index, in whatever language: a string entry had it, which trimming does not keep
abbrev pub dropped : List ℕ → ℕ → Bool
dropped set index = any (λ e. is_kind 3 e && eqb e.index index && not (kept set e)) (entries set)

-- GET_DESCRIPTOR, 80 06, of one
abbrev pub asks_dropped : List ℕ → Event → Bool
asks_dropped set (Request s) = eqb s.bmRequestType 0x80 && eqb s.bRequest 0x06 && eqb (s.wValue / 256) 3 && dropped set (s.wValue % 256)
asks_dropped set Malformed = false
asks_dropped set StatusEnd = false
asks_dropped set (BusReset speed) = false
asks_dropped set (Halt a) = false
asks_dropped set (PacketPassed a) = false
asks_dropped set (Power source) = false
asks_dropped set Suspend = false
asks_dropped set Resume = false
asks_dropped set Wake = false

-- two answers, each from a set of its own, with one serial block: the same number, the same bytes, and the same bytes in the part
pub record SaysSame (set other serial : List ℕ) (x y : Answer) : Type 0 where
  pub number : number_of x ≡ number_of y
  pub bytes : bytes_of x ≡ bytes_of y
  pub shown : bytes_in set set serial (part_of x) ≡ bytes_in other other serial (part_of y)
