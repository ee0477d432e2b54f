-- Working definitions for the contracts of the code that answers; no promise cites them. The code's answer and outcome, as the definitions have them.
use Rattle.events.specs.declared.Answer.{Answer as Coded}
use Rattle.events.specs.declared.Answer.TheVariants as code
use Rattle.events.specs.declared.Outcome.{Outcome as CodedOutcome}
use Rattle.events.specs.Answer.{Answer, Done, OneByte, TwoBytes, SetPart, SerialPart, Refused, Outcome, gives}

abbrev pub answer_in : Coded → Answer
answer_in code.Done = Done
answer_in (code.OneByte a) = OneByte a
answer_in (code.TwoBytes a b) = TwoBytes a b
answer_in (code.SetPart offset size) = SetPart offset size
answer_in (code.SerialPart size) = SerialPart size
answer_in (code.Refused n) = Refused n

abbrev pub outcome_in : CodedOutcome → Outcome
outcome_in o = gives (answer_in o.answer) o.device
