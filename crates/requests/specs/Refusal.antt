-- Working definitions for the contracts of the code that refuses; no promise cites them. The numbers of refusals, as the header has them.
use Rattle.std.specs.Prelude.{ℕ, Option, Some, None}
use Rattle.requests.specs.declared.refusals.Refusal.{Refusal}
use Rattle.requests.specs.declared.refusals.Refusal.TheVariants.{SetNotAcceptable, RecordDoesNotFit, SetupLengthWrong, RequestUnknown, NotInThisState, FieldWrong, DoesNotExist, NoSuchFeature, EndpointUnfit, TestModeEntered, NoSuchPort, WakeNotAllowed}

abbrev pub number_of_refusal : Refusal → ℕ
number_of_refusal SetNotAcceptable = 7
number_of_refusal RecordDoesNotFit = 8
number_of_refusal SetupLengthWrong = 9
number_of_refusal RequestUnknown = 10
number_of_refusal NotInThisState = 11
number_of_refusal FieldWrong = 12
number_of_refusal DoesNotExist = 13
number_of_refusal NoSuchFeature = 14
number_of_refusal EndpointUnfit = 16
number_of_refusal TestModeEntered = 17
number_of_refusal NoSuchPort = 18
number_of_refusal WakeNotAllowed = 19

-- 0: nothing refuses
abbrev pub number_if_refused : Option Refusal → ℕ
number_if_refused None = 0
number_if_refused (Some r) = number_of_refusal r
