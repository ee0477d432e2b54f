-- Which events ask for a test mode: SET_FEATURE(TEST_MODE) to a board of two sets, and no other. Where none does, none is entered: proofs/Unasked.
use Rattle.std.specs.Prelude.{Bool, false}
use Rattle.events.specs.declared.Event.{Event}
use Rattle.events.specs.declared.Event.TheVariants.{Request, Malformed, StatusEnd, BusReset, Halt, PacketPassed, Power, Suspend, Resume, Wake}
use Rattle.events.specs.Step.{asks_test_mode}

-- an event that asks for a test mode
abbrev pub asks_for_test : Bool → Event → Bool
asks_for_test paired (Request s) = asks_test_mode paired s
asks_for_test paired Malformed = false
asks_for_test paired StatusEnd = false
asks_for_test paired (BusReset speed) = false
asks_for_test paired (Halt a) = false
asks_for_test paired (PacketPassed a) = false
asks_for_test paired (Power source) = false
asks_for_test paired Suspend = false
asks_for_test paired Resume = false
asks_for_test paired Wake = false
