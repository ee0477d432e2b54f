-- Working definitions for the contracts of the writer's functions; no promise cites them. What they give, as the record that the definitions have for it.
use Rattle.std.specs.Prelude.{ℕ, Some, None, Result, Ok, Err}
use Rattle.sets.specs.Broken.{number_of}
use Rattle.set_writer.specs.declared.NotWritten.{NotWritten}
use Rattle.set_writer.specs.declared.NotWritten.TheVariants.{PiecesBroken, SetRefused, BufferTooShort}
use Rattle.set_writer.specs.Reported.{Report}

abbrev pub refused_number : NotWritten → ℕ
refused_number PiecesBroken = 20
refused_number (SetRefused why) = 21
refused_number BufferTooShort = 22

-- why 21
abbrev pub refused_opening : NotWritten → ℕ
refused_opening PiecesBroken = 0
refused_opening (SetRefused None) = 0
refused_opening (SetRefused (Some broken)) = number_of broken
refused_opening BufferTooShort = 0

abbrev pub report_of : Result (Unit {0}) NotWritten → Report
report_of (Ok _) = record { number = 0; opening = 0 }
report_of (Err e) = record { number = refused_number e; opening = refused_opening e }
