-- Working definitions for the contracts of import and export; no promise cites them. What they give, as the records that the definitions have for it.
use Rattle.std.specs.Prelude.{ℕ, Result, Ok, Err}
use Rattle.sets.specs.Broken.{number_of}
use Rattle.set_writer.specs.Reported.{Report}
use Rattle.set_writer.specs.Refused.{refused_number, refused_opening}
use Rattle.dumps.specs.declared.import.NotImported.{NotImported}
use Rattle.dumps.specs.declared.import.NotImported.TheVariants.{DumpBroken, NotWritten}
use Rattle.dumps.specs.declared.export.NotExported.{NotExported}
use Rattle.dumps.specs.declared.export.NotExported.TheVariants.{Opening, BufferTooShort}
use Rattle.dumps.specs.Export.{Dumped}

abbrev pub not_imported_number : NotImported → ℕ
not_imported_number DumpBroken = 23
not_imported_number (NotWritten why) = refused_number why

-- why 21
abbrev pub not_imported_opening : NotImported → ℕ
not_imported_opening DumpBroken = 0
not_imported_opening (NotWritten why) = refused_opening why

abbrev pub imported_report : Result (Unit {0}) NotImported → Report
imported_report (Ok _) = record { number = 0; opening = 0 }
imported_report (Err e) = record { number = not_imported_number e; opening = not_imported_opening e }

abbrev pub not_exported_number : NotExported → ℕ
not_exported_number (Opening broken) = number_of broken
not_exported_number BufferTooShort = 22

abbrev pub dumped_of : Result ℕ NotExported → Dumped
dumped_of (Ok written) = record { number = 0; written = written }
dumped_of (Err e) = record { number = not_exported_number e; written = 0 }
