-- Working definitions for the contracts of code that gives a fault its block; no promise cites them.
use Rattle.std.specs.Prelude.{ℕ, ◌/◌, eqb, Option, Some, None, Result, Ok, Err}
use Rattle.std.proofs.Math.Option.{Option as Maybe, some, none}
use Rattle.octets.specs.Sentences.{pick}
use Rattle.sets.specs.Broken.{number_of}
use Rattle.rules.specs.declared.Fault.{Fault}
use Rattle.pair_rules.specs.declared.Block.{Block}
use Rattle.pair_rules.specs.declared.Block.TheVariants.{Full, High, Serial}
use Rattle.pair_rules.specs.declared.BlockFault.{BlockFault}
use Rattle.pair_rules.specs.declared.ExplainedTwo.{ExplainedTwo as Refused}
use Rattle.pair_rules.specs.Explained.{Placed, ExplainedTwo}

-- the number of a block
abbrev pub block_number : Block → ℕ
block_number Full = 0
block_number High = 1
block_number Serial = 2

-- a fault and the number of its block
pub record About : Type 0 where
  pub block : ℕ
  pub fault : Fault

abbrev pub about : Option BlockFault → Option About
about None = None
about (Some x) = Some (record { block = block_number x.block; fault = x.fault })

-- a fault of a set, or of the serial block in group 6
abbrev pub placed_of : ℕ → Option Fault → Option About
placed_of block None = None
placed_of block (Some f) = Some (record { block = pick (eqb (f.rule / 100) 6) 2 block; fault = f })

-- a finding with its block
abbrev pub told_in : Maybe Placed → Option About
told_in none = None
told_in (some x) = Some (record { block = x.block; fault = record { rule = x.finding.rule; place = x.finding.place } })

-- what explaining gives, as its definition has it: number 0, rule 0 and byte 0 of block 0 for what is accepted
abbrev pub told : Result (Unit {0}) Refused → ExplainedTwo
told (Ok _) = record { number = 0; block = 0; rule = 0; place = 0 }
told (Err e) = record { number = number_of e.broken; block = block_number e.block; rule = e.rule; place = e.place }
