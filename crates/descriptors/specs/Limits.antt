-- The rows of limits and rules, one for each kind of set. Document 01: "Base speed is full speed." Document 02 adds those of a pair's two sets (L7) and of SuperSpeed (L13).
use Rattle.std.specs.Prelude.{ℕ, ◌+◌, ◌*◌, ◌^◌, Bool, true, false, ◌&&◌, ◌||◌, eqb, leb}
use Rattle.octets.specs.Bit.{bit}
use Rattle.descriptors.specs.declared.limits.Range.{Range}
use Rattle.descriptors.specs.declared.limits.Ranges.{Ranges}
use Rattle.descriptors.specs.declared.limits.Speed.{Speed}
use Rattle.descriptors.specs.declared.limits.Speed.TheVariants.{Full, High, Super}
use Rattle.descriptors.specs.declared.limits.Limits.{Limits}

abbrev pub range : ℕ → ℕ → Range
range a b = record { least = a; most = b }

-- ---- what a speed allows of endpoints
-- Document 01: "bulk 8, 16, 32 or 64; interrupt 0–64; isochronous 0–1,023"; bInterval "interrupt 1–255, isochronous 1–16". proofs/FullSpeed says each field so, for every number
abbrev pub full_ranges : Ranges
full_ranges = record {
  bulk = range 8 64;
  interrupt = range 0 64;
  polling = range 1 255;
  isochronous = range 0 1023;
  period = range 1 16;
  bursts = 0;
}

-- Document 02, L7: "At high speed bulk size is 512, interrupt and isochronous sizes go to 1,024 with bits 12–11 at most 2 and 15–13 zero, their bInterval is 1–16"
abbrev pub high_ranges : Ranges
high_ranges = record {
  bulk = range 512 512;
  interrupt = range 0 1024;
  polling = range 1 16;
  isochronous = range 0 1024;
  period = range 1 16;
  bursts = 2;
}

-- Document 02, L13: "bulk size is 1,024, interrupt 1–1,024, isochronous 0–1,024, both with bInterval 1–16". proofs/SuperSpeed says each field so, for every number
abbrev pub super_ranges : Ranges
super_ranges = record {
  bulk = range 1024 1024;
  interrupt = range 1 1024;
  polling = range 1 16;
  isochronous = range 0 1024;
  period = range 1 16;
  bursts = 0;
}

abbrev pub ranges_of : Speed → Ranges
ranges_of Full = full_ranges
ranges_of High = high_ranges
ranges_of Super = super_ranges

-- ---- "After it, types 1, 2, 3, 6 and 7 are refused": in a configuration body, whatever the speed. proofs/FullSpeed says it so
abbrev pub refused_types : ℕ
refused_types = 2 ^ 1 + 2 ^ 2 + 2 ^ 3 + 2 ^ 6 + 2 ^ 7

-- ---- the rows
-- 8, 16, 32 or 64 for bMaxPacketSize0; entries of types 1, 2 and 3. proofs/FullSpeed says each field so, for every number
abbrev pub full_speed : Limits
full_speed = record {
  control = range 8 64;
  speed = Full;
  entries = 2 ^ 1 + 2 ^ 2 + 2 ^ 3;
  companions = false;
}

-- Document 02, L13: "bMaxPacketSize0 is 9; a companion .. stands directly after every endpoint and nowhere else; there is one BOS entry (type 15 ..)"
abbrev pub super_speed : Limits
super_speed = record {
  control = range 9 9;
  speed = Super;
  entries = 2 ^ 1 + 2 ^ 2 + 2 ^ 3 + 2 ^ 15;
  companions = true;
}

-- ---- "The new board lends two sets, one for each speed"; "Sets gain type 6 .. and type 7" (L7)
abbrev pub paired_entries : ℕ
paired_entries = 2 ^ 1 + 2 ^ 2 + 2 ^ 3 + 2 ^ 6 + 2 ^ 7

-- the full-speed set of a pair: full speed's row, but for the types of its entries
abbrev pub paired_full : Limits
paired_full = record {
  control = full_speed.control;
  speed = full_speed.speed;
  entries = paired_entries;
  companions = false;
}

-- "bMaxPacketSize0 is 64" at high speed
abbrev pub high_speed : Limits
high_speed = record {
  control = range 64 64;
  speed = High;
  entries = paired_entries;
  companions = false;
}

abbrev pub within : Range → ℕ → Bool
within r x = leb r.least x && leb x r.most

-- the least of a range, or that doubled once, twice or three times, up to the range's end
abbrev pub doubled : Range → ℕ → Bool
doubled r x = (eqb x r.least || eqb x (2 * r.least) || eqb x (4 * r.least) || eqb x (8 * r.least)) && leb x r.most

-- a descriptor type among those that the bits of a row name
abbrev pub named : ℕ → ℕ → Bool
named types t = bit types t
