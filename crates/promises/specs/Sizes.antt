-- What each kind of set lets pass, in the page's own words and for every number. The rows of limits (descriptors/Limits) are held to these. No axiom.
use Rattle.std.specs.Prelude.{ℕ, ◌/◌, ◌%◌, ◌≡◌, List, [], ◌∷◌, Bool, true, ◌&&◌, ◌||◌, eqb, leb}
use Rattle.octets.specs.Sentences.{member}
use Rattle.descriptors.specs.declared.limits.Limits.{Limits}
use Rattle.descriptors.specs.Limits.{full_speed, paired_full, high_speed, super_speed, doubled, named}
use Rattle.descriptors.specs.Descriptor.{good_size, good_interval}
use Rattle.descriptors.proofs.FullSpeed as full
use Rattle.descriptors.proofs.HighSpeed as high
use Rattle.descriptors.proofs.SuperSpeed as superspeed

-- what a row says of bMaxPacketSize0; of wMaxPacketSize and bInterval, by transfer type (2 bulk, 3 interrupt, 1 isochronous); and of the types of entries
pub record Says (limits : Limits) (sizes0 bulks interrupts isochronouses pollings periods : ℕ → Bool) (types : List ℕ) : Type 0 where
  pub control : (x : ℕ) → doubled limits.control x ≡ sizes0 x
  pub bulk : (size : ℕ) → good_size limits 2 size ≡ bulks size
  pub interrupt : (size : ℕ) → good_size limits 3 size ≡ interrupts size
  pub isochronous : (size : ℕ) → good_size limits 1 size ≡ isochronouses size
  pub free : (interval : ℕ) → good_interval limits 2 interval ≡ true
  pub polling : (interval : ℕ) → good_interval limits 3 interval ≡ pollings interval
  pub period : (interval : ℕ) → good_interval limits 1 interval ≡ periods interval
  pub entries : (t : ℕ) → named limits.entries t ≡ member t types

abbrev between : ℕ → ℕ → ℕ → Bool
between least most x = leb least x && leb x most

-- "8, 16, 32 or 64"
abbrev eight_to64 : ℕ → Bool
eight_to64 x = eqb x 8 || eqb x 16 || eqb x 32 || eqb x 64

-- document 01: "bMaxPacketSize0 is 8, 16, 32 or 64"; "bulk 8, 16, 32 or 64; interrupt 0–64; isochronous 0–1,023. bInterval: interrupt 1–255, isochronous 1–16, bulk free."; "types 1
-- (device), 2 (configuration) or 3 (string)"
pub full_speed_says : Says full_speed eight_to64 eight_to64 (λ x. leb x 64) (λ x. leb x 1023) (between 1 255) (between 1 16) (1 ∷ 2 ∷ 3 ∷ [])
full_speed_says = record {
  control = full.control-sizes;
  bulk = full.bulk-sizes;
  interrupt = full.interrupt-sizes;
  isochronous = full.isochronous-sizes;
  free = full.bulk-intervals;
  polling = full.interrupt-intervals;
  period = full.isochronous-intervals;
  entries = full.entry-types;
}

-- the full-speed set of a pair (L7): the same, but that "Sets gain type 6 .. and type 7"
pub paired_full_says : Says paired_full eight_to64 eight_to64 (λ x. leb x 64) (λ x. leb x 1023) (between 1 255) (between 1 16) (1 ∷ 2 ∷ 3 ∷ 6 ∷ 7 ∷ [])
paired_full_says = record {
  control = full.control-sizes;
  bulk = full.bulk-sizes;
  interrupt = full.interrupt-sizes;
  isochronous = full.isochronous-sizes;
  free = full.bulk-intervals;
  polling = full.interrupt-intervals;
  period = full.isochronous-intervals;
  entries = high.entry-types;
}

-- "interrupt and isochronous sizes go to 1,024 with bits 12–11 at most 2 and 15–13 zero" (L7)
abbrev to1024 : ℕ → Bool
to1024 size = leb (size % 2048) 1024 && (leb (size / 2048 % 4) 2 && eqb (size / 8192) 0)

-- L7: "At high speed bulk size is 512, .. their bInterval is 1–16 and bMaxPacketSize0 is 64."
pub high_speed_says : Says high_speed (λ x. eqb x 64) (λ x. eqb x 512) to1024 to1024 (between 1 16) (between 1 16) (1 ∷ 2 ∷ 3 ∷ 6 ∷ 7 ∷ [])
high_speed_says = record {
  control = high.control-64;
  bulk = high.bulk-512;
  interrupt = high.interrupt-size;
  isochronous = high.isochronous-size;
  free = high.bulk-free;
  polling = high.interrupt-interval;
  period = high.isochronous-interval;
  entries = high.entry-types;
}

-- L13: "bMaxPacketSize0 is 9"; "bulk size is 1,024, interrupt 1–1,024, isochronous 0–1,024, both with bInterval 1–16"; "there is one BOS entry (type 15, .."
pub super_speed_says : Says super_speed (λ x. eqb x 9) (λ x. eqb x 1024) (between 1 1024) (λ x. leb x 1024) (between 1 16) (between 1 16) (1 ∷ 2 ∷ 3 ∷ 15 ∷ [])
super_speed_says = record {
  control = superspeed.control-sizes;
  bulk = superspeed.bulk-sizes;
  interrupt = superspeed.interrupt-sizes;
  isochronous = superspeed.isochronous-sizes;
  free = superspeed.bulk-intervals;
  polling = superspeed.interrupt-intervals;
  period = superspeed.isochronous-intervals;
  entries = superspeed.entry-types;
}
