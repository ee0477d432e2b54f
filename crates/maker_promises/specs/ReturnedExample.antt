-- A dump that import takes, with all five references; and one for each other number. By computing.
use Rattle.std.specs.Prelude.{ℕ, ◌≡◌, refl, List, [], ◌∷◌, ◌++◌, take}
use Rattle.promises.specs.Examples.{bytes, computed, S}
use Rattle.set_writer.specs.Writer.{contents, body_bytes, laid}
use Rattle.dumps.specs.Dump.{flat, splits_after, bodies_after, names_from, blanked, zeroed, numbered, imported, exported, exporting, importing}

-- a statement that says `unfolding parted` computes with the definitions of dumps
unfoldable pub parted : ℕ
unfolding flat splits_after bodies_after names_from blanked numbered contents body_bytes laid computed
parted = 0

-- the bench set's device and configuration, with references 1 to 5
abbrev pub dump : List ℕ
dump = bytes 18 0x12010002FF00000834127856000101020301 ++ bytes 25 0x090219000101048032_0904000001FF000005_0705810308000A

-- iManufacturer, iProduct, iSerialNumber, iConfiguration, iInterface
pub plain : zeroed dump ≡ bytes 18 0x12010002FF00000834127856000100000001 ++ bytes 25 0x090219000101008032_0904000001FF000000_0705810308000A
unfolding parted
plain = refl

pub set : imported dump ≡ S.set
unfolding parted
set = refl

pub taken : importing dump 63 ≡ 0
unfolding parted
taken = refl

pub out : exported S.set ≡ zeroed dump
unfolding parted
out = refl

pub given : exporting S.set [] 43 ≡ 0
unfolding parted
given = refl

-- a byte is missing
pub broken : importing (take 42 dump) 0 ≡ 23
unfolding parted
broken = refl

-- bMaxPower 251
pub refused : importing (take 26 dump ++ 251 ∷ bytes 16 0x0904000001FF000005_0705810308000A) 62 ≡ 21
unfolding parted
refused = refl

pub short : importing dump 62 ≡ 22
unfolding parted
short = refl

pub short_out : exporting S.set [] 42 ≡ 22
unfolding parted
short_out = refl

-- a serial block, which S does not ask for; nor is there room
pub refused_out : exporting S.set (4 ∷ 3 ∷ 55 ∷ 0 ∷ []) 0 ≡ 6
unfolding parted
refused_out = refl
