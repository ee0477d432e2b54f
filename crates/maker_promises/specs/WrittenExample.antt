-- The bench set S, written: its two pieces in the wrong order, and one example for each number. By computing.
use Rattle.std.specs.Prelude.{ℕ, ◌≡◌, refl, List, [], ◌∷◌, ◌++◌, take}
use Rattle.descriptors.specs.Limits.{full_speed}
use Rattle.promises.specs.Examples.{bytes, computed, S}
use Rattle.set_writer.specs.Writer.{ends_after, pieces_after, insert, sort_into, contents, body_bytes, laid, set_of, writing}

-- a statement that says `unfolding assembled` computes with the writer's definitions
unfoldable pub assembled : ℕ
unfolding ends_after pieces_after insert sort_into contents body_bytes laid computed
assembled = 0

-- configuration, then device: type, index, language, length, body
abbrev pub pieces : List ℕ
pieces = bytes 6 0x020000001900 ++ bytes 25 0x090219000101008032_0904000001FF000000_0705810308000A ++ bytes 6 0x010000001200 ++ bytes 18 0x12010002FF00000834127856000100000001

pub written : set_of pieces ≡ S.set
unfolding assembled
written = refl

pub taken : writing full_speed pieces [] 63 ≡ 0
unfolding assembled
taken = refl

-- the last byte is missing, though no buffer would do either
pub broken : writing full_speed (take 54 pieces) [] 0 ≡ 20
unfolding assembled
broken = refl

-- a serial block, which iSerialNumber 0 does not allow; nor is there room
pub refused : writing full_speed pieces (4 ∷ 3 ∷ 55 ∷ 0 ∷ []) 62 ≡ 21
unfolding assembled
refused = refl

-- the device twice
pub twice : writing full_speed (pieces ++ bytes 6 0x010000001200 ++ bytes 18 0x12010002FF00000834127856000100000001) [] 100 ≡ 21
unfolding assembled
twice = refl

pub short : writing full_speed pieces [] 62 ≡ 22
unfolding assembled
short = refl
