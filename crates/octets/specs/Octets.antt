-- Bytes, numbers and parts of a list of bytes. Document 01: "Numbers in bytes are little-endian."
use Rattle.std.specs.Prelude.{ℕ, ◌+◌, ◌*◌, ◌<◌, List, get_or, take, drop}

-- the byte at a place; 0 past the end, so that every rule can be asked of every list
abbrev pub byte : List ℕ → ℕ → ℕ
byte bytes k = get_or bytes k 0

-- a list of bytes, as every slice is one
abbrev pub Bytes : List ℕ → Type 0
Bytes l = (i : ℕ) → byte l i < 256

-- the two-byte number at a place
abbrev pub word : List ℕ → ℕ → ℕ
word bytes k = byte bytes k + 256 * byte bytes (k + 1)

-- the part of so many bytes from an offset on
abbrev pub part : List ℕ → ℕ → ℕ → List ℕ
part bytes offset size = take size (drop offset bytes)
