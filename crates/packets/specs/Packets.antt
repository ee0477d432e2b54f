-- A reply of r bytes, asked with wLength w, cut into packets of size p (document 01, "Packets").
use Rattle.std.specs.Prelude.{ℕ, ◌+◌, ◌-◌, ◌*◌, ◌/◌, min, Bool, true, false, ◌&&◌, ◌||◌, List, map, eqb, leb, ltb}
use Rattle.octets.specs.Sentences.{pick, up_to}

-- a packet: its number, and the part of the reply that it is
pub record Packet : Type 0 where
  pub number : ℕ
  pub offset : ℕ
  pub length : ℕ

-- "if r = w the count is r / p rounded up; if r < w it is r / p rounded down, plus 1"
abbrev pub packet_count : ℕ → ℕ → ℕ → ℕ
packet_count r w p = pick (eqb r w) ((r + p - 1) / p) (r / p + 1)

-- "size not 8, 16, 32, 64; reply longer than wLength"
abbrev pub can_cut : ℕ → ℕ → ℕ → Bool
can_cut r w p = (eqb p 8 || eqb p 16 || eqb p 32 || eqb p 64) && leb r w

-- "Packet k is the part of the reply from k × p, at most p long"; 15 "or packet number not below the count", with the reply's first 0 bytes
abbrev pub packet_where : Bool → ℕ → ℕ → ℕ → Packet
packet_where true r p k = record { number = 0; offset = k * p; length = min p (r - k * p) }
packet_where false r p k = record { number = 15; offset = 0; length = 0 }

unfoldable pub packet : ℕ → ℕ → ℕ → ℕ → Packet
packet r w p k = packet_where (can_cut r w p && ltb k (packet_count r w p)) r p k

-- all packets of a reply, in order
abbrev pub packets : ℕ → ℕ → ℕ → List Packet
packets r w p = map (packet r w p) (up_to (packet_count r w p))
