-- The pipe record: a transfer's 16 bytes, and back (docs/PIPE.md, "The pipe record").
use Rattle.std.specs.Prelude.{ℕ, ◌/◌, ◌%◌, List, [], ◌∷◌, Bool, ◌&&◌, length, eqb}
use Rattle.octets.specs.Octets.{byte, word}
use Rattle.pipes.specs.declared.Transfer.{Transfer}
use Rattle.pipes.specs.declared.Lengths.{Lengths}
use Rattle.pipes.specs.Transfer.{fits}

-- PIPE 7: "0 stage, 1 the block that the reply lies in, 2–3 the reply's place there, 4–5 the reply's length, 6–7 wLength, 8–9 the packet under way, or bytes
-- received, 10 bMaxPacketSize0, 11 whether the data goes to the host"; "low byte first"
unfoldable pub transfer_of : List ℕ → Transfer
transfer_of image = record {
  stage = byte image 0;
  block = byte image 1;
  place = word image 2;
  length = word image 4;
  asked = word image 6;
  moved = word image 8;
  size = byte image 10;
  reads = byte image 11;
}

-- PIPE 7: "12–15 zero"
unfoldable pub image_of : Transfer → List ℕ
image_of t =
    t.stage ∷ t.block ∷ t.place % 256 ∷ t.place / 256 % 256 ∷ t.length % 256 ∷ t.length / 256 % 256 ∷
    t.asked % 256 ∷ t.asked / 256 % 256 ∷ t.moved % 256 ∷ t.moved / 256 % 256 ∷ t.size ∷ t.reads ∷
    0 ∷ 0 ∷ 0 ∷ 0 ∷ []

-- PIPE 12: "bytes 12–15 zero"
abbrev pub ends_in_zeros : List ℕ → Bool
ends_in_zeros image = eqb (byte image 12) 0 && eqb (byte image 13) 0 && eqb (byte image 14) 0 && eqb (byte image 15) 0

-- PIPE 11, 12: "One of 16 bytes fits if .."
abbrev pub fits_in : Lengths → List ℕ → Bool
fits_in l image = eqb (length image) 16 && ends_in_zeros image && fits l (transfer_of image)
