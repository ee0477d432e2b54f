-- What goes out and what may come in, by the order and the transfer after an event (docs/PIPE.md, "What is handed over").
use Rattle.std.specs.Prelude.{ℕ, ◌+◌, ◌≤◌, Bool, ◌&&◌, List, length, eqb, leb}
use Rattle.octets.specs.Octets.{part}
use Rattle.octets.specs.Sentences.{pick}
use Rattle.packets.specs.Packets.{packet}
use Rattle.pipes.specs.declared.Transfer.{Transfer}
use Rattle.pipes.specs.declared.Lengths.{Lengths}
use Rattle.pipes.specs.declared.Piece.{Piece}
use Rattle.pipes.specs.Transfer.{data_in, send, receive, in_bytes, in_set, in_serial, fits}
use Rattle.pipes.specs.Turns.{due}

-- PIPE 43: "With receive the room is as many bytes as are still to come, at most bMaxPacketSize0; with any other order 0"
abbrev pub room_for : ℕ → Transfer → ℕ
room_for order t = pick (eqb order receive) (due t) 0

-- PIPE 42: "A part that is not handed back is the first 0 bytes of the set", as block 0
abbrev pub no_piece : Piece
no_piece = record { block = in_bytes; offset = 0; length = 0 }

-- PIPE 39, 41: "the packet under way: the reply cut by wLength and bMaxPacketSize0", "as a part" of its block
abbrev pub piece_of : Transfer → Piece
piece_of t =
    let p = packet t.length t.asked t.size t.moved in
    record { block = t.block; offset = t.place + p.offset; length = p.length }

-- PIPE 41: with the order to send, in data in, where the reply lies in a block and fits it
abbrev pub sends : Lengths → ℕ → Transfer → Bool
sends l order t = eqb order send && eqb t.stage data_in && leb 1 t.block && fits l t

unfoldable pub sent : Lengths → ℕ → Transfer → Piece
sent l order t = pick (sends l order t) (piece_of t) no_piece

-- ---- of four blocks, the first set (of which nothing is sent), the set in use, the serial block and the application's
abbrev pub in_block : {A : Type 0} → A → A → A → A → ℕ → A
in_block first used serial reply block = pick (eqb block in_bytes) first (pick (eqb block in_set) used (pick (eqb block in_serial) serial reply))

abbrev pub Inside : List ℕ → List ℕ → List ℕ → List ℕ → Piece → Type 0
Inside first used serial reply p = p.offset + p.length ≤ length (in_block first used serial reply p.block)

abbrev pub bytes_in : List ℕ → List ℕ → List ℕ → List ℕ → Piece → List ℕ
bytes_in first used serial reply p = part (in_block first used serial reply p.block) p.offset p.length
