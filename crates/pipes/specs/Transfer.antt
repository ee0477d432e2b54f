-- A transfer of endpoint zero: its stages, the orders, and transfers that differ in one field (docs/PIPE.md, "The pipe record").
use Rattle.std.specs.Prelude.{ℕ, ◌+◌, Bool, ◌&&◌, ◌||◌, eqb, leb}
use Rattle.octets.specs.Sentences.{pick, ◌⇒◌}
use Rattle.pipes.specs.declared.Transfer.{Transfer}
use Rattle.pipes.specs.declared.Lengths.{Lengths}

-- ---- PIPE 7: "stage: 0 idle, 1 asking (a setup), 2 data in, 3 status out, 4 data out, 5 asking (its bytes), 6 status in, 7 stalled"
abbrev pub asking_setup : ℕ
asking_setup = 1

abbrev pub data_in : ℕ
data_in = 2

abbrev pub status_out : ℕ
status_out = 3

abbrev pub data_out : ℕ
data_out = 4

abbrev pub asking_bytes : ℕ
asking_bytes = 5

abbrev pub status_in : ℕ
status_in = 6

abbrev pub in_stall : ℕ
in_stall = 7

-- ---- PIPE 5, the orders: "nothing 0, send 1, await 2, receive 3, stall 4, ask 5"
abbrev pub nothing : ℕ
nothing = 0

abbrev pub send : ℕ
send = 1

abbrev pub await : ℕ
await = 2

abbrev pub receive : ℕ
receive = 3

abbrev pub stall : ℕ
stall = 4

abbrev pub ask : ℕ
ask = 5

-- ---- PIPE 7: "the block that the reply lies in: 0 the two bytes handed back, or no reply; 1 the set in use; 2 the serial block; 3 the application's"
abbrev pub in_bytes : ℕ
in_bytes = 0

abbrev pub in_set : ℕ
in_set = 1

abbrev pub in_serial : ℕ
in_serial = 2

abbrev pub in_reply : ℕ
in_reply = 3

-- PIPE 9: "Idle is all zero"
abbrev pub idle : Transfer
idle = record { stage = 0; block = 0; place = 0; length = 0; asked = 0; moved = 0; size = 0; reads = 0 }

-- ---- the same transfer but for what is named (PIPE 10)
abbrev pub with_stage : ℕ → Transfer → Transfer
with_stage s t = record { stage = s; block = t.block; place = t.place; length = t.length; asked = t.asked; moved = t.moved; size = t.size; reads = t.reads }

abbrev pub with_moved : ℕ → Transfer → Transfer
with_moved m t = record { stage = t.stage; block = t.block; place = t.place; length = t.length; asked = t.asked; moved = m; size = t.size; reads = t.reads }

abbrev pub with_reply : ℕ → ℕ → ℕ → Transfer → Transfer
with_reply block place length t = record { stage = t.stage; block = block; place = place; length = length; asked = t.asked; moved = t.moved; size = t.size; reads = t.reads }

-- PIPE 9: "Stalled is all zero but byte 0"
abbrev pub stalled : Transfer
stalled = with_stage in_stall idle

-- ---- "One of 16 bytes fits if .."
-- PIPE 13: "byte 10 is 8, 16, 32 or 64, or 0 in idle and stalled"
abbrev pub good_size : Transfer → Bool
good_size t =
    (eqb t.size 8 || eqb t.size 16 || eqb t.size 32 || eqb t.size 64) ||
    (eqb t.size 0 && (eqb t.stage 0 || eqb t.stage in_stall))

-- how long the block is that byte 1 names; "block 0 has two bytes"
abbrev pub block_length : Lengths → ℕ → ℕ
block_length l block = pick (eqb block in_bytes) 2 (pick (eqb block in_set) l.set (pick (eqb block in_serial) l.serial l.reply))

-- PIPE 14: "the reply's length is at most wLength, the reply ends inside the block that byte 1 names"
abbrev pub good_reply : Lengths → Transfer → Bool
good_reply l t = leb t.length t.asked && leb (t.place + t.length) (block_length l t.block)

-- PIPE 15: "in data out and asking (its bytes) the bytes received are at most wLength"
abbrev pub good_moved : Transfer → Bool
good_moved t = (eqb t.stage data_out || eqb t.stage asking_bytes) ⇒ leb t.moved t.asked

-- PIPE 12: "its stage is 0 to 7, byte 1 at most 3, byte 11 at most 1", and 13 to 15
unfoldable pub fits : Lengths → Transfer → Bool
fits l t = leb t.stage 7 && leb t.block 3 && leb t.reads 1 && good_size t && good_reply l t && good_moved t
