-- The packets that are handed over in a run, and those of a reply (PIPE 52): "The k-th packet that is handed over is the cutter's packet k".
use Rattle.std.specs.Prelude.{ℕ, ◌*◌, ◌≤◌, ◌≡◌, Bool, true, false, ◌||◌, length, take, eqb}
use mathlib.Core.List.{List, [], ◌∷◌, ◌++◌, map, flat_map}
use Rattle.octets.specs.Octets.{part}
use Rattle.octets.specs.Sentences.{pick, up_to}
use Rattle.sets.specs.Opening.{Board}
use Rattle.records.specs.Image.{device_of}
use Rattle.records.specs.Current.{set_for}
use Rattle.events.specs.Answer.{Answer, bytes_of, part_of, bytes_at}
use Rattle.events.specs.Step.{setup_event, event}
use Rattle.packets.specs.Packets.{packet_count, packet}
use Rattle.pipes.specs.Transfer.{send, await}
use Rattle.pipes.specs.Sending.{bytes_in}
use Rattle.pipes.specs.Pipe.{Told, Records, heard, hands_over}
use Rattle.pipe_runs.specs.Runs.{Happening, on_wire, beside, leaves, leaves_by, quiet}

-- ---- what is handed over, PIPE 5: "the bytes handed back, or the part, which may be empty", of the blocks that are lent
abbrev pub packet_at : Board → Records → Told → List ℕ
packet_at b r e = (heard b r e).bytes ++ bytes_in b.set (set_for b (device_of r.image).speed) b.serial e.reply (hands_over b r e)

abbrev pub sent_at : Board → Records → Told → List (List ℕ)
sent_at b r e = pick (eqb (heard b r e).order send) (packet_at b r e ∷ []) []

-- the packets of a run, in its order; and whether the host's empty packet is awaited in it
abbrev pub sent_in : Board → Records → List Happening → List (List ℕ)
sent_in b r [] = []
sent_in b r (on_wire e ∷ es) = sent_at b r e ++ sent_in b (leaves b r e) es
sent_in b r (beside x ∷ es) = sent_in b (leaves_by b r (beside x)) es

abbrev pub awaits_in : Board → Records → List Happening → Bool
awaits_in b r [] = false
awaits_in b r (on_wire e ∷ es) = eqb (heard b r e).order await || awaits_in b (leaves b r e) es
awaits_in b r (beside x ∷ es) = awaits_in b (leaves_by b r (beside x)) es

-- ---- a reply's own packets: packet k of these bytes, asked with wLength w, in packets of p; how many there are
abbrev pub packet_of : List ℕ → ℕ → ℕ → ℕ → List ℕ
packet_of bytes w p k = let q = packet (length bytes) w p k in part bytes q.offset q.length

abbrev pub packets_of : List ℕ → ℕ → ℕ → ℕ
packets_of bytes w p = packet_count (length bytes) w p

-- what the library answers a setup with: the bytes handed back, or those of the part
abbrev pub given : Board → ℕ → Answer → List ℕ
given b speed a = bytes_of a ++ bytes_at b speed (part_of a)

abbrev pub reply_to : Board → List ℕ → List ℕ → List ℕ
reply_to b image setup = given b (device_of image).speed (event b image (setup_event setup)).answer

-- neither a SETUP nor a reset; PIPE 44: the reply is "lent at each event while it goes out, unchanged"
abbrev pub Within : List ℕ → Happening → Type 0
Within reply (on_wire e) = (quiet e.wire ≡ true) × (e.reply ≡ reply)
Within reply (beside x) = Unit {0}

-- ---- these packets are the reply's first ones: at least packet 0, "each once, in order, none after the last"; "what the host has taken is the beginning of the reply, and all
-- of it when await was ordered"
pub record Begins (b : Board) (r : Records) (es : List Happening) (bytes : List ℕ) (w p : ℕ) : Type 0 where
  pub many : ℕ
  pub some : 1 ≤ many
  pub no_more : many ≤ packets_of bytes w p
  pub packets : sent_in b r es ≡ map (packet_of bytes w p) (up_to many)
  pub beginning : flat_map (packet_of bytes w p) (up_to many) ≡ take (many * p) bytes
  pub all : awaits_in b r es ≡ true → many ≡ packets_of bytes w p
  pub whole : awaits_in b r es ≡ true → flat_map (packet_of bytes w p) (up_to many) ≡ bytes
