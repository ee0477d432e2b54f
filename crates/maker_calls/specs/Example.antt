-- The calls at work, by computing: S written and opened, T trimmed and asked, a dump taken in and given back, and a broken set explained.
use Rattle.std.specs.Prelude.{ℕ, ◌/◌, ◌≡◌, refl, true, false, List, [], ◌∷◌, length, take, replicate}
use Rattle.std.proofs.Common.{arith, sym, ◌∙◌}
use Rattle.descriptors.specs.Limits.{full_speed}
use Rattle.sets.specs.Opening.{lent}
use Rattle.records.specs.Image.{image_of}
use Rattle.events.specs.Step.{setup_event}
use Rattle.set_writer.specs.Writer.{laid}
use Rattle.dumps.specs.Dump.{zeroed, exported}
use Rattle.trimming.specs.Trim.{trimmed, zero_filled}
use Rattle.promises.specs.Examples.{bytes, piece, device, configuration, interface, endpoint, computed, S, T}
use Rattle.promises.specs.Bench.{stands}
use Rattle.promises.specs.Inhabited.{octets, configured}
use Rattle.promises.specs.Refusal.{fresh_image}
use Rattle.maker_laws.specs.TrimRequests.{asks_dropped}
use Rattle.maker_promises.specs.WrittenExample.{assembled, pieces}
use Rattle.maker_promises.specs.Returned.{zeroed_pieces}
use Rattle.maker_promises.specs.ReturnedExample.{parted, dump}
use Rattle.maker_promises.specs.TrimmedExample.{trimming, ask_two, ask_five}
use Rattle.board.specs.Exports.{Opens, Spots}
use Rattle.board.specs.Makers.{Writes, Takes, Dumps, Shortens, Tells}
use Rattle.board.specs.Runs.{Call, setup, tell, status_end, Given, Runs}
use Rattle.maker_calls.specs.Trimmed.{Alike, same_runs}
use Rattle.maker_calls.specs.Explained.{FirstBroken, explains}
use Rattle.maker_calls.specs.Dumped.{given_back, brought_back, brought_short, brought_opens, whole_set}
use Rattle.maker_calls.specs.Written.{written_opens}

-- ---- L1: S, written from its two pieces into 63 bytes
pub writes_s : Writes full_speed pieces [] (replicate 63 170) 0 S.set 63
unfolding assembled
writes_s = record { fills = record { number = refl; bytes = refl }; counts = refl; octets = octets pieces refl }

pub opens_s : {image : List ℕ} {n : ℕ} → Opens (lent (take 63 S.set) []) (replicate 32 170) n image → (n ≡ 0) × (image ≡ fresh_image)
opens_s = written_opens writes_s refl

-- ---- L11: T, whose string 5 nothing names
abbrev left : List ℕ
left = zero_filled (trimmed T.set) (length T.set)

pub trims_t : Shortens full_speed T.set T.serial 0 left (length (trimmed T.set))
unfolding trimming
trims_t = record { trims = record { number = refl; bytes = refl }; counts = refl; octets = octets T.set refl }

-- string 2, the dropped string 5, string 9, which there never was, and a status end
abbrev pub ask_nine : List ℕ
ask_nine = bytes 8 0x800609030904FF00

abbrev pub asking : List Call
asking = setup ask_two ∷ setup ask_five ∷ setup ask_nine ∷ tell status_end ∷ []

pub only_five : (asks_dropped T.set (setup_event ask_two) ≡ false) × (asks_dropped T.set (setup_event ask_five) ≡ true) × (asks_dropped T.set (setup_event ask_nine) ≡ false)
unfolding trimming
only_five = (refl, refl, refl)

-- from Configured, before and after: all but the second give the same, and they end in the same image
pub asks_alike : (lie other : Spots) {gs hs : List Given} {last end : List ℕ} → Runs T lie (image_of configured) asking gs last
    → Runs (lent (take (length (trimmed T.set)) left) T.serial) other (image_of configured) asking hs end → Alike T.set asking gs hs × (last ≡ end)
asks_alike lie other r q = same_runs trims_t lie other r q

-- ---- L5: a dump with all five references, taken into 63 bytes, given back into 43, and taken in again
pub takes_dump : Takes dump (replicate 63 170) 0 S.set 63
unfolding parted
takes_dump = record { fills = record { number = refl; bytes = refl }; counts = refl; octets = octets dump refl }

pub gives_back : {dumped : List ℕ} {n many : ℕ} → Dumps (take 63 S.set) [] (replicate 43 0) n dumped many → (n ≡ 0) × (many ≡ 43) × (take many dumped ≡ zeroed dump)
gives_back x = let (z, m, b, _) = given_back takes_dump x (omega arith) in (z, m, b)

pub exports_s : Dumps S.set [] (replicate 43 0) 0 (zeroed dump) 43
unfolding parted
exports_s = record { fills = record { number = refl; bytes = refl }; counts = refl; octets = octets S.set refl }

pub home_s : {place : List ℕ} {n written : ℕ} → Takes (take 43 (zeroed dump)) (replicate 63 0) n place written → (n ≡ 0) × (written ≡ 63) × (take written place ≡ S.set)
unfolding parted
home_s i = whole_set exports_s i refl refl (omega arith)

-- ---- L5, of a set with strings: T, whose device has references 1 to 3, its configuration 1 and two of its settings 2, given out into 117 bytes
abbrev dump_t : List ℕ
dump_t = exported T.set

pub exports_t : Dumps T.set T.serial (replicate 117 170) 0 dump_t 117
unfolding parted
exports_t = record { fills = record { number = refl; bytes = refl }; counts = refl; octets = octets T.set refl }

-- T without its strings and without references
abbrev plain_t : List ℕ
plain_t = laid (
    piece 1 0 0 (device 0 0 64 0 0 0 1) ∷
    piece 2 0 0 (configuration 1 2 0 0xE0 50 (
    interface 0 0 2 0 ∷ endpoint 0x81 2 64 0 ∷ endpoint 0x02 2 64 0 ∷
    interface 0 1 3 0 ∷ endpoint 0x81 2 64 0 ∷ endpoint 0x02 2 64 0 ∷ endpoint 0x83 3 8 10 ∷
    interface 1 0 0 0 ∷ (5 ∷ 0x24 ∷ 1 ∷ 0 ∷ 1 ∷ []) ∷
    interface 1 1 2 0 ∷ endpoint 0x84 0x05 192 1 ∷ endpoint 0x85 3 8 10 ∷ [])) ∷ [])

is_plain : laid (zeroed_pieces T.set) ≡ plain_t
unfolding parted
is_plain = refl

size_t : length (laid (zeroed_pieces T.set)) ≡ 137
unfolding parted
size_t = refl

-- taken in again, into 137 bytes: T without strings, which opens with an empty serial block
pub home_t : {place : List ℕ} {n written : ℕ} → Takes (take 117 dump_t) (replicate 137 170) n place written → (n ≡ 0) × (written ≡ 137) × (take written place ≡ plain_t)
home_t i = let (z, w, b, _) = brought_back exports_t i (omega (arith, size_t)) in (z, w ∙ size_t, b ∙ is_plain)

pub opens_home_t : {place : List ℕ} {n written : ℕ} → Takes (take 117 dump_t) (replicate 137 170) n place written
    → {image : List ℕ} {m : ℕ} → Opens (lent (take written place) []) (replicate 32 170) m image → (m ≡ 0) × (image ≡ fresh_image)
opens_home_t i = brought_opens exports_t i (home_t i).0 refl

-- into 136 bytes: 22, and nothing is written
pub short_t : {place : List ℕ} {n written : ℕ} → Takes (take 117 dump_t) (replicate 136 170) n place written → (n ≡ 22) × (written ≡ 0) × (place ≡ replicate 136 170)
short_t i = brought_short exports_t i (omega (arith, size_t))

-- ---- U3: S with its interface's bLength 0 is refused with 4, and the rule that is told is of group 4, broken, and the first that is
pub explains_broken : {n rule place : ℕ} → Tells full_speed stands.set stands.serial n rule place → (n ≡ 4) × (rule / 100 ≡ 4) × FirstBroken full_speed stands n rule place
unfolding computed
explains_broken t =
    let e = explains t in
    let z = e.number in
    (z, e.group ∙ z, e.refused (λ zero. let four = sym z ∙ zero in omega (arith, four)))
