-- The promises of the pipe (specs/Promises), proved. No axiom.
use Rattle.octets.proofs.Vocabulary.{◌≡◌, refl, sym, subst, ◌∙◌, ℕ, List, [], ◌∷◌, true, length, eqb, arith, eq-eqb}
use Rattle.sets.specs.Opening.{Board, BytesOf}
use Rattle.sets.specs.View.{accepted}
use Rattle.records.specs.Device.{fresh}
use Rattle.events.specs.declared.Event.{Event}
use Rattle.events.specs.declared.Event.TheVariants.{Malformed, BusReset}
use Rattle.events.specs.Answer.{number_of}
use Rattle.records.proofs.Image.{image-length as record-length}
use Rattle.events.specs.Step.{Reply, setup_event, event, opened}
use Rattle.order.specs.Run.{All}
use Rattle.laws.proofs.Outcomes.{chosen}
use Rattle.promises.specs.Keeps.{FitImage, fresh_fit, image_fits, event_fits, never_eight as library_never_eight, Reached, after_opening, after_event}
use Rattle.pipes.specs.declared.Wire.{Wire}
use Rattle.pipes.specs.declared.Wire.TheVariants.{Setup, Taken, Received, Reset, Reply as Replies, Room, Accept, Refuse, Unknown}
use Rattle.pipes.specs.Transfer.{idle}
use Rattle.pipes.specs.Image.{transfer_of, fits_in}
use Rattle.pipes.specs.Turns.{Turn, turned}
use Rattle.pipes.specs.Pipe.{Told, Records, Heard, lengths_of, moves, begins, packet_size, on_transfer, heard_as, heard}
use Rattle.pipes.proofs.Inverse.{image-length}
use Rattle.pipe_runs.specs.Runs.{Happening, on_wire, beside, leaves, leaves_by, after, heard_in, power_on, is_idle, is_stalled, a_setup, events_at, events_in, device_after, number_after}
use Rattle.pipe_runs.specs.Promises.{NothingElseMoves, NumbersAreTheLibrarys, OrderDoesNotCount, ReadsTheReply, ReadsTheApplications, OwnAddress, OncePerTransfer, NeverForADropped, AtMostOnePerSetup, NoLockOut, SendsNothing, RefusedSendsNothing, RestSendsNothing, ran, TakesEachPacket, EnumeratesByPackets, EnumeratesAnyhow, AlwaysFits, NeverEight}
use Rattle.pipe_runs.proofs.Moves as moving
use Rattle.pipe_runs.proofs.Resting.{Rests, rests_in}
use Rattle.pipe_runs.proofs.Setups as setups
use Rattle.pipe_runs.proofs.Ends as ending
use Rattle.pipe_runs.proofs.Addresses as addresses
use Rattle.pipe_runs.proofs.Replies as replies
use Rattle.pipe_runs.proofs.Applications as applications
use Rattle.pipe_runs.proofs.Orders as orders
use Rattle.pipe_runs.proofs.Counting as counting
use Rattle.pipe_runs.proofs.Keeping as keeping
use Rattle.pipe_runs.proofs.Enumerates as enumerates
use Rattle.pipe_runs.proofs.Keeps as keeps

-- ---- 2
pub nothing_else_moves : NothingElseMoves
nothing_else_moves b r es = moving.nothing_else_moves b r es

numbers_are_the_librarys : NumbersAreTheLibrarys
numbers_are_the_librarys b r e f = counting.numbers_are_the_librarys b r e f

pub order_does_not_count : OrderDoesNotCount
order_does_not_count b octets ok r f w es fs same = orders.order_does_not_count b octets ok r f w es fs same

-- ---- 3
pub reads_the_reply : ReadsTheReply
reads_the_reply b r setup reply long eight octets done asks es q = replies.reads_reply b r setup reply long eight octets done asks es q

pub reads_the_applications : ReadsTheApplications
reads_the_applications b r reply octets fit may es q = applications.reads_applications b r reply octets fit may es q

-- ---- 4
pub own_address : OwnAddress
own_address b r p es h = addresses.own_address b r es h p

-- ---- 5
pub once_per_transfer : OncePerTransfer
once_per_transfer b r e z = record { how = ending.ends_how b r e z; told = ending.told_once b r e z; rests = ending.idle_then b r e z; once = ending.once_only b r e z }

pub never_for_a_dropped : NeverForADropped
never_for_a_dropped b r e z = counting.never_for_a_dropped b r e z

at_most_one_per_setup : AtMostOnePerSetup
at_most_one_per_setup b r p es = counting.at_most_one_per_setup b r p es

-- ---- 6
pub no_lock_out : NoLockOut
no_lock_out b image pipe setup reply long eight = setups.no_lock_out b image pipe setup reply long eight

-- ---- 7
silent : (hs : List Heard) → All Rests hs → All SendsNothing hs
silent [] p = tt
silent (h ∷ hs) (p, ps) = (record { sends = p.sends_nothing; receives = p.receives_nothing; awaits = p.awaits_nothing }, silent hs ps)

rest_sends_nothing : RestSendsNothing
rest_sends_nothing b r p es q = silent (heard_in b r es) (rests_in b r es p q).0

pub refused_sends_nothing : RefusedSendsNothing
refused_sends_nothing b r setup reply long eight p q =
    let (stalls, left) = setups.refused_stalls b r setup reply long eight p q in
    (stalls, λ es quiet. rest_sends_nothing b (leaves b r (a_setup setup reply)) (rw left is_stalled) es quiet)

-- ---- a run keeps the records: a device record that fits, and sixteen bytes
module _ (b : Board) (octets : BytesOf b) (ok : accepted b ≡ true) where
  fits_after : (image : List ℕ) (xs : List Event) → FitImage b image → FitImage b (device_after b image xs)
  fits_after image [] f = f
  fits_after image (x ∷ xs) f = fits_after (event b image x).image xs (event_fits b octets ok image x f)

  fresh-fits : FitImage b power_on.image
  fresh-fits = image_fits b octets ok fresh (fresh_fit b octets ok)

  fits_in_run : (es : List Happening) → FitImage b (after b power_on es).image
  fits_in_run es = rw (nothing_else_moves b power_on es) (fits_after power_on.image (events_in b power_on es) fresh-fits)

long_kept : (b : Board) (r : Records) (e : Told) → length r.pipe ≡ 16 → length (leaves b r e).pipe ≡ 16
unfolding heard
long_kept b r e long = chosen (λ (h : Heard). length h.left.pipe ≡ 16) (eqb (length r.pipe) 16) (λ _. by e.wire) (λ _. long)
  where
    begun : (w : Reply) → length (begins (packet_size b r.image) e.setup r.pipe w).left.pipe ≡ 16
    begun w = chosen (λ (p : List ℕ). length p ≡ 16) (eqb (number_of w.answer) 9) (λ _. long) (λ _. image-length _)

    moved : (u : Turn) → length (moves b r.image u).left.pipe ≡ 16
    moved u = chosen (λ (h : Heard). length h.left.pipe ≡ 16) u.ended (λ _. image-length _) (λ _. image-length _)

    turned_so : length (on_transfer b r e).left.pipe ≡ 16
    turned_so = chosen (λ (h : Heard). length h.left.pipe ≡ 16) (fits_in (lengths_of b r.image e.reply) r.pipe) (λ _. moved (turned (length e.reply) e.wire (transfer_of r.pipe))) (λ _. long)

    by : (w : Wire) → length (heard_as b r e w).left.pipe ≡ 16
    by Setup = begun (event b r.image (setup_event e.setup))
    by Unknown = begun (event b r.image Malformed)
    by (Reset speed) = chosen (λ (p : List ℕ). length p ≡ 16) (eqb (number_of (event b r.image (BusReset speed)).answer) 0) (λ _. image-length _) (λ _. long)
    by Taken = turned_so
    by (Received n) = turned_so
    by Replies = turned_so
    by (Room n) = turned_so
    by Accept = turned_so
    by Refuse = turned_so

long_in_run : (b : Board) (r : Records) (es : List Happening) → length r.pipe ≡ 16 → length (after b r es).pipe ≡ 16
long_in_run b r [] long = long
long_in_run b r (beside x ∷ es) long = long_in_run b (leaves_by b r (beside x)) es long
long_in_run b r (on_wire e ∷ es) long = long_in_run b (leaves b r e) es (long_kept b r e long)

-- ---- 8
enumerates_anyhow : EnumeratesAnyhow
enumerates_anyhow b octets ok r start calm speed good a low high i there = enumerates.enumerates_anyhow b octets ok r start calm speed good a low high i there

pub enumerates_by_packets : EnumeratesByPackets
enumerates_by_packets b octets ok r (ran es) calm speed good a low high i there =
    enumerates_anyhow b octets ok (after b power_on es) (fits_in_run b octets ok es, long_in_run b power_on es (image-length idle)) calm speed good a low high i there

takes_each_packet : TakesEachPacket
takes_each_packet b speed address i = keeps.takes_each_packet b speed address i

-- ---- no 8
always_fits : AlwaysFits
always_fits b r rests es lent e now = keeping.always_fits b r rests es lent e now

module _ (b : Board) where
  reached-fresh : Reached b power_on.image
  unfolding opened
  reached-fresh =
      let long = record-length fresh refl in
      let same : (opened b power_on.image).image ≡ power_on.image = rw (eq-eqb (length power_on.image) 32 long) in
      subst (Reached b) same (after_opening power_on.image long)

  reached-after : {image : List ℕ} (xs : List Event) → Reached b image → Reached b (device_after b image xs)
  reached-after [] p = p
  reached-after {image} (x ∷ xs) p = reached-after {image = (event b image x).image} xs (after_event x p)

  reached_in_run : (es : List Happening) → Reached b (after b power_on es).image
  reached_in_run es = rw (nothing_else_moves b power_on es) (reached-after (events_in b power_on es) reached-fresh)

  none-eight : BytesOf b → {image : List ℕ} (xs : List Event) → Reached b image → number_after b image xs ≡ 8 → ⊥
  none-eight octets [] p z = omega arith
  none-eight octets (x ∷ xs) p z = library_never_eight b octets p x z

pub never_eight : NeverEight
never_eight b octets es lent e now z =
    let r = after b power_on es in
    none-eight b octets (events_at b r e) (reached_in_run b es) (sym (numbers_are_the_librarys b r e (always_fits b power_on is_idle es lent e now)) ∙ z)
