-- The pieces of a dump stand in order; what import answers, case by case. No axiom.
use Rattle.octets.proofs.Vocabulary.{◌≡◌, refl, sym, ap, ◌∙◌, ℕ, suc, ◌+◌, ◌*◌, ◌≤◌, ◌<◌, List, [], ◌∷◌, ◌++◌, map, true, length, take, drop, length-map, eqb, ltb, sets-eq, take_at, arith, lt-ltb, ltb-true, ltb-false, false, replicate, length-replicate, ⊎_elim, ◌||◌}
use Rattle.octets.specs.Sentences.{pick, neighbours}
use Rattle.octets.proofs.Sentences.{or_left, or_right, either, neither}
use Rattle.descriptors.specs.Limits.{full_speed}
use Rattle.set_writer.specs.Writer.{precedes, sorted, laid, set_of, writing}
use Rattle.set_writer.specs.Stream.{stream_of}
use Rattle.sets.specs.Pieces.{Piece}
use Rattle.set_writer.proofs.Stream.{stream-read, stream-whole}
use Rattle.std.specs.Prelude.{Result, Ok, Err}
use Rattle.std.specs.Result.{IsErrAnd}
use Rattle.set_writer.specs.declared.NotWritten.{NotWritten}
use Rattle.set_writer.specs.Refused.{report_of}
use Rattle.dumps.specs.declared.import.NotImported.{NotImported}
use Rattle.dumps.specs.declared.import.NotImported.TheVariants.{NotWritten as not_written}
use Rattle.dumps.specs.Refused.{imported_report}
use Rattle.buffers.specs.declared.Writer.{Writer}
use Rattle.buffers.specs.Written as written
use Rattle.buffers.proofs.Written.{inside}
use Rattle.set_writer.specs.Reported.{opening_made, Report, Reported}
use Rattle.set_writer.proofs.Writing.{answer, set-length}
use Rattle.set_writer.proofs.Shuffled.{itself}
use Rattle.set_writer.proofs.Ascending.{neighbours-ascend}
use Rattle.set_writer.proofs.Precedes.{transitive}
use Rattle.set_writer.proofs.Order.{sorted-is}
use Rattle.dumps.specs.Dump.{splits, device_in, configurations_in, zeroed_device, zeroed_configuration, device_piece, numbered, pieces_for, imported, too_large, importing}
use Rattle.dumps.proofs.Streaming.{stream-size}
use Rattle.dumps.specs.Import.{opening_imported, Imports}

module _ (dump : List ℕ) where
  abbrev device : List ℕ
  device = zeroed_device (device_in dump)

  abbrev configurations : List (List ℕ)
  configurations = map zeroed_configuration (configurations_in dump)

-- ---- they stand in order
pub numbered-up : (i : ℕ) (bs : List (List ℕ)) → neighbours precedes (numbered i bs) ≡ true
unfolding numbered neighbours
numbered-up i [] = refl
numbered-up i (b ∷ []) = refl
numbered-up i (b ∷ c ∷ bs) = rw (lt-ltb i (i + 1) (omega arith)) (numbered-up (i + 1) (c ∷ bs))

pub pieces_up : (device : List ℕ) (bs : List (List ℕ)) → neighbours precedes (numbered 0 bs) ≡ true → neighbours precedes (device_piece device ∷ numbered 0 bs) ≡ true
unfolding numbered neighbours
pieces_up d [] p = refl
pieces_up d (b ∷ bs) p = p

pub numbered-length : (i : ℕ) (bs : List (List ℕ)) → length (numbered i bs) ≡ length bs
unfolding numbered
numbered-length i [] = refl
numbered-length i (b ∷ bs) = ap suc (numbered-length (i + 1) bs)

module _ (dump : List ℕ) where
  pieces-sorted : sorted (pieces_for dump) ≡ pieces_for dump
  pieces-sorted =
      sorted-is (pieces_for dump) (pieces_for dump) (itself (pieces_for dump))
      (neighbours-ascend precedes transitive (pieces_for dump) (pieces_up (device dump) (configurations dump) (numbered-up 0 (configurations dump))))

  stream-set : set_of (stream_of (pieces_for dump)) ≡ imported dump
  stream-set = ap (λ (ps : List Piece). laid (sorted ps)) (stream-read (pieces_for dump)) ∙ ap laid pieces-sorted

  pieces-count : length (pieces_for dump) ≡ 1 + length (configurations_in dump)
  pieces-count = omega (arith, numbered-length 0 (configurations dump), length-map (configurations_in dump) zeroed_configuration)

  pub imported-length : splits dump ≡ true → length (imported dump) ≡ 4 + 8 * (1 + length (configurations_in dump)) + length dump
  imported-length p =
      let s = stream_of (pieces_for dump) in
      omega (arith, ap length stream-set, set-length s (stream-whole (pieces_for dump)), ap length (stream-read (pieces_for dump)), pieces-count, stream-size dump p)

-- ---- what import answers
module _ (dump out : List ℕ) where
  module _ (p : splits dump ≡ true) where
    over : too_large dump ≡ true → Imports dump out out (answer 21 0)
    over q = record { fills = record { number = sym (rw (p, q)); bytes = refl }; why = sym (rw (p, q)) }

    many : 63 < length (configurations_in dump) → Imports dump out out (answer 21 0)
    many h = over (or_left (ltb 16384 (length (imported dump))) (lt-ltb 64 (length (pieces_for dump)) (omega (arith, pieces-count dump))))

    large : 16384 < length dump → Imports dump out out (answer 21 0)
    large h = over (or_right (ltb 64 (length (pieces_for dump))) (lt-ltb 16384 (length (imported dump)) (omega (arith, imported-length dump p))))

    pub too_much : (n : ℕ) → n ≡ length (configurations_in dump) → (ltb 63 n || ltb 16384 (length dump)) ≡ true → Imports dump out out (answer 21 0)
    too_much n e h =
        ⊎_elim (λ a. many (omega (arith, e, ltb-true 63 n a))) (λ b. large (ltb-true 16384 (length dump) b)) (either (ltb 63 n) (ltb 16384 (length dump)) h)

    asked : (room : ℕ) → writing full_speed (stream_of (pieces_for dump)) [] room ≡ importing dump room
    asked room = rw (stream-whole (pieces_for dump), p, stream-read (pieces_for dump), pieces-sorted dump)

    why-asked : opening_made full_speed (stream_of (pieces_for dump)) [] ≡ opening_imported dump
    why-asked = rw (stream-whole (pieces_for dump), p, stream-read (pieces_for dump), pieces-sorted dump)

    pub written_out : {after : List ℕ} {r : Report} (stream : List ℕ) → stream ≡ stream_of (pieces_for dump) → Reported full_speed stream [] out after r → Imports dump out after r
    written_out {r = r} stream q w =
        let v = rw q at w in
        record {
          fills = record {
            number = v.fills.number ∙ asked (length out);
            bytes = v.fills.bytes ∙ ap (λ (set : List ℕ). pick (eqb r.number 0) (set ++ drop (length set) out) out) (stream-set dump);
          };
          why = v.why ∙ why-asked;
        }

-- ---- the stream that lies aside, for which there is room
pub room_aside : (dump : List ℕ) (n : ℕ) → splits dump ≡ true → n ≡ length (configurations_in dump) → (ltb 63 n || ltb 16384 (length dump)) ≡ false → 0 + length (stream_of (pieces_for dump)) ≤ length (replicate {A = ℕ} 16768 0)
room_aside dump n p e h =
    let (a, b) = neither (ltb 63 n) (ltb 16384 (length dump)) h in
    omega (arith, e, ltb-false 63 n a, ltb-false 16384 (length dump) b, stream-size dump p, length-replicate {A = ℕ} 16768 0)

module _ {text : List ℕ} {w is : Writer} {after : List ℕ} (z : w.at ≡ 0) (room : written.Room w text) (r : written.Wrote w text is) (left : after ≡ is.out.now) where
  pub ends-inside : is.at ≤ length after
  ends-inside = rw left (inside room r)

  pub aside : take is.at after ≡ text
  aside =
      let l : length text ≡ is.at = omega (arith, r.place) in
      let fits : 0 + length text ≤ length w.out.now = omega (arith, room) in
      rw (left, r.bytes, z, sets-eq text w.out.now 0 fits) (take_at text (drop (0 + length text) w.out.now) is.at l)

-- why the set is not written is handed on
pub handed_on : {dump out after : List ℕ} (r : Result (Unit {0}) NotImported) (why : NotWritten) → IsErrAnd r (λ y. y ≡ not_written why) → Imports dump out after (report_of (Err why)) → Imports dump out after (imported_report r)
handed_on (Ok _) why p q = absurd p
handed_on (Err y) why p q = rw p q
