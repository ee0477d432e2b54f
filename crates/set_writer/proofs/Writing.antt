-- What the writer answers, case by case, in the terms of its contract. No axiom.
use Rattle.octets.proofs.Vocabulary.{◌≡◌, refl, sym, subst, ◌∙◌, ℕ, ◌+◌, ◌*◌, ◌≤◌, ◌<◌, List, ◌++◌, Bool, true, false, length, take, drop, length-take, eqb, ltb, sets-eq, take_at, arith, lt-ltb, le-ltb}
use Rattle.octets.specs.Octets.{word}
use Rattle.octets.specs.Sentences.{pick}
use Rattle.octets.proofs.Sentences.{or_left, or_right}
use Rattle.descriptors.specs.declared.limits.Limits.{Limits}
use Rattle.sets.specs.Opening.{opening}
use Rattle.std.specs.Prelude.{Some, None}
use Rattle.set_writer.specs.Writer.{ends, pieces, sorted, laid_length, laid, set_of, too_large, Filled}
use Rattle.sets.specs.Pieces.{Piece}
use Rattle.set_writer.proofs.Laid.{laid-parts, laid-length}
use Rattle.set_writer.proofs.Stream.{two_bytes}
use Rattle.set_writer.proofs.Sizes.{set-size}
use Rattle.set_writer.specs.Places.{count_of, pieces_at}
use Rattle.buffers.specs.declared.Writer.{Writer}
use Rattle.buffers.specs.Written as written
use Rattle.set_writer.specs.Reported.{length_written, Report, Handed, Reported}

abbrev pub answer : ℕ → ℕ → Report
answer number opening = record { number = number; opening = opening }

-- ---- building
module _ (stream : List ℕ) (n : ℕ) (e : n ≡ length (pieces stream)) (order : List ℕ) (p : pieces_at stream (take (length (pieces stream)) order) ≡ sorted (pieces stream)) where
  pub in_order : pieces_at stream (take n order) ≡ sorted (pieces stream)
  in_order = rw e p

  pub fits : (size : ℕ) → size ≡ laid_length (sorted (pieces stream)) → length (laid (pieces_at stream (take n order))) ≡ size
  fits size q = rw in_order (laid-length (sorted (pieces stream)) ∙ sym q)

  pub few : n ≤ 64 → length (take n order) < 256
  few h = rw length-take (omega arith)

  pub aside : (size : ℕ) → size ≡ laid_length (sorted (pieces stream)) → {w is : Writer} {after : List ℕ} → w.at ≡ 0 → size ≤ length w.out.now
      → written.Wrote w (laid (pieces_at stream (take n order))) is → after ≡ is.out.now → take size after ≡ set_of stream
  aside size q {w} {is} z h r left =
      let set = set_of stream in
      let l : length set ≡ size = laid-length (sorted (pieces stream)) ∙ sym q in
      let room : 0 + length set ≤ length w.out.now = omega arith in
      rw (left, (rw in_order at r.bytes), z, sets-eq set w.out.now 0 room) (take_at set (drop (0 + length set) w.out.now) size l)

pub handed : {limits : Limits} {set other serial buffer after : List ℕ} {r : Report} → Handed limits set serial buffer after r → set ≡ other → Handed limits other serial buffer after r
handed {limits} {set} {other} {serial} {buffer} {after} {r} h e = subst (λ (l : List ℕ). Handed limits l serial buffer after r) e h

-- ---- the whole
module _ (stream : List ℕ) where
  pub whole : (n : ℕ) → count_of stream ≡ Some n → (ends stream ≡ true) × (n ≡ length (pieces stream))
  whole n p = go (ends stream) p
    where
      go : (b : Bool) → pick b (Some (length (pieces stream))) None ≡ Some n → (b ≡ true) × (n ≡ length (pieces stream))
      go true q = (refl, cc)
      go false q = let z : ◌≡◌ {A = ℕ} 0 1 = cc in absurd (omega arith)

  pub set-length : ends stream ≡ true → length (set_of stream) ≡ 4 + 2 * length (pieces stream) + length stream
  set-length p = laid-length (sorted (pieces stream)) ∙ set-size stream p

  module _ (limits : Limits) (serial out : List ℕ) where
    module _ (p : ends stream ≡ true) where
      over : too_large stream ≡ true → Reported limits stream serial out out (answer 21 0)
      over q = record { fills = record { number = sym (rw (p, q)); bytes = refl }; why = sym (rw (p, q)) }

      pub many : 64 < length (pieces stream) → Reported limits stream serial out out (answer 21 0)
      many h = over (or_left (ltb 16384 (length (set_of stream))) (lt-ltb 64 (length (pieces stream)) h))

      pub large : 16384 < length (set_of stream) → Reported limits stream serial out out (answer 21 0)
      large h = over (or_right (ltb 64 (length (pieces stream))) (lt-ltb 16384 (length (set_of stream)) h))

      pub fitting : length (pieces stream) ≤ 64 → length (set_of stream) ≤ 16384 → {after : List ℕ} {r : Report} → Handed limits (set_of stream) serial out after r → Reported limits stream serial out after r
      fitting h k w =
          let few = le-ltb 64 (length (pieces stream)) h in
          let small = le-ltb 16384 (length (set_of stream)) k in
          record { fills = rw (p, few, small) w.fills; why = rw (p, few, small) w.why }

-- ---- the length of what was written
pub laid_word : (ps : List Piece) (rest : List ℕ) → word (laid ps ++ rest) 0 ≡ length (laid ps)
laid_word ps rest = rw (laid-parts ps) (two_bytes (laid_length ps)) ∙ sym (laid-length ps)

pub counted : {buffer after : List ℕ} {asked n : ℕ} (ps : List Piece) → Filled (laid ps) buffer after asked n → length_written n after ≡ pick (eqb n 0) (length (laid ps)) 0
counted {buffer} {after} {n = n} ps w = rw w.bytes (go (eqb n 0))
  where
    go : (b : Bool) → pick b (word (pick b (laid ps ++ drop (length (laid ps)) buffer) buffer) 0) 0 ≡ pick b (length (laid ps)) 0
    go true = laid_word ps (drop (length (laid ps)) buffer)
    go false = refl
