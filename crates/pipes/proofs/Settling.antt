-- What is sent lies inside what is lent: for the proofs of src/response.rt. No axiom.
use Rattle.octets.proofs.Vocabulary.{◌≡◌, refl, ℕ, ◌≤◌, List, [], ◌∷◌, Bool, true, false, length, eqb, leb, arith, eqb-true, leb-true}
use Rattle.octets.specs.Sentences.{pick}
use Rattle.octets.proofs.Sentences.{conjunct}
use Rattle.packets.proofs.Sizes.{inside}
use Rattle.pipes.specs.declared.Lengths.{Lengths}
use Rattle.pipes.specs.declared.Transfer.{Transfer}
use Rattle.pipes.specs.Transfer.{data_in, send, block_length, fits}
use Rattle.pipes.specs.Sending.{piece_of, no_piece, sends, sent, in_block, Inside}
use Rattle.pipes.specs.Pipe.{lengths_in}
use Rattle.pipes.proofs.Fitting.{reply-inside}

pub sent-inside : (first used serial reply : List ℕ) (order : ℕ) (t : Transfer) → Inside first used serial reply (sent (lengths_in used serial reply) order t)
unfolding sent
sent-inside first used serial reply order t = go (sends lens order t) refl
  where
    lens : Lengths
    lens = lengths_in used serial reply

    block : (k : ℕ) (x : ℕ) → leb 1 k ≡ true → x ≤ block_length lens k → x ≤ length (in_block first used serial reply k)
    block k x one = of (eqb k 0) refl (eqb k 1) refl (eqb k 2) refl
      where
        of : (s : Bool) → eqb k 0 ≡ s → (u : Bool) → eqb k 1 ≡ u → (v : Bool) → eqb k 2 ≡ v → x ≤ block_length lens k → x ≤ length (in_block first used serial reply k)
        of true p u q v m h = let z = eqb-true k 0 p in let y = leb-true 1 k one in absurd (omega arith)
        of false p true q v m h = rw (p, q) (rw (p, q) at h)
        of false p false q true m h = rw (p, q, m) (rw (p, q, m) at h)
        of false p false q false m h = rw (p, q, m) (rw (p, q, m) at h)

    go : (x : Bool) → sends lens order t ≡ x → Inside first used serial reply (pick x (piece_of t) no_piece)
    go false z = omega arith
    go true z =
        let row = eqb order send ∷ eqb t.stage data_in ∷ leb 1 t.block ∷ fits lens t ∷ [] in
        let f = reply-inside lens t (conjunct 3 row z) in
        let g = inside t.length t.asked t.size t.moved in
        block t.block _ (conjunct 2 row z) (omega arith)
