-- What an event gets before the library hears of it, where it looks at the transfer. No axiom.
use Rattle.octets.proofs.Vocabulary.{◌≡◌, ap, ◌∙◌, ℕ, List, Bool, true, false, length, eq-eqb}
use Rattle.octets.specs.Sentences.{pick}
use Rattle.pipes.specs.declared.Lengths.{Lengths}
use Rattle.pipes.specs.declared.Wire.{Wire}
use Rattle.pipes.specs.Transfer.{nothing}
use Rattle.pipes.specs.Pipe.{tells}
use Rattle.pipes.specs.Hearing.{Moved, unheard_moved, moved_by, pipe_moved, looked, pipe_looked}

module _ (l : Lengths) (w : Wire) (pipe : List ℕ) (long : length pipe ≡ 16) (looks : tells w ≡ false) where
  pub looked-moves : looked l w pipe ≡ moved_by l w pipe
  looked-moves =
      ap (λ (t : Bool). pick t (pick (tells w) (record { number = 0; order = nothing; ended = true }) (moved_by l w pipe)) unheard_moved) (eq-eqb (length pipe) 16 long)
      ∙ ap (λ (t : Bool). pick {A = Moved} t (record { number = 0; order = nothing; ended = true }) (moved_by l w pipe)) looks

  pub pipe-looked-moves : pipe_looked l w pipe ≡ pipe_moved l w pipe
  pipe-looked-moves =
      ap (λ (t : Bool). pick t (pick (tells w) pipe (pipe_moved l w pipe)) pipe) (eq-eqb (length pipe) 16 long)
      ∙ ap (λ (t : Bool). pick t pipe (pipe_moved l w pipe)) looks
