-- A transfer that has ended leaves the pipe idle. No axiom.
use Rattle.octets.proofs.Vocabulary.{◌≡◌, refl, sym, ◌∙◌, ℕ, ◌+◌, Bool, true, false, ◌||◌, false≢true, eqb, ltb}
use Rattle.octets.specs.Sentences.{pick}
use Rattle.packets.specs.Packets.{packet}
use Rattle.pipes.specs.declared.Transfer.{Transfer}
use Rattle.pipes.specs.declared.Wire.{Wire}
use Rattle.pipes.specs.declared.Wire.TheVariants.{Taken, Received, Reply, Room, Accept, Refuse, Setup, Reset, Unknown}
use Rattle.pipes.specs.Transfer.{data_in, status_out, data_out, status_in, idle}
use Rattle.pipes.specs.Turns.{Turn, stays, stalls, sends_status, taken, due, received, asked, may_reply, sends_reply, replied, may_write, receives, roomed, may_accept, accepted, refused, turned}

-- what holds of both choices holds of the one that is picked
chosen : {A : Type 0} (P : A → Type 0) (t : Bool) {x y : A} → (t ≡ true → P x) → (t ≡ false → P y) → P (pick t x y)
chosen P true f g = f refl
chosen P false f g = g refl

abbrev Rests : Turn → Type 0
Rests turn = turn.ended ≡ true → turn.transfer ≡ idle

goes : (turn : Turn) → turn.ended ≡ false → Rests turn
goes turn p q = absurd (false≢true (sym p ∙ q))

asked-goes : (t : Transfer) (may : Bool) (turn : Turn) → turn.ended ≡ false → Rests (asked t may turn)
asked-goes t may turn p =
    chosen Rests (eqb t.stage 1 || eqb t.stage 5) (λ _. chosen Rests may (λ _. goes turn p) (λ _. goes stalls refl)) (λ _. goes (stays t) refl)

module _ (n : ℕ) (t : Transfer) where
  taken-rests : Rests (taken t)
  unfolding taken
  taken-rests =
      chosen Rests (eqb t.stage data_in)
      (λ _. chosen Rests (eqb (packet t.length t.asked t.size (t.moved + 1)).number 0) (λ _. λ q. absurd (false≢true q)) (λ _. λ q. absurd (false≢true q)))
      (λ _. chosen Rests (eqb t.stage status_in) (λ _. λ _. refl) (λ _. goes (stays t) refl))

  received-rests : (size : ℕ) → Rests (received size t)
  unfolding received
  received-rests size =
      chosen Rests (eqb t.stage data_in || eqb t.stage status_out) (λ _. chosen Rests (eqb size 0) (λ _. λ _. refl) (λ _. goes stalls refl))
      (λ _. chosen Rests (eqb t.stage data_out)
      (λ _. chosen Rests (eqb size (due t)) (λ _. chosen Rests (ltb (t.moved + size) t.asked) (λ _. λ q. absurd (false≢true q)) (λ _. λ q. absurd (false≢true q))) (λ _. goes stalls refl)) (λ _. goes (stays t) refl))

  pub turned-rests : (w : Wire) → (turned n w t).ended ≡ true → (turned n w t).transfer ≡ idle
  unfolding turned replied roomed accepted refused
  turned-rests Taken = taken-rests
  turned-rests (Received size) = received-rests size
  turned-rests Reply = asked-goes t (may_reply t) (sends_reply n t) refl
  turned-rests (Room size) = asked-goes t (may_write size t) (receives t) refl
  turned-rests Accept = asked-goes t (may_accept t) (sends_status t) refl
  turned-rests Refuse = asked-goes t false stalls refl
  turned-rests Setup = goes (stays t) refl
  turned-rests (Reset speed) = goes (stays t) refl
  turned-rests Unknown = goes (stays t) refl
