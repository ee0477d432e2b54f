-- `listing::put_listing` meets its contract, refused or accepted. No axiom.
use Rattle.octets.proofs.Vocabulary.{◌≡◌, refl, sym, subst, ◌∙◌, ℕ, List}
use Rattle.sets.specs.Opening.{lent}
use Rattle.sets.proofs.Opened.{number-nonzero}
use Rattle.buffers.specs.declared.Writer.{Writer}
use Rattle.buffers.specs.Written.{Room, Wrote}
use Rattle.listing.proofs.Listed.{refused, accepted, good}
use Rattle.listing.proofs.put_listing.Goals as goal

module _ {text other : List ℕ} (e : text ≡ other) where
  room_of : (w : Writer) → Room w text → Room w other
  room_of w h = subst (λ (l : List ℕ). Room w l) e h

  wrote_of : {w is : Writer} → Wrote w other is → Wrote w text is
  wrote_of {w} {is} r = subst (λ (l : List ℕ). Wrote w l is) (sym e) r

pub put_accepted-requires-clause-set_value : goal.put_accepted-requires-clause-set_value
put_accepted-requires-clause-set_value c = good c.args.limits (lent c.args.set.now c.args.serial.now) 0 c.in-Ok.ensures refl

pub put_accepted-requires-clause-room : goal.put_accepted-requires-clause-room
put_accepted-requires-clause-room c = room_of (accepted c.args.limits (lent c.args.set.now c.args.serial.now) 0 c.in-Ok.ensures refl) c.args.w.now c.requires

pub returns-in-Ok : goal.returns-in-Ok
returns-in-Ok c = wrote_of (accepted c.args.limits (lent c.args.set.now c.args.serial.now) 0 c.in-Ok.ensures refl) c.put_accepted.ensures

pub put_line-requires : goal.put_line-requires
put_line-requires c =
    let told = c.number.ensures ∙ c.opening-opened.ensures in
    let nonzero : c.number.result ≡ 0 → ⊥ = λ p. number-nonzero c.in-Err.field-0 (c.in-Err.ensures ∙ sym told ∙ p) in
    room_of (refused c.args.limits (lent c.args.set.now c.args.serial.now) _ told nonzero) c.args.w.now c.requires

pub returns-in-Err : goal.returns-in-Err
returns-in-Err c =
    let told = c.number.ensures ∙ c.opening-opened.ensures in
    let nonzero : c.number.result ≡ 0 → ⊥ = λ p. number-nonzero c.in-Err.field-0 (c.in-Err.ensures ∙ sym told ∙ p) in
    wrote_of (refused c.args.limits (lent c.args.set.now c.args.serial.now) _ told nonzero) c.put_line.ensures
