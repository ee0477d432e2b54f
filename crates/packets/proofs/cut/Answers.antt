-- `packets::cut` meets its contract. No axiom.
use Rattle.octets.proofs.Vocabulary.{◌≡◌, subst, sym, ℕ, ◌+◌, ◌≤◌, List, length, arith}
use Rattle.packets.specs.Packets.{Packet, packet}
use Rattle.packets.proofs.Sizes.{inside}
use Rattle.packets.proofs.cut.Goals as goal

-- a packet that was found lies inside the reply
within : (reply : List ℕ) (asked size nth : ℕ) (here : Packet) → here ≡ packet (length reply) asked size nth → here.offset + here.length ≤ length reply
within reply asked size nth here e = let P : Packet → Type 0 = λ p. p.offset + p.length ≤ length reply in subst P (sym e) (inside (length reply) asked size nth)

pub overflow_add-end : goal.overflow_add-end
overflow_add-end c = omega (arith, within _ _ _ _ _ c.in-Some.ensures)

pub slice_bounds-result-end-in-Some : goal.slice_bounds-result-end-in-Some
slice_bounds-result-end-in-Some c = omega (arith, within _ _ _ _ _ c.in-Some.ensures)
