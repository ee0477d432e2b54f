-- `packets::packet_of` meets its contract. No axiom.
use Rattle.octets.proofs.Vocabulary.{sym, ◌∙◌, ◌<◌, and-false, arith, le-ltb}
use Rattle.packets.specs.Packets.{can_cut, packet_count}
use Rattle.packets.proofs.Sizes.{is-packet, is-refused}
use Rattle.packets.proofs.packet_of.Goals as goal

pub returns-then-not-can_cut : goal.returns-then-not-can_cut
returns-then-not-can_cut c = is-refused _ _ _ _ (rw (sym c.can_cut.ensures ∙ c.if-not-can_cut.true))

pub returns-then-packet_count-k : goal.returns-then-packet_count-k
returns-then-packet_count-k c =
    let a = c.args in
    is-refused a.reply a.asked a.size a.nth (rw (le-ltb _ _ (rw c.packet_count.ensures at c.if-packet_count-k.true)) (and-false (can_cut a.reply a.asked a.size)))

pub returns : goal.returns
returns c =
    let a = c.args in
    let e = sym c.can_cut.ensures ∙ c.if-not-can_cut.false in
    let k : a.nth < packet_count a.reply a.asked a.size = rw c.packet_count.ensures at c.if-packet_count-k.false in
    is-packet a.reply a.asked a.size a.nth _ e k (omega arith)
