-- `set_writer::assemble` meets its contract: what lies aside is the set. No axiom.
use Rattle.octets.proofs.Vocabulary.{refl, ℕ, length-replicate, arith}
use Rattle.std.proofs.Common.{rules}
use Rattle.set_writer.proofs.Writing.{fits, aside, handed}
use Rattle.set_writer.proofs.assemble.Goals as goal

pub lay-requires-clause-room : goal.lay-requires-clause-room
lay-requires-clause-room c =
    omega (arith, c.requires.size_bound, length-replicate {A = ℕ} 16384 0, fits c.args.stream.now c.args.n c.requires.n_value _ c.sort.ensures c.args.size c.requires.size_value)

pub returns : goal.returns
returns c =
    handed c.hand_over.ensures (aside c.args.stream.now c.args.n c.requires.n_value _ c.sort.ensures c.args.size c.requires.size_value refl (omega (arith, c.requires.size_bound, length-replicate {A = ℕ} 16384 0)) c.lay.ensures (search rules))
