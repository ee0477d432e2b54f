-- `single_walk::open_set` meets its contract: as opening, and the configurations tell what is known. No axiom.
use Rattle.octets.proofs.Vocabulary.{sym}
use Rattle.sets.proofs.Opened.{fourth-broken}
use Rattle.sets.proofs.Passing.{ordered}
use Rattle.single_walk.proofs.Opened.{refusal-told}
use Rattle.single_walk.proofs.open_set.Goals as goal

pub returns-in_err-begun : goal.returns-in_err-begun
returns-in_err-begun c = refusal-told _ _ _ _ _ c.from_residual.result c.in_err-begun.field-0.0 c.from_residual.ensures.1 (c.in_err-begun.ensures.err c.args.serial.now)

pub read_strings-strings-requires : goal.read_strings-strings-requires
read_strings-strings-requires c = let b = c.in_ok-begun.ensures.ok in (ordered _ _ b.met.frame b.met.contents, b.bare)

pub configurations-requires : goal.configurations-requires
configurations-requires c = (c.requires, c.in_ok-begun.ensures.ok.met)

pub finish-requires : goal.finish-requires
finish-requires c =
    let r = c.read_strings-strings.ensures in
    let b = c.in_ok-begun.ensures.ok in
    record { whole = b.whole; described = b.device; entries = r.entries; named = r.named; told = λ _. c.in-Some.ensures.on.refers }

pub returns-in_default : goal.returns-in_default
returns-in_default c = record { opens = tt; refuses = fourth-broken c.args.limits c.args.set.now c.args.serial.now c.in_ok-begun.ensures.ok.met (sym c.in_default.ensures.good) }
