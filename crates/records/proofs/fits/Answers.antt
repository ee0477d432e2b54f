-- `records::fits` meets its contract: each rule from what is told. No axiom.
use Rattle.octets.proofs.Vocabulary.{ap, ◌∙◌}
use Rattle.records.specs.Change.{valued}
use Rattle.records.specs.Fits.{in_range}
use Rattle.records.proofs.Fitting.{fitting}
use Rattle.records.proofs.fits.Goals as goal

pub returns : goal.returns
returns c = λ v a t z q w p.
    let d = c.args.device in
    fitting v d z (c.in_range.ensures ∙ ap (λ x. in_range x d) p) c.good_waiting.ensures (c.good_state.ensures v q) (c.alternates_exist.ensures (valued v d) t.interfaces) t.halts c.has_only.ensures c.has_only-2.ensures w
