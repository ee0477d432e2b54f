-- `trimming::put_zeros` meets its contract: what is behind the place is filled. No axiom.
use Rattle.octets.proofs.Vocabulary.{refl, ap, ◌∙◌, ℕ, List, ◌-◌, length, drop, length-drop, length-replicate, length-take-le, replicate, length-sets, arith}
use Rattle.buffers.specs.declared.Writer.{Writer}
use Rattle.buffers.proofs.Written.{copied}
use Rattle.trimming.proofs.put_zeros.Goals as goal

pub returns : goal.returns
returns c =
    let w : Writer = c.args.w.now in
    let size : ℕ = length w.out.now - w.at in
    let zeros : List ℕ = replicate {A = ℕ} size 0 in
    let long = length-replicate {A = ℕ} size 0 in
    let filled = c.fill.ensures.after (λ y e. e) ∙ ap (λ (n : ℕ). replicate {A = ℕ} n 0) (length-take-le size (drop w.at w.out.now) (rw length-drop (omega arith))) in
    let bytes = copied w.out.now w.at (length w.out.now) zeros _ (omega (arith, c.requires, long)) (omega (arith, c.requires, long)) filled in
    record { bytes = bytes; place = ap length bytes ∙ length-sets w.out.now w.at zeros ∙ omega (arith, c.requires, long); same = refl }
