-- What explain tells is opening's number, and what is refused has one. No axiom.
use Rattle.octets.proofs.Vocabulary.{◌≡◌, refl, arith}
use Rattle.descriptors.specs.declared.limits.Limits.{Limits}
use Rattle.sets.specs.declared.opening.Broken.{Broken}
use Rattle.sets.specs.declared.opening.Broken.TheVariants.{Frame, Contents, Device, Configuration, Strings, Serial, Pair}
use Rattle.sets.specs.Broken.{number_of}
use Rattle.sets.specs.Opening.{Board, opening}
use Rattle.rules.specs.Explained.{explained}

pub told-number : (limits : Limits) (b : Board) → (explained limits b).number ≡ opening limits b
unfolding explained
told-number limits b = refl

pub refused : (broken : Broken) → number_of broken ≡ 0 → ⊥
refused Frame p = omega arith
refused Contents p = omega arith
refused Device p = omega arith
refused Configuration p = omega arith
refused Strings p = omega arith
refused Serial p = omega arith
refused Pair p = omega arith
