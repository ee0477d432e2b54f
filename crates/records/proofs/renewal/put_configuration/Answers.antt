-- `records::renewal::put_configuration` meets its contract: two bytes, and the 24 from the settings on. No axiom.
use Rattle.octets.proofs.Vocabulary.{◌≡◌, length, ap, sym, ◌∙◌, rules}
use Rattle.records.specs.Image.{image_of}
use Rattle.records.proofs.Putting.{put_on, cleared}
use Rattle.records.proofs.renewal.put_configuration.Goals as goal

pub returns : goal.returns
returns c = λ d e.
    let a = c.args in
    let long : length (image_of d) ≡ 32 = sym (ap length e) ∙ search rules in
    cleared d long a.state a.value (put_on 3 a.value c.put-2.ensures (put_on 0 a.state c.put.ensures e)) c.clear.ensures
