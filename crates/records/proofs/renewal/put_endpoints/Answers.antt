-- `records::renewal::put_endpoints` meets its contract: the last two parts. No axiom.
use Rattle.octets.proofs.Vocabulary.{◌∙◌}
use Rattle.records.specs.Device.{with_endpoints}
use Rattle.records.specs.Image.{bytes_of_four}
use Rattle.records.proofs.Putting.{halts-put, toggles-put}
use Rattle.records.proofs.renewal.put_endpoints.Goals as goal

pub returns : goal.returns
unfolding bytes_of_four
returns c = λ d n e.
    let a = c.args in
    toggles-put (with_endpoints d.alternates a.halts d.toggles d) n a.toggles (halts-put d n a.halts e (c.put_all.ensures ∙ c.to_le_bytes.ensures)) (c.put_all-2.ensures ∙ c.to_le_bytes-2.ensures)
