-- `records::renewal::put_fresh` meets its contract: every byte. No axiom.
use Rattle.records.specs.Device.{with_address}
use Rattle.records.specs.Image.{image_of}
use Rattle.records.proofs.renewal.put_fresh.Goals as goal

pub returns : goal.returns
unfolding image_of
returns c = λ d e.
    rw (c.put.ensures, c.put-2.ensures, c.put-3.ensures, c.put-4.ensures, c.put_configuration.ensures (with_address 0 0 d) (c.put_address.ensures d e))
