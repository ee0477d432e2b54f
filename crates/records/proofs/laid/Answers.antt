-- `records::laid` meets its contract. No axiom.
use Rattle.records.specs.Image.{four_bytes, device_of}
use Rattle.records.proofs.Image.{same-device}
use Rattle.records.proofs.laid.Goals as goal

pub returns : goal.returns
unfolding device_of four_bytes
returns c =
    let image = c.args.image.now in
    same-device (device_of image)
    c.copy_from_slice.ensures.after
    c.from_le_bytes.ensures c.from_le_bytes-2.ensures
