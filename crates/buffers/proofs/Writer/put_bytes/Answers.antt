-- `buffers::Writer::put_bytes` meets its contract: the part that is copied over is what writing the bytes one by one leaves. No axiom.
use Rattle.std.proofs.Common.{refl}
use Rattle.buffers.proofs.Written.{copied}
use Rattle.buffers.proofs.Writer.put_bytes.Goals as goal

pub returns : goal.returns
returns c = record {
  bytes = copied _ _ _ c.args.text.now _ c.requires refl c.copy_from_slice.ensures.after;
  place = refl;
  same = refl;
}
