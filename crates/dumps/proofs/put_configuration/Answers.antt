-- `dumps::put_configuration` meets its contract: what was written is zeroed. No axiom.
use Rattle.octets.proofs.Vocabulary.{refl}
use Rattle.buffers.proofs.Written.{inside, stands, replaced}
use Rattle.dumps.proofs.Streaming.{zeroed-length}
use Rattle.dumps.proofs.put_configuration.Goals as goal

pub slice_bounds-zero_configuration-end : goal.slice_bounds-zero_configuration-end
slice_bounds-zero_configuration-end c = inside c.requires c.put_bytes.ensures

pub zero_configuration-requires : goal.zero_configuration-requires
zero_configuration-requires c = stands c.requires c.put_bytes.ensures

pub returns : goal.returns
returns c = replaced c.requires c.put_bytes.ensures _ (zeroed-length c.args.body.now) (rw c.zero_configuration.ensures refl) refl refl
