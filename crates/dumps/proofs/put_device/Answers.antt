-- `dumps::put_device` meets its contract: what was written is zeroed. No axiom.
use Rattle.octets.proofs.Vocabulary.{refl, ap, ◌∙◌, [], ◌∷◌}
use Rattle.buffers.proofs.Written.{inside, stands, replaced}
use Rattle.dumps.specs.Dump.{zeroed_device}
use Rattle.dumps.proofs.Blanking.{blanked-length}
use Rattle.dumps.proofs.put_device.Goals as goal

pub slice_bounds-zero_device-end : goal.slice_bounds-zero_device-end
slice_bounds-zero_device-end c = inside c.requires c.put_bytes.ensures

pub returns : goal.returns
returns c =
    let zeroed = c.zero_device.ensures ∙ ap zeroed_device (stands c.requires c.put_bytes.ensures) in
    replaced c.requires c.put_bytes.ensures _ (blanked-length (14 ∷ 15 ∷ 16 ∷ []) c.args.body.now) (rw zeroed refl) refl refl
