-- `dumps::put_stream` meets its contract: head, device, configurations. No axiom.
use Rattle.octets.proofs.Vocabulary.{refl, [], ◌∷◌, arith}
use Rattle.buffers.proofs.Written.{begun, room_for, next}
use Rattle.dumps.specs.Dump.{device_in, zeroed_device}
use Rattle.dumps.specs.Import.{headed}
use Rattle.dumps.proofs.Blanking.{blanked-length}
use Rattle.dumps.proofs.Streaming.{stream-parts}
use Rattle.dumps.proofs.put_stream.Goals as goal

pub put_head-requires-clause-room : goal.put_head-requires-clause-room
put_head-requires-clause-room c =
    let dump = c.args.dump.now in
    let g = begun c.args.w.now _ c.requires.room in
    room_for g (headed 1 0 18) _ (stream-parts dump c.requires.dump_value)

pub put_device-requires : goal.put_device-requires
put_device-requires c =
    let dump = c.args.dump.now in
    let g = begun c.args.w.now _ c.requires.room in
    let g2 = next g (headed 1 0 18) _ (stream-parts dump c.requires.dump_value) c.put_head.ensures in
    rw c.head.ensures (omega (arith, room_for g2 (zeroed_device (device_in dump)) _ refl, blanked-length (14 ∷ 15 ∷ 16 ∷ []) (device_in dump)))

pub put_configurations-requires : goal.put_configurations-requires
put_configurations-requires c =
    let dump = c.args.dump.now in
    let g = begun c.args.w.now _ c.requires.room in
    let g2 = next g (headed 1 0 18) _ (stream-parts dump c.requires.dump_value) c.put_head.ensures in
    let g3 = next g2 (zeroed_device (device_in dump)) _ refl (rw c.head.ensures at c.put_device.ensures) in
    record { dump_value = c.requires.dump_value; dump_len_bound = c.requires.dump_len_bound; room = g3.room }

pub returns : goal.returns
returns c =
    let dump = c.args.dump.now in
    let g = begun c.args.w.now _ c.requires.room in
    let g2 = next g (headed 1 0 18) _ (stream-parts dump c.requires.dump_value) c.put_head.ensures in
    let g3 = next g2 (zeroed_device (device_in dump)) _ refl (rw c.head.ensures at c.put_device.ensures) in
    g3.onward _ c.put_configurations.ensures
