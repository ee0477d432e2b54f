-- `listing::put_configuration` meets its contract: its own line, and those of its descriptors. No axiom.
use Rattle.buffers.specs.Written.{Wrote}
use Rattle.listing.specs.Written.{descriptor_lines}
use Rattle.buffers.proofs.Written.{begun, next, wrote-both}
use Rattle.descriptors.proofs.GoodBody.{good-cut}
use Rattle.listing.proofs.Lines.{head_line, configuration-lines}
use Rattle.listing.proofs.put_configuration.Goals as goal

pub put_descriptors-requires-clause-body_value : goal.put_descriptors-requires-clause-body_value
put_descriptors-requires-clause-body_value c = good-cut c.requires.body_value.0 c.args.body.now c.requires.body_value.1

pub put_descriptors-requires-clause-room : goal.put_descriptors-requires-clause-room
put_descriptors-requires-clause-room c =
    let body = c.args.body.now in
    let lines = configuration-lines c.requires.body_value.0 body c.requires.body_value.1 in
    -- its own line is written
    let headed : Wrote c.args.w.now (head_line body) c.put_line.new.w = rw (c.peek-value.ensures, c.peek-interfaces.ensures) at c.put_line.ensures in
    (next (begun c.args.w.now _ c.requires.room) (head_line body) (descriptor_lines body) lines headed).room

pub returns : goal.returns
returns c =
    let body = c.args.body.now in
    let headed : Wrote c.args.w.now (head_line body) c.put_line.new.w = rw (c.peek-value.ensures, c.peek-interfaces.ensures) at c.put_line.ensures in
    rw (configuration-lines c.requires.body_value.0 body c.requires.body_value.1) (wrote-both headed c.put_descriptors.ensures)
