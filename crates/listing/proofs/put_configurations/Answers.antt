-- `listing::put_configurations` meets its contract: the lines of the configurations that are left. No axiom.
use Rattle.octets.proofs.Vocabulary.{ap, ◌∙◌, flat_map, map}
use Rattle.sets.specs.Contents.{body_of}
use Rattle.sets.proofs.Entries.{kind-next, kind-other, kind-end}
use Rattle.listing.specs.Listing.{configuration_lines}
use Rattle.buffers.proofs.Written.{room_for, next, done}
use Rattle.listing.proofs.Lines.{next-lines, next-good, flat-none}
use Rattle.listing.proofs.put_configurations.Goals as goal
use Rattle.listing.proofs.put_configurations.Goals.{then-e-eq-CONFIGURATION, else-e-eq-CONFIGURATION}

pub put_configuration-requires-clause-body_value : goal.put_configuration-requires-clause-body_value
put_configuration-requires-clause-body_value c =
    let set = c.args.set.now in
    let l = c.loop-i in
    let q = kind-next 2 set _ c.peek-count.ensures l.i c.loop-i-test.true _ c.entry_at-e.ensures c.if-e-eq-CONFIGURATION.true in
    rw c.body_of.ensures (l.invariant.0.0, (next-good set l.i q l.invariant.0.0 l.invariant.0.1).0)

pub put_configuration-requires-clause-room : goal.put_configuration-requires-clause-room
put_configuration-requires-clause-room c =
    let set = c.args.set.now in
    let l = c.loop-i in
    let q = kind-next 2 set _ c.peek-count.ensures l.i c.loop-i-test.true _ c.entry_at-e.ensures c.if-e-eq-CONFIGURATION.true in
    rw c.body_of.ensures (room_for l.invariant.1 (configuration_lines (body_of set c.entry_at-e.result)) _ (next-lines set l.i q))

pub loop-i-preserved : goal.loop-i-preserved
loop-i-preserved c =
    let set = c.args.set.now in
    let l = c.loop-i in
    elim c.if-e-eq-CONFIGURATION.branch [
      | then-e-eq-CONFIGURATION w ↦
          let q = kind-next 2 set _ c.peek-count.ensures l.i c.loop-i-test.true _ c.entry_at-e.ensures w.if-e-eq-CONFIGURATION.true in (
            (l.invariant.0.0, (next-good set l.i q l.invariant.0.0 l.invariant.0.1).1),
            rw w.w-is (next l.invariant.1 (configuration_lines (body_of set c.entry_at-e.result)) _ (next-lines set l.i q) (rw w.body_of.ensures at w.put_configuration.ensures)),
          )
      | else-e-eq-CONFIGURATION w ↦
          let q = kind-other 2 set _ c.peek-count.ensures l.i c.loop-i-test.true _ c.entry_at-e.ensures w.if-e-eq-CONFIGURATION.false in
          ((l.invariant.0.0, rw q at l.invariant.0.1), rw w.w-is (rw q at l.invariant.1))
    ]

pub returns : goal.returns
returns c =
    let set = c.args.set.now in
    done c.loop-i.invariant.1 (ap (λ es. flat_map configuration_lines (map (body_of set) es)) (kind-end 2 set _ c.peek-count.ensures _ c.loop-i-test.false) ∙ flat-none configuration_lines)
