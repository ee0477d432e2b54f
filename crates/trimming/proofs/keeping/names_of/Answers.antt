-- `trimming::keeping::names_of` meets its contract: what is in the table or named by the entries that are left. No axiom.
use Rattle.octets.proofs.Vocabulary.{sym, ap, ◌∙◌, ◌+◌, map, ◌||◌, or_assoc, or-false, rules}
use Rattle.octets.specs.Sentences.{any}
use Rattle.octets.specs.Table.{has}
use Rattle.sets.specs.Contents.{bodies, body_of}
use Rattle.sets.proofs.Entries.{kind-next, kind-other, kind-end, any-cons, any-empty}
use Rattle.trimming.specs.Keeping.{named_in}
use Rattle.octets.specs.Octets.{byte}
use Rattle.sets.specs.Device.{device_body}
use Rattle.trimming.proofs.Naming.{named_by, device-known, bodies_from, may-walk}
use Rattle.trimming.proofs.keeping.names_of.Goals as goal
use Rattle.trimming.proofs.keeping.names_of.Goals.{then-e-eq-CONFIGURATION, else-e-eq-CONFIGURATION}

pub join_configuration-requires : goal.join_configuration-requires
join_configuration-requires c =
    let set = c.args.set.now in
    let l = c.loop-i in
    rw c.body_of.ensures (may-walk set l.i (kind-next 2 set _ c.peek-count.ensures l.i c.loop-i-test.true _ c.entry_at-e.ensures c.if-e-eq-CONFIGURATION.true) l.invariant.1).0

pub loop-i-preserved : goal.loop-i-preserved
loop-i-preserved c =
    let set = c.args.set.now in
    let l = c.loop-i in
    elim c.if-e-eq-CONFIGURATION.branch [
      | then-e-eq-CONFIGURATION w ↦
          let q = kind-next 2 set _ c.peek-count.ensures l.i c.loop-i-test.true _ c.entry_at-e.ensures w.if-e-eq-CONFIGURATION.true in
          rw w.table-is (
            w.join_configuration.array_long,
            (may-walk set l.i q l.invariant.1).1,
            λ j h. l.invariant.2 j h ∙ ap (λ es. has l.table j || any (named_in j) (map (body_of set) es)) q ∙ ap (λ b. has l.table j || b) (any-cons (named_in j) _ _)
                ∙ sym (or_assoc (has l.table j) _ _) ∙ ap (λ b. b || any (named_in j) (bodies_from set (l.i + 1))) (sym (rw w.body_of.ensures at (w.join_configuration.ensures j h))),
          )
      | else-e-eq-CONFIGURATION w ↦
          let q = kind-other 2 set _ c.peek-count.ensures l.i c.loop-i-test.true _ c.entry_at-e.ensures w.if-e-eq-CONFIGURATION.false in
          rw w.table-is (l.invariant.0, rw q at l.invariant.1, rw q at l.invariant.2)
    ]

pub returns : goal.returns
returns c =
    let a = c.args in
    let l = c.loop-i in
    λ j h. sym (or-false (has l.table j)) ∙ ap (λ b. has l.table j || b) (sym (any-empty (named_in j)) ∙ ap (λ es. any (named_in j) (map (body_of a.set.now) es)) (sym (kind-end 2 a.set.now _ c.peek-count.ensures _ c.loop-i-test.false)))
    ∙ sym (l.invariant.2 j h)
    ∙ ap (λ b. b || any (named_in j) (bodies 2 a.set.now))
    (let d = c.device_body-device.ensures in device-known (device_body a.set.now) j (c.peek.ensures ∙ ap (λ d. byte d 14) d) (c.peek-2.ensures ∙ ap (λ d. byte d 15) d) (c.peek-3.ensures ∙ ap (λ d. byte d 16) d) (search rules) (search rules) (search rules) c.join.ensures c.join-2.ensures c.join-3.ensures)
    ∙ sym (named_by a.set.now j)
