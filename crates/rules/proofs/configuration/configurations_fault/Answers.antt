-- `rules::configuration::configurations_fault` meets its contract. No axiom.
use Rattle.octets.proofs.Vocabulary.{◌≡◌, refl, sym, ap, ◌∙◌, ◌+◌, ◌*◌, ◌<◌, [], ◌∷◌, arith, rules}
use Rattle.sets.proofs.Entries.{rest-start, asked-next, asked-end}
use Rattle.rules.specs.After.{after, first_of}
use Rattle.octets.proofs.Tables.{with-long}
use Rattle.descriptors.specs.Configuration.{bConfigurationValue}
use Rattle.sets.specs.Contents.{body_of}
use Rattle.rules.specs.Configuration.{configurations_from}
use Rattle.rules.proofs.After.{ends}
use Rattle.rules.proofs.Entries.{seen_none, seen_more, configuration-in, configuration-past, configurations-end}
use Rattle.rules.proofs.configuration.configurations_fault.Goals.{then-e-eq-CONFIGURATION, else-e-eq-CONFIGURATION}
use Rattle.rules.proofs.configuration.configurations_fault.Goals as goal

pub loop-i-init : goal.loop-i-init
loop-i-init c =
    let a = c.args in
    (omega arith, refl, [], seen_none, ap (λ es. first_of (configurations_from a.limits a.set.now 4 0 [] es)) (rest-start a.set.now))

pub loop-i-preserved : goal.loop-i-preserved
loop-i-preserved c =
    let a = c.args in
    let l = c.loop-i in
    let set = a.set.now in
    let e = c.entry_at-e.result in
    let earlier = l.invariant.2 in
    let v = bConfigurationValue (body_of set e) in
    let turn = asked-next (λ es. after l.found (configurations_from a.limits set (4 + 8 * l.i) l.index earlier es)) set _ c.peek-i-end.ensures l.i l.invariant.4 c.loop-i-test.true e c.entry_at-e.ensures in
    elim c.if-e-eq-CONFIGURATION.branch [
      | then-e-eq-CONFIGURATION w ↦
          let small : v < 256 = rw (← w.body_of.ensures, ← w.peek-value.ensures) (search rules) in
          let value : w.peek-value.result ≡ v = rw w.body_of.ensures at w.peek-value.ensures in
          let again = rw (w.holds-again.ensures, value, l.invariant.3 (body_of set e) small) at w.configuration_fault.ensures in
          rw (w.index-is, w.seen-is, w.found-is) (
            omega arith,
            rw w.join.ensures (with-long l.seen _ l.invariant.1),
            body_of set e ∷ earlier,
            rw (w.join.ensures, value) (seen_more l.seen earlier (body_of set e) small l.invariant.1 l.invariant.3),
            turn ∙ configuration-in a.limits set l.i l.index earlier l.found e _ w.if-e-eq-CONFIGURATION.true (ends _ w.or-found.ensures _ again),
          )
      | else-e-eq-CONFIGURATION w ↦
          rw (w.index-is, w.seen-is, w.found-is)
          (omega arith, l.invariant.1, earlier, l.invariant.3, turn ∙ configuration-past a.limits set l.i l.index earlier l.found e _ w.if-e-eq-CONFIGURATION.false)
    ]

pub returns : goal.returns
returns c =
    let a = c.args in
    let l = c.loop-i in
    let set = a.set.now in
    sym
    (asked-end (λ es. after l.found (configurations_from a.limits set (4 + 8 * l.i) l.index l.invariant.2 es)) set _ c.peek-i-end.ensures l.i l.invariant.4 c.loop-i-test.false
    ∙ configurations-end a.limits set (4 + 8 * l.i) l.index l.invariant.2 l.found)
