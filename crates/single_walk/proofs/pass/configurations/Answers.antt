-- `single_walk::pass::configurations` meets its contract: what is asked of all configurations is asked of those left, and what is known is known before them. No axiom.
use Rattle.octets.proofs.Vocabulary.{◌≡◌, refl, sym, ap, ◌∙◌, ◌+◌, ◌<◌, eqb, map, ◌&&◌, and-true, and_assoc, arith, rules}
use Rattle.octets.specs.Sentences.{every, only}
use Rattle.octets.proofs.Tables.{all_of, with-long}
use Rattle.descriptors.specs.Check.{configuration_refers}
use Rattle.descriptors.specs.Configuration.{bConfigurationValue}
use Rattle.sets.specs.Contents.{body_of, is_kind}
use Rattle.sets.specs.Pieces.{piece_for}
use Rattle.sets.proofs.Configurations.{good_from, good_start, good-end}
use Rattle.sets.proofs.Entries.{rest-start, rest_of, kind-next, kind-other, kind-end, asked_here, asked-other, asked-none, every-cons, every-empty, entry-member}
use Rattle.sets.proofs.Groups.{laid-inside}
use Rattle.sets.proofs.Passing.{frame-whole}
use Rattle.single_walk.proofs.Learning.{numbered-wrongly, built-wrongly, one-passed, learned, learnt-start, learnt-more, learnt-end}
use Rattle.single_walk.proofs.pass.configurations.Goals as goal
use Rattle.single_walk.proofs.pass.configurations.Goals.{then-e-eq-CONFIGURATION+else-not-is_numbered+in_ok-collected, then-selected, else-selected, else-e-eq-CONFIGURATION}

pub loop-i-init : goal.loop-i-init
loop-i-init c =
    let a = c.args in (
      omega arith,
      refl,
      good_start a.limits a.set.now ∙ ap (λ es. good_from a.limits 0 (all_of 0) (map (piece_for a.set.now) (only (is_kind 2) es))) (rest-start a.set.now),
      ap (λ es. every (configuration_refers a.names.table.now) (map (body_of a.set.now) (only (is_kind 2) es))) (rest-start a.set.now),
      rw (c.nothing_known-known.ensures, sym (rest-start a.set.now)) (learnt-start a.set.now a.device.now.configuration a.device.now.alternates a.asked),
    )

pub entry_whole-e-requires : goal.entry_whole-e-requires
entry_whole-e-requires c =
    let p = c.peek-count.ensures in
    let w = frame-whole _ c.requires.1.frame in
    let t = c.loop-i-test.true in
    omega arith

pub body_whole-body-requires : goal.body_whole-body-requires
body_whole-body-requires c =
    let a = c.args in
    let met = c.requires.1 in
    laid-inside a.limits a.set.now met.frame met.contents c.entry_whole-e.result (rw (← c.entry_whole-e.ensures) at (entry-member a.set.now c.loop-i.i (rw c.peek-count.ensures at c.loop-i-test.true)))

pub returns-then-not-is_numbered : goal.returns-then-not-is_numbered
returns-then-not-is_numbered c =
    let l = c.loop-i in
    let small : bConfigurationValue (body_of c.args.set.now c.entry_whole-e.result) < 256 = rw (← c.body_whole-body.ensures, ← c.peek-here.ensures) (search rules) in
    record {
      good = numbered-wrongly c.args.limits c.args.set.now _ c.peek-count.ensures l.i l.index l.seen l.invariant.1 l.invariant.2 c.loop-i-test.true _ c.entry_whole-e.ensures c.if-e-eq-CONFIGURATION.true small
          (rw (c.holds.ensures, c.peek-here.ensures, c.body_whole-body.ensures) at c.is_numbered.ensures) c.if-not-is_numbered.true;
      on = tt;
    }

pub returns-in_err-collected : goal.returns-in_err-collected
returns-in_err-collected c =
    let l = c.loop-i in
    let small : bConfigurationValue (body_of c.args.set.now c.entry_whole-e.result) < 256 = rw (← c.body_whole-body.ensures, ← c.peek-here.ensures) (search rules) in
    rw c.from_residual.ensures (record {
      good = built-wrongly c.args.limits c.args.set.now _ c.peek-count.ensures l.i l.index l.seen l.invariant.1 l.invariant.2 c.loop-i-test.true _ c.entry_whole-e.ensures c.if-e-eq-CONFIGURATION.true small
          (rw (c.holds.ensures, c.peek-here.ensures, c.body_whole-body.ensures) at c.is_numbered.ensures) c.if-not-is_numbered.false
          (rw c.body_whole-body.ensures at c.in_err-collected.ensures.good);
      on = tt;
    })

pub loop-i-preserved : goal.loop-i-preserved
loop-i-preserved c =
    let a = c.args in
    let set = a.set.now in
    let l = c.loop-i in
    let e = c.entry_whole-e.result in
    let test = c.loop-i-test.true in
    let count = c.peek-count.ensures in
    let f = configuration_refers a.names.table.now in
    elim c.if-e-eq-CONFIGURATION.branch [
      | then-e-eq-CONFIGURATION+else-not-is_numbered+in_ok-collected w ↦
          let kind = w.if-e-eq-CONFIGURATION.true in
          let body = w.body_whole-body.ensures in
          let here = w.peek-here.ensures in
          let walked = w.in_ok-collected.ensures in
          let small : bConfigurationValue (body_of set e) < 256 = rw (← body, ← here) (search rules) in
          let learns : c.if-e-eq-CONFIGURATION.known ≡ learned l.known w.can_wake.result (eqb w.peek-here.result a.device.now.configuration) w.in_ok-collected.collected.survey = elim w.if-selected.branch [
            | then-selected v ↦ w.known-is ∙ v.known-is ∙ rw v.if-selected.true
            | else-selected v ↦ w.known-is ∙ v.known-is ∙ rw v.if-selected.false
          ] in
          rw (w.index-is, w.seen-is, w.refers-is, learns) (
            omega arith,
            rw w.join.ensures (with-long l.seen _ l.invariant.1),
            rw (w.join.ensures, here, body)
                (one-passed a.limits set _ count l.i l.index l.seen l.invariant.1 l.invariant.2 test _ c.entry_whole-e.ensures kind small
                (rw (w.holds.ensures, here, body) at w.is_numbered.ensures) w.if-not-is_numbered.false
                (rw body at walked.good)),
            rw (walked.on.refers, body)
                (asked_here 2 (λ es. l.refers && every f (map (body_of set) es)) set _ count l.i l.invariant.3 test _ c.entry_whole-e.ensures kind ∙ rw every-cons (sym (and_assoc l.refers _ _))),
            rw (w.can_wake.ensures, here, body)
                (learnt-more set a.device.now.configuration a.device.now.alternates a.asked e (rest_of 2 set (l.i + 1)) w.in_ok-collected.collected.survey
                (λ t. rw body at (walked.on.surveyed (rw (here, body) t)))
                (rw (kind-next 2 set _ count l.i test e c.entry_whole-e.ensures kind) at l.invariant.4)),
          )
      | else-e-eq-CONFIGURATION w ↦
          let other = w.if-e-eq-CONFIGURATION.false in
          rw (w.index-is, w.seen-is, w.refers-is, w.known-is) (
            omega arith,
            l.invariant.1,
            asked-other 2 (λ es. good_from a.limits l.index l.seen (map (piece_for set) es)) set _ count l.i l.invariant.2 test _ c.entry_whole-e.ensures other,
            asked-other 2 (λ es. l.refers && every f (map (body_of set) es)) set _ count l.i l.invariant.3 test _ c.entry_whole-e.ensures other,
            rw (kind-other 2 set _ count l.i test e c.entry_whole-e.ensures other) at l.invariant.4,
          )
    ]

pub returns : goal.returns
returns c =
    let a = c.args in
    let l = c.loop-i in
    let count = c.peek-count.ensures in
    let f = configuration_refers a.names.table.now in
    let good = asked-none 2 (λ es. good_from a.limits l.index l.seen (map (piece_for a.set.now) es)) a.set.now _ count l.i l.invariant.2 c.loop-i-test.false ∙ good-end a.limits l.index l.seen in
    let refer = asked-none 2 (λ es. l.refers && every f (map (body_of a.set.now) es)) a.set.now _ count l.i l.invariant.3 c.loop-i-test.false ∙ ap (λ b. l.refers && b) (every-empty f) ∙ and-true l.refers in
    record {
      good = sym good;
      on = record {
        refers = sym refer;
        known = learnt-end a.set.now a.device.now.configuration a.device.now.alternates a.asked (rw (kind-end 2 a.set.now _ count l.i c.loop-i-test.false) at l.invariant.4);
      };
    }
