-- `sets::configuration::good_configurations` meets its contract: what is asked of all configurations is asked of those left, until so many are passed. No axiom.
use Rattle.octets.proofs.Vocabulary.{◌≡◌, refl, sym, ap, ◌∙◌, ◌+◌, ◌<◌, map, ◌&&◌, and-true, and_assoc, length, arith, rules, not-true, not-false}
use Rattle.octets.specs.Sentences.{every, only}
use Rattle.descriptors.specs.Check.{verdict, configuration_refers}
use Rattle.descriptors.specs.Configuration.{bConfigurationValue}
use Rattle.octets.specs.Table.{has}
use Rattle.descriptors.proofs.CheckReferences.{refused, told}
use Rattle.octets.proofs.Tables.{all_of, with-long}
use Rattle.sets.specs.Contents.{count, body_of, is_kind}
use Rattle.sets.specs.Pieces.{piece_for}
use Rattle.sets.specs.Checks.{good_numbered}
use Rattle.sets.proofs.Configurations.{good_from, good_start, good-end, good_more}
use Rattle.sets.proofs.Entries.{rest-start, asked_here, asked-other, every-cons, every-empty, counts_start, all-passed, more-there, entry-member}
use Rattle.sets.proofs.Groups.{laid-inside}
use Rattle.sets.proofs.Passing.{frame-whole, frame-few}
use Rattle.sets.proofs.configuration.good_configurations.Goals.{In-loop-index, After-peek-value, After-good_configuration_entry-verdict}
use Rattle.sets.proofs.configuration.good_configurations.Goals as goal

-- there is a next entry; a value has one byte; what the entry's own check told
within : (c : In-loop-index) → c.loop-index.i < count c.args.set.now
within c = let l = c.loop-index in more-there 2 c.args.set.now c.args.many l.index l.i c.requires.1 l.invariant.4 c.loop-index-test.true

small : (c : After-peek-value) → bConfigurationValue (body_of c.args.set.now c.entry_whole-e.result) < 256
small c = rw (← c.body_whole-body.ensures, ← c.peek-value.ensures) (search rules)

asked : (c : After-good_configuration_entry-verdict) → let a = c.args in let body = body_of a.set.now c.entry_whole-e.result in
    c.good_configuration_entry-verdict.result
    ≡ verdict (good_numbered a.limits c.entry_whole-e.result c.loop-index.index body (has c.loop-index.seen (bConfigurationValue body))) (configuration_refers a.names.now body)
asked c = rw (c.holds-again.ensures, c.peek-value.ensures, c.body_whole-body.ensures) at c.good_configuration_entry-verdict.ensures

pub loop-index-init : goal.loop-index-init
loop-index-init c =
    let a = c.args in (
      omega arith,
      refl,
      good_start a.limits a.set.now ∙ ap (λ es. good_from a.limits 0 (all_of 0) (map (piece_for a.set.now) (only (is_kind 2) es))) (rest-start a.set.now),
      ap (λ es. every (configuration_refers a.names.now) (map (body_of a.set.now) (only (is_kind 2) es))) (rest-start a.set.now),
      counts_start 2 a.set.now,
    )

pub entry_whole-e-requires : goal.entry_whole-e-requires
entry_whole-e-requires c = let h = within (goal.at.entry_whole-e-requires c).In-loop-index in let w = frame-whole _ c.requires.0.frame in omega arith

pub overflow_add-i : goal.overflow_add-i
overflow_add-i c = let h = within (goal.at.overflow_add-i c).In-loop-index in let f = frame-few c.args.set.now c.requires.0.frame in search rules

pub body_whole-body-requires : goal.body_whole-body-requires
body_whole-body-requires c =
    let set = c.args.set.now in
    laid-inside c.args.limits set c.requires.0.frame c.requires.0.contents c.entry_whole-e.result
    (rw (← c.entry_whole-e.ensures) at (entry-member set c.loop-index.i (within (goal.at.body_whole-body-requires c).In-loop-index)))

pub returns-then-not-verdict : goal.returns-then-not-verdict
returns-then-not-verdict c =
    let a = c.args in
    let l = c.loop-index in
    let at = goal.at.returns-then-not-verdict c in
    c.refuse.ensures
    ∙ refused _
    (sym
    (asked_here 2 (λ es. good_from a.limits l.index l.seen (map (piece_for a.set.now) es)) a.set.now _ refl l.i l.invariant.2 (within at.In-loop-index) _ c.entry_whole-e.ensures c.if-e-eq-CONFIGURATION.true
    ∙ good_more a.limits l.index l.seen c.entry_whole-e.result (body_of a.set.now c.entry_whole-e.result) _ (small at.After-peek-value) l.invariant.1
    ∙ rw (sym (ap (λ x. x.good) (asked at.After-good_configuration_entry-verdict)), not-true c.good_configuration_entry-verdict.result.good c.if-not-verdict.true)))

pub loop-index-smaller-then-e-eq-CONFIGURATION : goal.loop-index-smaller-then-e-eq-CONFIGURATION
loop-index-smaller-then-e-eq-CONFIGURATION c = let h = within (goal.at.loop-index-smaller-then-e-eq-CONFIGURATION c).In-loop-index in omega arith

pub loop-index-preserved-then-e-eq-CONFIGURATION : goal.loop-index-preserved-then-e-eq-CONFIGURATION
loop-index-preserved-then-e-eq-CONFIGURATION c =
    let a = c.args in
    let l = c.loop-index in
    let e = c.entry_whole-e in
    let body = body_of a.set.now e.result in
    let at = goal.at.loop-index-preserved-then-e-eq-CONFIGURATION c in
    let h = within at.In-loop-index in
    let told-of = asked at.After-good_configuration_entry-verdict in
    let kind = c.if-e-eq-CONFIGURATION.true in
    let good = not-false c.good_configuration_entry-verdict.result.good c.if-not-verdict.false in
    let f = configuration_refers a.names.now in (
      omega arith,
      rw c.join.ensures (with-long l.seen _ l.invariant.1),
      asked_here 2 (λ es. good_from a.limits l.index l.seen (map (piece_for a.set.now) es)) a.set.now _ refl l.i l.invariant.2 h _ e.ensures kind
          ∙ good_more a.limits l.index l.seen e.result body _ (small at.After-peek-value) l.invariant.1
          ∙ rw (sym (ap (λ x. x.good) told-of), good, c.join.ensures, c.peek-value.ensures, c.body_whole-body.ensures),
      rw (told c.good_configuration_entry-verdict.result _ (f body) told-of good)
          (asked_here 2 (λ es. l.refers && every f (map (body_of a.set.now) es)) a.set.now _ refl l.i l.invariant.3 h _ e.ensures kind ∙ rw every-cons (sym (and_assoc l.refers _ _))),
      (let left = asked_here 2 (λ es. l.index + length es) a.set.now _ refl l.i l.invariant.4 h _ e.ensures kind in omega arith),
    )

pub loop-index-smaller : goal.loop-index-smaller
loop-index-smaller c = let h = within (goal.at.loop-index-smaller c).In-loop-index in omega arith

pub loop-index-preserved : goal.loop-index-preserved
loop-index-preserved c =
    let a = c.args in
    let l = c.loop-index in
    let h = within (goal.at.loop-index-preserved c).In-loop-index in
    let f = configuration_refers a.names.now in (
      omega arith,
      l.invariant.1,
      asked-other 2 (λ es. good_from a.limits l.index l.seen (map (piece_for a.set.now) es)) a.set.now _ refl l.i l.invariant.2 h _ c.entry_whole-e.ensures c.if-e-eq-CONFIGURATION.false,
      asked-other 2 (λ es. l.refers && every f (map (body_of a.set.now) es)) a.set.now _ refl l.i l.invariant.3 h _ c.entry_whole-e.ensures c.if-e-eq-CONFIGURATION.false,
      asked-other 2 (λ es. l.index + length es) a.set.now _ refl l.i l.invariant.4 h _ c.entry_whole-e.ensures c.if-e-eq-CONFIGURATION.false,
    )

pub returns : goal.returns
returns c =
    let a = c.args in
    let set = a.set.now in
    let l = c.loop-index in
    let f = configuration_refers a.names.now in
    let e = all-passed 2 set a.many l.index l.i c.requires.1 l.invariant.4 c.loop-index-test.false in
    let good = l.invariant.2 ∙ ap (λ es. good_from a.limits l.index l.seen (map (piece_for set) es)) e ∙ good-end a.limits l.index l.seen in
    let refer = l.invariant.3 ∙ ap (λ es. l.refers && every f (map (body_of set) es)) e ∙ ap (λ b. l.refers && b) (every-empty f) ∙ and-true l.refers in
    rw (good, refer)
