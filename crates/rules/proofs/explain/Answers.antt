-- `rules::explain` meets its contract. No axiom.
use Rattle.std.specs.Prelude.{Option, Some, IsSome}
use Rattle.octets.proofs.Vocabulary.{◌≡◌, refl, sym, ◌∙◌, ℕ, List, false, eqb, ltb, length, Option as Maybe, some, none, arith, rules, ltb-false}
use Rattle.octets.specs.Sentences.{first}
use Rattle.octets.proofs.Sentences.{cases}
use Rattle.descriptors.specs.declared.limits.Limits.{Limits}
use Rattle.sets.specs.declared.opening.Broken.{Broken}
use Rattle.sets.specs.declared.opening.Broken.TheVariants.{Frame, Contents, Device, Configuration, Strings, Serial, Pair}
use Rattle.sets.specs.Broken.{number_of}
use Rattle.sets.specs.Opening.{Board, lent, opening}
use Rattle.rules.specs.declared.Fault.{Fault}
use Rattle.rules.specs.Findings.{Finding}
use Rattle.rules.specs.Explained.{Explained, findings, is_broken, inside, lent_for, explained}
use Rattle.rules.specs.After.{fault_in}
use Rattle.rules.proofs.Told.{refused}
use Rattle.rules.proofs.RuleBelongs.{none-broken, some-broken}
use Rattle.rules.proofs.explain.Goals as goal
use Rattle.rules.proofs.explain.Goals.{in-Serial, in_default}

-- ---- what is accepted
first_byte : (bytes : List ℕ) → inside bytes 0 ≡ 0
first_byte bytes = cases (ltb 0 (length bytes)) (λ p. rw p) (λ p. rw p (omega (arith, ltb-false 0 (length bytes) p)))

pub returns-in-Ok : goal.returns-in-Ok
unfolding explained
returns-in-Ok c =
    let b = lent c.args.set.now c.args.serial.now in
    let accepted : 0 ≡ opening c.args.limits b = c.in-Ok.ensures in
    rw (← accepted, none-broken c.args.limits b (sym accepted), first_byte b.set)

-- ---- what is refused
not_serial : (broken : Broken) → (broken ≡ Serial → ⊥) → eqb (number_of broken) 6 ≡ false
not_serial Frame p = refl
not_serial Contents p = refl
not_serial Device p = refl
not_serial Configuration p = refl
not_serial Strings p = refl
not_serial Serial p = absurd (p refl)
not_serial Pair p = refl

is_there : (o : Maybe Finding) → (o ≡ none → ⊥) → {r : Option Fault} → r ≡ fault_in o → IsSome r
is_there none p q = absurd (p refl)
is_there (some x) p q = rw q (search rules)

pub unwrap-fault-requires : goal.unwrap-fault-requires
unwrap-fault-requires c =
    let b = lent c.args.set.now c.args.serial.now in
    let number : number_of c.in-Err.broken ≡ opening c.args.limits b = c.in-Err.ensures in
    is_there (first is_broken (findings c.args.limits b)) (some-broken c.args.limits b (λ p. refused c.in-Err.broken (number ∙ p))) c.first_fault.ensures

-- the rule that is named, and its byte
named : (limits : Limits) (b : Board) (n : ℕ) (fault : Fault) (place : ℕ) → n ≡ opening limits b → fault_in (first is_broken (findings limits b)) ≡ Some fault
    → place ≡ inside (lent_for b n) fault.place → ◌≡◌ {A = Explained} (record { number = n; rule = fault.rule; place = place }) (explained limits b)
unfolding explained
named limits b n fault place e f p = go (first is_broken (findings limits b)) refl f
  where
    go : (o : Maybe Finding) → first is_broken (findings limits b) ≡ o → fault_in o ≡ Some fault → ◌≡◌ {A = Explained} (record { number = n; rule = fault.rule; place = place }) (explained limits b)
    go none q r = cc
    go (some x) q r = let same : record { rule = x.rule; place = x.place } ≡ fault = cc in rw (q, ← e, p, ← same)

pub returns-after-broken : goal.returns-after-broken
returns-after-broken c =
    let b = lent c.args.set.now c.args.serial.now in
    let broken = c.in-Err.broken in
    let number : number_of broken ≡ opening c.args.limits b = c.in-Err.ensures in
    named c.args.limits b (number_of broken) c.unwrap-fault.result c.place_inside.result number (sym c.first_fault.ensures ∙ c.unwrap-fault.ensures)
    (elim c.match-broken.branch [
      | in-Serial w ↦ c.place_inside.ensures ∙ rw (w.about-is, w.in-Serial.is)
      | in_default w ↦ c.place_inside.ensures ∙ rw (w.about-is, not_serial broken w.in_default.not-Serial)
    ])
