-- `pair_rules::explain_two` meets its contract. No axiom.
use Rattle.std.specs.Prelude.{Option, Some, None, IsSome}
use Rattle.octets.proofs.Vocabulary.{◌≡◌, refl, sym, ap, ◌∙◌, ℕ, List, Option as Maybe, some, none}
use Rattle.sets.specs.Broken.{number_of}
use Rattle.sets.specs.Pair.{opening_two}
use Rattle.rules.specs.Explained.{inside}
use Rattle.pair_rules.specs.declared.BlockFault.{BlockFault}
use Rattle.pair_rules.specs.Explained.{Placed, ExplainedTwo, lent_as, told_two, explained_two}
use Rattle.pair_rules.specs.Placed.{About, block_number, about, told_in}
use Rattle.rules.proofs.Told.{refused}
use Rattle.pair_rules.proofs.RulePair.{named, none-there, some-there}
use Rattle.pair_rules.proofs.explain_two.Goals as goal
use Rattle.pair_rules.proofs.explain_two.Goals.{in-Full, in-High, in-Serial}

pub returns-in-Ok : goal.returns-in-Ok
unfolding explained_two
returns-in-Ok c =
    let a = c.args in
    let accepted : 0 ≡ opening_two a.full.now a.high.now a.serial.now = c.in-Ok.ensures in
    rw (none-there a.full.now a.high.now a.serial.now (sym accepted), ← accepted)

is_there : (o : Maybe Placed) → (o ≡ none → ⊥) → (r : Option BlockFault) → about r ≡ told_in o → IsSome r
is_there none p r q = absurd (p refl)
is_there (some x) p None q = cc
is_there (some x) p (Some f) q = refl

pub unwrap-block-requires : goal.unwrap-block-requires
unwrap-block-requires c =
    let a = c.args in
    let number : number_of c.in-Err.broken ≡ opening_two a.full.now a.high.now a.serial.now = c.in-Err.ensures in
    is_there (named a.full.now a.high.now a.serial.now) (some-there a.full.now a.high.now a.serial.now (λ p. refused c.in-Err.broken (number ∙ p))) c.first_placed.result c.first_placed.ensures

-- the rule that is named, its block and its byte
told-named : (full high serial : List ℕ) (n : ℕ) (f : BlockFault) (place : ℕ) → n ≡ opening_two full high serial → about (Some f) ≡ told_in (named full high serial)
    → place ≡ inside (lent_as full high serial (block_number f.block)) f.fault.place
    → ◌≡◌ {A = ExplainedTwo} (record { number = n; block = block_number f.block; rule = f.fault.rule; place = place }) (explained_two full high serial)
unfolding explained_two
told-named full high serial n f place e q p = go (named full high serial) q
  where
    go : (o : Maybe Placed) → about (Some f) ≡ told_in o
        → ◌≡◌ {A = ExplainedTwo} (record { number = n; block = block_number f.block; rule = f.fault.rule; place = place }) (told_two full high serial o)
    go none q = cc
    go (some x) q =
        let same : ◌≡◌ {A = About} (record { block = block_number f.block; fault = f.fault }) (record { block = x.block; fault = record { rule = x.finding.rule; place = x.finding.place } }) = cc in
        let block : block_number f.block ≡ x.block = ap (λ t. t.block) same in
        let fault : f.fault ≡ record { rule = x.finding.rule; place = x.finding.place } = ap (λ t. t.fault) same in
        rw (p, e, block, fault)

pub returns-after-block : goal.returns-after-block
returns-after-block c =
    let a = c.args in
    told-named a.full.now a.high.now a.serial.now (number_of c.in-Err.broken) c.unwrap-block.result c.place_inside.result c.in-Err.ensures (rw c.unwrap-block.ensures at c.first_placed.ensures)
    (elim c.match-block.branch [
      | in-Full w ↦ c.place_inside.ensures ∙ rw (w.lent-is, w.in-Full.is)
      | in-High w ↦ c.place_inside.ensures ∙ rw (w.lent-is, w.in-High.is)
      | in-Serial w ↦ c.place_inside.ensures ∙ rw (w.lent-is, w.in-Serial.is)
    ])
