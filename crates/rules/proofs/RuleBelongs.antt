-- The rule that is named belongs to the group that opening names, for all inputs and kinds of set; an accepted set gives rule 0, and a refused one some rule. No axiom.
use Rattle.octets.proofs.Vocabulary.{◌≡◌, refl, sym, ap, ◌∙◌, ℕ, ◌/◌, ◌≤◌, List, [], Bool, true, false, not, false≢true, Option, some, none, eqb, leb, arith, leb-true, le-leb}
use Rattle.octets.specs.Sentences.{pick, every, first}
use Rattle.octets.proofs.Sentences.{every-member, first_some}
use Rattle.descriptors.specs.declared.limits.Limits.{Limits}
use Rattle.sets.specs.Contents.{entries, total, bodies_at}
use Rattle.sets.specs.Device.{device_body, iSerialNumber}
use Rattle.sets.specs.Opening.{Board, opening}
use Rattle.sets.proofs.Groups.{each-rule}
use Rattle.rules.specs.Findings.{Finding}
use Rattle.rules.specs.Frame.{frame_findings, contents_findings, no_entry}
use Rattle.rules.specs.Device.{device_findings, serial_findings}
use Rattle.rules.specs.Configurations.{configurations_findings}
use Rattle.rules.specs.Strings.{strings_findings}
use Rattle.rules.specs.Explained.{findings, is_broken, fault_of, explained}
use Rattle.rules.proofs.Grouped.{all-rules, frames, contents, devices, serials, configurations, group-5}
use Rattle.rules.proofs.RuleFrames.{frame_same, contents-same, devices-same, block_same}
use Rattle.rules.proofs.RuleBodies.{configurations-same}
use Rattle.rules.proofs.RuleTexts.{strings-same}
use Rattle.rules.proofs.RuleGroups.{group_of, group-first, group-last}

-- one group: what is said of the later ones matters only where it holds
step : (a b : Bool) (n x y : ℕ) → a ≡ b → (b ≡ true → x ≡ y) → pick (not a) n x ≡ pick (not b) n y
step true true n x y p q = q refl
step false false n x y p q = refl
step true false n x y p q = absurd (false≢true (sym p))
step false true n x y p q = absurd (false≢true p)

pub named-group : (limits : Limits) (b : Board) → group_of (first is_broken (findings limits b)) ≡ opening limits b
unfolding findings opening
named-group limits b =
    let set = b.set in
    group-first 1 (frame_findings set) _ (frames set)
    ∙ step _ _ 1 _ _ (frame_same set) (λ f.
    group-first 2 (contents_findings limits set) _ (contents limits (total set) 4 true no_entry (bodies_at set) (entries set))
    ∙ step _ _ 2 _ _ (contents-same limits set) (λ c.
    group-first 3 (device_findings limits set) _ (devices limits set)
    ∙ step _ _ 3 _ _ (devices-same limits set) (λ d.
    group-first 4 (configurations_findings limits set) _ (configurations limits set 4 0 [] (entries set))
    ∙ step _ _ 4 _ _ (configurations-same limits set) (λ g.
    group-first 5 (strings_findings set) _ (group-5 set)
    ∙ step _ _ 5 _ _ (strings-same limits set (each-rule limits set g).good) (λ s.
    group-last 6 (serial_findings (iSerialNumber (device_body set)) b.serial) (serials (eqb (iSerialNumber (device_body set)) 0) b.serial)
    ∙ step _ _ 6 0 0 (block_same set b.serial) (λ t. refl))))))

pub belongs : (limits : Limits) (b : Board) → (explained limits b).rule / 100 ≡ opening limits b
unfolding explained
belongs limits b = named-group limits b

-- every rule has a group, and so the one that is named
abbrev pub grouped : Finding → Bool
grouped x = leb 1 (x.rule / 100)

pub some-group : (xs : List Finding) {x : Finding} → every grouped xs ≡ true → first is_broken xs ≡ some x → 1 ≤ x.rule / 100
some-group xs {x} p q = leb-true 1 (x.rule / 100) (every-member grouped p (first_some is_broken xs q).0)

pub set-grouped : (limits : Limits) (b : Board) → every grouped (findings limits b) ≡ true
set-grouped limits b = all-rules grouped (λ x h. le-leb 1 (x.rule / 100) h) limits b

-- none is named where opening accepts, and one where it refuses
module _ (limits : Limits) (b : Board) where
  pub none-broken : opening limits b ≡ 0 → first is_broken (findings limits b) ≡ none
  none-broken p = go (first is_broken (findings limits b)) refl
    where
      go : (o : Option Finding) → first is_broken (findings limits b) ≡ o → first is_broken (findings limits b) ≡ none
      go none e = e
      go (some x) e =
          let h = some-group (findings limits b) (set-grouped limits b) e in
          let g : x.rule / 100 ≡ opening limits b = sym (ap group_of e) ∙ named-group limits b in
          absurd (omega (arith, h, g, p))

  pub some-broken : (opening limits b ≡ 0 → ⊥) → first is_broken (findings limits b) ≡ none → ⊥
  some-broken p e = p (sym (named-group limits b) ∙ ap group_of e)

  pub accepted-none : opening limits b ≡ 0 → (explained limits b).rule ≡ 0
  unfolding explained
  accepted-none p = ap (λ o. (fault_of o).rule) (none-broken p)
