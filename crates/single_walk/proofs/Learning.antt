-- What is known of the configurations, entry by entry. No axiom.
use Rattle.std.specs.Prelude.{Option, Some, None, IfSome}
use Rattle.octets.proofs.Vocabulary.{◌+◌, ◌*◌, ◌<◌, length, drop, ◌≡◌, refl, sym, ap, ◌∙◌, ℕ, List, [], ◌∷◌, map, Bool, true, false, ◌&&◌, ◌||◌, not, and-false, or_assoc, or-false, Option as Maybe, some, none, eqb, leb}
use Rattle.octets.specs.Sentences.{pick, any, first, is_some}
use Rattle.descriptors.specs.declared.limits.Limits.{Limits}
use Rattle.descriptors.specs.declared.survey.Asked.{Asked}
use Rattle.descriptors.specs.declared.survey.Survey.{Survey}
use Rattle.descriptors.specs.Cut.{cut_after, well_cut}
use Rattle.descriptors.specs.Configuration.{bConfigurationValue, configuration_of, good_configuration}
use Rattle.descriptors.specs.Survey.{nothing_seen, Surveys}
use Rattle.descriptors.specs.Walk.{walked}
use Rattle.descriptors.proofs.Ahead.{at_first}
use Rattle.descriptors.proofs.Surveying.{surveys}
use Rattle.octets.specs.Table.{has, with}
use Rattle.sets.specs.declared.Entry.{Entry}
use Rattle.sets.specs.Contents.{body_of, bodies, count, entry_of, entries_of}
use Rattle.sets.specs.Opening.{good_configurations}
use Rattle.sets.specs.Pieces.{piece_for, pieces_in}
use Rattle.sets.specs.Found.{found, valued, can_wake, is_found}
use Rattle.sets.specs.Checks.{good_numbered}
use Rattle.sets.proofs.Configurations.{good_from, good_more}
use Rattle.sets.proofs.Entries.{rest_of, asked_here, first-here, first-later, first-empty, any-cons, any-empty}
use Rattle.steps.specs.declared.facts.Selected.{Selected}
use Rattle.steps.specs.Gathering.{body_found}
use Rattle.steps.specs.Selected.{nothing_known, Knows}
use Rattle.single_walk.specs.declared.collect.Collected.{Collected}
use Rattle.single_walk.specs.Collected.{CollectedOf}
use Rattle.single_walk.specs.Passes.{numbered, WalksOf}

-- an entry is asked for its body and for the rest
pub taken-apart : (limits : Limits) (e : Entry) (n : ℕ) (body : List ℕ) (seen : Bool)
    → (numbered e n (bConfigurationValue body) seen && good_configuration limits body) ≡ good_numbered limits e n body seen
taken-apart limits e n body seen = go (eqb e.index n) (eqb e.language 0) (good_configuration limits body) (leb 1 (bConfigurationValue body)) (not seen)
  where
    go : (i l g v s : Bool) → ((i && l && v && s) && g) ≡ (i && l && g && v && s)
    go false l g v s = refl
    go true false g v s = refl
    go true true true v s = both v s
      where
        both : (v s : Bool) → ((v && s) && true) ≡ (v && s)
        both false s = refl
        both true false = refl
        both true true = refl
    go true true false v s = simp and-false

-- group 4 asks of a configuration entry that is next what stands beside its body, the body, and the rest
module _ (limits : Limits) (set : List ℕ) (n : ℕ) (p : n ≡ count set) (i index : ℕ) (seen : List ℕ) (long : length seen ≡ 8)
    (inv : good_configurations limits (pieces_in set) ≡ good_from limits index seen (map (piece_for set) (rest_of 2 set i)))
    (h : i < n) (e : Entry) (q : e ≡ entry_of (drop (4 + 8 * i) set)) (k : e.kind ≡ 2) (small : bConfigurationValue (body_of set e) < 256) where
  abbrev value : ℕ
  value = bConfigurationValue (body_of set e)

  abbrev rest : Bool
  rest = good_from limits (index + 1) (with seen (bConfigurationValue (body_of set e))) (map (piece_for set) (rest_of 2 set (i + 1)))

  judged : good_configurations limits (pieces_in set) ≡ ((numbered e index value (has seen value) && good_configuration limits (body_of set e)) && rest)
  judged = asked_here 2 (λ es. good_from limits index seen (map (piece_for set) es)) set n p i inv h e q k
      ∙ good_more limits index seen e (body_of set e) _ small long
      ∙ ap (λ (b : Bool). b && rest) (sym (taken-apart limits e index (body_of set e) (has seen value)))

  pub numbered-wrongly : {b : Bool} → b ≡ numbered e index value (has seen value) → b ≡ false → false ≡ good_configurations limits (pieces_in set)
  numbered-wrongly b f = sym (judged ∙ ap (λ (b : Bool). (b && good_configuration limits (body_of set e)) && rest) (sym b ∙ f))

  module _ {b : Bool} (t : b ≡ numbered e index value (has seen value)) (u : b ≡ true) where
    numbered-rightly : good_configurations limits (pieces_in set) ≡ (good_configuration limits (body_of set e) && rest)
    numbered-rightly = judged ∙ ap (λ (b : Bool). (b && good_configuration limits (body_of set e)) && rest) (sym t ∙ u)

    pub built-wrongly : false ≡ good_configuration limits (body_of set e) → false ≡ good_configurations limits (pieces_in set)
    built-wrongly f = sym (numbered-rightly ∙ ap (λ (b : Bool). b && rest) (sym f))

    pub one-passed : true ≡ good_configuration limits (body_of set e) → good_configurations limits (pieces_in set) ≡ rest
    one-passed g = numbered-rightly ∙ ap (λ (b : Bool). b && rest) (sym g)

-- ---- a body without descriptors holds nothing
none-surveyed : (alternates : List ℕ) (asked : Asked) → Surveys (configuration_of []) alternates asked nothing_seen
unfolding walked well_cut cut_after
none-surveyed alternates asked = surveys alternates asked (at_first [] 0 refl refl) refl

-- what is known after a configuration: the first that is selected counts
abbrev pub learned : Selected → Bool → Bool → Survey → Selected
learned k wakes here survey =
    pick (here && not k.configured) (record { configured = true; waking = k.waking || wakes; survey = survey })
    (record { configured = k.configured; waking = k.waking || wakes; survey = k.survey })

-- ---- the selected entry: one that was passed, or else the first that is left
abbrev or_later : Maybe Entry → Maybe Entry → Maybe Entry
or_later none o = o
or_later (some e) o = some e

later-none : (o : Maybe Entry) → or_later o none ≡ o
later-none none = refl
later-none (some e) = refl

there-found : (o : Maybe Entry) → is_some o ≡ is_found (found o)
there-found none = refl
there-found (some e) = refl

-- what is known before the entries that are left
pub record Learnt (set : List ℕ) (value : ℕ) (alternates : List ℕ) (asked : Asked) (k : Selected) (es : List Entry) : Type 0 where
  pub entry : Maybe Entry
  pub ahead : first (valued set value) (entries_of 2 set) ≡ or_later entry (first (valued set value) es)
  pub waking : any can_wake (bodies 2 set) ≡ (k.waking || any can_wake (map (body_of set) es))
  pub configured : k.configured ≡ is_some entry
  pub surveyed : Surveys (configuration_of (body_found set (found entry))) alternates asked k.survey

module _ (set : List ℕ) (value : ℕ) (alternates : List ℕ) (asked : Asked) where
  pub learnt-start : Learnt set value alternates asked nothing_known (entries_of 2 set)
  learnt-start = record { entry = none; ahead = refl; waking = refl; configured = refl; surveyed = none-surveyed alternates asked }

  module _ (e : Entry) (es : List Entry) (survey : Survey) where
    more : (w : Bool) → any can_wake (bodies 2 set) ≡ (w || any can_wake (map (body_of set) (e ∷ es)))
        → any can_wake (bodies 2 set) ≡ ((w || can_wake (body_of set e)) || any can_wake (map (body_of set) es))
    more w p = p ∙ ap (λ b. w || b) (any-cons can_wake (body_of set e) (map (body_of set) es)) ∙ sym (or_assoc w _ _)

    next : (o : Maybe Entry) (w : Bool) (t : Survey) (v : Bool) → valued set value e ≡ v
        → first (valued set value) (entries_of 2 set) ≡ or_later o (first (valued set value) (e ∷ es))
        → any can_wake (bodies 2 set) ≡ (w || any can_wake (map (body_of set) (e ∷ es)))
        → Surveys (configuration_of (body_found set (found o))) alternates asked t
        → ((v && not (is_some o)) ≡ true → Surveys (configuration_of (body_of set e)) alternates asked survey)
        → Learnt set value alternates asked (learned (record { configured = is_some o; waking = w; survey = t }) (can_wake (body_of set e)) v survey) es
    next none w t true p a q u s = record { entry = some e; ahead = a ∙ first-here (valued set value) e es p; waking = more w q; configured = refl; surveyed = s refl }
    next none w t false p a q u s = record { entry = none; ahead = a ∙ first-later (valued set value) e es p; waking = more w q; configured = refl; surveyed = u }
    next (some x) w t true p a q u s = record { entry = some x; ahead = a; waking = more w q; configured = refl; surveyed = u }
    next (some x) w t false p a q u s = record { entry = some x; ahead = a; waking = more w q; configured = refl; surveyed = u }

    pub learnt-more : {k : Selected} → ((valued set value e && not k.configured) ≡ true → Surveys (configuration_of (body_of set e)) alternates asked survey)
        → Learnt set value alternates asked k (e ∷ es)
        → Learnt set value alternates asked (learned k (can_wake (body_of set e)) (valued set value e) survey) es
    learnt-more {k} s l =
        rw l.configured (next l.entry k.waking k.survey (valued set value e) refl l.ahead l.waking l.surveyed (rw l.configured at s))

  pub learnt-end : {k : Selected} → Learnt set value alternates asked k [] → Knows set value alternates asked k
  learnt-end {k} l =
      let here = l.ahead ∙ ap (or_later l.entry) (first-empty (valued set value)) ∙ later-none l.entry in
      record {
        configured = l.configured ∙ there-found l.entry ∙ ap (λ o. is_found (found o)) (sym here);
        waking = sym (l.waking ∙ ap (λ b. k.waking || b) (any-empty can_wake) ∙ or-false k.waking);
        surveyed = rw here l.surveyed;
      }

-- what is collected of the selected body tells what the one walk through it does
pub walked-once : (selected : Bool) (names alternates : List ℕ) (asked : Asked) (body : List ℕ) (r : Option Collected) → IfSome r (CollectedOf names alternates asked body) → IfSome r (WalksOf selected names alternates asked body)
walked-once selected names alternates asked body None p = tt
walked-once selected names alternates asked body (Some c) p = record { refers = p.refers; surveyed = λ s. p.surveyed }
