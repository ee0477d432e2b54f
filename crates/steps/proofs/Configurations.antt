-- The configurations of a set, from what is looked up in it; and what an accepted board tells of the selected one's body. No axiom.
use Rattle.std.specs.Prelude.{Option, Some, None}
use Rattle.octets.proofs.Vocabulary.{◌≡◌, refl, sym, ◌∙◌, ℕ, ◌<◌, List, [], List-as-Memᴰ, Bool, true, false, ◌&&◌, false≢true, Option as Maybe, some, none, length, eqb, ltb, arith, eqb-true, ne_eqb, leb-true, ltb-true, ltb-false}
use Rattle.octets.specs.Bit.{bit}
use Rattle.octets.specs.Sentences.{pick, every, any, first}
use Rattle.octets.proofs.Sentences.{both, every_map, every-member, any-map, any-member, none_any, first_some}
use Rattle.descriptors.specs.declared.limits.Limits.{Limits}
use Rattle.descriptors.specs.Cut.{cut, cut_after, descriptors_of, well_cut}
use Rattle.descriptors.specs.Interfaces.{grouped, endpoints_of}
use Rattle.descriptors.specs.Configuration.{Configuration, bConfigurationValue, has_interface, good_descriptors, good_configuration, groups_of, configuration_of}
use Rattle.descriptors.specs.Survey.{TellsInterfaces}
use Rattle.sets.specs.declared.Entry.{Entry}
use Rattle.sets.specs.Contents.{body_of, bodies, entries_of}
use Rattle.sets.specs.Opening.{Board, value_nonzero, opening}
use Rattle.sets.specs.Found.{found, valued, configuration_found}
use Rattle.sets.specs.View.{has_value, by_value}
use Rattle.octets.specs.Octets.{Bytes}
use Rattle.sets.proofs.Groups.{Groups, groups, each-rule}
use Rattle.sets.proofs.Bodies.{bytes-part, sound_configuration}
use Rattle.sets.proofs.Strings.{found_some}
use Rattle.sets.proofs.Lookups.{value_found}
use Rattle.steps.specs.Gathering.{configurations_in, body_found, selected_body, Usable, located}
use Rattle.events.specs.Requests.{body_at}

-- ---- an entry that was looked up
pub located_found : (o : Maybe Entry) → located (found o) ≡ body_at o
located_found none = refl
located_found (some e) = refl

-- ---- an interface, by the survey's word
pub among : {c : Configuration} {alternates : List ℕ} {existing current : ℕ} → ((j : ℕ) → has_interface c j ≡ true → j < 16)
    → TellsInterfaces c alternates existing current → (n : ℕ) → pick (ltb n 16) (bit existing n) false ≡ has_interface c n
among {c = c} {existing = existing} few tells n = go (ltb n 16) refl (has_interface c n) refl
  where
    go : (t : Bool) → ltb n 16 ≡ t → (h : Bool) → has_interface c n ≡ h → pick t (bit existing n) false ≡ has_interface c n
    go true p h q = sym (tells.exists n (omega (arith, ltb-true n 16 p)))
    go false p true q = absurd (omega (arith, ltb-false n 16 p, few n q))
    go false p false q = sym q

module _ (set : List ℕ) where
  body-found : (f : Option Entry) → configuration_of (body_found set f) ≡ configuration_found set f
  unfolding configuration_of groups_of grouped cut_after descriptors_of endpoints_of
  body-found None = refl
  body-found (Some e) = refl

  pub selected-by-value : (value : ℕ) → configuration_of (selected_body set value) ≡ by_value (record { 0 = value }) (configurations_in set)
  selected-by-value value = body-found (found (first (valued set value) (entries_of 2 set))) ∙ sym (value_found set (record { 0 = value }))

-- ---- no configuration of a set that opens has the value 0
pub no_zero : (limits : Limits) (b : Board) → opening limits b ≡ 0 → has_value (record { 0 = 0 }) (configurations_in b.set) ≡ false
unfolding configuration_of
no_zero limits b p =
    let nonzero = (each-rule limits b.set (groups limits b p).configurations).nonzero in
    any-map (λ c. eqb c.value 0) configuration_of (bodies 2 b.set)
    ∙ none_any (λ body. eqb (configuration_of body).value 0) (bodies 2 b.set) (λ body m. let l = leb-true 1 (bConfigurationValue body) (every-member value_nonzero nonzero m) in ne_eqb (bConfigurationValue body) 0 (λ q. omega arith))

-- ---- the selected configuration's body of an accepted board
module _ (limits : Limits) (b : Board) (h : Bytes b.set) (g : Groups limits b) (value : ℕ) where
  good : every (good_configuration limits) (bodies 2 b.set) ≡ true
  good = (each-rule limits b.set g.configurations).good

  none-usable : Usable []
  unfolding well_cut configuration_of groups_of grouped cut_after descriptors_of any
  none-usable = record { whole = refl; few = λ j t. absurd (false≢true t); small = λ j a t. absurd (false≢true t) }

  entry-usable : (e : Entry) → List-as-Memᴰ e (entries_of 2 b.set) → Usable (body_of b.set e)
  unfolding good_configuration
  entry-usable e m =
      let set = b.set in
      let body = body_of set e in
      let rules = every-member (λ e. good_configuration limits (body_of set e)) (sym (every_map (good_configuration limits) (body_of set) (entries_of 2 set)) ∙ good) m in
      let sound = sound_configuration limits body (bytes-part set e.offset e.length h) rules in
      record {
        whole = (both (well_cut (cut body)) (good_descriptors limits (length body) (descriptors_of (cut body))) rules).0;
        few = λ j t.
            let (s, n, u) = any-member (λ s. eqb s.interface j) (configuration_of body).settings t in
            rw (eqb-true s.interface j u) at (sound.interfaces s n);
        small = λ j a t.
            let (s, n, u) = any-member (λ s. eqb s.interface j && eqb s.alternate a) (configuration_of body).settings t in
            let (i, k) = both (eqb s.interface j) (eqb s.alternate a) u in
            (rw (eqb-true s.interface j i) at (sound.interfaces s n), rw (eqb-true s.alternate a k) at (sound.alternates s n));
      }

  in-groups : Usable (selected_body b.set value)
  in-groups = go (found (first (valued b.set value) (entries_of 2 b.set))) refl
    where
      go : (f : Option Entry) → found (first (valued b.set value) (entries_of 2 b.set)) ≡ f → Usable (body_found b.set f)
      go None q = none-usable
      go (Some e) q = entry-usable e (first_some (valued b.set value) (entries_of 2 b.set) (found_some (first (valued b.set value) (entries_of 2 b.set)) q)).0

pub usable : (limits : Limits) (b : Board) → Bytes b.set → opening limits b ≡ 0 → (value : ℕ) → Usable (selected_body b.set value)
usable limits b h p = in-groups limits b h (groups limits b p)
