-- What the references name, table by table; and that the table decides as the rule does. No axiom.
use Rattle.octets.proofs.Vocabulary.{◌≡◌, refl, sym, ap, ◌∙◌, ℕ, ◌≤◌, ◌<◌, List, [], ◌∷◌, ◌++◌, map, flat_map, List-as-Memᴰ, Bool, true, false, ◌&&◌, ◌||◌, or_assoc, or-false, length, eqb, leb, eqb-true, eqb-false, eq-eqb, ne_eqb}
use Rattle.octets.specs.Octets.{byte}
use Rattle.octets.specs.Sentences.{pick, every, any, only, member}
use Rattle.octets.proofs.Sentences.{cases, both, any_append, any-alike, only-alike}
use Rattle.octets.specs.Table.{has, with}
use Rattle.descriptors.specs.declared.walk.Stand.{Stand}
use Rattle.descriptors.specs.Cut.{cut, well_cut}
use Rattle.descriptors.specs.Descriptor.{is_interface, iInterface}
use Rattle.descriptors.specs.Configuration.{configuration_references}
use Rattle.descriptors.specs.Walk.{Pace, before, step_of, collected}
use Rattle.descriptors.specs.Check.{reference_of, referring}
use Rattle.descriptors.proofs.Walks.{spanned, collect-end, collect-on}
use Rattle.descriptors.proofs.Ahead.{Begun}
use Rattle.descriptors.proofs.CheckReferences.{references-walked}
use Rattle.octets.proofs.Tables.{has-with, has-none, with-long, all_of}
use Rattle.sets.specs.declared.Entry.{Entry}
use Rattle.sets.specs.Contents.{entries, bodies, body_of, is_kind}
use Rattle.sets.specs.Device.{device_body, iManufacturer, iProduct, iSerialNumber}
use Rattle.sets.specs.Strings.{references}
use Rattle.sets.proofs.Pieces.{bodies_of_lem}
use Rattle.sets.proofs.Entries.{rest_of}
use Rattle.trimming.specs.Trim.{referenced, referenced_string, zero_stays, kept}
use Rattle.trimming.specs.Keeping.{device_names, named_in, table_names, keeps_by}

turned : (m n : ℕ) → eqb m n ≡ eqb n m
turned m n = cases (eqb n m) (λ p. eq-eqb m n (sym (eqb-true n m p)) ∙ sym p) (λ p. ne_eqb m n (λ e. eqb-false n m p (sym e)) ∙ sym p)

-- one number more
swap : (a b c : Bool) → ((a || b) || c) ≡ (b || (a || c))
swap true true c = refl
swap true false c = refl
swap false b c = refl

one_more : (table : List ℕ) (k j : ℕ) (rest : Bool) → k < 256 → length table ≡ 8 → (has (with table k) j || rest) ≡ (has table j || (eqb j k || rest))
one_more table k j rest h p = rw (has-with table k h p j, turned k j) (swap (eqb j k) (has table j) rest)

one-alone : (table : List ℕ) (k j : ℕ) → k < 256 → length table ≡ 8 → has (with table k) j ≡ (has table j || eqb j k)
one-alone table k j h p = sym (or-false (has (with table k) j)) ∙ one_more table k j false h p ∙ rw or-false

-- ---- a configuration's references, as the walk collects them: what is in the table or still to be collected
pub first-in : (body names : List ℕ) (at j : ℕ) → Begun body at → byte body 6 < 256 → length names ≡ 8
    → (has names j || member j (configuration_references body)) ≡ (has (with names (byte body 6)) j || member j (collected referring body before at))
unfolding any
first-in body names at j b h p =
    ap (λ rs. has names j || member j rs) (references-walked body at b.all) ∙ sym (one_more names (byte body 6) j (member j (collected referring body before at)) h p)

next-in : (table d : List ℕ) (j : ℕ) (rest : List ℕ) → iInterface d < 256 → length table ≡ 8
    → (has table j || member j (reference_of d ++ rest)) ≡ (has (pick (is_interface d) (with table (iInterface d)) table) j || member j rest)
unfolding any
next-in table d j rest h p = go (is_interface d)
  where
    go : (b : Bool) → (has table j || member j (pick b (iInterface d ∷ []) [] ++ rest)) ≡ (has (pick b (with table (iInterface d)) table) j || member j rest)
    go true = sym (one_more table (iInterface d) j (member j rest) h p)
    go false = refl

module _ (table body : List ℕ) (last : Stand) (at j : ℕ) where
  pub walked-in : {step : Pace} → step ≡ step_of body at last → at < length body → at < step.end → {after : List ℕ}
      → (let d = spanned body at step.end in after ≡ pick (is_interface d) (with table (iInterface d)) table → iInterface d < 256 → length table ≡ 8
      → (has table j || member j (collected referring body last at)) ≡ (has after j || member j (collected referring body step.stand step.end)))
  walked-in {step} e h m {after} q l p =
      let rest = collected referring body step.stand step.end in
      ap (λ rs. has table j || member j rs) (collect-on referring body last at e h m) ∙ next-in table (spanned body at step.end) j rest l p ∙ ap (λ t. has t j || member j rest) (sym q)

  pub none_in : length body ≤ at → (has table j || member j (collected referring body last at)) ≡ has table j
  unfolding any
  none_in h = rw (collect-end referring body last at h, or-false)

pick-long : (b : Bool) (table : List ℕ) (k : ℕ) → length table ≡ 8 → length (pick b (with table k) table) ≡ 8
pick-long true table k p = with-long table k p
pick-long false table k p = p

pub long-pick : (d table : List ℕ) {t : List ℕ} → t ≡ pick (is_interface d) (with table (iInterface d)) table → length table ≡ 8 → length t ≡ 8
long-pick d table e p = rw e (pick-long (is_interface d) table (iInterface d) p)

-- ---- the set's references
any-flat : {A : Type 0} (f : ℕ → Bool) (g : A → List ℕ) (xs : List A) → any f (flat_map g xs) ≡ any (λ x. any f (g x)) xs
unfolding any flat_map
any-flat f g [] = refl
any-flat f g (x ∷ xs) = any_append f (g x) (flat_map g xs) ∙ rw (any-flat f g xs)

three : (a b c d : Bool) → (a || (b || (c || d))) ≡ ((a || (b || c)) || d)
three true b c d = refl
three false true c d = refl
three false false c d = refl

pub named_by : (set : List ℕ) (j : ℕ) → referenced set j ≡ (device_names (device_body set) j || any (named_in j) (bodies 2 set))
unfolding references any
named_by set j =
    rw (← bodies_of_lem set 2, any-flat (eqb j) configuration_references (bodies 2 set))
    (three (eqb j (iManufacturer (device_body set))) (eqb j (iProduct (device_body set))) (eqb j (iSerialNumber (device_body set))) _)

device-table : (j m p s : ℕ) → m < 256 → p < 256 → s < 256 → has (with (with (with (all_of 0) m) p) s) j ≡ (eqb j m || (eqb j p || eqb j s))
device-table j m p s hm hp hs =
    let t : List ℕ = all_of 0 in
    let a : length t ≡ 8 = refl in
    let b = with-long t m a in
    let c = with-long (with t m) p b in
    one-alone (with (with t m) p) s j hs c ∙ rw (one-alone (with t m) p j hp b, one-alone t m j hm a, has-none j) (or_assoc (eqb j m) (eqb j p) (eqb j s))

pub device-known : (device : List ℕ) (j : ℕ) {m p s : ℕ} {t u v : List ℕ} → m ≡ byte device 14 → p ≡ byte device 15 → s ≡ byte device 16 → m < 256 → p < 256 → s < 256
    → t ≡ with (all_of 0) m → u ≡ with t p → v ≡ with u s → has v j ≡ device_names device j
device-known device j {m} {p} {s} a b c hm hp hs d e f = ap (λ x. has x j) (f ∙ ap (λ x. with x s) (e ∙ ap (λ x. with x p) d)) ∙ device-table j m p s hm hp hs ∙ rw (a, b, c)

-- the configurations that are left at an entry, where that is the next of them: it can be walked, and so can the others
abbrev pub bodies_from : List ℕ → ℕ → List (List ℕ)
bodies_from set i = map (body_of set) (rest_of 2 set i)

pub may-walk : (set : List ℕ) (i : ℕ) {e : Entry} {es : List Entry} → rest_of 2 set i ≡ e ∷ es → every (λ b. well_cut (cut b)) (bodies_from set i) ≡ true
    → (well_cut (cut (body_of set e)) ≡ true) × (every (λ b. well_cut (cut b)) (map (body_of set) es) ≡ true)
unfolding every
may-walk set i {e} q p = both (well_cut (cut (body_of set e))) _ (rw q at p)

-- ---- the table decides as the rule does
module _ (set table : List ℕ) (h : (j : ℕ) → j < 256 → has table j ≡ referenced set j) (small : (e : Entry) → List-as-Memᴰ e (entries set) → e.index < 256) where
  pub same-named : any (table_names table) (entries set) ≡ any (referenced_string set) (entries set)
  same-named = any-alike (table_names table) (referenced_string set) (entries set) (λ e m. ap (λ b. is_kind 3 e && leb 1 e.index && b) (h e.index (small e m)))

  pub same_kept : (zero : Bool) → zero ≡ zero_stays set → only (keeps_by table zero) (entries set) ≡ only (kept set) (entries set)
  same_kept zero z = only-alike (keeps_by table zero) (kept set) (entries set) (λ e m. rw (z, h e.index (small e m)))
