-- Every rule carries its group's number. No axiom.
use Rattle.octets.proofs.Vocabulary.{◌≡◌, refl, ◌∙◌, ℕ, ◌+◌, ◌/◌, ◌≤◌, ◌<◌, List, [], ◌∷◌, ◌++◌, Bool, true, false, ◌&&◌, Option, some, none, length, eqb, arith, eqb-true}
use Rattle.octets.specs.Sentences.{pick, every}
use Rattle.octets.proofs.Sentences.{both, joined, every_append}
use Rattle.descriptors.specs.declared.limits.Limits.{Limits}
use Rattle.descriptors.specs.Limits.{named as among}
use Rattle.descriptors.specs.declared.Setting.{Setting}
use Rattle.descriptors.specs.declared.Endpoint.{Endpoint}
use Rattle.descriptors.specs.Cut.{Cutting, whole, broken, descriptor, cut}
use Rattle.descriptors.specs.Descriptor.{is_interface, is_endpoint, iInterface}
use Rattle.descriptors.specs.Interfaces.{Group, begun_by}
use Rattle.descriptors.specs.Configuration.{bNumInterfaces}
use Rattle.sets.specs.declared.Entry.{Entry}
use Rattle.sets.specs.Contents.{body_of, is_kind, entries, entries_of, total, bodies_at}
use Rattle.sets.specs.Device.{device_body, iSerialNumber}
use Rattle.sets.specs.Pieces.{piece_with, piece_for}
use Rattle.sets.specs.Strings.{is_string_zero, languages, listed as goes-listed}
use Rattle.sets.specs.Opening.{Board}
use Rattle.rules.specs.Findings.{Finding, asked, byte_at}
use Rattle.rules.specs.Frame.{frame_findings, contents_asked, contents_findings, no_entry}
use Rattle.rules.specs.Device.{device_entry_findings, store_entry_findings, device_findings, serial_asked, serial_findings}
use Rattle.rules.specs.Configurations.{is_whole, begin_findings, interface_findings, endpoint_findings, group_after, endpoints_after, rest_findings, cut_findings, body_findings, companion_findings, companions_from, body_companions, configuration_findings, distinct_from, configurations_from, configurations_findings}
use Rattle.rules.specs.Strings.{languages_from, language_findings, string_entry_findings, strings_from, listed_from, reference_findings, interfaces_from, body_references, references_from, strings_findings}
use Rattle.rules.specs.Explained.{findings}

-- a rule's group is its number without its place there
abbrev pub in_group : ℕ → Finding → Bool
in_group g x = eqb (x.rule / 100) g

-- every rule of a list is of one group
abbrev pub Of : ℕ → List Finding → Type 0
Of g xs = every (in_group g) xs ≡ true

pub then : (g : ℕ) (xs ys : List Finding) → Of g xs → Of g ys → Of g (xs ++ ys)
then g xs ys p q = every_append (in_group g) xs ys ∙ joined p q

pub choice : (g : ℕ) (b : Bool) (xs ys : List Finding) → Of g xs → Of g ys → Of g (pick b xs ys)
choice g true xs ys p q = p
choice g false xs ys p q = q

pub nothing : (g : ℕ) → Of g []
unfolding every
nothing g = refl

pub frames : (set : List ℕ) → Of 1 (frame_findings set)
unfolding every
frames set = refl

-- ---- groups 1, 2, 3 and 6
pub contents : (limits : Limits) (end at : ℕ) (first : Bool) (last : Entry) (start : ℕ) (es : List Entry) → Of 2 (contents_asked limits end at first last start es)
unfolding every contents_asked
contents limits end at first last start [] = refl
contents limits end at first last start (e ∷ es) = contents limits end (at + 8) false e (start + e.length) es

device : (limits : Limits) (set : List ℕ) (es : List Entry) → Of 3 (device_entry_findings limits set es)
unfolding every
device limits set [] = refl
device limits set (e ∷ es) = refl

store : (set : List ℕ) (es : List Entry) → Of 3 (store_entry_findings set es)
unfolding every
store set [] = refl
store set (e ∷ es) = refl

pub devices : (limits : Limits) (set : List ℕ) → Of 3 (device_findings limits set)
devices limits set =
    then 3 (device_entry_findings limits set (entries_of 1 set)) _ (device limits set (entries_of 1 set))
    (choice 3 (among limits.entries 15) (store_entry_findings set (entries_of 15 set)) [] (store set (entries_of 15 set)) (nothing 3))

pub serials : (zero : Bool) (block : List ℕ) → Of 6 (serial_asked zero block)
unfolding every
serials true block = refl
serials false block = refl

-- ---- group 4
begins : (start at : ℕ) (g : Option Group) (t : Setting) → Of 4 (begin_findings start at g t)
unfolding every
begins start at none t = refl
begins start at (some g) t = refl

interfaces : (start at head : ℕ) (g : Option Group) (d : List ℕ) → Of 4 (interface_findings start at head g d)
unfolding every
interfaces start at head g d = then 4 (begin_findings start at g (begun_by d)) _ (begins start at g (begun_by d)) refl

endpoints : (limits : Limits) (start at head : ℕ) (g : Option Group) (es : List Endpoint) (d : List ℕ) → Of 4 (endpoint_findings limits start at head g es d)
unfolding every
endpoints limits start at head none es d = refl
endpoints limits start at head (some g) es d = refl

types : (limits : Limits) (start at head : ℕ) (g : Option Group) (es : List Endpoint) (d : List ℕ)
    → Of 4 (pick (is_interface d) (interface_findings start at head g d) (pick (is_endpoint d) (endpoint_findings limits start at head g es d) []))
types limits start at head g es d =
    choice 4 (is_interface d) (interface_findings start at head g d) _ (interfaces start at head g d)
    (choice 4 (is_endpoint d) (endpoint_findings limits start at head g es d) [] (endpoints limits start at head g es d) (nothing 4))

rest : (limits : Limits) (start n at head : ℕ) (g : Option Group) (es : List Endpoint) (cs : Cutting) → Of 4 (rest_findings limits start n at head g es cs)
unfolding every rest_findings
rest limits start n at head g es whole = refl
rest limits start n at head g es broken = refl
rest limits start n at head g es (descriptor d ds) =
    then 4 (pick (is_interface d) (interface_findings start at head g d) (pick (is_endpoint d) (endpoint_findings limits start at head g es d) [])) _ (types limits start at head g es d)
    (rest limits start n (at + length d) (pick (is_interface d) at head) (group_after g d) (endpoints_after g es d) ds)

cuts : (limits : Limits) (size start : ℕ) (cs : Cutting) → Of 4 (cut_findings limits size start cs)
unfolding every
cuts limits size start whole = refl
cuts limits size start broken = refl
cuts limits size start (descriptor d ds) = rest limits start (bNumInterfaces d) (length d) 0 none [] ds

accompanies : (start at last : ℕ) (due : Bool) (cs : Cutting) → Of 4 (companions_from start at last due cs)
unfolding every companions_from
accompanies start at last due whole = refl
accompanies start at last due broken = refl
accompanies start at last due (descriptor d ds) =
    then 4 (pick (is_whole d) (companion_findings start at last due d) []) _ (choice 4 (is_whole d) (companion_findings start at last due d) [] refl refl)
    (accompanies start (at + length d) at (is_endpoint d) ds)

pub companions : (limits : Limits) (start : ℕ) (body : List ℕ) → Of 4 (body_companions limits start body)
companions limits start body = choice 4 limits.companions (companions_from start 0 0 false (cut body)) [] (accompanies start 0 0 false (cut body)) (nothing 4)

configuration : (limits : Limits) (at n : ℕ) (distinct : Bool) (e : Entry) (body : List ℕ) → Of 4 (configuration_findings limits at n distinct e body)
unfolding every
configuration limits at n distinct e body =
    then 4 (body_findings limits e.offset body) _ (cuts limits (length body) e.offset (cut body))
    (then 4 (body_companions limits e.offset body) _ (companions limits e.offset body) refl)

pub configurations : (limits : Limits) (set : List ℕ) (at n : ℕ) (earlier : List (List ℕ)) (es : List Entry) → Of 4 (configurations_from limits set at n earlier es)
unfolding every configurations_from
configurations limits set at n earlier [] = refl
configurations limits set at n earlier (e ∷ es) =
    let body = body_of set e in
    choice 4 (is_kind 2 e) _ _
    (then 4 (configuration_findings limits at n (distinct_from earlier body) e body) _ (configuration limits at n (distinct_from earlier body) e body) (configurations limits set (at + 8) (n + 1) (body ∷ earlier) es))
    (configurations limits set (at + 8) n earlier es)

-- ---- group 5
listed : (start at last : ℕ) (ls : List ℕ) → Of 5 (languages_from start at last ls)
unfolding every languages_from
listed start at last [] = refl
listed start at last (l ∷ ls) = listed start (at + 2) l ls

string : (ls : List ℕ) (serial at : ℕ) (e : Entry) (body : List ℕ) → Of 5 (string_entry_findings ls serial at e body)
unfolding every
string ls serial at e body = then 5 (pick (is_string_zero (piece_with e body)) (language_findings e.offset ls) []) _ (choice 5 (is_string_zero (piece_with e body)) (language_findings e.offset ls) [] (listed e.offset 2 0 ls) refl) refl

strings : (set ls : List ℕ) (serial at : ℕ) (es : List Entry) → Of 5 (strings_from set ls serial at es)
unfolding every strings_from
strings set ls serial at [] = refl
strings set ls serial at (e ∷ es) =
    then 5 (pick (is_kind 3 e) (string_entry_findings ls serial at e (body_of set e)) []) _ (choice 5 (is_kind 3 e) (string_entry_findings ls serial at e (body_of set e)) [] (string ls serial at e (body_of set e)) refl) (strings set ls serial (at + 8) es)

named : (set : List ℕ) (start at : ℕ) (cs : Cutting) → Of 5 (interfaces_from set start at cs)
unfolding every interfaces_from
named set start at whole = refl
named set start at broken = refl
named set start at (descriptor d ds) =
    then 5 (pick (is_whole d && is_interface d) (reference_findings set start at 8 (iInterface d)) []) _ (choice 5 (is_whole d && is_interface d) (reference_findings set start at 8 (iInterface d)) [] refl refl)
    (named set start (at + length d) ds)

references : (set : List ℕ) (es : List Entry) → Of 5 (references_from set es)
unfolding every references_from
references set [] = refl
references set (e ∷ es) =
    then 5 (pick (is_kind 2 e) (body_references set e.offset (body_of set e)) []) _ (choice 5 (is_kind 2 e) (body_references set e.offset (body_of set e)) [] (named set e.offset 0 (cut (body_of set e))) refl) (references set es)

languages-listed : (set ls : List ℕ) (at : ℕ) (es : List Entry) → Of 5 (listed_from set ls at es)
unfolding every listed_from
languages-listed set ls at [] = refl
languages-listed set ls at (e ∷ es) =
    then 5 (pick (is_kind 3 e) (asked 509 (byte_at 0 at 2) (goes-listed ls (piece_for set e)) ∷ []) []) _
    (choice 5 (is_kind 3 e) (asked 509 (byte_at 0 at 2) (goes-listed ls (piece_for set e)) ∷ []) [] refl refl)
    (languages-listed set ls (at + 8) es)

pub group-5 : (set : List ℕ) → Of 5 (strings_findings set)
unfolding every
group-5 set =
    then 5 (strings_from set (languages set) (iSerialNumber (device_body set)) 4 (entries set)) _ (strings set (languages set) (iSerialNumber (device_body set)) 4 (entries set))
    (then 5 (listed_from set (languages set) 4 (entries set)) _ (languages-listed set (languages set) 4 (entries set)) (references set (entries set)))

-- ---- all: what holds of every rule whose number has a group holds of all that are asked
module _ (p : Finding → Bool) (f : (x : Finding) → 1 ≤ x.rule / 100 → p x ≡ true) where
  pub every_in : (g : ℕ) → 0 < g → (xs : List Finding) → Of g xs → every p xs ≡ true
  unfolding every
  every_in g h [] q = refl
  every_in g h (x ∷ xs) q =
      let (r, s) = both (in_group g x) (every (in_group g) xs) q in
      let e = eqb-true (x.rule / 100) g r in
      joined (f x (omega arith)) (every_in g h xs s)

  pub before-others : (g : ℕ) → 0 < g → (xs ys : List Finding) → Of g xs → every p ys ≡ true → every p (xs ++ ys) ≡ true
  before-others g h xs ys q r = every_append p xs ys ∙ joined (every_in g h xs q) r

  pub all-rules : (limits : Limits) (b : Board) → every p (findings limits b) ≡ true
  unfolding findings
  all-rules limits b =
      let set = b.set in
      before-others 1 (omega arith) (frame_findings set) _ (frames set)
      (before-others 2 (omega arith) (contents_findings limits set) _ (contents limits (total set) 4 true no_entry (bodies_at set) (entries set))
      (before-others 3 (omega arith) (device_findings limits set) _ (devices limits set)
      (before-others 4 (omega arith) (configurations_findings limits set) _ (configurations limits set 4 0 [] (entries set))
      (before-others 5 (omega arith) (strings_findings set) _ (group-5 set)
      (every_in 6 (omega arith) (serial_findings (iSerialNumber (device_body set)) b.serial) (serials (eqb (iSerialNumber (device_body set)) 0) b.serial))))))
