-- How a script is played, line by line. No axiom.
use Rattle.octets.proofs.Vocabulary.{◌≡◌, refl, ap, ◌∙◌, ℕ, zero, suc, ◌+◌, ◌<◌, List, [], ◌∷◌, ◌++◌, map, flat_map, List-as-Memᴰ, List·Memᴰ·head, List·Memᴰ·tail, true, false, arith}
use Rattle.octets.specs.Sentences.{from, up_to}
use Rattle.sets.specs.Opening.{Board, BytesOf}
use Rattle.sets.specs.View.{accepted}
use Rattle.records.specs.declared.Device.{Device}
use Rattle.records.specs.Device.{in_test_mode}
use Rattle.events.specs.declared.Event.{Event}
use Rattle.events.specs.Answer.{Answer, Outcome, gives}
use Rattle.events.specs.Step.{step}
use Rattle.order.specs.Run.{log, All}
use Rattle.promises.specs.Rearranged.{next_of, after}
use Rattle.promises.specs.Keeps.{step_fits}
use Rattle.enumeration.specs.Script.{Seen, seen_of, sees, Line, line, does, Plays, Ready}

pub played : {b : Board} {d : Device} → Plays b d [] d
played = record { heard = refl; ends = refl }

-- one line more, before the others
pub next : {b : Board} {d left last : Device} {e : Event} {a : Answer} {s : Seen} {rest : List Line}
    → step b d e ≡ gives a left → seen_of b d.speed a ≡ s → Plays b left rest last → Plays b d (line e s ∷ rest) last
next {b} {d} {left} {e = e} {s = s} {rest} p q r = record {
  heard =
      ap (λ (o : Outcome). line e (seen_of b d.speed o.answer) ∷ log (sees b) (next_of b) o.device (does rest)) p
      ∙ ap (λ (x : Seen). line e x ∷ log (sees b) (next_of b) left (does rest)) q ∙ ap (λ (l : List Line). line e s ∷ l) r.heard;
  ends = ap (λ (o : Outcome). after b o.device (does rest)) p ∙ r.ends;
}

-- one script after the other
pub append : {b : Board} {d mid last : Device} (xs : List Line) {ys : List Line} → Plays b d xs mid → Plays b mid ys last → Plays b d (xs ++ ys) last
append {b} {d} {last = last} [] {ys} p q = rw (← p.ends) at q
append {b} {d} (x ∷ xs) {ys} p q =
    let front = p.heard in
    let head : line x.0 (sees b d x.0) ≡ x = cc in
    let tail : log (sees b) (next_of b) (next_of b d x.0) (does xs) ≡ xs = cc in
    let r = append {d = next_of b d x.0} xs (record { heard = tail; ends = p.ends }) q in
    record { heard = ap (λ (y : Line). y ∷ log (sees b) (next_of b) (next_of b d x.0) (does (xs ++ ys))) head ∙ ap (λ (l : List Line). x ∷ l) r.heard; ends = r.ends }

-- lines that leave the record as it is
abbrev pub Stays : Board → Device → Line → Type 0
Stays b d l = (a : Answer) × (step b d l.0 ≡ gives a d) × (seen_of b d.speed a ≡ l.1)

pub each : {b : Board} {d last : Device} {rest : List Line} (ls : List Line) → All (Stays b d) ls → Plays b d rest last → Plays b d (ls ++ rest) last
each [] all r = r
each (l ∷ ls) ((a, p, q), all) r = next p q (each ls all r)

pub each-alone : {b : Board} {d : Device} (ls : List Line) → All (Stays b d) ls → Plays b d ls d
each-alone [] all = played
each-alone (l ∷ ls) ((a, p, q), all) = next p q (each-alone ls all)

-- ---- all of a list
pub all-members : {A : Type 0} (P : A → Type 0) (xs : List A) → ((x : A) → List-as-Memᴰ x xs → P x) → All P xs
all-members P [] h = tt
all-members P (x ∷ xs) h = (h x (List·Memᴰ·head refl), all-members P xs (λ y m. h y (List·Memᴰ·tail m)))

all_from : (P : ℕ → Type 0) (k n : ℕ) → ((j : ℕ) → j < k + n → P j) → All P (from k n)
unfolding from
all_from P k zero h = tt
all_from P k (suc n) h = (h k (omega arith), all_from P (suc k) n (λ j l. h j (omega arith)))

pub all-below : (P : ℕ → Type 0) (n : ℕ) → ((j : ℕ) → j < n → P j) → All P (up_to n)
all-below P n h = all_from P 0 n (λ j l. h j (omega arith))

pub all_append : (P : Line → Type 0) (xs ys : List Line) → All P xs → All P ys → All P (xs ++ ys)
all_append P [] ys p q = q
all_append P (x ∷ xs) ys (p, ps) q = (p, all_append P xs ys ps q)

pub all_map : {A : Type 0} (P : Line → Type 0) (f : A → Line) (xs : List A) → All (λ x. P (f x)) xs → All P (map f xs)
all_map P f [] p = tt
all_map P f (x ∷ xs) (p, ps) = (p, all_map P f xs ps)

pub all-flat : {A : Type 0} (P : Line → Type 0) (f : A → List Line) (xs : List A) → All (λ x. All P (f x)) xs → All P (flat_map f xs)
unfolding flat_map
all-flat P f [] p = tt
all-flat P f (x ∷ xs) (p, ps) = all_append P (f x) (flat_map f xs) p (all-flat P f xs ps)

-- ---- a record that is ready stays so
pub ready : {b : Board} → BytesOf b → accepted b ≡ true → {d left : Device} (e : Event) {a : Answer}
    → Ready b d → step b d e ≡ gives a left → in_test_mode left ≡ false → Ready b left
ready {b} bytes ok {d} e r p calm = let (f, z) = rw p at (step_fits b bytes ok d e r.sized r.fit) in record { fit = f; sized = z; calm = calm }
