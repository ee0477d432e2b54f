-- One rule asked after another: the first fault stays, and is that of the first rule that is broken. No axiom.
use Rattle.std.specs.Prelude.{Option, Some, None}
use Rattle.std.specs.Option.{option_or}
use Rattle.octets.proofs.Vocabulary.{◌≡◌, refl, sym, ap, ◌∙◌, List, [], ◌∷◌, ◌++◌, Bool, true, false, not, some}
use Rattle.octets.specs.Sentences.{pick, first}
use Rattle.rules.specs.declared.Fault.{Fault}
use Rattle.rules.specs.Findings.{Finding}
use Rattle.rules.specs.Explained.{is_broken}
use Rattle.rules.specs.After.{told_of, after, first_of, fault_in}

-- the fault that was found before, or else the one that is found now
abbrev pub or_broken : Option Fault → Finding → Option Fault
or_broken f x = option_or f (told_of x)

pub after-append : (f : Option Fault) (xs ys : List Finding) → after f (xs ++ ys) ≡ after (after f xs) ys
unfolding after
after-append f [] ys = refl
after-append f (x ∷ xs) ys = after-append (option_or f (told_of x)) xs ys

-- a fault stays
after-stays : (g : Fault) (xs : List Finding) → after (Some g) xs ≡ Some g
unfolding after
after-stays g [] = refl
after-stays g (x ∷ xs) = after-stays g xs

-- what was found before, or else the first fault of a list
pub or-first : (f : Option Fault) (xs : List Finding) → option_or f (first_of xs) ≡ after f xs
or-first None xs = refl
or-first (Some g) xs = sym (after-stays g xs)

pub or_none : (f : Option Fault) → option_or f None ≡ f
or_none None = refl
or_none (Some g) = refl

-- a rule that holds
pub passes : (f : Option Fault) (x : Finding) → x.holds ≡ true → option_or f (told_of x) ≡ f
unfolding told_of
passes f x p = rw p (or_none f)

-- a rule that is broken: what is asked after it changes nothing
pub breaks : (f : Option Fault) (x : Finding) (xs : List Finding) → x.holds ≡ false → after f (x ∷ xs) ≡ option_or f (told_of x)
unfolding after told_of
breaks None x xs p = rw p (after-stays _ xs)
breaks (Some g) x xs p = after-stays g xs

-- ---- a chain of `or`: the first rule or list; one more; and the last. `f` is what was found before
pub first-rule : {r h : Option Fault} (x : Finding) (ys : List Finding) → r ≡ told_of x → h ≡ after r ys → h ≡ first_of (x ∷ ys)
unfolding after
first-rule x ys p q = q ∙ ap (λ f. after f ys) p

pub joins : {g h : Option Fault} (f : Option Fault) (xs ys : List Finding) → g ≡ after f xs → h ≡ after g ys → h ≡ after f (xs ++ ys)
joins f xs ys p q = q ∙ ap (λ f. after f ys) p ∙ sym (after-append f xs ys)

module _ {g p : Option Fault} (f : Option Fault) (o : g ≡ option_or f p) where
  pub ends : (xs : List Finding) → p ≡ first_of xs → g ≡ after f xs
  ends xs q = o ∙ ap (option_or f) q ∙ or-first f xs

  pub then-list : {h : Option Fault} (xs ys : List Finding) → p ≡ first_of xs → h ≡ after g ys → h ≡ after f (xs ++ ys)
  then-list xs ys q r = joins f xs ys (ends xs q) r

  pub then-rule : {h : Option Fault} (x : Finding) (ys : List Finding) → p ≡ told_of x → h ≡ after g ys → h ≡ after f (x ∷ ys)
  unfolding after
  then-rule x ys q r = r ∙ ap (λ f. after f ys) (o ∙ ap (option_or f) q)

  pub last-rule : (x : Finding) → p ≡ told_of x → g ≡ after f (x ∷ [])
  unfolding after
  last-rule x q = o ∙ ap (option_or f) q

pub first-broken : (xs : List Finding) → first_of xs ≡ fault_in (first is_broken xs)
unfolding after first told_of
first-broken [] = refl
first-broken (x ∷ xs) = go x.holds (first-broken xs)
  where
    fault : Fault
    fault = record { rule = x.rule; place = x.place }

    go : (b : Bool) → first_of xs ≡ fault_in (first is_broken xs) → after (pick b None (Some fault)) xs ≡ fault_in (pick (not b) (some x) (first is_broken xs))
    go true ih = ih
    go false ih = after-stays fault xs
