-- The laws of the record's parts: `SameIn` and `Same` are equivalences, a record that fits is its parts and its rest (`whole`), and settling leaves every
-- interface's part, may be done again and may change places. No axiom.
use Rattle.octets.proofs.Vocabulary.{◌≡◌, refl, sym, ap, subst, ◌∙◌, ℕ, List, Option, some, none, eqb, ext_get_or}
use Rattle.octets.specs.Sentences.{pick, is_some}
use Rattle.octets.proofs.Bits.{ext-bits}
use Rattle.sets.specs.Opening.{Board, lent}
use Rattle.sets.specs.View.{View, view_of}
use Rattle.records.specs.declared.Device.{Device}
use Rattle.records.specs.Current.{in_use, or_empty, paired_as, view_for, view_at}
use Rattle.records.specs.Device.{at_full_speed, Sized}
use Rattle.laws.specs.Parts.{Shared, shared, home, SameIn, Same, rest, Settling, keeps, settles, wakes, settled_by, settle}

-- ---- the laws of Same
module _ (v : View) where
  pub self : (k : ℕ) (r : Device) → SameIn v k r r
  self k r = record { firm = refl; alternate = refl; halts = λ e p. refl; toggles = λ e p. refl }

  moved : {a b : Shared} {k : ℕ} (e : ℕ) → a ≡ b → home v b e ≡ k → home v a e ≡ k
  moved e f p = ap (λ c. home v c e) f ∙ p

  turn : (k : ℕ) (r s : Device) → SameIn v k r s → SameIn v k s r
  turn k r s h = record {
    firm = sym h.firm;
    alternate = sym h.alternate;
    halts = λ e p. sym (h.halts e (moved e h.firm p));
    toggles = λ e p. sym (h.toggles e (moved e h.firm p));
  }

  join : (k : ℕ) (r s t : Device) → SameIn v k r s → SameIn v k s t → SameIn v k r t
  join k r s t h i = record {
    firm = h.firm ∙ i.firm;
    alternate = h.alternate ∙ i.alternate;
    halts = λ e p. h.halts e p ∙ i.halts e (moved e (sym h.firm) p);
    toggles = λ e p. h.toggles e p ∙ i.toggles e (moved e (sym h.firm) p);
  }

  pub whole : (r s : Device) → Sized r → Sized s → ((k : ℕ) → SameIn v k r s) → rest r ≡ rest s → r ≡ s
  whole r s g d h w =
      let f = (h 0).firm in
      let at : ℕ → ℕ = home v (shared r) in
      let a : r.alternates ≡ s.alternates = ext_get_or 0 r.alternates s.alternates (g.sixteen ∙ sym d.sixteen) (λ i l. (h i).alternate) in
      let b : r.halts ≡ s.halts = ext-bits 32 r.halts s.halts g.halts-fit d.halts-fit (λ e l. (h (at e)).halts e refl) in
      let c : r.toggles ≡ s.toggles = ext-bits 32 r.toggles s.toggles g.toggles-fit d.toggles-fit (λ e l. (h (at e)).toggles e refl) in
      λ i. record {
        state = (f i).state;
        address = (f i).address;
        waiting = (w i).0;
        configuration = (f i).configuration;
        wakeup = (f i).wakeup;
        power = (f i).power;
        suspended = (w i).1;
        speed = (f i).speed;
        alternates = a i;
        halts = b i;
        toggles = c i;
      }

-- ---- on a board
-- one set is in use at speeds that are both full or both not
in_use_lem : {A : Type 0} (high : Option (List ℕ)) (s t : ℕ) (x y : A) → eqb s at_full_speed ≡ eqb t at_full_speed → in_use high s x y ≡ in_use high t x y
in_use_lem none s t x y p = refl
in_use_lem (some set) s t x y p = ap (λ q. pick q x y) p

pub one-view : (b : Board) (s t : ℕ) → eqb s at_full_speed ≡ eqb t at_full_speed → view_for b s ≡ view_for b t
one-view b s t p = ap (λ set. paired_as (is_some b.high) (view_of (lent set b.serial))) (in_use_lem b.high s t b.set (or_empty b.high) p)

-- two sets are lent, or one, at every speed
pub one-board : (b : Board) (s t : ℕ) → (view_for b s).paired ≡ (view_for b t).paired
one-board b s t = refl

-- records that anybody cannot tell apart are at one speed, so one set is in use
pub same_view : (b : Board) (r s : Device) → shared r ≡ shared s → view_at b r ≡ view_at b s
same_view b r s p = ap (λ (x : Shared). view_for b x.speed) p

pub turn_on : (b : Board) (k : ℕ) (r s : Device) → Same b k r s → Same b k s r
turn_on b k r s h = subst (λ v. SameIn v k s r) (same_view b r s h.firm) (turn (view_at b r) k r s h)

pub join-on : (b : Board) (k : ℕ) (r s t : Device) → Same b k r s → Same b k s t → Same b k r t
join-on b k r s t h i = join (view_at b r) k r s t h (subst (λ v. SameIn v k s t) (sym (same_view b r s h.firm)) i)

-- ---- settling
pub settled_same : (b : Board) (k : ℕ) (d : Device) (m : Settling) → Same b k (settled_by m d) d
settled_same b k d keeps = self (view_at b d) k d
settled_same b k d settles = record { firm = refl; alternate = refl; halts = λ e p. refl; toggles = λ e p. refl }
settled_same b k d wakes = record { firm = refl; alternate = refl; halts = λ e p. refl; toggles = λ e p. refl }

pub settled-rest : (d : Device) (m : Settling) → rest (settled_by m d) ≡ settle m (rest d)
settled-rest d keeps = refl
settled-rest d settles = refl
settled-rest d wakes = refl

pub settle-again : (m : Settling) (w : ℕ × ℕ) → settle m (settle m w) ≡ settle m w
settle-again keeps w = refl
settle-again settles w = refl
settle-again wakes w = refl

pub settle-commute : (m n : Settling) (w : ℕ × ℕ) → settle m (settle n w) ≡ settle n (settle m w)
settle-commute keeps keeps w = refl
settle-commute keeps settles w = refl
settle-commute keeps wakes w = refl
settle-commute settles keeps w = refl
settle-commute settles settles w = refl
settle-commute settles wakes w = refl
settle-commute wakes keeps w = refl
settle-commute wakes settles w = refl
settle-commute wakes wakes w = refl
