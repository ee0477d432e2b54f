-- Byte for byte: a set without references and strings comes back whole, and a dump imported twice gives one set. No axiom.
use Rattle.octets.proofs.Vocabulary.{◌≡◌, refl, sym, ap, ◌∙◌, ℕ, ◌≤◌, List, [], ◌∷◌, ◌++◌, map, true, eqb, leb, arith, eqb-true, eqb-false, eq-eqb, ne_eqb, leb-true}
use Rattle.octets.specs.Sentences.{every, only, neighbours}
use Rattle.octets.proofs.Sentences.{cases, both, conjunct}
use Rattle.descriptors.specs.Limits.{full_speed, named}
use Rattle.sets.specs.declared.Entry.{Entry}
use Rattle.sets.specs.Contents.{entries, is_kind, before, total, bodies_at, end_to_end, good_contents}
use Rattle.sets.specs.Strings.{references}
use Rattle.octets.specs.Octets.{Bytes}
use Rattle.sets.proofs.Entries.{every-cons}
use Rattle.sets.specs.Pieces.{Piece, piece_for, pieces_in}
use Rattle.set_writer.specs.Writer.{laid, opens_as}
use Rattle.sets.proofs.Pieces.{of-kind}
use Rattle.set_writer.proofs.Canonical.{canonical}
use Rattle.set_writer.proofs.ReadBack.{read_back}
use Rattle.dumps.specs.Dump.{device_in, configurations_in, zeroed_device, zeroed_configuration, zeroed, pieces_for, imported, exported}
use Rattle.dumps.specs.Export.{own}
use Rattle.dumps.proofs.Together.{Up, all_up, none_below}
use Rattle.maker_laws.proofs.DumpByType.{only-1, only-2}
use Rattle.maker_laws.proofs.DumpHome.{held, back}
use Rattle.maker_laws.proofs.DumpImports.{no-references, again}

-- entries of types 1 and 2 alone, ascending, are the device's and then the configurations'
weaker : (es : List Entry) → Up 2 es → Up 1 es
weaker [] u = u
weaker (e ∷ es) u = (omega arith, u.1)

in_order : (set : List ℕ) (es : List Entry) → Up 1 es → every (λ e. leb e.kind 2) es ≡ true
    → map (piece_for set) (only (is_kind 1) es) ++ map (piece_for set) (only (is_kind 2) es) ≡ map (piece_for set) es
unfolding only
in_order set [] u p = refl
in_order set (e ∷ es) u p =
    let (l, q) = both (leb e.kind 2) (every (λ e. leb e.kind 2) es) (sym (every-cons (λ e. leb e.kind 2) e es) ∙ p) in
    cases (eqb e.kind 1)
    (λ k. let i = eqb-true e.kind 1 k in rw (k, ne_eqb e.kind 2 (λ z. omega arith)) (ap (λ (ps : List Piece). piece_for set e ∷ ps) (in_order set es (rw i at u.1) q)))
    (λ k.
    let n = eqb-false e.kind 1 k in
    let i : e.kind ≡ 2 = two e.kind n u.0 (leb-true e.kind 2 l) in
    let up : Up 2 es = rw i at u.1 in
    let none = none_below 1 2 es (omega arith) up in
    rw (k, eq-eqb e.kind 2 i, none) (ap (λ (ps : List Piece). piece_for set e ∷ ps) (rw none at (in_order set es (weaker es up) q))))
  where
    two : (k : ℕ) → (k ≡ 1 → ⊥) → 1 ≤ k → k ≤ 2 → k ≡ 2
    two k n a b = cases (eqb k 1) (λ e. absurd (n (eqb-true k 1 e))) (λ e. let m = eqb-false k 1 e in omega arith)

module _ (set serial : List ℕ) (opened : opens_as full_speed set serial ≡ true) where
  own-all : every (λ e. leb e.kind 2) (entries set) ≡ true → own set ≡ pieces_in set
  unfolding good_contents
  own-all p =
      let rules = every (λ e. named full_speed.entries e.kind) (entries set) ∷ neighbours before (entries set) ∷ every (λ e. leb 2 e.length) (entries set) ∷ end_to_end (bodies_at set) (total set) (entries set) ∷ [] in
      let c = (held set serial opened).contents in
      rw (← of-kind set 1, ← of-kind set 2) (in_order set (entries set) (all_up (entries set) (conjunct 0 rules c) (conjunct 1 rules c)) p)

  -- a set without references and without strings comes back byte for byte
  pub whole_set : Bytes set → every (λ e. leb e.kind 2) (entries set) ≡ true → every (λ r. eqb r 0) (references set) ≡ true → imported (exported set) ≡ set
  whole_set small p none =
      let g = held set serial opened in
      ap laid (back set serial opened none ∙ own-all p) ∙ canonical full_speed set small g.frame g.contents

-- a dump that is imported, exported and imported again gives the same set
pub twice : (dump : List ℕ) → opens_as full_speed (imported dump) [] ≡ true → imported (zeroed dump) ≡ imported dump
twice dump p =
    let d = zeroed_device (device_in dump) in
    let bs = map zeroed_configuration (configurations_in dump) in
    let o : own (imported dump) ≡ pieces_for dump = rw (read_back (pieces_for dump), only-1 d bs, only-2 d bs) in
    ap imported (sym (again dump)) ∙ ap laid (back (imported dump) [] p (no-references dump p) ∙ o)
