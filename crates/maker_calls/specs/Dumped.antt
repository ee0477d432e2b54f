-- Document 02, L5, over exported calls one after the other: export of what import wrote, import of what export wrote. No axiom.
use Rattle.std.specs.Prelude.{ℕ, ◌+◌, ◌*◌, ◌≤◌, ◌<◌, ◌≡◌, refl, true, List, [], length, take, drop, eqb, leb, ltb}
use Rattle.std.proofs.Common.{sym, ap, ◌∙◌, eqb-true, eq-eqb, lt-ltb, le-ltb}
use Rattle.octets.specs.Sentences.{pick, every}
use Rattle.octets.proofs.Sentences.{cases}
use Rattle.descriptors.specs.Limits.{full_speed}
use Rattle.sets.specs.Contents.{entries, bodies}
use Rattle.sets.specs.Opening.{lent, opening}
use Rattle.sets.specs.Pieces.{pieces_in}
use Rattle.sets.specs.Strings.{references}
use Rattle.set_writer.specs.Writer.{laid, opens_as}
use Rattle.set_writer.proofs.Filling.{there, behind}
use Rattle.dumps.specs.Dump.{splits, zeroed, imported, exported}
use Rattle.dumps.specs.Import.{Accepted}
use Rattle.dumps.specs.Export.{own}
use Rattle.maker_promises.specs.Returned.{accepted, accepts, again, same_length, exports, twice, exported_splits, no_references, zeroed_pieces, imported_set, imported_pieces, imported_size, imported_opens, imported_number}
use Rattle.maker_promises.specs.Returned as returned
use Rattle.maker_laws.proofs.DumpHome.{back as home-pieces}
use Rattle.promises.specs.Refusal.{fresh_image}
use Rattle.board.specs.Exports.{Opens}
use Rattle.board.specs.Makers.{Takes, Dumps}
use Rattle.board.specs.Runs as runs

-- ---- hk_import gave 0
module _ {dump buffer set : List ℕ} {written : ℕ} (i : Takes dump buffer 0 set written) where
  is_set : take written set ≡ imported dump
  is_set = ap (λ (k : ℕ). take k set) i.counts ∙ there i.fills refl

  taken_in : Accepted dump (length buffer)
  taken_in = accepted dump (length buffer) (sym i.fills.number)

  same-many : length (exported (imported dump)) ≡ length dump
  same-many = ap length (again dump) ∙ same_length dump taken_in.whole

  -- hk_export of the `written` bytes, with an empty serial block: "gives the dump back but for the zeroed references", if its buffer is as long as the dump, else 22
  module _ {room dumped : List ℕ} {n many : ℕ} (given : Dumps (take written set) [] room n dumped many) where
    x : Dumps (imported dump) [] room n dumped many
    x = rw is_set at given

    pub given_back : length dump ≤ length room → (n ≡ 0) × (many ≡ length dump) × (take many dumped ≡ zeroed dump) × (drop many dumped ≡ drop many room)
    given_back h =
        let z : n ≡ 0 = x.fills.number ∙ exports dump (length buffer) taken_in (length room) h in
        let m : many ≡ length (exported (imported dump)) = x.counts ∙ rw z in
        (z, m ∙ same-many, ap (λ (k : ℕ). take k dumped) m ∙ there x.fills z ∙ again dump, rw m (behind x.fills z))

    pub no_room : length room < length dump → (n ≡ 22) × (many ≡ 0) × (dumped ≡ room)
    no_room h =
        let o = eqb-true (opening full_speed (lent (imported dump) [])) 0 taken_in.opens in
        let z : n ≡ 22 = x.fills.number ∙ rw (o, same-many, lt-ltb (length room) (length dump) h) in
        (z, x.counts ∙ rw z, x.fills.bytes ∙ rw z)

    -- and hk_import of what it wrote gives the same set again
    module _ {place left : List ℕ} {m more : ℕ} (zero : n ≡ 0) (j : Takes (take many dumped) place m left more) where
      is-zeroed : take many dumped ≡ zeroed dump
      is-zeroed = let e : many ≡ length (exported (imported dump)) = x.counts ∙ rw zero in ap (λ (k : ℕ). take k dumped) e ∙ there x.fills zero ∙ again dump

      same_set : imported (zeroed dump) ≡ imported dump
      same_set = twice dump taken_in.opens

      pub imported_again : length (imported dump) ≤ length place → (m ≡ 0) × (take more left ≡ take written set)
      imported_again h =
          let t : Takes (zeroed dump) place m left more = rw is-zeroed at j in
          let whole : splits (zeroed dump) ≡ true = rw (again dump) at (exported_splits (imported dump) [] taken_in.opens) in
          let z : m ≡ 0 = t.fills.number ∙ accepts (zeroed dump) (length place) (record { whole = whole; opens = rw same_set taken_in.opens; fits = rw same_set h }) in
          let e : more ≡ length (imported (zeroed dump)) = t.counts ∙ rw z in
          (z, ap (λ (k : ℕ). take k left) e ∙ there t.fills z ∙ same_set ∙ sym is_set)

-- ---- hk_export gave 0
module _ {set serial buffer dumped : List ℕ} {many : ℕ} (x : Dumps set serial buffer 0 dumped many) where
  is-dump : take many dumped ≡ exported set
  is-dump = ap (λ (k : ℕ). take k dumped) x.counts ∙ there x.fills refl

  opens : opens_as full_speed set serial ≡ true
  opens = eq-eqb (opening full_speed (lent set serial)) 0 (opened (opening full_speed (lent set serial)) (pick (ltb (length buffer) (length (exported set))) 22 0) (sym x.fills.number))
    where
      opened : (n m : ℕ) → pick (eqb n 0) m n ≡ 0 → n ≡ 0
      opened n m p = cases (eqb n 0) (λ z. eqb-true n 0 z) (λ z. rw z at p)

  -- hk_import of the `many` bytes
  module _ {room left : List ℕ} {n written : ℕ} (given : Takes (take many dumped) room n left written) where
    i : Takes (exported set) room n left written
    i = rw is-dump at given

    is-imported : n ≡ 0 → take written left ≡ imported (exported set)
    is-imported z = let e : written ≡ length (imported (exported set)) = i.counts ∙ rw z in ap (λ (k : ℕ). take k left) e ∙ there i.fills z

    number_is : n ≡ pick (ltb (length room) (length (imported (exported set)))) 22 0
    number_is = i.fills.number ∙ imported_number set serial opens (length room)

    -- it gives 0 and the set of the zeroed device and configurations, without strings, if the buffer holds that; what lies behind stays
    pub brought_back : length (laid (zeroed_pieces set)) ≤ length room
        → (n ≡ 0) × (written ≡ length (laid (zeroed_pieces set))) × (take written left ≡ laid (zeroed_pieces set)) × (drop written left ≡ drop written room)
    brought_back h =
        let e = imported_set set serial opens in
        let z : n ≡ 0 = number_is ∙ rw (e, le-ltb (length room) (length (laid (zeroed_pieces set))) h) in
        let w : written ≡ length (imported (exported set)) = i.counts ∙ rw z in
        (z, w ∙ ap length e, is-imported z ∙ e, rw w (behind i.fills z))

    -- else 22, and nothing is written
    pub brought_short : length room < length (laid (zeroed_pieces set)) → (n ≡ 22) × (written ≡ 0) × (left ≡ room)
    brought_short h =
        let z : n ≡ 22 = number_is ∙ rw (imported_set set serial opens, lt-ltb (length room) (length (laid (zeroed_pieces set))) h) in
        (z, i.counts ∙ rw z, i.fills.bytes ∙ rw z)

    -- how long it is
    pub brought_size : length (laid (zeroed_pieces set)) ≡ 4 + 8 * (1 + length (bodies 2 set)) + many
    brought_size = ap length (sym (imported_set set serial opens)) ∙ imported_size set serial opens ∙ rw x.counts

    -- it holds those pieces and no other, and no reference
    pub brought_pieces : n ≡ 0 → (pieces_in (take written left) ≡ zeroed_pieces set) × (every (λ r. eqb r 0) (references (take written left)) ≡ true)
    brought_pieces z = rw (is-imported z) (imported_pieces set serial opens, no_references (exported set) (imported_opens set serial opens))

    -- and hk_open takes it with an empty serial block
    pub brought_opens : n ≡ 0 → {start image : List ℕ} {m : ℕ} → length start ≡ 32 → Opens (lent (take written left) []) start m image → (m ≡ 0) × (image ≡ fresh_image)
    brought_opens z long o =
        let (_, accepts, last) = runs.opening long o in
        (accepts (rw (is-imported z) (imported_opens set serial opens)), last)

    -- a set without references: its device and its configurations come back, if the buffer holds them
    module _ (none : every (λ r. eqb r 0) (references set) ≡ true) where
      pub home : length (laid (own set)) ≤ length room → (n ≡ 0) × (pieces_in (take written left) ≡ own set)
      home h =
          let z : n ≡ 0 = i.fills.number ∙ returned.taken set serial opens none (length room) h in
          (z, ap pieces_in (is-imported z) ∙ returned.home set serial opens none)

      -- and without strings too, byte for byte
      pub whole_set : every (λ e. leb e.kind 2) (entries set) ≡ true → length set ≤ length room → (n ≡ 0) × (written ≡ length set) × (take written left ≡ set)
      whole_set few h =
          let back : imported (exported set) ≡ set = returned.whole_set set serial opens none x.octets few in
          let e : laid (own set) ≡ set = ap laid (sym (home-pieces set serial opens none)) ∙ back in
          let z : n ≡ 0 = i.fills.number ∙ returned.taken set serial opens none (length room) (rw e h) in
          (z, i.counts ∙ rw (z, back), is-imported z ∙ back)
