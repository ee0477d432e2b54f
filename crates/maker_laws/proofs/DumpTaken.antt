-- Import takes what was exported from a set that opens, with its references zeroed. No axiom.
use Rattle.octets.proofs.Vocabulary.{◌≡◌, refl, sym, ap, ◌∙◌, ℕ, ◌+◌, ◌*◌, ◌≤◌, List, [], ◌∷◌, map, flat_map, Bool, true, false, length, drop, length-map, length-append, eqb, leb, ltb, arith, eqb-true, eq-eqb, leb-true}
use Rattle.octets.specs.Octets.{byte}
use Rattle.octets.specs.Sentences.{pick, every, only}
use Rattle.octets.proofs.Sentences.{joined, conjunct, every-member, member-every, every_map}
use Rattle.descriptors.specs.Limits.{full_speed}
use Rattle.descriptors.specs.Configuration.{good_configuration, configuration_references}
use Rattle.sets.specs.Contents.{entries, total, count, bodies_at, good_frame}
use Rattle.sets.specs.Contents as contents
use Rattle.sets.specs.Device.{device_body, iManufacturer, iProduct, iSerialNumber}
use Rattle.sets.specs.Pieces.{Piece, piece_for, pieces_in, pieces_of, kind_of}
use Rattle.sets.specs.Strings.{references_of}
use Rattle.sets.specs.Opening.{lent, opening}
use Rattle.sets.proofs.References.{every-flat}
use Rattle.set_writer.specs.Writer.{laid, opens_as}
use Rattle.set_writer.proofs.Canonical.{entries-length}
use Rattle.dumps.specs.Dump.{flat, zeroed_device, zeroed_configuration, imported, exported, importing}
use Rattle.dumps.proofs.Blanking.{blanked-length}
use Rattle.dumps.proofs.Importing.{imported-length}
use Rattle.dumps.proofs.Together.{dump}
use Rattle.maker_laws.proofs.DumpByType.{device-is, bodies-are}
use Rattle.maker_laws.proofs.DumpZeroed.{zeroed-good, zeroed-plain, zeroed-nonzero, zeroed-distinct, device-good, device-plain}
use Rattle.maker_laws.proofs.DumpKept.{sized}
use Rattle.maker_laws.proofs.DumpHome.{held, device, device-long, configurations-many, configurations-held, good-body, exported-splits, exported-device, exported-configurations}
use Rattle.maker_laws.proofs.DumpOpens.{ps, Good, made-opens}
use Rattle.maker_laws.proofs.DumpImports.{flat-length, answers}

-- two types have no more pieces than all
two-types : (ps : List Piece) → length (pieces_of 1 ps) + length (pieces_of 2 ps) ≤ length ps
unfolding only
two-types [] = omega arith
two-types (p ∷ ps) = go (kind_of 1 p) refl (kind_of 2 p) refl (two-types ps)
  where
    go : (a : Bool) → kind_of 1 p ≡ a → (b : Bool) → kind_of 2 p ≡ b → length (pieces_of 1 ps) + length (pieces_of 2 ps) ≤ length ps
        → length (pick a (p ∷ pieces_of 1 ps) (pieces_of 1 ps)) + length (pick b (p ∷ pieces_of 2 ps) (pieces_of 2 ps)) ≤ length (p ∷ ps)
    go true q true r h = let z : ◌≡◌ {A = ℕ} 1 2 = sym (eqb-true p.kind 1 q) ∙ eqb-true p.kind 2 r in absurd (omega arith)
    go true q false r h = omega arith
    go false q true r h = omega arith
    go false q false r h = omega arith

module _ (set serial : List ℕ) (opened : opens_as full_speed set serial ≡ true) where
  abbrev d : List ℕ
  d = zeroed_device (device_body set)

  abbrev bs : List (List ℕ)
  bs = map zeroed_configuration (contents.bodies 2 set)

  bodies-good : every (good_configuration full_speed) bs ≡ true
  bodies-good =
      every_map (good_configuration full_speed) zeroed_configuration (contents.bodies 2 set)
      ∙ member-every (λ b. good_configuration full_speed (zeroed_configuration b)) (contents.bodies 2 set) (λ b m. zeroed-good full_speed b (good-body set serial opened b m) refl)

  abbrev none : ℕ → Bool
  none r = eqb r 0

  bodies-plain : every none (flat_map configuration_references bs) ≡ true
  bodies-plain =
      every-flat none configuration_references bs
      ∙ every_map (λ b. every none (configuration_references b)) zeroed_configuration (contents.bodies 2 set)
      ∙ member-every (λ b. every none (configuration_references (zeroed_configuration b))) (contents.bodies 2 set) (λ b m. zeroed-plain full_speed b (good-body set serial opened b m))

  plain : every none (references_of (ps d bs)) ≡ true
  unfolding every
  plain =
      let (m, p, s) = device-plain (device_body set) in
      rw (device-is d bs, bodies-are d bs) (joined (eq-eqb (iManufacturer d) 0 m) (joined (eq-eqb (iProduct d) 0 p) (joined (eq-eqb (iSerialNumber d) 0 s) bodies-plain)))

  good : Good d bs
  unfolding good_frame
  good =
      let g = held set serial opened in
      let frame = leb 4 (length set) ∷ leb (length set) 16384 ∷ eqb (total set) (length set) ∷ leb 1 (count set) ∷ leb (count set) 64 ∷ eqb (byte set 3) 0 ∷ leb (bodies_at set) (total set) ∷ [] in
      let large = leb-true (length set) 16384 (conjunct 1 frame g.frame) in
      let many = leb-true (count set) 64 (conjunct 4 frame g.frame) in
      let two = two-types (pieces_in set) in
      let one = ap length (device set serial opened).0 in
      let n = entries-length (count set) (drop 4 set) in
      let all = length-map (entries set) (piece_for set) in
      let m = configurations-many set serial opened in
      let k = length-map (contents.bodies 2 set) zeroed_configuration in
      let l = blanked-length (14 ∷ 15 ∷ 16 ∷ []) (device_body set) in
      let x = dump set serial (eqb-true (opening full_speed (lent set serial)) 0 opened) in
      let rules = configurations-held set serial opened in
      record {
        few = omega arith;
        small = omega (arith, x.fits, x.size, length-append d (flat bs), length-append (device_body set) (flat (contents.bodies 2 set)), flat-length (contents.bodies 2 set));
        device = rw (k, m) (device-good (device_body set) full_speed _ ∙ (device set serial opened).1);
        device-long = omega (arith, device-long set serial opened);
        bodies-long = λ b k. omega (arith, (sized full_speed b (every-member (good_configuration full_speed) bodies-good k)).least);
        configurations = bodies-good;
        values = zeroed-nonzero (contents.bodies 2 set) ∙ rules.nonzero;
        distinct = zeroed-distinct (contents.bodies 2 set) ∙ rules.distinct;
        no-references = plain;
        no-serial = (device-plain (device_body set)).2;
      }

  -- the set that is made of what was exported
  pub is_made : imported (exported set) ≡ laid (ps d bs)
  is_made = rw (exported-device set serial opened, exported-configurations set serial opened)

  pub opens : opens_as full_speed (imported (exported set)) [] ≡ true
  opens = rw is_made (made-opens d bs good)

  -- import takes it, exactly if the buffer holds the set
  pub answered : (room : ℕ) → importing (exported set) room ≡ pick (ltb room (length (imported (exported set)))) 22 0
  answered room = answers (exported set) room (exported-splits set serial opened) opens

  pub size : length (imported (exported set)) ≡ 4 + 8 * (1 + length (contents.bodies 2 set)) + length (exported set)
  size =
      imported-length (exported set) (exported-splits set serial opened)
      ∙ ap (λ (cs : List (List ℕ)). 4 + 8 * (1 + length cs) + length (exported set)) (exported-configurations set serial opened)
