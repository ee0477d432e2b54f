-- A set without references, exported and imported: its device and its configurations come back. No axiom.
use Rattle.octets.proofs.Vocabulary.{◌≡◌, refl, sym, ap, ◌∙◌, ℕ, ◌+◌, ◌≤◌, List, [], ◌∷◌, ◌++◌, map, List-as-Memᴰ, List·Memᴰ·head, List·Memᴰ·tail, Bool, true, length, length-map, eqb, arith, eqb-true, leb-true}
use Rattle.octets.specs.Sentences.{every}
use Rattle.octets.proofs.Sentences.{never, conjunct, every-member, only-member}
use Rattle.descriptors.specs.Limits.{full_speed}
use Rattle.descriptors.specs.Configuration.{good_configuration, configuration_references}
use Rattle.sets.specs.Contents as contents
use Rattle.sets.specs.Device.{device_body, iManufacturer, iProduct, iSerialNumber, bNumConfigurations, has18_bytes, says18_bytes, is_device, control_size, subclass_with_class, counts_configuration, at_most8_configurations, count_is_entries, good_device}
use Rattle.sets.specs.Strings.{references}
use Rattle.sets.specs.Opening.{numbered_from, opening, lent}
use Rattle.sets.proofs.Groups.{Groups, groups, one-device, GoodConfigurations, each-rule}
use Rattle.sets.proofs.Pieces.{bodies_of_lem}
use Rattle.sets.proofs.References.{references-set}
use Rattle.set_writer.specs.Writer.{opens_as}
use Rattle.sets.specs.Pieces.{Piece, pieces_in, pieces_of, kind_of, body_is, head_body, has_index, has_no_language, sole}
use Rattle.set_writer.proofs.ReadBack.{read_back}
use Rattle.dumps.specs.Dump.{splits, device_in, configurations_in, zeroed_device, zeroed_configuration, device_piece, configuration_piece, numbered, pieces_for, imported, exported}
use Rattle.dumps.specs.Export.{own}
use Rattle.maker_laws.proofs.DumpZeroed.{map_same, device-same, zeroed-same}
use Rattle.maker_laws.proofs.DumpKept.{Sized, sized, joined-splits, joined-device, joined-configurations}

-- ---- pieces by what is asked of them
same-piece : (p : Piece) {k i l : ℕ} → p.kind ≡ k → p.index ≡ i → p.language ≡ l → p ≡ record { kind = k; index = i; language = l; body = p.body }
same-piece p {k} {i} a b c =
    ap (λ (n : ℕ). record { kind = n; index = p.index; language = p.language; body = p.body }) a
    ∙ ap (λ (n : ℕ). record { kind = k; index = n; language = p.language; body = p.body }) b
    ∙ ap (λ (n : ℕ). record { kind = k; index = i; language = n; body = p.body }) c

device-alone : (good : List ℕ → Bool) (ps : List Piece) → ((p : Piece) → List-as-Memᴰ p ps → p.kind ≡ 1) → sole good ps ≡ true
    → (ps ≡ device_piece (head_body ps) ∷ []) × (good (head_body ps) ≡ true)
device-alone good [] h q = never q refl
device-alone good (p ∷ []) h q =
    let rules = has_index 0 p ∷ has_no_language p ∷ good p.body ∷ [] in (
      ap (λ (x : Piece). x ∷ []) (same-piece p (h p (List·Memᴰ·head refl)) (eqb-true p.index 0 (conjunct 0 rules q)) (eqb-true p.language 0 (conjunct 1 rules q))),
      conjunct 2 rules q,
    )
device-alone good (p ∷ r ∷ ps) h q = never q refl

numbered-own : (i : ℕ) (ps : List Piece) → ((p : Piece) → List-as-Memᴰ p ps → p.kind ≡ 2) → numbered_from i ps ≡ true → ps ≡ numbered i (map body_is ps)
unfolding numbered_from numbered
numbered-own i [] h q = refl
numbered-own i (p ∷ ps) h q =
    let rules = has_index i p ∷ has_no_language p ∷ numbered_from (i + 1) ps ∷ [] in
    ap (λ (x : Piece). x ∷ ps) (same-piece p (h p (List·Memᴰ·head refl)) (eqb-true p.index i (conjunct 0 rules q)) (eqb-true p.language 0 (conjunct 1 rules q)))
    ∙ ap (λ (qs : List Piece). configuration_piece i p.body ∷ qs) (numbered-own (i + 1) ps (λ r m. h r (List·Memᴰ·tail m)) (conjunct 2 rules q))

kind-of : (t : ℕ) (ps : List Piece) (p : Piece) → List-as-Memᴰ p (pieces_of t ps) → p.kind ≡ t
kind-of t ps p m = eqb-true p.kind t (only-member (kind_of t) ps m).1

-- ---- a set that opens and has no reference
module _ (set serial : List ℕ) (opened : opens_as full_speed set serial ≡ true) where
  pub held : Groups full_speed (lent set serial)
  held = groups full_speed (lent set serial) (eqb-true (opening full_speed (lent set serial)) 0 opened)

  pub device : (pieces_of 1 (pieces_in set) ≡ device_piece (device_body set) ∷ []) × (good_device full_speed (length (pieces_of 2 (pieces_in set))) (device_body set) ≡ true)
  device = device-alone _ (pieces_of 1 (pieces_in set)) (kind-of 1 (pieces_in set)) (one-device full_speed (lent set serial) held)

  abbrev device_rules : List Bool
  device_rules =
      let d = device_body set in
      has18_bytes d ∷ says18_bytes d ∷ is_device d ∷ control_size full_speed d ∷ subclass_with_class d ∷ counts_configuration d ∷ at_most8_configurations d ∷ count_is_entries (length (pieces_of 2 (pieces_in set))) d ∷ []

  pub device-long : length (device_body set) ≡ 18
  device-long = eqb-true (length (device_body set)) 18 (conjunct 0 device_rules device.1)

  pub configurations-many : length (contents.bodies 2 set) ≡ length (pieces_of 2 (pieces_in set))
  configurations-many = ap length (bodies_of_lem set 2) ∙ length-map (pieces_of 2 (pieces_in set)) body_is

  some-configuration : 1 ≤ length (contents.bodies 2 set)
  some-configuration =
      let n = bNumConfigurations (device_body set) in
      omega (arith, leb-true 1 n (conjunct 5 device_rules device.1), eqb-true n _ (conjunct 7 device_rules device.1), configurations-many)

  pub configurations-held : GoodConfigurations full_speed set
  configurations-held = each-rule full_speed set held.configurations

  pub good-body : (b : List ℕ) → List-as-Memᴰ b (contents.bodies 2 set) → good_configuration full_speed b ≡ true
  good-body b m = every-member (good_configuration full_speed) configurations-held.good m

  sized-body : (b : List ℕ) → List-as-Memᴰ b (contents.bodies 2 set) → Sized b
  sized-body b m = sized full_speed b (good-body b m)

  -- what is exported splits, into the device and the configurations
  pub exported-splits : splits (exported set) ≡ true
  exported-splits = joined-splits (device_body set) (contents.bodies 2 set) device-long some-configuration sized-body

  pub exported-device : device_in (exported set) ≡ device_body set
  exported-device = joined-device (device_body set) (contents.bodies 2 set) device-long some-configuration sized-body

  pub exported-configurations : configurations_in (exported set) ≡ contents.bodies 2 set
  exported-configurations = joined-configurations (device_body set) (contents.bodies 2 set) device-long some-configuration sized-body

  own-pieces : own set ≡ device_piece (device_body set) ∷ numbered 0 (contents.bodies 2 set)
  own-pieces =
      ap (λ (ps : List Piece). ps ++ pieces_of 2 (pieces_in set)) device.0
      ∙ ap (λ (ps : List Piece). device_piece (device_body set) ∷ ps)
      (numbered-own 0 (pieces_of 2 (pieces_in set)) (kind-of 2 (pieces_in set)) configurations-held.numbered ∙ ap (numbered 0) (sym (bodies_of_lem set 2)))

  module _ (none : every (λ r. eqb r 0) (references set) ≡ true) where
    abbrev zeros : List Bool
    zeros =
        let d = device_body set in
        eqb (iManufacturer d) 0 ∷ eqb (iProduct d) 0 ∷ eqb (iSerialNumber d) 0 ∷ every (λ b. every (λ r. eqb r 0) (configuration_references b)) (contents.bodies 2 set) ∷ []

    zeros-hold : Rattle.octets.proofs.Sentences.row true zeros ≡ true
    zeros-hold = sym (references-set (λ r. eqb r 0) set) ∙ none

    same-device : zeroed_device (device_body set) ≡ device_body set
    same-device =
        let d = device_body set in
        device-same d (eqb-true (iManufacturer d) 0 (conjunct 0 zeros zeros-hold)) (eqb-true (iProduct d) 0 (conjunct 1 zeros zeros-hold)) (eqb-true (iSerialNumber d) 0 (conjunct 2 zeros zeros-hold))

    same-configurations : map zeroed_configuration (contents.bodies 2 set) ≡ contents.bodies 2 set
    same-configurations =
        map_same zeroed_configuration (contents.bodies 2 set)
        (λ b m. zeroed-same full_speed b (good-body b m) (every-member (λ b. every (λ r. eqb r 0) (configuration_references b)) (conjunct 3 zeros zeros-hold) m))

    -- "export then import .. gives its device and configurations back"
    pub back : pieces_for (exported set) ≡ own set
    back = rw (exported-device, exported-configurations, same-device, same-configurations) (sym own-pieces)

    pub home : pieces_in (imported (exported set)) ≡ own set
    home = read_back (pieces_for (exported set)) ∙ back
