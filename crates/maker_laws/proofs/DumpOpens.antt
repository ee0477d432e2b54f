-- A set of a device and numbered configurations opens with an empty serial block, if each of them is good and no reference is left: group by group. No axiom.
use Rattle.octets.proofs.Vocabulary.{◌≡◌, refl, ap, ◌∙◌, ℕ, ◌+◌, ◌*◌, ◌≤◌, List, [], ◌∷◌, ◌++◌, List-as-Memᴰ, List·Memᴰ·head, List·Memᴰ·tail, Bool, true, false, length, eqb, leb, arith, eqb-true, eq-eqb, le-leb}
use Rattle.octets.specs.Sentences.{every, any, pairs}
use Rattle.octets.proofs.Sentences.{joined, every-member, none_any}
use Rattle.descriptors.specs.Limits.{full_speed, named}
use Rattle.descriptors.specs.Configuration.{good_configuration}
use Rattle.sets.specs.Contents.{good_contents}
use Rattle.sets.specs.Pieces.{Piece}
use Rattle.sets.specs.Device.{device_body_of, iSerialNumber, good_device}
use Rattle.sets.specs.Strings.{references_of, is_nonzero, good_strings}
use Rattle.sets.specs.Opening.{lent, numbered_from, value_nonzero, distinct_values, good_devices, good_configurations, good_block, opening}
use Rattle.sets.proofs.Groups.{all-six, texts-out, no-texts}
use Rattle.set_writer.specs.Writer as pieces
use Rattle.set_writer.specs.Writer.{body_bytes, laid, opens_as}
use Rattle.set_writer.proofs.LaidOut.{laid-frame, laid-contents}
use Rattle.set_writer.proofs.ReadBack.{read_back}
use Rattle.dumps.specs.Dump.{flat, device_piece, numbered}
use Rattle.dumps.proofs.Importing.{numbered-up, pieces_up, numbered-length}
use Rattle.maker_laws.proofs.DumpByType.{only-1, only-2, only-3, device-is, bodies-are}

numbered-up-by-one : (i : ℕ) (bs : List (List ℕ)) → numbered_from i (numbered i bs) ≡ true
unfolding numbered_from numbered
numbered-up-by-one i [] = refl
numbered-up-by-one i (b ∷ bs) = rw (eq-eqb i i refl) (numbered-up-by-one (i + 1) bs)

named-numbered : (i : ℕ) (bs : List (List ℕ)) → every (λ p. named full_speed.entries p.kind) (numbered i bs) ≡ true
unfolding every numbered
named-numbered i [] = refl
named-numbered i (b ∷ bs) = named-numbered (i + 1) bs

long-numbered : (i : ℕ) (bs : List (List ℕ)) → ((b : List ℕ) → List-as-Memᴰ b bs → 2 ≤ length b) → every (λ p. leb 2 (length p.body)) (numbered i bs) ≡ true
unfolding every numbered
long-numbered i [] h = refl
long-numbered i (b ∷ bs) h = joined (le-leb 2 (length b) (h b (List·Memᴰ·head refl))) (long-numbered (i + 1) bs (λ c m. h c (List·Memᴰ·tail m)))

numbered-flat : (i : ℕ) (bs : List (List ℕ)) → body_bytes (numbered i bs) ≡ flat bs
unfolding body_bytes numbered flat
numbered-flat i [] = refl
numbered-flat i (b ∷ bs) = rw (numbered-flat (i + 1) bs)

ev : {A : Type 0} (f : A → Bool) (x : A) (xs : List A) → f x ≡ true → every f xs ≡ true → every f (x ∷ xs) ≡ true
unfolding every
ev f x xs p q = joined p q

-- ---- a device and numbered configurations
module _ (d : List ℕ) (bs : List (List ℕ)) where
  abbrev pub ps : List Piece
  ps = device_piece d ∷ numbered 0 bs

  abbrev pub made : List ℕ
  made = laid ps

  ps-total : pieces.laid_length ps ≡ 4 + 8 * (1 + length bs) + length (d ++ flat bs)
  unfolding body_bytes
  ps-total = omega (arith, numbered-length 0 bs, ap (λ (l : List ℕ). length (d ++ l)) (numbered-flat 0 bs))

  contents-good : 2 ≤ length d → ((b : List ℕ) → List-as-Memᴰ b bs → 2 ≤ length b) → good_contents full_speed made ≡ true
  contents-good l h =
      let a : every (λ p. named full_speed.entries p.kind) ps ≡ true = ev (λ p. named full_speed.entries p.kind) (device_piece d) (numbered 0 bs) refl (named-numbered 0 bs) in
      let b : every (λ p. leb 2 (length p.body)) ps ≡ true = ev (λ p. leb 2 (length p.body)) (device_piece d) (numbered 0 bs) (le-leb 2 (length d) l) (long-numbered 0 bs h) in
      laid-contents full_speed ps ∙ joined (joined a (pieces_up d bs (numbered-up 0 bs))) b

  devices-good : good_device full_speed (length bs) d ≡ true → good_devices full_speed ps ≡ true
  unfolding good_devices
  devices-good g = rw (only-1 d bs, only-2 d bs, numbered-length 0 bs) g

  configurations-good : every (good_configuration full_speed) bs ≡ true → every value_nonzero bs ≡ true → pairs distinct_values bs ≡ true → good_configurations full_speed ps ≡ true
  unfolding good_configurations
  configurations-good g v q = rw (bodies-are d bs, only-2 d bs) (joined (joined (joined (numbered-up-by-one 0 bs) g) v) q)

  strings-good : every (λ r. eqb r 0) (references_of ps) ≡ true → good_strings ps ≡ true
  unfolding good_strings
  strings-good z =
      let a : any is_nonzero (references_of ps) ≡ false = none_any is_nonzero (references_of ps) (λ r m. nought r (eqb-true r 0 (every-member (λ r. eqb r 0) z m))) in
      rw (only-3 d bs) (texts-out (references_of ps) (iSerialNumber (device_body_of ps)) [] (no-texts (references_of ps) (iSerialNumber (device_body_of ps)) a))
    where
      nought : (r : ℕ) → r ≡ 0 → leb 1 r ≡ false
      nought r e = rw e

  block-good : iSerialNumber d ≡ 0 → good_block ps [] ≡ true
  unfolding good_block
  block-good e = rw (device-is d bs, e)

  -- all six
  pub record Good : Type 0 where
    pub few : length bs ≤ 63
    pub small : 4 + 8 * (1 + length bs) + length (d ++ flat bs) ≤ 16384
    pub device : good_device full_speed (length bs) d ≡ true
    pub device-long : 2 ≤ length d
    pub bodies-long : (b : List ℕ) → List-as-Memᴰ b bs → 2 ≤ length b
    pub configurations : every (good_configuration full_speed) bs ≡ true
    pub values : every value_nonzero bs ≡ true
    pub distinct : pairs distinct_values bs ≡ true
    pub no-references : every (λ r. eqb r 0) (references_of ps) ≡ true
    pub no-serial : iSerialNumber d ≡ 0

  pub made-opens : Good → opens_as full_speed made [] ≡ true
  made-opens g = eq-eqb (opening full_speed (lent made [])) 0 zero_is
    where
      zero_is : opening full_speed (lent made []) ≡ 0
      zero_is = all-six full_speed (lent made []) (record {
        frame = laid-frame ps (omega arith) (omega (arith, numbered-length 0 bs, g.few)) (omega (arith, ps-total, g.small));
        contents = contents-good g.device-long g.bodies-long;
        devices = rw (read_back ps) (devices-good g.device);
        configurations = rw (read_back ps) (configurations-good g.configurations g.values g.distinct);
        strings = rw (read_back ps) (strings-good g.no-references);
        serial = rw (read_back ps) (block-good g.no-serial);
      })
