-- The pieces of a type, of a device and numbered configurations, and in the set that is laid out from them. No axiom.
use Rattle.octets.proofs.Vocabulary.{◌≡◌, refl, ap, ◌∙◌, ℕ, ◌+◌, List, [], ◌∷◌, map, false, eqb}
use Rattle.octets.specs.Sentences.{only}
use Rattle.sets.specs.Contents as contents
use Rattle.sets.specs.Device.{device_body_of, device_body}
use Rattle.sets.specs.Pieces.{Piece, pieces_in, pieces_of, bodies_of, kind_of, body_is, head_body}
use Rattle.sets.proofs.Pieces.{bodies_of_lem}
use Rattle.set_writer.specs.Writer.{laid}
use Rattle.set_writer.proofs.ReadBack.{read_back}
use Rattle.dumps.specs.Dump.{device_piece, configuration_piece, numbered}

-- ---- a device and numbered configurations
numbered-none : (t : ℕ) → eqb 2 t ≡ false → (i : ℕ) (bs : List (List ℕ)) → only (kind_of t) (numbered i bs) ≡ []
unfolding only numbered
numbered-none t e i [] = refl
numbered-none t e i (b ∷ bs) = rw e (numbered-none t e (i + 1) bs)

numbered-all : (i : ℕ) (bs : List (List ℕ)) → only (kind_of 2) (numbered i bs) ≡ numbered i bs
unfolding only numbered
numbered-all i [] = refl
numbered-all i (b ∷ bs) = ap (λ (ps : List Piece). configuration_piece i b ∷ ps) (numbered-all (i + 1) bs)

numbered-bodies : (i : ℕ) (bs : List (List ℕ)) → map body_is (numbered i bs) ≡ bs
unfolding numbered
numbered-bodies i [] = refl
numbered-bodies i (b ∷ bs) = ap (λ (cs : List (List ℕ)). b ∷ cs) (numbered-bodies (i + 1) bs)

module _ (device : List ℕ) (bs : List (List ℕ)) where
  abbrev pub both : List Piece
  both = device_piece device ∷ numbered 0 bs

  pub only-1 : only (kind_of 1) both ≡ device_piece device ∷ []
  unfolding only
  only-1 = ap (λ (ps : List Piece). device_piece device ∷ ps) (numbered-none 1 refl 0 bs)

  pub only-2 : only (kind_of 2) both ≡ numbered 0 bs
  unfolding only
  only-2 = numbered-all 0 bs

  pub only-3 : only (kind_of 3) both ≡ []
  unfolding only
  only-3 = numbered-none 3 refl 0 bs

  -- as they are, and in the set laid out from them
  pub device-is : device_body_of both ≡ device
  device-is = ap head_body only-1

  pub bodies-are : bodies_of 2 both ≡ bs
  bodies-are = ap (map body_is) only-2 ∙ numbered-bodies 0 bs

  pub device-again : device_body (laid both) ≡ device
  device-again = ap device_body_of (read_back both) ∙ device-is

  pub configurations-again : contents.bodies 2 (laid both) ≡ bs
  configurations-again = bodies_of_lem (laid both) 2 ∙ ap (bodies_of 2) (read_back both) ∙ bodies-are

  pub no-strings : pieces_of 3 (pieces_in (laid both)) ≡ []
  no-strings = ap (pieces_of 3) (read_back both) ∙ only-3
