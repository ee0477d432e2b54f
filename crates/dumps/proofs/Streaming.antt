-- The stream of a dump's pieces, body by body. No axiom.
use Rattle.octets.proofs.Vocabulary.{◌≡◌, refl, ap, ◌∙◌, ℕ, ◌+◌, ◌*◌, ◌≤◌, ◌<◌, List, [], ◌∷◌, ◌++◌, map, true, length, take, drop, length-append, length-drop, ltb, length-take-le, arith, ltb-true}
use Rattle.octets.proofs.Sentences.{both}
use Rattle.descriptors.specs.Cut.{cut, descriptors_of}
use Rattle.set_writer.specs.Stream.{piece_head, stream_of}
use Rattle.sets.specs.Pieces.{Piece}
use Rattle.dumps.specs.Dump.{flat, splits_after, splits, device_in, configurations_in, names_from, zeroed_device, zeroed_configuration, device_piece, numbered, pieces_for}
use Rattle.dumps.specs.Import.{headed}
use Rattle.dumps.proofs.Splitting.{splitting, bodies, size_of, dump-bodies, dump-least, dump-fits, dump-none, flat-bodies}
use Rattle.dumps.proofs.Blanking.{blanked-length}

pub zeroed-length : (body : List ℕ) → length (zeroed_configuration body) ≡ length body
zeroed-length body = blanked-length (6 ∷ names_from 0 (descriptors_of (cut body))) body

abbrev pub streamed : ℕ → List (List ℕ) → List ℕ
streamed i bs = stream_of (numbered i (map zeroed_configuration bs))

streamed-more : (i : ℕ) (b : List ℕ) (bs : List (List ℕ)) → streamed i (b ∷ bs) ≡ headed 2 i (length (zeroed_configuration b)) ++ (zeroed_configuration b ++ streamed (i + 1) bs)
unfolding numbered stream_of
streamed-more i b bs = refl

streamed-none : (i : ℕ) → streamed i [] ≡ []
unfolding numbered stream_of
streamed-none i = refl

module _ (dump : List ℕ) (from : ℕ) where
  module _ (here : from < length dump) (p : splitting (drop from dump) ≡ true) (size : ℕ) (e : size ≡ size_of (drop from dump)) where
    size_is : length (take size (drop from dump)) ≡ size
    size_is = length-take-le size (drop from dump) (rw length-drop (dump-fits dump from here size e p))

    pub stream-here : (i : ℕ) → streamed i (bodies (drop from dump)) ≡ headed 2 i size ++ (zeroed_configuration (take size (drop from dump)) ++ streamed (i + 1) (bodies (drop (from + size) dump)))
    stream-here i =
        let l : length (zeroed_configuration (take size (drop from dump))) ≡ size = zeroed-length (take size (drop from dump)) ∙ size_is in
        ap (streamed i) (dump-bodies dump from here size e (dump-least dump from here size e p))
        ∙ streamed-more i (take size (drop from dump)) (bodies (drop (from + size) dump))
        ∙ ap (λ (n : ℕ). headed 2 i n ++ (zeroed_configuration (take size (drop from dump)) ++ streamed (i + 1) (bodies (drop (from + size) dump)))) l

  pub stream-over : length dump ≤ from → (i : ℕ) → streamed i (bodies (drop from dump)) ≡ []
  stream-over h i = ap (streamed i) (dump-none dump from h) ∙ streamed-none i

-- ---- the whole
pub whole-splits : (dump : List ℕ) → splits dump ≡ true → (18 < length dump) × (splitting (drop 18 dump) ≡ true)
whole-splits dump p = let (a, b) = both (ltb 18 (length dump)) (splits_after 0 (drop 18 dump)) p in (ltb-true 18 (length dump) a, b)

pub device-size : (dump : List ℕ) → splits dump ≡ true → length (device_in dump) ≡ 18
device-size dump p = length-take-le 18 dump (omega (arith, (whole-splits dump p).0))

parts : (q : Piece) (ps : List Piece) → stream_of (q ∷ ps) ≡ piece_head q ++ (q.body ++ stream_of ps)
unfolding stream_of
parts q ps = refl

pub stream-parts : (dump : List ℕ) → splits dump ≡ true → stream_of (pieces_for dump) ≡ headed 1 0 18 ++ (zeroed_device (device_in dump) ++ streamed 0 (configurations_in dump))
stream-parts dump p =
    let l : length (zeroed_device (device_in dump)) ≡ 18 = blanked-length (14 ∷ 15 ∷ 16 ∷ []) (device_in dump) ∙ device-size dump p in
    parts (device_piece (zeroed_device (device_in dump))) (numbered 0 (map zeroed_configuration (configurations_in dump)))
    ∙ ap (λ (n : ℕ). headed 1 0 n ++ (zeroed_device (device_in dump) ++ streamed 0 (configurations_in dump))) l

streamed-size : (i : ℕ) (bs : List (List ℕ)) → length (streamed i bs) ≡ 6 * length bs + length (flat bs)
unfolding numbered stream_of flat
streamed-size i [] = refl
streamed-size i (b ∷ bs) =
    omega (arith, streamed-size (i + 1) bs, length-append (zeroed_configuration b) (streamed (i + 1) bs), length-append b (flat bs), zeroed-length b)

pub stream-size : (dump : List ℕ) → splits dump ≡ true → length (stream_of (pieces_for dump)) ≡ 6 * (1 + length (configurations_in dump)) + length dump
stream-size dump p =
    let (h, q) = whole-splits dump p in
    omega (
      arith,
      ap length (stream-parts dump p),
      length-append (zeroed_device (device_in dump)) (streamed 0 (configurations_in dump)),
      blanked-length (14 ∷ 15 ∷ 16 ∷ []) (device_in dump),
      device-size dump p,
      streamed-size 0 (configurations_in dump),
      ap length (flat-bodies (drop 18 dump) q),
      length-drop 18 dump,
    )
