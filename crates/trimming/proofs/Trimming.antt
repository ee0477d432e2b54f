-- Trimmed: what opening tells that trimming needs. No axiom.
use Rattle.octets.proofs.Vocabulary.{◌≡◌, ap, ◌∙◌, ℕ, zero, suc, ◌+◌, ◌<◌, List, [], ◌∷◌, map, List-as-Memᴰ, List·Memᴰ·cases-cons, List·Memᴰ·not-nil, Bool, true, ◌||◌, ⊎_elim, length, drop, eqb, leb, get_or-drop, eqb-true}
use Rattle.octets.specs.Octets.{byte, Bytes}
use Rattle.octets.specs.Sentences.{every, neighbours, only, any}
use Rattle.octets.proofs.Sentences.{both, conjunct, every-member, member-every}
use Rattle.descriptors.specs.declared.limits.Limits.{Limits}
use Rattle.descriptors.specs.Limits.{named}
use Rattle.descriptors.specs.Cut.{cut, descriptors_of, well_cut}
use Rattle.octets.specs.Table.{has}
use Rattle.descriptors.specs.Configuration.{good_configuration, good_descriptors}
use Rattle.sets.specs.declared.Entry.{Entry}
use Rattle.sets.specs.Contents.{entries_from, entries, bodies, before, count, total, bodies_at, end_to_end, good_frame, good_contents}
use Rattle.sets.specs.Device.{device_body, iSerialNumber}
use Rattle.sets.specs.Opening.{opening, lent}
use Rattle.sets.proofs.Groups.{Groups, groups, each-rule}
use Rattle.set_writer.specs.Writer.{laid}
use Rattle.sets.specs.Pieces.{piece_for}
use Rattle.trimming.specs.Trim as keeping
use Rattle.trimming.specs.Keeping.{walkable, keeps_by, table_names}
use Rattle.trimming.specs.Trim.{zero_stays, zero_filled, Trims}
use Rattle.trimming.proofs.Naming.{same-named, same_kept}

module _ (limits : Limits) (set serial : List ℕ) (p : opening limits (lent set serial) ≡ 0) where
  g : Groups limits (lent set serial)
  g = groups limits (lent set serial) p

  pub walks : walkable set ≡ true
  unfolding good_configuration
  walks =
      member-every (λ b. well_cut (cut b)) (bodies 2 set)
      (λ b m. (both (well_cut (cut b)) (good_descriptors limits (length b) (descriptors_of (cut b))) (every-member (good_configuration limits) (each-rule limits set g.configurations).good m)).0)

  pub framing : good_frame set ≡ true
  framing = g.frame

  pub lies : end_to_end (bodies_at set) (length set) (entries set) ≡ true
  unfolding good_frame good_contents
  lies =
      let frame = leb 4 (length set) ∷ leb (length set) 16384 ∷ eqb (total set) (length set) ∷ leb 1 (count set) ∷ leb (count set) 64 ∷ eqb (byte set 3) 0 ∷ leb (bodies_at set) (total set) ∷ [] in
      let rules = every (λ e. named limits.entries e.kind) (entries set) ∷ neighbours before (entries set) ∷ every (λ e. leb 2 e.length) (entries set) ∷ end_to_end (bodies_at set) (total set) (entries set) ∷ [] in
      rw (eqb-true (total set) (length set) (conjunct 2 frame g.frame)) at (conjunct 3 rules g.contents)

-- an index is a byte
indices : (n : ℕ) (bytes : List ℕ) → Bytes bytes → (e : Entry) → List-as-Memᴰ e (entries_from n bytes) → e.index < 256
unfolding entries_from
indices zero bytes h e m = absurd (List·Memᴰ·not-nil m)
indices (suc n) bytes h e m = ⊎_elim (λ q. rw q (h 1)) (λ k. indices n (drop 8 bytes) (λ i. rw (get_or-drop 8 bytes i 0) (h (8 + i))) e k) (List·Memᴰ·cases-cons m)

index-small : (set : List ℕ) → Bytes set → (e : Entry) → List-as-Memᴰ e (entries set) → e.index < 256
index-small set h = indices (count set) (drop 4 set) (λ i. rw (get_or-drop 4 set i 0) (h (4 + i)))

-- ---- a set that opens
module _ (limits : Limits) (set serial : List ℕ) (small : Bytes set) (opens : 0 ≡ opening limits (lent set serial)) (table : List ℕ) (names : (j : ℕ) → j < 256 → has table j ≡ keeping.referenced set j)
    (zero_too : Bool) (said : zero_too ≡ (any (table_names table) (entries set) || leb 1 (iSerialNumber (device_body set)))) where
  stays : zero_too ≡ zero_stays set
  stays = said ∙ rw (same-named set table names (index-small set small))

  pub trims : {after : List ℕ} → after ≡ zero_filled (laid (map (piece_for set) (only (keeps_by table zero_too) (entries set)))) (length set) → Trims limits set serial after 0
  trims h = record {
    number = opens;
    bytes = h ∙ ap (λ (es : List Entry). zero_filled (laid (map (piece_for set) es)) (length set)) (same_kept set table names (index-small set small) zero_too stays);
  }
