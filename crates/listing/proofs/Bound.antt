-- The room that the lister's text can need, for any set: three bytes of text for each byte of an accepted set are enough. No axiom.
use Rattle.octets.proofs.Vocabulary.{◌≡◌, refl, ap, ◌∙◌, ℕ, zero, suc, ◌+◌, ◌-◌, ◌*◌, ◌/◌, ◌%◌, ◌≤◌, List, [], ◌∷◌, ◌++◌, map, flat_map, Bool, true, false, not, length, take, length-append, length-take, eqb, leb, ltb, arith, eqb-true, leb-true}
use Rattle.octets.specs.Octets.{byte}
use Rattle.octets.specs.Sentences.{pick, ◌⇒◌, every, only, neighbours}
use Rattle.octets.proofs.Sentences.{both, conjunct, if-then}
use Rattle.descriptors.specs.declared.limits.Limits.{Limits}
use Rattle.descriptors.specs.Limits.{named, refused_types}
use Rattle.descriptors.specs.Cut.{broken, descriptor, cut, cut_after, descriptors_of}
use Rattle.descriptors.specs.Descriptor.{bDescriptorType, is_interface, is_endpoint, bEndpointAddress, bmAttributes, bInterval, wMaxPacketSize, transfer_type, good_address, good_attributes, good_size, good_interval, good_endpoint, good_descriptor}
use Rattle.descriptors.specs.Configuration.{bConfigurationValue, bNumInterfaces, bMaxPower, configuration_attributes, wTotalLength, behind, good_configuration}
use Rattle.sets.specs.declared.Entry.{Entry}
use Rattle.sets.specs.Contents.{entries, body_of, bodies, is_kind, total, count, bodies_at, before, good_frame, end_to_end, good_contents}
use Rattle.sets.specs.Opening.{Board, opening}
use Rattle.sets.proofs.Groups.{Groups, groups, each-rule}
use Rattle.listing.specs.Listing.{digits, fields, line, accepted_word, refused_word, configuration_lines, accepted_lines, listing}
use Rattle.listing.specs.Listed.{room}
use Rattle.listing.specs.Written.{descriptor_lines}
use Rattle.descriptors.proofs.GoodBody.{GoodDescriptors, good-cut, good-body}
use Rattle.listing.proofs.Lines.{descriptor_line, head_line, lines-flat, configuration-lines}

-- ---- a line: its word, six bytes for each field, and the line feed
digits-length : (n x : ℕ) → length (digits n x) ≤ n
unfolding digits
digits-length zero x = omega arith
digits-length (suc n) x = go (ltb x 10) (digits-length n (x / 10))
  where
    go : (b : Bool) → length (digits n (x / 10)) ≤ n → length (pick b ((48 + x) ∷ []) (digits n (x / 10) ++ ((48 + x % 10) ∷ []))) ≤ suc n
    go true h = omega arith
    go false h = rw length-append (omega arith)

fields-length : (xs : List ℕ) → length (fields xs) ≤ 1 + 6 * length xs
unfolding fields
fields-length [] = omega arith
fields-length (x ∷ xs) = rw length-append (omega (arith, digits-length 5 x, fields-length xs))

line-length : (word xs : List ℕ) → length (line word xs) ≤ length word + 1 + 6 * length xs
line-length word xs = rw length-append (omega (arith, fields-length xs))

-- ---- texts of many parts
lengths : List (List ℕ) → ℕ
lengths [] = 0
lengths (x ∷ xs) = length x + lengths xs

module _ (f : List ℕ → List ℕ) (good : List ℕ → Bool) (short : (x : List ℕ) → good x ≡ true → length (f x) ≤ 3 * length x) where
  flat-length : (xs : List (List ℕ)) → every good xs ≡ true → length (flat_map f xs) ≤ 3 * lengths xs
  unfolding lengths every flat_map
  flat-length [] p = omega arith
  flat-length (x ∷ xs) p = let (q, r) = both (good x) (every good xs) p in rw length-append (omega (arith, short x q, flat-length xs r))

-- ---- descriptors
-- what a body is cut into is no longer than it
cut-lengths : (k : ℕ) (xs : List ℕ) → lengths (descriptors_of (cut_after k xs)) ≤ length xs - k
unfolding cut_after descriptors_of lengths
cut-lengths zero [] = omega arith
cut-lengths (suc k) [] = omega arith
cut-lengths (suc k) (b ∷ bs) = omega (arith, cut-lengths k bs)
cut-lengths zero (b ∷ bs) = go (leb 2 b) refl (cut-lengths (b - 1) bs)
  where
    go : (t : Bool) → leb 2 b ≡ t → lengths (descriptors_of (cut_after (b - 1) bs)) ≤ length bs - (b - 1)
        → lengths (descriptors_of (pick t (descriptor (take b (b ∷ bs)) (cut_after (b - 1) bs)) broken)) ≤ length (b ∷ bs) - 0
    go true p h = let l = leb-true 2 b p in rw length-take (omega arith)
    go false p h = omega arith

module _ (limits : Limits) where
  interface-size : (d : List ℕ) → good_descriptor limits d ≡ true → is_interface d ≡ true → 9 ≤ length d
  interface-size d p q =
      let rules = not (named refused_types (bDescriptorType d)) ∷ (is_interface d ⇒ leb 9 (length d)) ∷ (is_endpoint d ⇒ good_endpoint limits d) ∷ [] in
      leb-true 9 (length d) (if-then (is_interface d) (leb 9 (length d)) (conjunct 1 rules p) q)

  endpoint-size : (d : List ℕ) → good_descriptor limits d ≡ true → is_endpoint d ≡ true → 7 ≤ length d
  endpoint-size d p q =
      let rules = not (named refused_types (bDescriptorType d)) ∷ (is_interface d ⇒ leb 9 (length d)) ∷ (is_endpoint d ⇒ good_endpoint limits d) ∷ [] in
      let transfer = transfer_type (bmAttributes d) in
      let parts = leb 7 (length d) ∷ good_address (bEndpointAddress d) ∷ good_attributes (bmAttributes d) ∷ good_size limits transfer (wMaxPacketSize d) ∷ good_interval limits transfer (bInterval d) ∷ [] in
      leb-true 7 (length d) (conjunct 0 parts (if-then (is_endpoint d) (good_endpoint limits d) (conjunct 2 rules p) q))

  descriptor-length : (d : List ℕ) → good_descriptor limits d ≡ true → length (descriptor_line d) ≤ 3 * length d
  descriptor-length d p = go (is_interface d) (is_endpoint d) refl refl
    where
      go : (b c : Bool) → is_interface d ≡ b → is_endpoint d ≡ c → length (descriptor_line d) ≤ 3 * length d
      go true c q r = rw q (omega (arith, interface-size d p q, fields-length (byte d 2 ∷ byte d 3 ∷ byte d 4 ∷ [])))
      go false true q r = rw (q, r) (omega (arith, endpoint-size d p r, fields-length (byte d 2 ∷ byte d 3 % 4 ∷ wMaxPacketSize d ∷ [])))
      go false false q r = rw (q, r) (omega arith)

  -- ---- a configuration
  descriptors-length : (size : ℕ) (ds : List (List ℕ)) → GoodDescriptors limits size ds → 14 + length (flat_map descriptor_line (behind ds)) ≤ 3 * lengths ds
  unfolding lengths
  descriptors-length size ds good =
      let d = good.first in
      let head = eqb (bDescriptorType d) 2 ∷ leb 9 (length d) ∷ eqb (wTotalLength d) size ∷ eqb (configuration_attributes d / 128) 1 ∷ eqb (configuration_attributes d % 32) 0 ∷ leb (bMaxPower d) 250 ∷ leb 1 (bNumInterfaces d) ∷ leb (bNumInterfaces d) 16 ∷ [] in
      omega (arith, leb-true 9 (length d) (conjunct 1 head good.head), ap lengths good.begins, flat-length descriptor_line (good_descriptor limits) descriptor-length (behind ds) good.each)

  configuration-length : (body : List ℕ) → good_configuration limits body ≡ true → length (configuration_lines body) ≤ 3 * length body
  configuration-length body p =
      let ds = descriptors_of (cut body) in
      omega (arith, ap length (configuration-lines limits body p) ∙ length-append (head_line body) (descriptor_lines body), ap length (lines-flat body (good-cut limits body p)), line-length (67 ∷ []) (bConfigurationValue body ∷ bNumInterfaces body ∷ []), descriptors-length (length body) ds (good-body limits body p), cut-lengths 0 body)

-- ---- a set
-- the bodies of one type, of entries that lie end to end
bodies-length : (set : List ℕ) (f : Entry → Bool) (start end : ℕ) (es : List Entry) → end_to_end start end es ≡ true → start + lengths (map (body_of set) (only f es)) ≤ end
unfolding end_to_end only lengths
bodies-length set f start end [] p = omega (arith, eqb-true start end p)
bodies-length set f start end (e ∷ es) p = go (f e) (bodies-length set f (start + e.length) end es (both (eqb e.offset start) (end_to_end (start + e.length) end es) p).1)
  where
    go : (b : Bool) → start + e.length + lengths (map (body_of set) (only f es)) ≤ end → start + lengths (map (body_of set) (pick b (e ∷ only f es) (only f es))) ≤ end
    go true h = rw length-take (omega arith)
    go false h = omega arith

accepted-length : (limits : Limits) (b : Board) → Groups limits b → length (accepted_lines b.set) ≤ room
unfolding good_frame good_contents
accepted-length limits b g =
    let set = b.set in
    let frame = leb 4 (length set) ∷ leb (length set) 16384 ∷ eqb (total set) (length set) ∷ leb 1 (count set) ∷ leb (count set) 64 ∷ eqb (byte set 3) 0 ∷ leb (bodies_at set) (total set) ∷ [] in
    let contents = every (λ e. named limits.entries e.kind) (entries set) ∷ neighbours before (entries set) ∷ every (λ e. leb 2 e.length) (entries set) ∷ end_to_end (bodies_at set) (total set) (entries set) ∷ [] in
    rw length-append
    (omega (
      arith,
      leb-true (length set) 16384 (conjunct 1 frame g.frame),
      eqb-true (total set) (length set) (conjunct 2 frame g.frame),
      leb-true 1 (count set) (conjunct 3 frame g.frame),
      line-length accepted_word (length (bodies 2 set) ∷ []),
      bodies-length set (is_kind 2) (bodies_at set) (total set) (entries set) (conjunct 3 contents g.contents),
      flat-length configuration_lines (good_configuration limits) (configuration-length limits) (bodies 2 set) (each-rule limits set g.configurations).good,
    ))

-- every board's text
pub listing-length : (limits : Limits) (b : Board) → length (listing limits b) ≤ room
unfolding listing
listing-length limits b = go (eqb (opening limits b) 0) refl
  where
    go : (t : Bool) → eqb (opening limits b) 0 ≡ t → length (pick t (accepted_lines b.set) (line refused_word (opening limits b ∷ []))) ≤ room
    go true p = accepted-length limits b (groups limits b (eqb-true (opening limits b) 0 p))
    go false p = omega (arith, line-length refused_word (opening limits b ∷ []))
