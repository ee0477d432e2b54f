-- GET_DESCRIPTOR on an accepted board, at every record that fits and is in no test mode: the device descriptor, every configuration, string 0 and every string that is
-- referred to, for every wLength: its first wLength bytes, or the whole of it. No axiom.
use Rattle.octets.proofs.Vocabulary.{◌≡◌, refl, sym, ap, ◌∙◌, ℕ, suc, ◌≤◌, ◌<◌, min, List, [], ◌∷◌, List-as-Memᴰ, List·Memᴰ·cases-cons, List·Memᴰ·not-nil, true, false, Option, some, none, ◌⊎◌, inl, inr, ⊎_elim, length, take, drop, eqb, ltb, take_all, arith, ltb-true, lt-ltb, leb-true, eqb-true, ne_eqb}
use Rattle.octets.specs.Octets.{Bytes, part}
use Rattle.octets.specs.Sentences.{is_empty}
use Rattle.octets.proofs.Sentences.{cases, every-member, member-every, first_some, only-member, conjunct}
use Rattle.sets.specs.Device.{device_body, bNumConfigurations, iSerialNumber}
use Rattle.sets.specs.Strings.{words, languages, languages_in, zero_of, is_string_zero, references, is_nonzero, up_to254, even_length, says_its_length, typed_string}
use Rattle.sets.specs.Contents.{entries}
use Rattle.sets.specs.Pieces.{Piece, piece_for, pieces_in, pieces_of, kind_of}
use Rattle.sets.proofs.Bodies.{mapped, bytes-part}
use Rattle.set_writer.proofs.Bytewise.{drop-bytes}
use Rattle.sets.specs.Opening.{Board, BytesOf, at_least4, good_block}
use Rattle.sets.specs.View.{accepted}
use Rattle.sets.proofs.Bounds.{references-alike}
use Rattle.records.specs.declared.Device.{Device}
use Rattle.records.specs.Device.{settled}
use Rattle.records.specs.Current.{set_at, view_at}
use Rattle.records.proofs.InUse.{bytes_for}
use Rattle.events.specs.declared.Event.{Event}
use Rattle.events.specs.declared.facts.Located.TheVariants.{Body}
use Rattle.events.specs.Answer.{Answer, SetPart, SerialPart, Outcome, gives}
use Rattle.events.specs.Requests.{locate, describe}
use Rattle.events.specs.Step.{step}
use Rattle.enumeration.specs.Script.{seen_of, sees, Line, line, reading, Plays, get_descriptor, Ready}
use Rattle.enumeration.specs.Bodies.{configuration_body, piece_body, string_body}
use Rattle.enumeration.proofs.Asking.{asked, gets}
use Rattle.enumeration.proofs.Found.{cut-part, rules, device_entry, few, configuration_entry}
use Rattle.enumeration.proofs.Located.{located_device, located_configuration, zero_at, located_zero, named_at, located_string, located_serial}
use Rattle.enumeration.proofs.Playing.{next}

-- the event is answered 0, the host reads these bytes, and the record stays as it is, but for what every setup settles (a waiting address is dropped, a suspended device is awake)
pub record Reads (b : Board) (d : Device) (e : Event) (bytes : List ℕ) : Type 0 where
  pub answer : Answer
  pub steps : step b d e ≡ gives answer (settled d)
  pub sees : seen_of b d.speed answer ≡ reading bytes

pub sees_reads : {b : Board} {d : Device} {e : Event} {bytes : List ℕ} → Reads b d e bytes → sees b d e ≡ reading bytes
sees_reads {b} {d} r = ap (λ (o : Outcome). seen_of b d.speed o.answer) r.steps ∙ r.sees

-- as a line of a script
pub next_reads : {b : Board} {d last : Device} {e : Event} {bytes : List ℕ} {rest : List Line} → Reads b d e bytes → Plays b (settled d) rest last
    → Plays b d (line e (reading bytes) ∷ rest) last
next_reads r p = next r.steps r.sees p

-- a descriptor that is read whole
pub whole : {b : Board} {d : Device} {e : Event} (size : ℕ) (body : List ℕ) → Reads b d e (take size body) → length body ≤ size → Reads b d e body
whole size body r l = record { answer = r.answer; steps = r.steps; sees = r.sees ∙ ap reading (take_all size body l) }

-- ---- indices and languages are of one byte and of two
pub reference_byte : (set : List ℕ) → Bytes set → (r : ℕ) → List-as-Memᴰ r (references set) → r < 256
reference_byte set h r m =
    ltb-true r 256 (every-member (λ (x : ℕ). ltb x 256)
    (references-alike set h (λ x. ltb x 256) (λ x. true) (λ x l. lt-ltb x 256 l) ∙ member-every (λ (x : ℕ). true) (references set) (λ x n. refl)) m)

words_small : (bytes : List ℕ) → Bytes bytes → (l : ℕ) → List-as-Memᴰ l (words bytes) → l ≤ 65535
unfolding words
words_small [] h l m = absurd (List·Memᴰ·not-nil m)
words_small (x ∷ []) h l m = absurd (List·Memᴰ·not-nil m)
words_small (x ∷ y ∷ bytes) h l m = ⊎_elim (λ p. rw p (omega (arith, h 0, h 1))) (λ n. words_small bytes (λ i. h (suc (suc i))) l n) (List·Memᴰ·cases-cons m)

pub language_word : (set : List ℕ) → Bytes set → (l : ℕ) → List-as-Memᴰ l (languages set) → l ≤ 65535
unfolding languages
language_word set h l m = go (zero_of (pieces_of 3 (pieces_in set))) refl m
  where
    go : (o : Option Piece) → zero_of (pieces_of 3 (pieces_in set)) ≡ o → List-as-Memᴰ l (languages_in o) → l ≤ 65535
    go none e n = absurd (List·Memᴰ·not-nil n)
    go (some p) e n =
        let (k, t) = first_some is_string_zero (pieces_of 3 (pieces_in set)) e in
        let (j, u) = only-member (kind_of 3) (pieces_in set) k in
        let (x, v, w) = mapped (piece_for set) (entries set) j in
        words_small (drop 2 p.body) (drop-bytes 2 p.body (rw w (bytes-part set x.offset x.length h))) l n

module _ (b : Board) (octets : BytesOf b) (ok : accepted b ≡ true) {d : Device} (r : Ready b d) where
  abbrev set : List ℕ
  set = set_at b d

  module _ (kind index language size : ℕ) (k : kind < 256) (i : index < 256) (l : language ≤ 65535) (s : size ≤ 65535) (at : (kind ≡ 3) ⊎ (language ≡ 0)) where
    pub from-set : (offset long : ℕ) (body : List ℕ) → locate (view_at b d) (asked kind index language size) ≡ Body offset long → body ≡ part set offset long
        → Reads b d (get_descriptor kind index language size) (take size body)
    from-set offset long body p q = record {
      answer = SetPart offset (min long size);
      steps = gets b ok r kind index language size k i l s at ∙ ap (describe (settled d) size) p;
      sees = ap reading (cut-part set offset long size ∙ ap (take size) (sym q));
    }

  -- ---- the device descriptor
  pub reads_device : (size : ℕ) → size ≤ 65535 → Reads b d (get_descriptor 1 0 0 size) (take size (device_body set))
  reads_device size s =
      let e = device_entry b ok d.speed in
      from-set 1 0 0 size (omega arith) (omega arith) (omega arith) s (inr refl) e.entry.offset e.entry.length (device_body set) (located_device b ok d.speed size) e.body

  -- ---- every configuration
  pub reads_configuration : (i : ℕ) → i < bNumConfigurations (device_body set) → (size : ℕ) → size ≤ 65535
      → Reads b d (get_descriptor 2 i 0 size) (take size (configuration_body set i))
  reads_configuration i l size s =
      let small = few b ok d.speed in
      let e = configuration_entry b ok d.speed i l in
      from-set 2 i 0 size (omega arith) (omega arith) (omega arith) s (inr refl) e.entry.offset e.entry.length (configuration_body set i)
      (located_configuration b ok d.speed i l (omega arith) size) e.body

  -- ---- string 0, where languages are listed
  pub reads_zero : is_empty (languages set) ≡ false → (size : ℕ) → size ≤ 65535 → Reads b d (get_descriptor 3 0 0 size) (take size (piece_body set 3 0 0))
  reads_zero some-listed size s =
      let e = zero_at b ok d.speed some-listed in
      from-set 3 0 0 size (omega arith) (omega arith) (omega arith) s (inl refl) e.entry.offset e.entry.length (piece_body set 3 0 0)
      (located_zero b ok d.speed some-listed size) e.body

  -- ---- every string that the descriptors name, in every listed language
  module _ (index language : ℕ) (refers : List-as-Memᴰ index (references set)) (nonzero : is_nonzero index ≡ true) (listed : List-as-Memᴰ language (languages set)) where
    small : index < 256
    small = reference_byte set (bytes_for b d.speed octets) index refers

    two_bytes : language ≤ 65535
    two_bytes = language_word set (bytes_for b d.speed octets) language listed

    pub reads_string : (size : ℕ) → size ≤ 65535 → Reads b d (get_descriptor 3 index language size) (take size (string_body b d.speed index language))
    reads_string size s = cases (eqb index (iSerialNumber (device_body set)))
        (λ p. record {
          answer = SerialPart (min (length b.serial) size);
          steps = gets b ok r 3 index language size (omega arith) small two_bytes s (inl refl)
              ∙ ap (describe (settled d) size) (located_serial b ok d.speed index language refers nonzero listed small p size);
          sees = rw p (ap reading (cut-part b.serial 0 (length b.serial) size ∙ ap (take size) (take_all (length b.serial) b.serial (omega arith))));
        })
        (λ p.
        let e = named_at b ok d.speed index language refers nonzero listed p in
        rw p (from-set 3 index language size (omega arith) small two_bytes s (inl refl) e.entry.offset e.entry.length (piece_body set 3 index language)
        (located_string b ok d.speed index language refers nonzero listed small p size) e.body))

    serial-short : eqb (iSerialNumber (device_body set)) 0 ≡ false → length b.serial ≤ 254
    unfolding good_block
    serial-short z =
        let block = b.serial in
        leb-true (length block) 254 (conjunct 1 (at_least4 block ∷ up_to254 block ∷ even_length block ∷ says_its_length block ∷ typed_string block ∷ []) (rw z at (rules b ok d.speed).serial))

    -- none is longer than 254
    pub string_short : length (string_body b d.speed index language) ≤ 254
    string_short = cases (eqb index (iSerialNumber (device_body set)))
        (λ p. rw p (serial-short (ne_eqb (iSerialNumber (device_body set)) 0 (λ z. omega (arith, eqb-true index (iSerialNumber (device_body set)) p, leb-true 1 index nonzero)))))
        (λ p. rw p (named_at b ok d.speed index language refers nonzero listed p).short)
