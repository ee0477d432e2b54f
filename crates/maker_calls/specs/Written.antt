-- Document 02, L1 and L6, over exported calls: hk_write gave 0. hk_open of the first `written` bytes gives 0, every piece is found there, and a string that GET_DESCRIPTOR gives in a
-- listed language is a piece of that language, or the serial block. No axiom.
use Rattle.std.specs.Prelude.{ℕ, ◌/◌, ◌%◌, ◌≤◌, ◌≡◌, refl, Bool, ◌&&◌, length, take, drop, leb}
use native.Mathlib.Omega.{arith}
use Rattle.std.proofs.Common.{sym, ◌∙◌, take_all, eqb-true, eq-eqb, ne_eqb}
use Rattle.std.proofs.Math.Path.{ap}
use Rattle.std.proofs.Math.Bool.{true, false}
use mathlib.Core.List.{List, Memᴰ}
use Rattle.std.proofs.Math.Option.{Option, some, none}
use Rattle.std.proofs.Math.Dec.{eqb}
use Rattle.std.proofs.lemmas.Bool.{eqb-false}
use Rattle.octets.specs.Sentences.{pick, first, member}
use Rattle.octets.proofs.Sentences.{both, first_some}
use Rattle.descriptors.specs.Limits.{full_speed}
use Rattle.sets.specs.declared.Entry.{Entry}
use Rattle.sets.specs.Contents.{entries}
use Rattle.sets.specs.Device.{device_body, iSerialNumber}
use Rattle.sets.specs.Strings.{languages}
use Rattle.sets.specs.Pieces.{Piece, piece_for}
use Rattle.sets.specs.Opening.{Board, lent}
use Rattle.sets.specs.View.{View, view_of, accepted}
use Rattle.records.specs.declared.Device.{Device}
use Rattle.records.specs.Device.{in_test_mode, settled}
use Rattle.records.specs.Image.{device_of}
use Rattle.records.specs.Fits.{fits_on}
use Rattle.requests.specs.declared.Setup.{Setup}
use Rattle.requests.specs.Table.{setup_of}
use Rattle.events.specs.declared.Event.TheVariants.{Request}
use Rattle.events.specs.Answer.{Answer, Refused, Outcome, number_of, part_of, bytes_at}
use Rattle.events.specs.Requests.{is_entry, body_at, language_for, locate_string, locate, describe, get_descriptor}
use Rattle.events.specs.Step.{request, refusal_for, answer_setup, step, Reply, event, setup_event}
use Rattle.set_writer.specs.Writer.{pieces, set_of, writing}
use Rattle.laws.proofs.Outcomes.{chosen}
use Rattle.maker_laws.proofs.TrimRequests.{cut-body}
use Rattle.promises.specs.Refusal.{fresh_image}
use Rattle.maker_promises.specs.Written.{Under, there, found_under, nothing_else}
use Rattle.maker_promises.specs.Written as written
use Rattle.board.specs.Exports.{Opens, Spot, Spots, AnswersSetup}
use Rattle.board.specs.Makers.{Writes}
use Rattle.board.specs.Runs as runs

-- GET_DESCRIPTOR, 80 06, of a string: index and language
pub record AsksString (asked : List ℕ) (index language : ℕ) : Type 0 where
  pub whole : length asked ≡ 8
  pub request : (setup_of asked).bRequest ≡ 0x06
  pub kind : (setup_of asked).wValue / 256 ≡ 3
  pub index_is : (setup_of asked).wValue % 256 ≡ index
  pub language-is : (setup_of asked).wIndex ≡ language

-- what was asked for, cut to wLength bytes, is a piece's body, or the serial block
pub data StringGiven (stream serial : List ℕ) (index language serial_index wLength : ℕ) (shown : List ℕ) : Type 0 where
  from_piece : (p : Piece) → Memᴰ p (pieces stream) → p.kind ≡ 3 → p.index ≡ index → p.language ≡ language → shown ≡ take wLength p.body
      → StringGiven stream serial index language serial_index wLength shown
  from_serial : index ≡ serial_index → shown ≡ take wLength serial → StringGiven stream serial index language serial_index wLength shown

-- ---- GET_DESCRIPTOR of a string, in a language that the set lists
module _ (stream serial : List ℕ) (asked : List ℕ) {index language : ℕ} (asks : AsksString asked index language) (above : 1 ≤ index)
    (listed : member language (languages (set_of stream)) ≡ true) where
  abbrev set : List ℕ
  set = set_of stream

  abbrev b : Board
  b = lent set serial

  abbrev v : View
  v = view_of b

  abbrev s : Setup
  s = setup_of asked

  abbrev Shows : List ℕ → Type 0
  Shows shown = StringGiven stream serial index language (iSerialNumber (device_body set)) s.wLength shown

  -- an answer that gives something gives this
  abbrev Says : ℕ → Answer → Type 0
  Says speed a = number_of a ≡ 0 → Shows (bytes_at b speed (part_of a))

  refuses : (speed n : ℕ) → (n ≡ 0 → ⊥) → Says speed (Refused n)
  refuses speed n h z = absurd (h z)

  is-described : (d : Device) → request v d s ≡ describe d s.wLength (locate v s)
  unfolding request get_descriptor locate
  is-described d = rw asks.request

  -- the language asked for is the one that is given
  same-language : language_for v index language ≡ language
  unfolding view_of
  same-language = rw (ne_eqb index 0 (λ z. omega (arith, z, above)), listed)

  is-located : locate v s ≡ locate_string v index language
  unfolding locate
  is-located = rw (eq-eqb (s.wValue / 256) 3 asks.kind, asks.index_is, asks.language-is) (ap (λ (l : ℕ). locate_string v index l) same-language)

  from-entry : (d : Device) (speed : ℕ) (o : Option Entry) → first (is_entry 3 index language) (entries set) ≡ o → Says speed (describe d s.wLength (body_at o)).answer
  from-entry d speed none e = refuses speed 13 (λ z. omega arith)
  from-entry d speed (some x) e = λ z.
      let (m, t) = first_some (is_entry 3 index language) (entries set) e in
      let (a, l) = both (eqb x.kind 3 && eqb x.index index) (eqb x.language language) t in
      let (k, i) = both (eqb x.kind 3) (eqb x.index index) a in
      from_piece (piece_for set x) (nothing_else stream x m) (eqb-true x.kind 3 k) (eqb-true x.index index i) (eqb-true x.language language l) (cut-body x.length s.wLength (drop x.offset set))

  located : (d : Device) (speed : ℕ) → Says speed (describe d s.wLength (locate_string v index language)).answer
  unfolding view_of
  located d speed = chosen (λ l. Says speed (describe d s.wLength l).answer) (leb 1 index && eqb index (iSerialNumber (device_body set)))
      (λ p. chosen (λ l. Says speed (describe d s.wLength l).answer) (member language (languages set))
      (λ q z. from_serial (eqb-true index (iSerialNumber (device_body set)) (both (leb 1 index) (eqb index (iSerialNumber (device_body set))) p).1)
      (cut-body (length serial) s.wLength serial ∙ ap (take s.wLength) (take_all (length serial) serial (omega arith))))
      (λ q. refuses speed 13 (λ z. omega arith)))
      (λ p. from-entry d speed (first (is_entry 3 index language) (entries set)) refl)

  requested : (d : Device) (speed : ℕ) → Says speed (request v d s).answer
  requested d speed = rw (is-described d, is-located) (located d speed)

  answered : (d : Device) (speed : ℕ) → Says speed (answer_setup v d s).answer
  unfolding answer_setup
  answered d speed = chosen (λ (o : Outcome). Says speed o.answer) (in_test_mode d) (λ t. refuses speed 17 (λ z. omega arith))
      (λ t. chosen (λ (o : Outcome). Says speed o.answer) (eqb (refusal_for v.paired d s) 0) (λ n. requested (settled d) speed) (λ n. refuses speed (refusal_for v.paired d s) (eqb-false (refusal_for v.paired d s) 0 n)))

  stepped : (d : Device) (speed : ℕ) → Says speed (step b d (Request s)).answer
  unfolding step view_of
  stepped d speed = chosen (λ (o : Outcome). Says speed o.answer) (accepted b)
      (λ p. chosen (λ (o : Outcome). Says speed o.answer) (fits_on b d) (λ f. answered d speed) (λ f. refuses speed 8 (λ z. omega arith)))
      (λ p. refuses speed 7 (λ z. omega arith))

  given : (image : List ℕ) → Says (device_of image).speed (event b image (setup_event asked)).answer
  unfolding event
  given image = rw (eq-eqb (length asked) 8 asks.whole)
      (chosen (λ (r : Reply). Says (device_of image).speed r.answer) (eqb (length image) 32) (λ l. stepped (device_of image) (device_of image).speed)
      (λ l. refuses (device_of image).speed (pick (accepted b) 8 7) (unread (accepted b))))
    where
      unread : (t : Bool) → pick {A = ℕ} t 8 7 ≡ 0 → ⊥
      unread true z = omega arith
      unread false z = omega arith

-- ---- hk_write gave 0
module _ {stream serial buffer left : List ℕ} {size : ℕ} (wrote : Writes full_speed stream serial buffer 0 left size) where
  -- what lies in the buffer is the set of the pieces
  is_set : take size left ≡ set_of stream
  is_set = ap (λ (k : ℕ). take k left) wrote.counts ∙ there wrote.fills refl

  zero : writing full_speed stream serial (length buffer) ≡ 0
  zero = sym wrote.fills.number

  -- "What it writes, with the serial block given, the opener accepts"
  pub written_opens : {start image : List ℕ} {n : ℕ} → length start ≡ 32 → Opens (lent (take size left) serial) start n image → (n ≡ 0) × (image ≡ fresh_image)
  written_opens long o =
      let (_, accepts, left) = runs.opening long o in
      (accepts (rw is_set (written.opens full_speed stream serial (length buffer) zero)), left)

  -- "every piece is found again unchanged under its type, index and language"
  pub written_found : (p : Piece) → Memᴰ p (pieces stream) → (e : Entry) × Under (take size left) p e
  written_found p m = rw is_set (found_under full_speed stream serial (length buffer) zero p m)

  -- and the round trip through hk_setup "must now ask whether the language is listed" (L6): a string that is given in a listed language is a piece of that index and language, or the serial block
  pub written_string : {lie : Spots} {image asked : List ℕ} {next bytes : List ℕ} {count : ℕ} {shown : List ℕ} {spot : Spot} {index language : ℕ}
      → AnswersSetup (lent (take size left) serial) lie image asked 0 next bytes count shown spot → AsksString asked index language → 1 ≤ index
      → member language (languages (take size left)) ≡ true
      → StringGiven stream serial index language (iSerialNumber (device_body (take size left))) (setup_of asked).wLength shown
  written_string {image = image} {asked = asked} r asks above listed =
      let q = rw is_set at r in
      let z = given stream serial asked asks above (rw is_set at listed) image (sym q.answers.number) in
      rw (is_set, q.answers.shows) z
