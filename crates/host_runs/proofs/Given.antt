-- What the host reads is what the maker gave, and what it collects is what hk_export writes (specs/Given). No axiom.
use Rattle.octets.proofs.Vocabulary.{◌≡◌, refl, sym, ap, ◌∙◌, ℕ, ◌≤◌, List, [], ◌∷◌, ◌++◌, map, List-as-Memᴰ, true, false, length, take, eqb, arith}
use Rattle.octets.specs.Octets.{Bytes}
use Rattle.octets.specs.Sentences.{up_to}
use Rattle.octets.proofs.Sentences.{cases}
use Rattle.octets.proofs.Counting.{told}
use Rattle.descriptors.specs.Configuration.{wTotalLength}
use Rattle.descriptors.specs.Limits.{full_speed}
use Rattle.sets.specs.Contents.{bodies}
use Rattle.sets.specs.Device.{device_body, bNumConfigurations}
use Rattle.sets.specs.Pieces.{Piece, piece_for, pieces_in}
use Rattle.sets.specs.Opening.{Board, BytesOf, lent, lent_two}
use Rattle.sets.specs.View.{accepted}
use Rattle.set_writer.specs.Writer.{pieces, set_of}
use Rattle.set_writer.proofs.Accepted.{mapping}
use Rattle.maker_promises.specs.Written.{there, found, written_bytes}
use Rattle.records.specs.declared.Device.{Device}
use Rattle.records.specs.Device.{in_test_mode, settled}
use Rattle.records.specs.Image.{device_of}
use Rattle.records.specs.Current.{set_for}
use Rattle.dumps.specs.Dump.{flat, exported}
use Rattle.enumeration.specs.Script.{Line, sees, Plays, Ready, get_descriptor}
use Rattle.enumeration.specs.Bodies.{configuration_body}
use Rattle.enumeration.proofs.Playing.{Stays, ready, each-alone, all-below, all_map}
use Rattle.enumeration.proofs.Found.{got, eighteen, many, whole_length, two_byte_length}
use Rattle.enumeration.proofs.Reading.{sees_reads, next_reads, whole, reads_device, reads_configuration}
use Rattle.enumeration.proofs.Boards.{no_test_mode}
use Rattle.enumeration.proofs.EveryPiece.{every_piece}
use Rattle.board.specs.Exports.{Spots}
use Rattle.board.specs.Makers.{Writes}
use Rattle.board.specs.Runs.{met}
use Rattle.host_runs.specs.Calls.{seen_given, CalledSince}
use Rattle.host_runs.specs.Given.{ReadFrom, ReadsGiven, ReadsGivenTwo, whole_line, collecting, CollectsWhatIsExported}
use Rattle.host_runs.proofs.Calls.{sees_call}
use Rattle.host_runs.proofs.NeverLockedOut.{ready_image, accepted_since, fits_since, played_after}

-- ---- after any run, every piece of the set in use is read
module _ (b : Board) (lie : Spots) (bytes : BytesOf b) (last : List ℕ) (since : CalledSince b lie last) (calm : in_test_mode (device_of last) ≡ false) where
  read-piece : (p : Piece) → List-as-Memᴰ p (pieces_in (set_for b (device_of last).speed)) → (asked : ℕ) → asked ≤ 65535
      → ReadFrom b lie last p.kind p.index p.language asked (take asked p.body)
  read-piece p m asked s call g next e meets =
      let f = fits_since b lie bytes last since in
      let r = every_piece b bytes (accepted_since b lie bytes last since) (ready_image f calm) p m asked s in
      ap seen_given (met b lie meets).0 ∙ sees_call b lie last f call ∙ ap (sees b (device_of last)) e ∙ sees_reads r

-- a piece of a stream is one of its set
in-set : (stream : List ℕ) (p : Piece) → List-as-Memᴰ p (pieces stream) → List-as-Memᴰ p (pieces_in (set_of stream))
in-set stream p m = let (e, k, q) = found stream p m in rw q (mapping (piece_for (set_of stream)) k)

-- ---- hk_write gave 0
module _ {stream serial buffer left : List ℕ} {size : ℕ} (wrote : Writes full_speed stream serial buffer 0 left size) where
  -- what lies in the buffer is the set of the pieces
  is_set : take size left ≡ set_of stream
  is_set = ap (λ (k : ℕ). take k left) wrote.counts ∙ there wrote.fills refl

  pub bytes-so : Bytes (take size left)
  bytes-so = rw is_set (written_bytes full_speed stream serial (length buffer) wrote.octets (sym wrote.fills.number))

pub reads_given : ReadsGiven
reads_given stream serial buffer left size wrote lie last since p m asked s =
    let b = lent (take size left) serial in
    let bytes : BytesOf b = (bytes-so wrote, tt) in
    let calm = no_test_mode (take size left) serial (device_of last) (fits_since b lie bytes last since).fit in
    read-piece b lie bytes last since calm p (rw (is_set wrote) (in-set stream p m)) asked s

pub reads_given_two : ReadsGivenTwo
reads_given_two slow fast serial bytes lie last since calm p m asked s =
    read-piece (lent_two (set_of slow) (set_of fast) serial) lie bytes last since calm p
    (cases (eqb (device_of last).speed 0) (λ t. rw t (in-set slow p (rw t at m))) (λ t. rw t (in-set fast p (rw t at m)))) asked s

-- ---- what a host collects
map_same : (l : List (List ℕ)) → map (λ (x : List ℕ). x) l ≡ l
map_same [] = refl
map_same (x ∷ l) = ap (λ (r : List (List ℕ)). x ∷ r) (map_same l)

module _ (b : Board) (bytes : BytesOf b) (ok : accepted b ≡ true) {d : Device} (r : Ready b d) where
  plays-it : Plays b d (collecting b d.speed) (settled d)
  plays-it =
      let set = set_for b d.speed in
      let long = eighteen b ok d.speed in
      let first = whole 18 (device_body set) (reads_device b bytes ok r 18 (omega arith)) (omega arith) in
      let still = ready bytes ok (get_descriptor 1 0 0 18) r first.steps r.calm in
      next_reads first (each-alone (map (whole_line set) (up_to (bNumConfigurations (device_body set)))) (all_map (Stays b (settled d)) (whole_line set) (up_to (bNumConfigurations (device_body set))) (all-below _ (bNumConfigurations (device_body set)) (λ i l.
      let body = configuration_body set i in
      let total = whole_length b ok d.speed i l in
      let small = two_byte_length b ok d.speed i l bytes in
      let x = whole (wTotalLength body) body (reads_configuration b bytes ok still i l (wTotalLength body) (omega arith)) (omega arith) in
      (x.answer, x.steps, x.sees)))))

  -- their bytes, one after the other, are the device descriptor and the configurations' bodies
  bodies-read : (xs : List ℕ) → (let set = set_for b d.speed in
      map (λ (l : Line). l.1.reads) (map (whole_line set) xs) ≡ map (configuration_body set) xs)
  bodies-read [] = refl
  bodies-read (x ∷ xs) = ap (λ (r : List (List ℕ)). configuration_body (set_for b d.speed) x ∷ r) (bodies-read xs)

  all_read : flat (map (λ (l : Line). l.1.reads) (collecting b d.speed)) ≡ exported (set_for b d.speed)
  unfolding flat
  all_read =
      let set = set_for b d.speed in
      let every : map (configuration_body set) (up_to (bNumConfigurations (device_body set))) ≡ bodies 2 set =
      rw (many b ok d.speed) (told (configuration_body set) (λ (x : List ℕ). x) (bodies 2 set) (λ k x e. got (bodies 2 set) k e) ∙ map_same (bodies 2 set)) in
      ap (λ (r : List (List ℕ)). device_body set ++ flat r) (bodies-read (up_to (bNumConfigurations (device_body set))) ∙ every)

pub collects_what_is_exported : CollectsWhatIsExported
collects_what_is_exported set serial lie octets last since =
    let b = lent set serial in
    let bytes : BytesOf b = (octets, tt) in
    let f = fits_since b lie bytes last since in
    let ok = accepted_since b lie bytes last since in
    let calm = no_test_mode set serial (device_of last) f.fit in
    let r = ready_image f calm in
    record {
      plays = played_after b lie bytes last since calm (collecting b 0) (settled (device_of last)) (λ k x. plays-it b bytes k x);
      exports = λ buffer left size wrote. ap (λ (k : ℕ). take k left) wrote.counts ∙ there wrote.fills refl ∙ sym (all_read b bytes ok r);
    }
