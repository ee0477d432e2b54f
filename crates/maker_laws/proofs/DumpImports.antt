-- What import accepts, and what it leaves. No axiom.
use Rattle.octets.proofs.Vocabulary.{◌≡◌, refl, ap, ◌∙◌, ℕ, ◌≤◌, List, [], ◌∷◌, map, Bool, true, false, not, length, drop, length-append, length-drop, eqb, leb, ltb, arith, eqb-true, eq-eqb, leb-true, leb-false, eqb-false, ltb-false, le-ltb, not-false}
use Rattle.octets.specs.Octets.{byte}
use Rattle.octets.specs.Sentences.{pick, ◌⇒◌, every, any, first}
use Rattle.octets.proofs.Sentences.{cases, never, conjunct, any_none, member-every}
use Rattle.descriptors.specs.Limits.{full_speed}
use Rattle.sets.specs.Contents.{total, count, bodies_at, good_frame}
use Rattle.sets.specs.Device.{device_body, iSerialNumber}
use Rattle.sets.specs.Strings.{references, good_strings}
use Rattle.sets.specs.Opening.{lent, opening}
use Rattle.sets.proofs.Groups.{groups, texts-in}
use Rattle.sets.specs.Pieces.{Piece, pieces_in, pieces_of}
use Rattle.set_writer.specs.Writer.{laid, opens_as, handing}
use Rattle.dumps.specs.Dump.{flat, splits, device_in, configurations_in, zeroed_device, zeroed_configuration, zeroed, pieces_for, imported, exported, exporting, too_large, importing}
use Rattle.dumps.proofs.Splitting.{flat-bodies}
use Rattle.dumps.proofs.Blanking.{blanked-length}
use Rattle.dumps.proofs.Streaming.{zeroed-length, whole-splits, device-size}
use Rattle.dumps.specs.Import.{Accepted}
use Rattle.maker_laws.proofs.DumpByType.{device-again, configurations-again, no-strings}

-- ---- "Import accepts exactly if the dump splits, the resulting set opens with an empty serial block and the buffer holds it."
picked : (t : Bool) (a b : ℕ) → (a ≡ 0 → ⊥) → pick t a b ≡ 0 → (t ≡ false) × (b ≡ 0)
picked true a b h p = absurd (h p)
picked false a b h p = (refl, p)

pub accepted : (dump : List ℕ) (room : ℕ) → importing dump room ≡ 0 → Accepted dump room
accepted dump room p =
    let o = opens_as full_speed (imported dump) [] in
    let (a, q) = picked (not (splits dump)) 23 _ (omega arith) p in
    let (b, r) = picked (too_large dump) 21 (handing full_speed (imported dump) [] room) (omega arith) q in
    let (c, s) = picked (not o) 21 (pick (ltb room (length (imported dump))) 22 0) (omega arith) r in
    let (d, t) = picked (ltb room (length (imported dump))) 22 0 (omega arith) s in
    record { whole = not-false (splits dump) a; opens = not-false o c; fits = ltb-false room (length (imported dump)) d }

-- an opened set has at most 64 pieces and 16,384 bytes
count-laid : (ps : List Piece) → count (laid ps) ≡ length ps
unfolding laid
count-laid ps = refl

small : (ps : List Piece) → opens_as full_speed (laid ps) [] ≡ true → (length ps ≤ 64) × (length (laid ps) ≤ 16384)
unfolding good_frame
small ps p =
    let set = laid ps in
    let g = groups full_speed (lent set []) (eqb-true (opening full_speed (lent set [])) 0 p) in
    let frame = leb 4 (length set) ∷ leb (length set) 16384 ∷ eqb (total set) (length set) ∷ leb 1 (count set) ∷ leb (count set) 64 ∷ eqb (byte set 3) 0 ∷ leb (bodies_at set) (total set) ∷ [] in
    (omega (arith, count-laid ps, leb-true (count set) 64 (conjunct 4 frame g.frame)), leb-true (length set) 16384 (conjunct 1 frame g.frame))

pub answers : (dump : List ℕ) (room : ℕ) → splits dump ≡ true → opens_as full_speed (imported dump) [] ≡ true → importing dump room ≡ pick (ltb room (length (imported dump))) 22 0
answers dump room whole opens =
    let (n, l) = small (pieces_for dump) opens in
    rw (whole, le-ltb 64 (length (pieces_for dump)) n, le-ltb 16384 (length (imported dump)) l, opens)

pub accepts : (dump : List ℕ) (room : ℕ) → Accepted dump room → importing dump room ≡ 0
accepts dump room a = answers dump room a.whole a.opens ∙ rw (le-ltb room (length (imported dump)) a.fits)

-- ---- "string references set to zero": no reference of the set is left
pub no-references : (dump : List ℕ) → opens_as full_speed (imported dump) [] ≡ true → every (λ r. eqb r 0) (references (imported dump)) ≡ true
unfolding good_strings references first
no-references dump p =
    let set = imported dump in
    let g = groups full_speed (lent set []) (eqb-true (opening full_speed (lent set [])) 0 p) in
    let nothing = no-strings (zeroed_device (device_in dump)) (map zeroed_configuration (configurations_in dump)) in
    let z = rw nothing at (texts-in (references set) (iSerialNumber (device_body set)) (pieces_of 3 (pieces_in set)) g.strings).there in
    let n = none-there (any (λ r. leb 1 r) (references set)) z in
    member-every (λ r. eqb r 0) (references set) (λ r m. zero_is r (any_none (λ r. leb 1 r) n m))
  where
    none-there : (b : Bool) → (b ⇒ false) ≡ true → b ≡ false
    none-there true q = never q refl
    none-there false q = refl

    zero_is : (r : ℕ) → leb 1 r ≡ false → eqb r 0 ≡ true
    zero_is r q = eq-eqb r 0 (cases (eqb r 0) (λ e. eqb-true r 0 e) (λ e. absurd (apart r q e)))
      where
        apart : (r : ℕ) → leb 1 r ≡ false → eqb r 0 ≡ false → ⊥
        apart r q e = omega (arith, leb-false 1 r q, eqb-false r 0 e)

-- ---- "Export of an imported dump gives the dump back but for the zeroed references."
pub again : (dump : List ℕ) → exported (imported dump) ≡ zeroed dump
again dump =
    let device = zeroed_device (device_in dump) in
    let configurations = map zeroed_configuration (configurations_in dump) in
    rw (device-again device configurations, configurations-again device configurations)

pub flat-length : (bs : List (List ℕ)) → length (flat (map zeroed_configuration bs)) ≡ length (flat bs)
unfolding flat
flat-length [] = refl
flat-length (b ∷ bs) = omega (arith, length-append (zeroed_configuration b) (flat (map zeroed_configuration bs)), length-append b (flat bs), zeroed-length b, flat-length bs)

pub same_length : (dump : List ℕ) → splits dump ≡ true → length (zeroed dump) ≡ length dump
same_length dump p =
    let (h, q) = whole-splits dump p in
    omega (
      arith,
      length-append (zeroed_device (device_in dump)) (flat (map zeroed_configuration (configurations_in dump))),
      blanked-length (14 ∷ 15 ∷ 16 ∷ []) (device_in dump),
      device-size dump p,
      flat-length (configurations_in dump),
      ap length (flat-bodies (drop 18 dump) q),
      length-drop 18 dump,
    )

-- the number, where the dump was imported
pub exports : (dump : List ℕ) (room : ℕ) → Accepted dump room → (buffer : ℕ) → length dump ≤ buffer → exporting (imported dump) [] buffer ≡ 0
exports dump room a buffer h =
    rw (a.opens, again dump, le-ltb buffer (length (zeroed dump)) (omega (arith, same_length dump a.whole)))
