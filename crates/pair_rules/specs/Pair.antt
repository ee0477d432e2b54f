-- Rule 24, part by part: types 6 and 7 of one set of a pair, beside the other set. Places are bytes of the one set.
use Rattle.std.specs.Prelude.{ℕ, suc, ◌+◌, List, [], ◌∷◌, ◌++◌, false, length, eqb}
use Rattle.octets.specs.Sentences.{pick, is_empty}
use Rattle.sets.specs.declared.Entry.{Entry}
use Rattle.sets.specs.Contents.{body_of, is_kind, entries, entries_of}
use Rattle.sets.specs.Pieces.{piece_for, is_one, has_index, has_no_language}
use Rattle.sets.specs.Device.{device_body}
use Rattle.sets.specs.Pair.{same, qualifier_of, is_qualifier_of, retyped}
use Rattle.rules.specs.Findings.{Finding, asked, byte_at}
use Rattle.rules.specs.Device.{behind_strings}

-- how many leading bytes agree: the place of the first that differs
unfoldable pub agreeing : List ℕ → List ℕ → ℕ
agreeing [] ys = 0
agreeing (x ∷ xs) [] = 0
agreeing (x ∷ xs) (y ∷ ys) = pick (eqb x y) (suc (agreeing xs ys)) 0

-- ---- type 6: one entry, index 0, language 0, its body the device_qualifier of the other's device descriptor
abbrev pub qualifier_findings : List ℕ → List ℕ → ℕ → Entry → List Finding
qualifier_findings set device at e =
    asked 2402 (byte_at 0 at 1) (has_index 0 (piece_for set e)) ∷
    asked 2403 (byte_at 0 at 2) (has_no_language (piece_for set e)) ∷
    asked 2404 (byte_at 0 at 6) (eqb (length (body_of set e)) 10) ∷
    asked 2405 (byte_at e.offset (agreeing (body_of set e) (qualifier_of device)) 0) (is_qualifier_of device (body_of set e)) ∷ []

-- its entry is the first of a type above 3; a second one stands 8 bytes on
abbrev pub qualifier_entry_findings : List ℕ → List ℕ → List Entry → List Finding
qualifier_entry_findings set device [] = asked 2401 (byte_at 0 (behind_strings set) 0) (is_one {A = Entry} []) ∷ []
qualifier_entry_findings set device (e ∷ es) =
    asked 2401 (byte_at 0 (behind_strings set) 8) (is_one (e ∷ es)) ∷ qualifier_findings set device (behind_strings set) e

-- ---- type 7: an entry at `at` beside the configuration in the same place of the other set: its index, language 0, and the body but for its type byte, which is 7
abbrev pub mirror_findings : List ℕ → ℕ → Entry → Entry → List ℕ → List Finding
mirror_findings set at e f theirs =
    let body = body_of set e in
    asked 2407 (byte_at 0 at 1) (eqb e.index f.index) ∷
    asked 2408 (byte_at 0 at 2) (eqb e.language 0) ∷
    asked 2409 (byte_at 0 at 6) (eqb (length body) (length (retyped theirs))) ∷
    asked 2410 (byte_at e.offset (agreeing body (retyped theirs)) 0) (same body (retyped theirs)) ∷ []

-- or one entry too many
abbrev pub beside_findings : List ℕ → List ℕ → ℕ → Entry → List Entry → List Finding
beside_findings set other at e [] = asked 2406 (byte_at 0 at 0) false ∷ []
beside_findings set other at e (f ∷ fs) = mirror_findings set at e f (body_of other f)

abbrev pub later : List Entry → List Entry
later [] = []
later (f ∷ fs) = fs

-- the entries from `at` on, beside the configurations that are left; behind the last entry none is
unfoldable pub mirrors_from : List ℕ → List ℕ → ℕ → List Entry → List Entry → List Finding
mirrors_from set other at fs [] = asked 2406 (byte_at 0 at 0) (is_empty fs) ∷ []
mirrors_from set other at fs (e ∷ es) =
    pick (is_kind 7 e) (beside_findings set other at e fs ++ mirrors_from set other (at + 8) (later fs) es)
    (mirrors_from set other (at + 8) fs es)

-- ---- both
abbrev pub pair_findings : List ℕ → List ℕ → List Finding
pair_findings set other = qualifier_entry_findings set (device_body other) (entries_of 6 set) ++ mirrors_from set other 4 (entries_of 2 other) (entries set)
