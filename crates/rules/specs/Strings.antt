-- Group 5, rule by rule: the strings entry by entry; whether string 0 is there; and then what is judged by the languages that it lists, the entries' and the references.
-- Places are bytes of the set.
use Rattle.std.specs.Prelude.{ℕ, ◌+◌, ◌*◌, List, [], ◌∷◌, ◌++◌, ◌&&◌, not, length}
use Rattle.octets.specs.Sentences.{pick, is_some, is_empty}
use Rattle.descriptors.specs.Cut.{Cutting, whole, broken, descriptor, cut}
use Rattle.descriptors.specs.Descriptor.{is_interface, iInterface}
use Rattle.descriptors.specs.Configuration.{iConfiguration}
use Rattle.sets.specs.declared.Entry.{Entry}
use Rattle.sets.specs.Contents.{bodies_at, body_of, is_kind, entries, entries_of}
use Rattle.sets.specs.Pieces.{piece_with, piece_for, pieces_in, pieces_of}
use Rattle.sets.specs.Device.{device_body, iManufacturer, iProduct, iSerialNumber}
use Rattle.sets.specs.Strings.{says_its_length, typed_string, even_length, up_to254, is_string_zero, string_zero, languages, lists_one, lists_at_most_four, is_nonzero, ascends, language_zero, listed, not_serial, good_reference, zero_if}
use Rattle.rules.specs.Findings.{Finding, asked, byte_at}
use Rattle.rules.specs.Configurations.{is_whole}

-- ---- the strings
-- "Index 0 lists one to four languages, nonzero, strictly ascending": the languages from `at` on, after `last`, of a body that begins at `start`
unfoldable pub languages_from : ℕ → ℕ → ℕ → List ℕ → List Finding
languages_from start at last [] = []
languages_from start at last (l ∷ ls) =
    asked 507 (byte_at start at 0) (is_nonzero l) ∷ asked 508 (byte_at start at 0) (ascends last l) ∷ languages_from start (at + 2) l ls

abbrev pub language_findings : ℕ → List ℕ → List Finding
language_findings start ls =
    asked 505 (byte_at start 0 0) (lists_one ls) ∷ asked 506 (byte_at start 0 10) (lists_at_most_four ls) ∷ languages_from start 2 0 ls

-- "every string body has bLength equal to its length, type byte 3 and even length up to 254"
abbrev pub string_findings : ℕ → List ℕ → List Finding
string_findings start body =
    asked 501 (byte_at start 0 0) (says_its_length body) ∷
    asked 502 (byte_at start 0 1) (typed_string body) ∷
    asked 503 (byte_at start 0 0) (even_length body && up_to254 body) ∷ []

-- an entry at `at`: its body; "Language 0 goes with index 0 and no other"; the languages, if it is string 0;
-- "No entry has the index iSerialNumber when that is nonzero"
abbrev pub string_entry_findings : List ℕ → ℕ → ℕ → Entry → List ℕ → List Finding
string_entry_findings ls serial at e body =
    let p = piece_with e body in
    string_findings e.offset body ++
    (asked 504 (byte_at 0 at 2) (language_zero p) ∷
    (pick (is_string_zero p) (language_findings e.offset ls) [] ++
    (asked 511 (byte_at 0 at 1) (not_serial serial p) ∷ [])))

-- the entries from `at` on
unfoldable pub strings_from : List ℕ → List ℕ → ℕ → ℕ → List Entry → List Finding
strings_from set ls serial at [] = []
strings_from set ls serial at (e ∷ es) =
    pick (is_kind 3 e) (string_entry_findings ls serial at e (body_of set e)) [] ++ strings_from set ls serial (at + 8) es

-- "Other entries use listed languages": the entries from `at` on
unfoldable pub listed_from : List ℕ → List ℕ → ℕ → List Entry → List Finding
listed_from set ls at [] = []
listed_from set ls at (e ∷ es) =
    pick (is_kind 3 e) (asked 509 (byte_at 0 at 2) (listed ls (piece_for set e)) ∷ []) [] ++ listed_from set ls (at + 8) es

-- ---- the references
-- a reference whose byte is byte k of what begins at `at` of what begins at `start`: "If there is any .. nonzero reference, index 0 is there"; "Each nonzero reference ..
-- is iSerialNumber's value or has an entry in every listed language"
abbrev pub reference_findings : List ℕ → ℕ → ℕ → ℕ → ℕ → List Finding
reference_findings set start at k r =
    asked 510 (byte_at start at k) (zero_if (is_nonzero r) (is_some (string_zero set))) ∷
    asked 512 (byte_at start at k) (good_reference (languages set) (pieces_of 3 (pieces_in set)) (iSerialNumber (device_body set)) r) ∷ []

-- the iInterface of every interface descriptor, from `at` on
unfoldable pub interfaces_from : List ℕ → ℕ → ℕ → Cutting → List Finding
interfaces_from set start at whole = []
interfaces_from set start at broken = []
interfaces_from set start at (descriptor d ds) =
    pick (is_whole d && is_interface d) (reference_findings set start at 8 (iInterface d)) [] ++ interfaces_from set start (at + length d) ds

abbrev pub body_references : List ℕ → ℕ → List ℕ → List Finding
body_references set start body = reference_findings set start 0 6 (iConfiguration body) ++ interfaces_from set start 0 (cut body)

unfoldable pub references_from : List ℕ → List Entry → List Finding
references_from set [] = []
references_from set (e ∷ es) = pick (is_kind 2 e) (body_references set e.offset (body_of set e)) [] ++ references_from set es

-- the device descriptor is the first body
abbrev pub device_references : List ℕ → List Finding
device_references set =
    reference_findings set (bodies_at set) 0 14 (iManufacturer (device_body set)) ++
    (reference_findings set (bodies_at set) 0 15 (iProduct (device_body set)) ++
    reference_findings set (bodies_at set) 0 16 (iSerialNumber (device_body set)))

-- "If there is any string entry .., index 0 is there", where it has to stand: first of all strings, behind the entries of the device and of the configurations
abbrev pub strings_findings : List ℕ → List Finding
strings_findings set =
    strings_from set (languages set) (iSerialNumber (device_body set)) 4 (entries set) ++
    (asked 510 (byte_at 0 (12 + 8 * length (entries_of 2 set)) 0) (zero_if (not (is_empty (pieces_of 3 (pieces_in set)))) (is_some (string_zero set))) ∷
    (listed_from set (languages set) 4 (entries set) ++ (device_references set ++ references_from set (entries set))))
