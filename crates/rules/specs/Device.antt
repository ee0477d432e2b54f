-- Groups 3 and 6, rule by rule: the device and the BOS, with places in the set, and the serial block, with places in the block.
use Rattle.std.specs.Prelude.{ℕ, ◌+◌, ◌*◌, List, [], ◌∷◌, ◌++◌, Bool, true, false, length, eqb, leb}
use Rattle.octets.specs.Octets.{word}
use Rattle.octets.specs.Sentences.{pick}
use Rattle.descriptors.specs.declared.limits.Limits.{Limits}
use Rattle.descriptors.specs.Limits.{named}
use Rattle.sets.specs.declared.Entry.{Entry}
use Rattle.sets.specs.Contents.{bodies_at, body_of, entries_of}
use Rattle.sets.specs.Pieces.{piece_for, is_one, has_index, has_no_language}
use Rattle.sets.specs.Device.{has18_bytes, says18_bytes, is_device, control_size, subclass_with_class, counts_configuration, at_most8_configurations, count_is_entries}
use Rattle.sets.specs.Strings.{says_its_length, typed_string, even_length, up_to254}
use Rattle.sets.specs.Opening.{block_empty, at_least4}
use Rattle.rules.specs.Findings.{Finding, asked, byte_at}

-- the device descriptor, which begins at `start`: "bLength 18, type 1; bMaxPacketSize0 is 8, 16, 32 or 64; class 0 only with subclass 0;
-- bNumConfigurations 1–8 and equal to the number of type 2 entries"
abbrev pub device_head : Limits → ℕ → List ℕ → List Finding
device_head limits start d =
    asked 305 (byte_at start 0 0) (says18_bytes d) ∷
    asked 306 (byte_at start 0 1) (is_device d) ∷
    asked 307 (byte_at start 0 7) (control_size limits d) ∷ []

abbrev pub device_counts : ℕ → ℕ → List ℕ → List Finding
device_counts configurations start d =
    asked 308 (byte_at start 0 5) (subclass_with_class d) ∷
    asked 309 (byte_at start 0 17) (counts_configuration d) ∷
    asked 310 (byte_at start 0 17) (at_most8_configurations d) ∷
    asked 311 (byte_at start 0 17) (count_is_entries configurations d) ∷ []

-- "one type 1 entry, index 0, language 0; 18 bytes". Entries ascend by type, so it is the first entry, at byte 4, and a second one stands at byte 12
abbrev pub one_findings : Limits → List ℕ → Entry → List Finding
one_findings limits set e =
    asked 302 (byte_at 0 0 5) (has_index 0 (piece_for set e)) ∷
    asked 303 (byte_at 0 0 6) (has_no_language (piece_for set e)) ∷
    asked 304 (byte_at 0 0 10) (has18_bytes (body_of set e)) ∷
    (device_head limits e.offset (body_of set e) ++ device_counts (length (entries_of 2 set)) e.offset (body_of set e))

abbrev pub device_entry_findings : Limits → List ℕ → List Entry → List Finding
device_entry_findings limits set [] = asked 301 (byte_at 0 0 4) (is_one {A = Entry} []) ∷ []
device_entry_findings limits set (e ∷ es) =
    asked 301 (byte_at 0 0 12) (is_one (e ∷ es)) ∷ one_findings limits set e

-- the BOS. Document 02, L13: "there is one BOS entry (type 15, index 0, language 0, at least 5 bytes, bytes 2–3 its length)".
-- Entries ascend by type, so the first entry of a type above 3 stands behind those of types 1 to 3
abbrev pub behind_strings : List ℕ → ℕ
behind_strings set = 4 + 8 * (length (entries_of 1 set) + length (entries_of 2 set) + length (entries_of 3 set))

abbrev pub store_findings : List ℕ → ℕ → Entry → List Finding
store_findings set at e =
    asked 313 (byte_at 0 at 1) (has_index 0 (piece_for set e)) ∷
    asked 314 (byte_at 0 at 2) (has_no_language (piece_for set e)) ∷
    asked 315 (byte_at 0 at 6) (leb 5 (length (body_of set e))) ∷
    asked 316 (byte_at e.offset 0 2) (eqb (word (body_of set e) 2) (length (body_of set e))) ∷ []

abbrev pub store_entry_findings : List ℕ → List Entry → List Finding
store_entry_findings set [] = asked 312 (byte_at 0 (bodies_at set) 0) (is_one {A = Entry} []) ∷ []
store_entry_findings set (e ∷ es) =
    asked 312 (byte_at 0 (behind_strings set) 8) (is_one (e ∷ es)) ∷ store_findings set (behind_strings set) e

-- of a kind that has them
abbrev pub stores_findings : Limits → List ℕ → List Finding
stores_findings limits set = pick (named limits.entries 15) (store_entry_findings set (entries_of 15 set)) []

abbrev pub device_findings : Limits → List ℕ → List Finding
device_findings limits set = device_entry_findings limits set (entries_of 1 set) ++ stores_findings limits set

-- "empty when iSerialNumber is 0; else of even length 4–254, first byte its length, second byte 3"
abbrev pub serial_asked : Bool → List ℕ → List Finding
serial_asked true block = asked 601 (byte_at 0 0 0) (block_empty block) ∷ []
serial_asked false block =
    asked 602 (byte_at 0 0 0) (even_length block) ∷
    asked 603 (byte_at 0 0 3) (at_least4 block) ∷
    asked 604 (byte_at 0 0 254) (up_to254 block) ∷
    asked 605 (byte_at 0 0 0) (says_its_length block) ∷
    asked 606 (byte_at 0 0 1) (typed_string block) ∷ []

abbrev pub serial_findings : ℕ → List ℕ → List Finding
serial_findings index block = serial_asked (eqb index 0) block
