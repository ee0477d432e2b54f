-- Groups 1 and 2, rule by rule: the frame and the contents. Places are bytes of the set.
use Rattle.std.specs.Prelude.{ℕ, ◌+◌, ◌-◌, List, [], ◌∷◌, ◌++◌, Bool, true, false, ◌||◌}
use Rattle.descriptors.specs.declared.limits.Limits.{Limits}
use Rattle.sets.specs.declared.Entry.{Entry}
use Rattle.sets.specs.Contents.{total, bodies_at, entries, long_enough, short_enough, total_is_length, counts_entry, at_most64_entries, byte_three_zero, contents_inside, kind_allowed, before, body_long_enough, begins_at, ends_at_total}
use Rattle.rules.specs.Findings.{Finding, asked, byte_at}

-- "at least 4 bytes, at most 16,384; total equals the slice's length; n in 1–64; byte 3 zero; 4 + 8 × n within the total"
abbrev pub frame_findings : List ℕ → List Finding
frame_findings set =
    asked 101 (byte_at 0 0 3) (long_enough set) ∷
    asked 102 (byte_at 16384 0 0) (short_enough set) ∷
    asked 103 (byte_at 0 0 0) (total_is_length set) ∷
    asked 104 (byte_at 0 0 2) (counts_entry set) ∷
    asked 105 (byte_at 0 0 2) (at_most64_entries set) ∷
    asked 106 (byte_at 0 0 3) (byte_three_zero set) ∷
    asked 107 (byte_at 0 0 2) (contents_inside set) ∷ []

-- an entry at `at`, whose body has to begin at `start`, the first or after another:
-- "types 1 (device), 2 (configuration) or 3 (string); entries strictly ascending ..; lengths at least 2; the first body at 4 + 8 × n, each next where the last ended"
abbrev pub entry_findings : Limits → ℕ → Bool → Entry → ℕ → Entry → List Finding
entry_findings limits at first last start e =
    asked 201 (byte_at 0 at 0) (kind_allowed limits e) ∷
    asked 202 (byte_at 0 at 0) (first || before last e) ∷
    asked 203 (byte_at 0 at 6) (body_long_enough e) ∷
    asked 204 (byte_at 0 at 4) (begins_at start e) ∷ []

-- the entries from `at` on; "the last ending at the total" is asked where the last one gives its length
unfoldable pub contents_asked : Limits → ℕ → ℕ → Bool → Entry → ℕ → List Entry → List Finding
contents_asked limits end at first last start [] = asked 205 (byte_at 0 (at - 2) 0) (ends_at_total start end) ∷ []
contents_asked limits end at first last start (e ∷ es) =
    entry_findings limits at first last start e ++ contents_asked limits end (at + 8) false e (start + e.length) es

-- before the first entry
abbrev pub no_entry : Entry
no_entry = record { kind = 0; index = 0; language = 0; offset = 0; length = 0 }

abbrev pub contents_findings : Limits → List ℕ → List Finding
contents_findings limits set = contents_asked limits (total set) 4 true no_entry (bodies_at set) (entries set)
