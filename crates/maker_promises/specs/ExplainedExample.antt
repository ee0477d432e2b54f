-- The rule that a maker is told, by computing: a wrong entry of string 0, each rule of the BOS and of companions, and pairs.
use Rattle.std.specs.Prelude.{ℕ, ◌≡◌, refl, List, [], ◌∷◌, set}
use Rattle.descriptors.specs.Limits.{full_speed, super_speed}
use Rattle.sets.specs.Pieces.{Piece}
use Rattle.sets.specs.Opening.{lent}
use Rattle.rules.specs.Frame.{contents_asked}
use Rattle.rules.specs.Configurations.{rest_findings, companions_from, configurations_from}
use Rattle.rules.specs.Strings.{languages_from, strings_from, listed_from, interfaces_from, references_from}
use Rattle.rules.specs.Explained.{findings, Explained, explained}
use Rattle.pairs.proofs.Example.{full, high}
use Rattle.pair_rules.specs.Pair.{agreeing, mirrors_from}
use Rattle.pair_rules.specs.Explained.{findings_two, ExplainedTwo, explained_two}
use Rattle.promises.specs.Examples.{computed, piece, board, configuration, interface, endpoint, device, T}
use Rattle.promises.specs.SuperSpeed.{S3}

-- a statement that says `unfolding explaining` computes with the lists of rules
unfoldable pub explaining : ℕ
unfolding computed contents_asked rest_findings companions_from configurations_from languages_from strings_from listed_from interfaces_from references_from findings explained agreeing mirrors_from findings_two explained_two
explaining = 0

-- number, rule and place; of a pair number, block, rule and place
abbrev told : Explained → List ℕ
told x = x.number ∷ x.rule ∷ x.place ∷ []

abbrev told_two : ExplainedTwo → List ℕ
told_two x = x.number ∷ x.block ∷ x.rule ∷ x.place ∷ []

-- ---- the titrator T, whose string 0 has its entry at byte 20: a wrong index or language of it is told, and not that string 0 is missing
abbrev T-with : ℕ → ℕ → List ℕ
T-with at byte = told (explained full_speed (lent (set T.set at byte) T.serial))

pub own_fault_first : T-with 21 1 ∷ T-with 22 9 ∷ [] ≡ (5 ∷ 504 ∷ 22 ∷ []) ∷ (5 ∷ 504 ∷ 22 ∷ []) ∷ []
unfolding explaining
own_fault_first = refl

-- ---- SuperSpeed
abbrev companion : List ℕ
companion = 6 ∷ 48 ∷ 0 ∷ 0 ∷ 0 ∷ 0 ∷ []

abbrev store : List ℕ
store = 5 ∷ 15 ∷ 5 ∷ 0 ∷ 0 ∷ []

abbrev made : List (List ℕ) → List Piece → List ℕ
made ds more = told (explained super_speed (board (piece 1 0 0 (device 0xFF 0 9 0 0 0 1) ∷ piece 2 0 0 (configuration 1 1 0 0x80 50 ds) ∷ more) []))

abbrev with : List Piece → List ℕ
with = made (interface 0 0 0 0 ∷ [])

pub stores_told :
    told (explained super_speed S3) ∷ with [] ∷ with (piece 15 0 0 store ∷ piece 15 1 0 store ∷ []) ∷ with (piece 15 1 0 store ∷ []) ∷ with (piece 15 0 0x0409 store ∷ []) ∷
    with (piece 15 0 0 (4 ∷ 15 ∷ 4 ∷ 0 ∷ []) ∷ []) ∷ with (piece 15 0 0 (5 ∷ 15 ∷ 6 ∷ 0 ∷ 0 ∷ []) ∷ []) ∷ []
    ≡ (0 ∷ 0 ∷ 0 ∷ []) ∷ (3 ∷ 312 ∷ 20 ∷ []) ∷ (3 ∷ 312 ∷ 28 ∷ []) ∷ (3 ∷ 313 ∷ 21 ∷ []) ∷ (3 ∷ 314 ∷ 22 ∷ []) ∷ (3 ∷ 315 ∷ 26 ∷ []) ∷ (3 ∷ 316 ∷ 66 ∷ []) ∷ []
unfolding explaining
stores_told = refl

-- the body begins at byte 46, its endpoint at 64
abbrev behind : List (List ℕ) → List ℕ
behind ds = made (interface 0 0 1 0 ∷ ds) (piece 15 0 0 store ∷ [])

abbrev one : List ℕ
one = endpoint 0x81 3 8 10

pub companions_told :
    behind (one ∷ []) ∷ behind (one ∷ (5 ∷ 48 ∷ 0 ∷ 0 ∷ 0 ∷ []) ∷ []) ∷ behind (one ∷ (5 ∷ 0x24 ∷ 1 ∷ 0 ∷ 1 ∷ []) ∷ companion ∷ []) ∷
    behind (one ∷ companion ∷ companion ∷ []) ∷ behind (companion ∷ one ∷ []) ∷ []
    ≡ (4 ∷ 438 ∷ 64 ∷ []) ∷ (4 ∷ 437 ∷ 71 ∷ []) ∷ (4 ∷ 438 ∷ 64 ∷ []) ∷ (4 ∷ 439 ∷ 78 ∷ []) ∷ (4 ∷ 439 ∷ 65 ∷ []) ∷ []
unfolding explaining
companions_told = refl

-- ---- a pair: as it is, with a serial block that nothing names, and with a byte of one set changed
abbrev pair : List ℕ → List ℕ → List ℕ
pair one other = told_two (explained_two one other [])

pub pair_told :
    pair full high ∷ told_two (explained_two full high (4 ∷ 3 ∷ 65 ∷ 0 ∷ [])) ∷ pair full (set high 43 32) ∷ pair (set full 37 1) high ∷ pair (set full 38 9) high ∷
    pair (set full 110 8) high ∷ pair (set full 45 1) high ∷ pair (set full 46 9) high ∷ pair full (set high 90 2) ∷ []
    ≡ (0 ∷ 0 ∷ 0 ∷ 0 ∷ []) ∷ (6 ∷ 2 ∷ 601 ∷ 0 ∷ []) ∷ (3 ∷ 1 ∷ 307 ∷ 43 ∷ []) ∷ (24 ∷ 0 ∷ 2402 ∷ 37 ∷ []) ∷ (24 ∷ 0 ∷ 2403 ∷ 38 ∷ []) ∷
    (24 ∷ 0 ∷ 2405 ∷ 110 ∷ []) ∷ (24 ∷ 0 ∷ 2407 ∷ 45 ∷ []) ∷ (24 ∷ 0 ∷ 2408 ∷ 46 ∷ []) ∷ (24 ∷ 1 ∷ 2410 ∷ 90 ∷ []) ∷ []
unfolding explaining
pair_told = refl
