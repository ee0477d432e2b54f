-- The eight setup bytes, the request table (document 01, "Request table"), and the refusals 10, 11 and 12 in that order.
use Rattle.std.specs.Prelude.{ℕ, ◌/◌, ◌%◌, Bool, ◌&&◌, List, [], ◌∷◌, eqb, leb}
use Rattle.std.proofs.Math.Option.{Option, some, none}
use Rattle.octets.specs.Octets.{byte, word}
use Rattle.octets.specs.Sentences.{pick, first}
use Rattle.requests.specs.declared.Setup.{Setup}
use Rattle.requests.specs.declared.Row.{Row}

abbrev pub setup_of : List ℕ → Setup
setup_of bytes = record { bmRequestType = byte bytes 0; bRequest = byte bytes 1; wValue = word bytes 2; wIndex = word bytes 4; wLength = word bytes 6 }

-- the recipient: bits 4–0 of bmRequestType; 0 device, 1 interface, 2 endpoint
abbrev pub recipient : Setup → ℕ
recipient s = s.bmRequestType % 32

-- ---- a row in the page's words
-- the least and the most
pub record Span : Type 0 where
  pub least : ℕ
  pub most : ℕ

abbrev span : ℕ → ℕ → Span
span least most = record { least = least; most = most }

-- every number of two bytes
abbrev free : ℕ
free = 65535

-- "wValue 0", "wValue at most 127", "wValue below 256"; or any
abbrev value_up_to : ℕ → ℕ
value_up_to most = most

abbrev any_value : ℕ
any_value = free

-- the largest wIndex: where the type asked is another than 3, and where it is 3
pub record Index : Type 0 where
  pub plain : ℕ
  pub string : ℕ

-- "wIndex 0"; any; "wIndex 0 unless the type asked is 3"
abbrev index_zero : Index
index_zero = record { plain = 0; string = 0 }

abbrev any_index : Index
any_index = record { plain = free; string = free }

abbrev index_zero_unless_string : Index
index_zero_unless_string = record { plain = 0; string = free }

-- "wLength 2"; or any
abbrev length_is : ℕ → Span
length_is n = span n n

abbrev any_length : Span
any_length = span 0 free

-- "Default allows 05 and 06. Address allows all but 0A and 0B. Configured allows all but 05."; a record's byte 0 is 0, 1 and 2 there
abbrev every_state : Span
every_state = span 0 2

abbrev default_and_address : Span
default_and_address = span 0 1

abbrev address_and_configured : Span
address_and_configured = span 1 2

abbrev configured_alone : Span
configured_alone = span 2 2

-- the standard requests under USB 2.0's names, and their codes
pub data StandardRequest : Type 0 where
  GET-STATUS CLEAR-FEATURE SET-FEATURE SET-ADDRESS GET-DESCRIPTOR GET-CONFIGURATION SET-CONFIGURATION GET-INTERFACE SET-INTERFACE : StandardRequest

abbrev pub code : StandardRequest → ℕ
code GET-STATUS = 0x00
code CLEAR-FEATURE = 0x01
code SET-FEATURE = 0x03
code SET-ADDRESS = 0x05
code GET-DESCRIPTOR = 0x06
code GET-CONFIGURATION = 0x08
code SET-CONFIGURATION = 0x09
code GET-INTERFACE = 0x0A
code SET-INTERFACE = 0x0B

abbrev asks : ℕ → StandardRequest → ℕ → Index → Span → Span → Row
asks bmRequestType request wValue wIndex wLength states = record {
  bmRequestType = bmRequestType;
  bRequest = code request;
  value = wValue;
  index = wIndex.plain;
  string = wIndex.string;
  shortest = wLength.least;
  longest = wLength.most;
  lowest = states.least;
  highest = states.most;
}

-- "Type and code in hexadecimal, fixed fields after them", and the states
abbrev pub request_table : List Row
request_table =
    asks 0x80 GET-STATUS (value_up_to 0) index_zero (length_is 2) address_and_configured ∷
    asks 0x81 GET-STATUS (value_up_to 0) any_index (length_is 2) address_and_configured ∷
    asks 0x82 GET-STATUS (value_up_to 0) any_index (length_is 2) address_and_configured ∷
    asks 0x00 CLEAR-FEATURE any_value index_zero (length_is 0) address_and_configured ∷
    asks 0x00 SET-FEATURE any_value index_zero (length_is 0) address_and_configured ∷
    asks 0x01 CLEAR-FEATURE any_value any_index (length_is 0) address_and_configured ∷
    asks 0x02 CLEAR-FEATURE any_value any_index (length_is 0) address_and_configured ∷
    asks 0x01 SET-FEATURE any_value any_index (length_is 0) address_and_configured ∷
    asks 0x02 SET-FEATURE any_value any_index (length_is 0) address_and_configured ∷
    asks 0x00 SET-ADDRESS (value_up_to 127) index_zero (length_is 0) default_and_address ∷
    asks 0x80 GET-DESCRIPTOR any_value index_zero_unless_string any_length every_state ∷
    asks 0x80 GET-CONFIGURATION (value_up_to 0) index_zero (length_is 1) address_and_configured ∷
    asks 0x00 SET-CONFIGURATION (value_up_to 255) index_zero (length_is 0) address_and_configured ∷
    asks 0x81 GET-INTERFACE (value_up_to 0) any_index (length_is 1) configured_alone ∷
    asks 0x01 SET-INTERFACE any_value any_index (length_is 0) configured_alone ∷
    []

abbrev pub row_of : Setup → Option Row
row_of s = first (λ r. eqb r.bmRequestType s.bmRequestType && eqb r.bRequest s.bRequest) request_table

-- 11: "not allowed in this state"
abbrev pub in_state : Row → ℕ → Bool
in_state r state = leb r.lowest state && leb state r.highest

-- the largest wIndex: "wIndex 0 unless the type asked is 3", and the type asked is wValue's high byte
abbrev pub largest_index : Row → ℕ → ℕ
largest_index r value = pick (eqb (value / 256) 3) r.string r.index

-- 12: "fixed fields after them (12 if otherwise)"
abbrev pub fields_fit : Row → Setup → Bool
fields_fit r s =
    leb s.wValue r.value && leb s.wIndex (largest_index r s.wValue) &&
    leb r.shortest s.wLength && leb s.wLength r.longest

-- 10 without a row, 11 outside its states, 12 at a wrong field, else 0
abbrev pub refusal_at : Option Row → ℕ → Setup → ℕ
refusal_at none state s = 10
refusal_at (some r) state s = pick (in_state r state) (pick (fields_fit r s) 0 12) 11

unfoldable pub refusal : ℕ → Setup → ℕ
refusal state s = refusal_at (row_of s) state s
