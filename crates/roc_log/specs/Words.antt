-- The lines of a log, their words, and words that are ids, bytes and datagrams: docs/FORMATS.md, "Logs"
use Rattle.std.specs.Prelude.{ℕ, Bool, false, not, nat_le, ◌&&◌, ◌==◌, if◌then◌else◌, List, [], ◌∷◌, Option, Some, None, Result, Ok, Err}
use Rattle.std.specs.List.{list_all}
use Rattle.std.specs.Str.{bytes_eq}
use Rattle.hex.specs.Hex.{decode_of}
use Rattle.hex.specs.declared.error.FromHexError.{FromHexError}
use Rattle.roc_base.specs.declared.id.TxnId.{TxnId}
use Rattle.roc_msg.specs.declared.msg.Msg.{Msg}
use Rattle.roc_msg.specs.Msg.{kind_of}
use Rattle.roc_wire.specs.declared.header.Header.{Header}
use Rattle.roc_wire.specs.declared.fault.WireFault.{WireFault}
use Rattle.roc_wire.specs.Reading.{datagram}
use Rattle.roc_sched.specs.Each.{◌>>=◌}
use Rattle.roc_sched.specs.Lines.{is_empty, parts_of}
use Rattle.roc_sched.specs.Numbers.{number_up_to}

-- ---- lines and words

-- a line feed ends each line, but for the last one it may be missing
abbrev pub without_empty_last : List (List ℕ) → List (List ℕ)
without_empty_last [] = []
without_empty_last (part ∷ []) = if is_empty part then [] else part ∷ []
without_empty_last (part ∷ next ∷ parts) = part ∷ without_empty_last (next ∷ parts)

unfoldable pub log_lines : (text : List ℕ) → List (List ℕ)
log_lines text = without_empty_last (parts_of 10 text)

-- what stands between single spaces: two spaces have an empty word between, and so has one at an end
abbrev pub exact_words : (line : List ℕ) → List (List ℕ)
exact_words line = parts_of 32 line

-- ---- ids

-- C.S: one of sixteen coordinators, and a sequence of 32 bits
abbrev pub id_of_parts : List (List ℕ) → Option TxnId
id_of_parts [] = None
id_of_parts (coord ∷ []) = None
id_of_parts (coord ∷ seq ∷ []) = number_up_to 15 coord >>= λ c. number_up_to 4294967295 seq >>= λ s. Some (record { coord = c; seq = s })
id_of_parts (coord ∷ seq ∷ other ∷ others) = None

unfoldable pub id_of : (word : List ℕ) → Option TxnId
id_of word = id_of_parts (parts_of 46 word)

-- ---- bytes

-- one of A to Z
abbrev pub is_capital : ℕ → Bool
is_capital b = nat_le 65 b && nat_le b 90

abbrev pub decoded : Result (List ℕ) FromHexError → Option (List ℕ)
decoded (Ok bytes) = Some bytes
decoded (Err fault) = None

-- two digits for each byte, with lower-case letters
unfoldable pub hex_bytes : (word : List ℕ) → Option (List ℕ)
hex_bytes word = if list_all (λ b. not (is_capital b)) word then decoded (decode_of word) else None

-- ---- datagrams

-- what was read is of the workload with this tag
abbrev pub has_tag : (tag : List ℕ) → Result (Header × Msg) WireFault → Bool
has_tag tag (Ok read) = bytes_eq read.0.tag tag
has_tag tag (Err fault) = false

-- the bytes spell a header and a message, of this workload
unfoldable pub is_datagram : (tag bytes : List ℕ) → Bool
is_datagram tag bytes = has_tag tag (datagram bytes)

abbrev pub tells_stop : Result (Header × Msg) WireFault → Bool
tells_stop (Ok read) = kind_of read.1 == 7
tells_stop (Err fault) = false

-- their message is a Stop
unfoldable pub is_stop : (bytes : List ℕ) → Bool
is_stop bytes = tells_stop (datagram bytes)

abbrev pub of_workload : (tag bytes : List ℕ) → Option (List ℕ)
of_workload tag bytes = if is_datagram tag bytes then Some bytes else None

unfoldable pub datagram_of : (tag word : List ℕ) → Option (List ℕ)
datagram_of tag word = hex_bytes word >>= of_workload tag
