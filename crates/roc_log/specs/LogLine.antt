-- The text of a log: docs/FORMATS.md, "Logs"
use Rattle.std.specs.Prelude.{ℕ, List, [], ◌∷◌, ◌++◌, map, codes}
use Rattle.std.specs.List.{flat_map}
use Rattle.std.specs.Fmt.{signed_decimal}
use Rattle.hex.specs.Hex.{encode_lower}
use Rattle.roc_base.specs.declared.node.Node.{Node}
use Rattle.roc_base.specs.Node.{node_text}
use Rattle.roc_base.specs.TxnId.{txn_text}
use Rattle.roc_program.specs.Program.{Workload}
use Rattle.roc_program.specs.LookUps.{procedure_name}
use Rattle.roc_log.specs.declared.line.LogLine.{LogLine}
use Rattle.roc_log.specs.declared.line.LogLine.TheVariants.{Submit, In, Tick, Out, Answer}
use Rattle.roc_log.specs.declared.line.Log.{Log}

-- a first word, and others behind it with a space before each
abbrev pub spaced : (first : List ℕ) (others : List (List ℕ)) → List ℕ
spaced first others = first ++ flat_map (λ word. 32 ∷ word) others

-- the word that says what a line is
abbrev pub first_word : LogLine → List ℕ
first_word (Submit proc args) = codes "submit"
first_word (In bytes) = codes "in"
first_word Tick = codes "tick"
first_word (Out bytes) = codes "out"
first_word (Answer id reply) = codes "answer"

-- the words behind it: numbers in decimal, bytes as two lower-case digits each
abbrev pub other_words : Workload → LogLine → List (List ℕ)
other_words program (Submit proc args) = procedure_name program proc ∷ map signed_decimal args
other_words program (In bytes) = encode_lower bytes ∷ []
other_words program Tick = []
other_words program (Out bytes) = encode_lower bytes ∷ []
other_words program (Answer id reply) = txn_text id ∷ map signed_decimal reply

-- a line, with a line feed at its end
abbrev pub log_line_text : Workload → LogLine → List ℕ
log_line_text program line = spaced (first_word line) (other_words program line) ++ 10 ∷ []

-- the first line
abbrev pub node_line_text : Node → List ℕ
node_line_text node = spaced (codes "node") (node_text node ∷ []) ++ 10 ∷ []

-- lines, one after another
abbrev pub lines_text : Workload → List LogLine → List ℕ
lines_text program lines = flat_map (log_line_text program) lines

abbrev pub log_text : Workload → Log → List ℕ
log_text program log = node_line_text log.node ++ lines_text program log.lines
