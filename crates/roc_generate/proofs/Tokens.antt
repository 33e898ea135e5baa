-- The tokens of the generated workload.
use Rattle.std.proofs.Common.{◌≡◌, ℕ, zero, suc, ◌+◌, ◌<◌, ◌≤◌, List, [], ◌∷◌, ◌++◌, flat_map, append_assoc, Some, None, refl, sym, subst, arith}
use Rattle.std.specs.List.{range_with_len}
use Rattle.std.specs.Fmt as fmt
use lib.Chars.{codes}
use Rattle.roc_lang.specs.Tokens.{Word, Integer, Mark, Token, IsTokens, nothing}
use Rattle.roc_lang_parse.specs.Scanning.{Scanned, word_run, line_run, value_from, value_of, word_next, integer_next, comment_next, scanned_step}
use Rattle.roc_lang_print.proofs.Spelling.{at_line, integer_spelt, grouped_3}
use Rattle.roc_generate.specs.WorkloadText.{account_line, pay_lines, mark_lines, generated_workload}
use Rattle.roc_generate.proofs.Lexing.{scanned, scanned_are}
use Rattle.roc_generate.proofs.Trees.{line_behind, behind_pay}

-- ---- procedures

abbrev found : Scanned → List Token
found None = []
found (Some s) = s.0

unfoldable pub pay_tokens : (line : ℕ) → List Token
unfolding scanned_step word_next integer_next comment_next word_run line_run value_of value_from
pay_tokens line = found (scanned 145 line pay_lines)

unfoldable pub mark_tokens : (line : ℕ) → List Token
unfolding scanned_step word_next integer_next comment_next word_run line_run value_of value_from
mark_tokens line = found (scanned 150 line mark_lines)

pay_scanned : (line : ℕ) (rest : List ℕ) → scanned 145 line (pay_lines ++ rest) ≡ Some (pay_tokens line, behind_pay line, rest)
unfolding pay_tokens scanned_step word_next integer_next comment_next word_run line_run value_of value_from
pay_scanned line rest = refl

mark_scanned : (line : ℕ) → scanned 150 line mark_lines ≡ Some (mark_tokens line, line + 1 + 1 + 1 + 1 + 1 + 1 + 1 + 1 + 1 + 1 + 1 + 1 + 1, [])
unfolding mark_tokens scanned_step word_next integer_next comment_next word_run line_run value_of value_from
mark_scanned line = refl

unfoldable pub procedure_tokens : (line : ℕ) → List Token
procedure_tokens line = pay_tokens line ++ (mark_tokens (behind_pay line) ++ [])

procedures_spelt : (line : ℕ) → IsTokens line (pay_lines ++ mark_lines) (procedure_tokens line)
unfolding procedure_tokens
procedures_spelt line =
    let mark = scanned_are 150 (behind_pay line) mark_lines (mark_tokens (behind_pay line)) _ [] (mark_scanned (behind_pay line)) [] nothing in
    scanned_are 145 line (pay_lines ++ mark_lines) (pay_tokens line) (behind_pay line) mark_lines (pay_scanned line mark_lines) (mark_tokens (behind_pay line) ++ []) mark

-- ---- accounts

abbrev pub account_tokens : (line place : ℕ) (others : List Token) → List Token
account_tokens line place others =
    at_line (Word (codes "init")) line ∷ at_line (Word (codes "acct")) line ∷ at_line (Mark 91) line ∷ at_line (Integer place) line ∷ at_line (Mark 44) line ∷ at_line (Integer 0) line ∷ at_line (Mark 93) line
    ∷ at_line (Mark 46) line ∷ at_line (Word (codes "bal")) line ∷ at_line (Mark 61) line ∷ at_line (Integer 1000) line ∷ at_line (Mark 59) line ∷ others

abbrev pub accounts_tokens : (line place count : ℕ) (others : List Token) → List Token
accounts_tokens line place zero others = others
accounts_tokens line place (suc count) others = account_tokens line place (accounts_tokens (line + 1) (place + 1) count others)

front_scanned : (line : ℕ) (rest : List ℕ) → scanned 4 line (codes "init acct[" ++ rest) ≡ Some (at_line (Word (codes "init")) line ∷ at_line (Word (codes "acct")) line ∷ at_line (Mark 91) line ∷ [], line, rest)
unfolding scanned_step word_next integer_next comment_next word_run line_run value_of value_from
front_scanned line rest = refl

abbrev back_tokens : (line : ℕ) → List Token
back_tokens line =
    at_line (Mark 44) line ∷ at_line (Integer 0) line ∷ at_line (Mark 93) line ∷ at_line (Mark 46) line ∷ at_line (Word (codes "bal")) line ∷ at_line (Mark 61) line ∷ at_line (Integer 1000) line ∷ at_line (Mark 59) line ∷ []

back_scanned : (line : ℕ) (rest : List ℕ) → scanned 11 line (codes ",0].bal = 1000;\n" ++ rest) ≡ Some (back_tokens line, line + 1, rest)
unfolding scanned_step word_next integer_next comment_next word_run line_run value_of value_from
back_scanned line rest = refl

account_spelt : (line place : ℕ) → place < 64 → (rest : List ℕ) (others : List Token) → IsTokens (line + 1) rest others → IsTokens line (account_line place ++ rest) (account_tokens line place others)
account_spelt line place small rest others i =
    let from_back : List ℕ = codes ",0].bal = 1000;\n" ++ rest in
    let back = scanned_are 11 line from_back (back_tokens line) (line + 1) rest (back_scanned line rest) others i in
    let from_place : List ℕ = fmt.decimal place ++ from_back in
    let number = integer_spelt place (omega arith) line from_back (back_tokens line ++ others) refl back in
    let all = scanned_are 4 line (codes "init acct[" ++ from_place) _ line from_place (front_scanned line from_place) (at_line (Integer place) line ∷ (back_tokens line ++ others)) number in
    subst (λ z. IsTokens line z (account_tokens line place others)) (sym (grouped_3 (codes "init acct[") (fmt.decimal place) (codes ",0].bal = 1000;\n") rest)) all

accounts_spelt : (count line place : ℕ) → place + count ≤ 64 → (rest : List ℕ) (others : List Token) → IsTokens (line_behind line count) rest others
    → IsTokens line (flat_map account_line (range_with_len place count) ++ rest) (accounts_tokens line place count others)
accounts_spelt zero line place small rest others i = i
accounts_spelt (suc count) line place small rest others i =
    subst (λ z. IsTokens line z (accounts_tokens line place (suc count) others)) (sym (append_assoc (account_line place) (flat_map account_line (range_with_len (place + 1) count)) rest))
    (account_spelt line place (omega arith) (flat_map account_line (range_with_len (place + 1) count) ++ rest) (accounts_tokens (line + 1) (place + 1) count others)
    (accounts_spelt count (line + 1) (place + 1) (omega arith) rest others i))

-- ---- the whole text

abbrev tables_text : List ℕ
tables_text = codes ";\n" ++ codes "table acct { bal }\n" ++ codes "table ctr { n }\n"

abbrev pub tables_tokens : (others : List Token) → List Token
tables_tokens others =
    at_line (Word (codes "table")) 2 ∷ at_line (Word (codes "acct")) 2 ∷ at_line (Mark 123) 2 ∷ at_line (Word (codes "bal")) 2 ∷ at_line (Mark 125) 2
    ∷ at_line (Word (codes "table")) 3 ∷ at_line (Word (codes "ctr")) 3 ∷ at_line (Mark 123) 3 ∷ at_line (Word (codes "n")) 3 ∷ at_line (Mark 125) 3 ∷ others

tables_scanned : (rest : List ℕ) → scanned 22 1 (tables_text ++ rest) ≡ Some (at_line (Mark 59) 1 ∷ tables_tokens [], 4, rest)
unfolding scanned_step word_next integer_next comment_next word_run line_run value_of value_from
tables_scanned rest = refl

shards_scanned : (rest : List ℕ) → scanned 2 1 (codes "shards " ++ rest) ≡ Some (at_line (Word (codes "shards")) 1 ∷ [], 1, rest)
unfolding scanned_step word_next integer_next comment_next word_run line_run value_of value_from
shards_scanned rest = refl

abbrev pub front_tokens : (shards : ℕ) (others : List Token) → List Token
front_tokens shards others = at_line (Word (codes "shards")) 1 ∷ at_line (Integer shards) 1 ∷ at_line (Mark 59) 1 ∷ others

abbrev pub workload_tokens : (shards : ℕ) → List Token
workload_tokens shards = front_tokens shards (tables_tokens (accounts_tokens 4 0 shards (procedure_tokens (line_behind 4 shards))))

pub text_parts : (a b c d e f g h : List ℕ) → a ++ b ++ c ++ d ++ e ++ f ++ g ++ h ≡ a ++ (b ++ ((c ++ d ++ e) ++ (f ++ (g ++ h))))
text_parts a b c d e f g h = simp append_assoc

pub workload_spelt : (shards : ℕ) → shards ≤ 64 → IsTokens 1 (generated_workload shards) (workload_tokens shards)
unfolding generated_workload
workload_spelt shards few =
    let from_procedures : List ℕ = pay_lines ++ mark_lines in
    let procedures = procedure_tokens (line_behind 4 shards) in
    let from_accounts : List ℕ = flat_map account_line (range_with_len 0 shards) ++ from_procedures in
    let accounts = accounts_spelt shards 4 0 (omega arith) from_procedures procedures (procedures_spelt (line_behind 4 shards)) in
    let from_tables : List ℕ = tables_text ++ from_accounts in
    let tables = scanned_are 22 1 from_tables (at_line (Mark 59) 1 ∷ tables_tokens []) 4 from_accounts (tables_scanned from_accounts) (accounts_tokens 4 0 shards procedures) accounts in
    let number = integer_spelt shards (omega arith) 1 from_tables (at_line (Mark 59) 1 ∷ tables_tokens (accounts_tokens 4 0 shards procedures)) refl tables in
    let all = scanned_are 2 1 (codes "shards " ++ (fmt.decimal shards ++ from_tables)) _ 1 (fmt.decimal shards ++ from_tables) (shards_scanned (fmt.decimal shards ++ from_tables)) _ number in
    subst (λ z. IsTokens 1 z (workload_tokens shards))
    (sym (text_parts (codes "shards ") (fmt.decimal shards) (codes ";\n") (codes "table acct { bal }\n") (codes "table ctr { n }\n") (flat_map account_line (range_with_len 0 shards)) pay_lines mark_lines)) all
