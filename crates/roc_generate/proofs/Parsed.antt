-- The generated workload is a workload text, in scope.
use Rattle.std.proofs.Common.{◌≡◌, ℕ, zero, suc, ◌+◌, ◌*◌, ◌^◌, ◌<◌, ◌≤◌, Bool, true, false, List, [], ◌∷◌, ◌++◌, length, length-append, flat_map, refl, arith}
use Rattle.std.specs.Prelude.{Ok}
use Rattle.std.specs.List.{range_with_len}
use Rattle.std.specs.Fmt as fmt
use Rattle.std.proofs.lemmas.Bool.{lt-ltb, le-leb}
use Rattle.std.proofs.lemmas.Fmt.{length-decimal-le}
use lib.Chars.{codes}
use Rattle.roc_lang.specs.Tokens.{Kind, Token}
use Rattle.roc_lang.specs.Syntax.{Table, Init, Procedure}
use Rattle.roc_lang.specs.Grammar.{Limits, standard, text_limit}
use Rattle.roc_lang.specs.Scope.{Fault, faults, shards_faults, tables_faults, init_faults, procedures_faults}
use Rattle.roc_lang_parse.specs.Fault.{IsWorkloadText}
use Rattle.roc_lang_parse.specs.Stuck.{Reading, head_is}
use Rattle.roc_lang_parse.specs.Parts.{has_word, first_at, bounded_at, signed_at, many_at, some_at, behind_comma_at}
use Rattle.roc_lang_parse.specs.Reading.{number_at, variable_at, enclosed_at, pair_at, function_at, pick_at, atom_with, factor_at, loop_at, term_with, signed_term_at, sum_with, rooms, expression_at, access_at, get_at, set_at, out_at, statement_at, head_at, piece_at, names_closed_at, names_or_none_at, arguments_at, viewed_at, opening_at, procedure_at, said_arity_at, arity_at, table_at, row_at, init_at, front_at, end_at, tables_at, inits_at, procedures_at, text_at, whole_at}
use Rattle.roc_lang_parse.proofs.Answers.{read_is}
use Rattle.roc_generate.specs.WorkloadText.{account_line, pay_lines, mark_lines, generated_workload}
use Rattle.roc_lang_parse.specs.Scanning.{word_run, line_run, value_from, value_of, word_next, integer_next, comment_next, scanned_step}
use Rattle.roc_generate.proofs.Trees.{account_tree, account_trees, tables_tree, procedures_tree, line_behind, workload_tree}
use Rattle.roc_generate.proofs.Tokens.{pay_tokens, mark_tokens, procedure_tokens, account_tokens, accounts_tokens, tables_tokens, front_tokens, workload_tokens, workload_spelt}

-- ---- several

many_one : {A : Type 0} (starts : Kind → Bool) (item : List Token → Reading A) (room : ℕ) (ts us vs : List Token) (x : A) (xs : List A)
    → head_is starts ts ≡ true → item ts ≡ Ok (x, us) → many_at starts item room us ≡ Ok (xs, vs) → many_at starts item (suc room) ts ≡ Ok (x ∷ xs, vs)
unfolding many_at
many_one starts item room ts us vs x xs begins one others = rw (begins, one, others) refl

many_none : {A : Type 0} (starts : Kind → Bool) (item : List Token → Reading A) (room : ℕ) (ts : List Token) → head_is starts ts ≡ false → many_at starts item room ts ≡ Ok ([], ts)
unfolding many_at
many_none starts item zero ts ends = rw ends refl
many_none starts item (suc room) ts ends = rw ends refl

-- ---- procedures

procedures_read : (line : ℕ) → procedures_at standard (procedure_tokens line) ≡ Ok (procedures_tree line, [])
unfolding procedure_tokens pay_tokens mark_tokens scanned_step word_next integer_next comment_next word_run line_run value_of value_from first_at many_at some_at behind_comma_at number_at variable_at enclosed_at pair_at function_at pick_at atom_with factor_at loop_at term_with signed_term_at sum_with rooms expression_at access_at get_at set_at out_at statement_at head_at piece_at names_closed_at names_or_none_at arguments_at viewed_at opening_at procedure_at
procedures_read line = refl

procedures_begin : (line : ℕ) → (head_is (has_word (codes "init")) (procedure_tokens line) ≡ false) × (head_is (has_word (codes "table")) (procedure_tokens line) ≡ false)
unfolding procedure_tokens pay_tokens mark_tokens scanned_step word_next integer_next comment_next word_run line_run value_of value_from
procedures_begin line = (refl, refl)

-- ---- accounts

account_read : (line place : ℕ) (us : List Token) → place < 64 → init_at standard (account_tokens line place us) ≡ Ok (account_tree line place, us)
unfolding first_at signed_at many_at some_at behind_comma_at row_at init_at
account_read line place us small = rw (lt-ltb place (2 ^ 63) (omega arith)) refl

accounts_read : (count line place room : ℕ) (us : List Token) → count ≤ room → place + count ≤ 64 → head_is (has_word (codes "init")) us ≡ false
    → many_at (has_word (codes "init")) (init_at standard) room (accounts_tokens line place count us) ≡ Ok (account_trees line place count, us)
accounts_read zero line place room us fits small ends = many_none (has_word (codes "init")) (init_at standard) room us ends
accounts_read (suc count) line place zero us fits small ends = absurd (omega arith)
accounts_read (suc count) line place (suc room) us fits small ends =
    many_one (has_word (codes "init")) (init_at standard) room (account_tokens line place (accounts_tokens (line + 1) (place + 1) count us)) (accounts_tokens (line + 1) (place + 1) count us) us (account_tree line place) (account_trees (line + 1) (place + 1) count)
    refl (account_read line place (accounts_tokens (line + 1) (place + 1) count us) (omega arith)) (accounts_read count (line + 1) (place + 1) room us (omega arith) (omega arith) ends)

accounts_begin : (count line place : ℕ) (us : List Token) → head_is (has_word (codes "table")) us ≡ false → head_is (has_word (codes "table")) (accounts_tokens line place count us) ≡ false
accounts_begin zero line place us ends = ends
accounts_begin (suc count) line place us ends = refl

-- ---- tables and shards

tables_read : (us : List Token) → head_is (has_word (codes "table")) us ≡ false → tables_at standard (tables_tokens us) ≡ Ok (tables_tree 2, us)
unfolding first_at many_at some_at behind_comma_at arity_at said_arity_at bounded_at table_at
tables_read us ends = rw ends refl

front_read : (shards : ℕ) → shards ≤ 64 → (us : List Token) → front_at (front_tokens shards us) ≡ Ok ((shards, 1), us)
unfolding first_at front_at
front_read shards few us = rw (lt-ltb shards (2 ^ 63) (omega arith)) refl

-- ---- the whole text

parts_read : (l : Limits) (t0 t1 t2 t3 : List Token) (n : ℕ × ℕ) (tables : List Table) (inits : List Init) (procedures : List Procedure)
    → front_at t0 ≡ Ok (n, t1) → tables_at l t1 ≡ Ok (tables, t2) → inits_at l t2 ≡ Ok (inits, t3) → procedures_at l t3 ≡ Ok (procedures, [])
    → whole_at l t0 ≡ Ok (record { shards = n.0; shards_line = n.1; tables = tables; inits = inits; procedures = procedures })
unfolding whole_at text_at end_at
parts_read l t0 t1 t2 t3 n tables inits procedures a b c d = rw (a, b, c, d) refl

workload_read : (shards : ℕ) → shards ≤ 64 → whole_at standard (workload_tokens shards) ≡ Ok (workload_tree shards)
unfolding workload_tree
workload_read shards few =
    let last : ℕ = line_behind 4 shards in
    let procedures : List Token = procedure_tokens last in
    let accounts : List Token = accounts_tokens 4 0 shards procedures in
    let begin = procedures_begin last in
    parts_read standard (workload_tokens shards) (tables_tokens accounts) accounts procedures (shards, 1) (tables_tree 2) (account_trees 4 0 shards) (procedures_tree last)
    (front_read shards few (tables_tokens accounts)) (tables_read accounts (accounts_begin shards 4 0 procedures begin.1))
    (accounts_read shards 4 0 4096 procedures (omega arith) (omega arith) begin.0) (procedures_read last)

-- ---- its size

number_short : (n : ℕ) → n ≤ 64 → length (fmt.decimal n) ≤ 2
number_short n h = length-decimal-le 2 n (omega arith) (omega arith) (omega arith)

account_short : (place : ℕ) → place < 64 → length (account_line place) ≤ 40
account_short place small =
    let one = number_short place (omega arith) in
    let s1 = length-append (codes "init acct[" ++ fmt.decimal place) (codes ",0].bal = 1000;\n") in
    let s2 = length-append (codes "init acct[") (fmt.decimal place) in
    omega (arith, one, s1, s2)

accounts_short : (count place : ℕ) → place + count ≤ 64 → length (flat_map account_line (range_with_len place count)) ≤ 40 * count
accounts_short zero place small = omega arith
accounts_short (suc count) place small =
    let one = account_short place (omega arith) in
    let others = accounts_short count (place + 1) (omega arith) in
    let sum = length-append (account_line place) (flat_map account_line (range_with_len (place + 1) count)) in
    omega (arith, one, others, sum)

workload_short : (shards : ℕ) → shards ≤ 64 → length (generated_workload shards) ≤ text_limit
unfolding generated_workload
workload_short shards few =
    let number = number_short shards few in
    let accounts : List ℕ = flat_map account_line (range_with_len 0 shards) in
    let short = accounts_short shards 0 (omega arith) in
    let a : List ℕ = codes "shards " ++ fmt.decimal shards ++ codes ";\n" ++ codes "table acct { bal }\n" ++ codes "table ctr { n }\n" in
    let s1 = length-append (a ++ accounts ++ pay_lines) mark_lines in
    let s2 = length-append (a ++ accounts) pay_lines in
    let s3 = length-append a accounts in
    let s4 = length-append (codes "shards " ++ fmt.decimal shards ++ codes ";\n" ++ codes "table acct { bal }\n") (codes "table ctr { n }\n") in
    let s5 = length-append (codes "shards " ++ fmt.decimal shards ++ codes ";\n") (codes "table acct { bal }\n") in
    let s6 = length-append (codes "shards " ++ fmt.decimal shards) (codes ";\n") in
    let s7 = length-append (codes "shards ") (fmt.decimal shards) in
    omega (arith, number, short, s1, s2, s3, s4, s5, s6, s7)

pub workload_parsed : (shards : ℕ) → shards ≤ 64 → IsWorkloadText (generated_workload shards) (workload_tree shards)
workload_parsed shards few = record { size = workload_short shards few; tokens = workload_tokens shards; spelt = workload_spelt shards few; text = read_is (workload_tokens shards) (workload_tree shards) (workload_read shards few) }

-- ---- scope

accounts_in_scope : (count line place : ℕ) → flat_map (init_faults (tables_tree 2)) (account_trees line place count) ≡ []
accounts_in_scope zero line place = refl
accounts_in_scope (suc count) line place = accounts_in_scope count (line + 1) (place + 1)

procedures_in_scope : (line : ℕ) → procedures_faults (tables_tree 2) [] (procedures_tree line) ≡ []
procedures_in_scope line = refl

all_empty : (a b c d : List Fault) → a ≡ [] → b ≡ [] → c ≡ [] → d ≡ [] → a ++ b ++ c ++ d ≡ []
all_empty a b c d e f g h = rw (e, f, g, h) refl

shards_in_scope : (shards : ℕ) → 0 < shards → shards ≤ 64 → shards_faults (workload_tree shards) ≡ []
unfolding workload_tree
shards_in_scope shards some few = rw (le-leb 1 shards (omega arith), le-leb shards 64 few) refl

pub workload_in_scope : (shards : ℕ) → 0 < shards → shards ≤ 64 → faults (workload_tree shards) ≡ []
unfolding workload_tree
workload_in_scope shards some few =
    all_empty (shards_faults (workload_tree shards)) (tables_faults [] (tables_tree 2)) (flat_map (init_faults (tables_tree 2)) (account_trees 4 0 shards)) (procedures_faults (tables_tree 2) [] (procedures_tree (line_behind 4 shards)))
    (shards_in_scope shards some few) refl (accounts_in_scope shards 4 0) (procedures_in_scope (line_behind 4 shards))
