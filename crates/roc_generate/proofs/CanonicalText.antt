-- The generated workload is the canonical text of its tree.
use Rattle.std.proofs.Common.{◌≡◌, ℕ, zero, suc, ◌+◌, List, [], ◌∷◌, ◌++◌, flat_map, append_assoc, refl, sym, ap, ◌∙◌, arith}
use Rattle.std.specs.List.{range_with_len}
use Rattle.std.specs.Fmt as fmt
use Rattle.std.proofs.lemmas.Fmt.{decimal_digit, decimal_step}
use lib.Chars.{codes}
use Rattle.roc_lang_print.specs.Canonical.{table_line, init_line, procedure_lines, canonical}
use Rattle.roc_generate.specs.WorkloadText.{account_line, pay_lines, mark_lines, generated_workload}
use Rattle.roc_generate.proofs.Tokens.{text_parts}
use Rattle.roc_generate.proofs.Trees.{account_tree, account_trees, tables_tree, procedures_tree, line_behind, workload_tree}

-- ---- the numbers that are known

zero_shown : fmt.decimal 0 ≡ codes "0"
zero_shown = decimal_digit 0 (omega arith)

one_shown : fmt.decimal 1 ≡ codes "1"
one_shown = decimal_digit 1 (omega arith)

ten_shown : fmt.decimal 10 ≡ codes "10"
ten_shown = decimal_step 10 (omega arith) (omega arith) ∙ ap (λ ds. ds ++ 48 ∷ []) one_shown

hundred_shown : fmt.decimal 100 ≡ codes "100"
hundred_shown = decimal_step 100 (omega arith) (omega arith) ∙ ap (λ ds. ds ++ 48 ∷ []) ten_shown

thousand_shown : fmt.decimal 1000 ≡ codes "1000"
thousand_shown = decimal_step 1000 (omega arith) (omega arith) ∙ ap (λ ds. ds ++ 48 ∷ []) hundred_shown

-- ---- accounts

regrouped : (a b c p d z e f g t h i : List ℕ) → a ++ (b ++ c ++ p ++ d ++ z ++ e ++ f) ++ g ++ t ++ h ++ i ≡ (a ++ b ++ c) ++ (p ++ (d ++ (z ++ (e ++ (f ++ (g ++ (t ++ (h ++ i))))))))
regrouped a b c p d z e f g t h i = simp append_assoc

account_parts : (place id thousand : List ℕ) → id ≡ codes "0" → thousand ≡ codes "1000"
    → codes "init " ++ (codes "acct" ++ codes "[" ++ place ++ codes "," ++ (id ++ []) ++ codes "]." ++ codes "bal") ++ codes " = " ++ thousand ++ codes ";" ++ 10 ∷ [] ≡ codes "init acct[" ++ place ++ codes ",0].bal = 1000;\n"
account_parts place id thousand e f =
    regrouped (codes "init ") (codes "acct") (codes "[") place (codes ",") (id ++ []) (codes "].") (codes "bal") (codes " = ") thousand (codes ";") (10 ∷ [])
    ∙ ap (λ z. codes "init acct[" ++ (place ++ (codes "," ++ ((z ++ []) ++ (codes "].bal = " ++ (thousand ++ codes ";\n")))))) e
    ∙ ap (λ t. codes "init acct[" ++ (place ++ (codes ",0].bal = " ++ (t ++ codes ";\n")))) f
    ∙ sym (append_assoc (codes "init acct[") place (codes ",0].bal = 1000;\n"))

account_shown : (line place : ℕ) → init_line (account_tree line place) ≡ account_line place
account_shown line place = account_parts (fmt.decimal place) (fmt.decimal 0) (fmt.decimal 1000) zero_shown thousand_shown

accounts_shown : (count line place : ℕ) → flat_map init_line (account_trees line place count) ≡ flat_map account_line (range_with_len place count)
accounts_shown zero line place = refl
accounts_shown (suc count) line place =
    ap (λ z. z ++ flat_map init_line (account_trees (line + 1) (place + 1) count)) (account_shown line place) ∙ ap (λ z. account_line place ++ z) (accounts_shown count (line + 1) (place + 1))

-- ---- the other parts

procedures_shown : (line : ℕ) → flat_map procedure_lines (procedures_tree line) ≡ pay_lines ++ mark_lines
procedures_shown line = rw (zero_shown, one_shown) refl

tables_shown : codes ";" ++ 10 ∷ [] ++ flat_map table_line (tables_tree 2) ≡ codes ";\n" ++ codes "table acct { bal }\n" ++ codes "table ctr { n }\n"
tables_shown = refl

-- ---- the whole text

canonical_parts : (a b c d e f g : List ℕ) → (a ++ b ++ c ++ d) ++ e ++ f ++ g ≡ a ++ (b ++ ((c ++ d ++ e) ++ (f ++ g)))
canonical_parts a b c d e f g = simp append_assoc

pub workload_shown : (shards : ℕ) → generated_workload shards ≡ canonical (workload_tree shards)
unfolding generated_workload workload_tree
workload_shown shards =
    let accounts : List ℕ = flat_map account_line (range_with_len 0 shards) in
    let shown : List ℕ = flat_map init_line (account_trees 4 0 shards) in
    let tables : List ℕ = codes ";" ++ 10 ∷ [] ++ flat_map table_line (tables_tree 2) in
    text_parts (codes "shards ") (fmt.decimal shards) (codes ";\n") (codes "table acct { bal }\n") (codes "table ctr { n }\n") accounts pay_lines mark_lines
    ∙ ap (λ z. codes "shards " ++ (fmt.decimal shards ++ (z ++ (accounts ++ (pay_lines ++ mark_lines))))) (sym tables_shown)
    ∙ ap (λ z. codes "shards " ++ (fmt.decimal shards ++ (tables ++ (z ++ (pay_lines ++ mark_lines))))) (sym (accounts_shown shards 4 0))
    ∙ ap (λ z. codes "shards " ++ (fmt.decimal shards ++ (tables ++ (shown ++ z)))) (sym (procedures_shown (line_behind 4 shards)))
    ∙ sym (canonical_parts (codes "shards ") (fmt.decimal shards) (codes ";") (10 ∷ []) (flat_map table_line (tables_tree 2)) shown (flat_map procedure_lines (procedures_tree (line_behind 4 shards))))
