-- The canonical text of a tree that was parsed is a workload text of the same tree up to lines.
use Rattle.std.proofs.Common.{◌≡◌, ℕ, ◌+◌, ◌≤◌, Bool, true, false, cond, List, [], ◌∷◌, ◌++◌, length, flat_map, append-nil, refl, sym, ap, subst, ◌∙◌, arith}
use Rattle.std.specs.Prelude.{ℤ, nat_lt}
use Rattle.std.specs.List.{fold}
use Rattle.std.proofs.lemmas.Bool.Decides.{nat_tests}
use Rattle.std.proofs.lemmas.List.{map-id}
use Rattle.std.specs.Fmt as fmt
use lib.Chars.{codes}
use Rattle.roc_lang.specs.Syntax.{Table, Init, Tree}
use Rattle.roc_lang.specs.Tokens.{Word, Integer, Mark, Token, IsTokenEnd, IsTokens, nothing}
use Rattle.roc_lang_print.proofs.Spelt.{blank, word, mark}
use Rattle.roc_lang.specs.Grammar.{standard, text_limit, IsSigned, IsArity, one, said, IsTable, table, IsInit, init, IsProcedure, IsText, text, open_brace, close_brace, open_bracket, close_bracket, comma, semicolon, dot, equals}
use Rattle.roc_lang_parse.specs.Fault.{IsWorkloadText}
use Rattle.roc_lang_print.specs.Canonical.{separated_text, names_text, arity_text, table_line, cell_text, init_line, procedure_lines, canonical}
use Rattle.roc_lang_print.specs.UpToLines.{bare_table, bare_init, bare_procedure, bare_name, without_lines}
use Rattle.roc_lang_print.proofs.Fit.{spelt_words}
use Rattle.roc_lang_print.proofs.Keywords.{table_word, init_word, shards_word}
use Rattle.roc_lang_print.proofs.Spelling.{IsFitSigned, grouped_3, grouped_6, grouped_7, Made, at_line, token_is, name_made, integer_spelt, signed_made}
use Rattle.roc_lang_print.proofs.Trees.{IsFitTable, IsFitInit, IsFitProcedure, IsFitText, text_fit}
use Rattle.roc_lang_print.proofs.Sequences.{same_length, each_made, close_comma, wide_comma, separated_made, names_made}
use Rattle.roc_lang_print.proofs.Lines.{next_line, behind_procedure, procedure_made}

-- ---- tables

-- the number of integers, where it is shown, and the brace behind it
record ArityMade (line : ℕ) (bytes : List ℕ) (others : List Token) (n : ℕ) : Type 0 where
  tokens : List Token
  spelt : IsTokens line bytes tokens
  is : IsArity standard tokens others n

arity_made : (n : ℕ) → 1 ≤ n → n ≤ standard.arity → (line : ℕ) (rest : List ℕ) (others : List Token) → IsTokens line rest others → ArityMade line (arity_text n ++ rest) others n
arity_made n some few line rest others i = go (nat_lt 1 n) refl
  where
    shown : ArityMade line ((codes "[" ++ fmt.decimal n ++ codes "]") ++ rest) others n
    shown =
        let m = integer_spelt n (omega arith) line (codes "]" ++ rest) (at_line (Mark close_bracket) line ∷ others) refl (mark refl i) in
        let ts : List Token = at_line (Mark open_bracket) line ∷ at_line (Integer n) line ∷ at_line (Mark close_bracket) line ∷ others in
        record {
          tokens = ts;
          spelt = subst (λ z. IsTokens line z ts) (sym (grouped_3 (codes "[") (fmt.decimal n) (codes "]") rest)) (mark refl m);
          is = said (token_is (Mark open_bracket) line (at_line (Integer n) line ∷ at_line (Mark close_bracket) line ∷ others)) (record { is = token_is (Integer n) line (at_line (Mark close_bracket) line ∷ others); fits = omega arith })
              (token_is (Mark close_bracket) line others) some few;
        }

    go : (b : Bool) → nat_lt 1 n ≡ b → ArityMade line (cond b (codes "[" ++ fmt.decimal n ++ codes "]") [] ++ rest) others n
    go true e = shown
    go false e =
        let least : n ≡ 1 = grind (arith, nat_tests) in
        record { tokens = others; spelt = i; is = subst (λ k. IsArity standard others others k) (sym least) one }

-- what shows the number ends a word, where what follows does
arity_ends : (n : ℕ) (rest : List ℕ) → IsTokenEnd rest → IsTokenEnd (arity_text n ++ rest)
arity_ends n rest end = go (nat_lt 1 n)
  where
    go : (b : Bool) → IsTokenEnd (cond b (codes "[" ++ fmt.decimal n ++ codes "]") [] ++ rest)
    go true = refl
    go false = end

table_made : (t : Table) → IsFitTable t → (line : ℕ) (rest : List ℕ) (others : List Token) → IsTokens (line + 1) rest others → Made (IsTable standard) bare_table line (table_line t ++ rest) others t
table_made t h line rest others i =
    let end : List ℕ = codes " }" ++ (10 ∷ [] ++ rest) in
    let columns = names_made (codes ", ") wide_comma t.columns h.some h.columns.all line end (at_line (Mark close_brace) line ∷ others) refl (blank refl (mark refl (blank refl i))) in
    let from_columns : List ℕ = codes " { " ++ (names_text (codes ", ") t.columns ++ end) in
    let arity = arity_made t.arity h.some_integer h.few_integers line from_columns (at_line (Mark open_brace) line ∷ columns.tokens) (blank refl (mark refl (blank refl columns.spelt))) in
    let name = name_made t.name h.name line (arity_text t.arity ++ from_columns) arity.tokens (arity_ends t.arity from_columns refl) arity.spelt in
    let ts : List Token = at_line (Word (codes "table")) line ∷ name.tokens in
    let whole = grouped_7 (codes "table ") t.name.text (arity_text t.arity) (codes " { ") (names_text (codes ", ") t.columns) (codes " }") (10 ∷ []) rest in
    record {
      tokens = ts;
      tree = record { name = name.tree; arity = t.arity; columns = columns.tree };
      spelt = subst (λ z. IsTokens line z ts) (sym whole) (word (codes "table") refl table_word refl (blank refl name.spelt));
      is = table (token_is (Word (codes "table")) line name.tokens) name.is arity.is (token_is (Mark open_brace) line columns.tokens) columns.is (token_is (Mark close_brace) line others)
          (subst (λ k. k ≤ standard.columns) (sym (same_length bare_name columns.tree t.columns columns.same)) h.columns.few);
      same = λ k. record { name = name.same k; arity = t.arity; columns = columns.same k };
    }

-- ---- init lines

signed_shown : (n : ℤ) → IsFitSigned n → (line : ℕ) (rest : List ℕ) (others : List Token) → IsTokenEnd rest → IsTokens line rest others → Made IsSigned (λ n. n) line (fmt.signed_decimal n ++ rest) others n
signed_shown n h line rest others end i = let m = signed_made n h line rest others end i in record { tokens = m.tokens; tree = n; spelt = m.spelt; is = m.is; same = refl }

init_made : (x : Init) → IsFitInit x → (line : ℕ) (rest : List ℕ) (others : List Token) → IsTokens (line + 1) rest others → Made (IsInit standard) bare_init line (init_line x ++ rest) others x
init_made x h line rest others i =
    let value = signed_made x.value h.value line (codes ";" ++ (10 ∷ [] ++ rest)) (at_line (Mark semicolon) line ∷ others) refl (mark refl (blank refl i)) in
    let from_value : List ℕ = codes " = " ++ (fmt.signed_decimal x.value ++ (codes ";" ++ (10 ∷ [] ++ rest))) in
    let column = name_made x.column h.column line from_value (at_line (Mark equals) line ∷ value.tokens) refl (blank refl (mark refl (blank refl value.spelt))) in
    let from_column : List ℕ = codes "]." ++ (x.column.text ++ from_value) in
    let id = separated_made IsSigned (λ n. n) fmt.signed_decimal IsFitSigned signed_shown (codes ",") close_comma x.id h.id.some h.id.all line from_column (at_line (Mark close_bracket) line ∷ at_line (Mark dot) line ∷ column.tokens) refl (mark refl (mark refl column.spelt)) in
    let same_id : id.tree ≡ x.id = sym (map-id id.tree) ∙ id.same ∙ map-id x.id in
    let from_id : List ℕ = codes "," ++ (separated_text (codes ",") fmt.signed_decimal x.id ++ from_column) in
    let place = signed_made x.place h.place line from_id (at_line (Mark comma) line ∷ id.tokens) refl (mark refl id.spelt) in
    let from_place : List ℕ = codes "[" ++ (fmt.signed_decimal x.place ++ from_id) in
    let name = name_made x.table h.table line from_place (at_line (Mark open_bracket) line ∷ place.tokens) refl (mark refl place.spelt) in
    let ts : List Token = at_line (Word (codes "init")) line ∷ name.tokens in
    let cell = grouped_7 x.table.text (codes "[") (fmt.signed_decimal x.place) (codes ",") (separated_text (codes ",") fmt.signed_decimal x.id) (codes "].") x.column.text from_value in
    let whole = grouped_6 (codes "init ") (cell_text x) (codes " = ") (fmt.signed_decimal x.value) (codes ";") (10 ∷ []) rest in
    record {
      tokens = ts;
      tree = record { table = name.tree; place = x.place; id = id.tree; id_line = line; column = column.tree; value = x.value };
      spelt = subst (λ z. IsTokens line z ts) (sym (whole ∙ ap (λ z. codes "init " ++ z) cell)) (word (codes "init") refl init_word refl (blank refl name.spelt));
      is = init (token_is (Word (codes "init")) line name.tokens) name.is (token_is (Mark open_bracket) line place.tokens) place.is (token_is (Mark comma) line id.tokens) id.is
          (record { is = refl }) (token_is (Mark dot) line column.tokens) column.is (token_is (Mark equals) line value.tokens) value.is (token_is (Mark semicolon) line others)
          (subst (λ z. length z ≤ standard.ids) (sym same_id) h.id.few);
      same = λ k. record { table = name.same k; place = x.place; id = same_id k; id_line = 0; column = column.same k; value = x.value };
    }

-- ---- texts

with_nothing : (a b c d e f g : List ℕ) → a ++ b ++ c ++ d ++ e ++ f ++ g ≡ a ++ (b ++ (c ++ (d ++ (e ++ (f ++ (g ++ []))))))
with_nothing a b c d e f g = grouped_6 a b c d e f g ∙ ap (λ z. a ++ (b ++ (c ++ (d ++ (e ++ (f ++ z)))))) (sym (append-nil g))

text_made : (t : Tree) → IsFitText t → length (canonical t) ≤ text_limit → (u : Tree) × IsWorkloadText (canonical t) u × (without_lines u ≡ without_lines t)
text_made t h size =
    let inits_line : ℕ = fold next_line 2 t.tables in
    let procedures_line : ℕ = fold next_line inits_line t.inits in
    let procedures = each_made (IsProcedure standard) bare_procedure procedure_lines behind_procedure IsFitProcedure procedure_made t.procedures h.procedures procedures_line [] [] nothing in
    let from_procedures : List ℕ = flat_map procedure_lines t.procedures ++ [] in
    let inits = each_made (IsInit standard) bare_init init_line next_line IsFitInit init_made t.inits h.inits inits_line from_procedures procedures.tokens procedures.spelt in
    let from_inits : List ℕ = flat_map init_line t.inits ++ from_procedures in
    let tables = each_made (IsTable standard) bare_table table_line next_line IsFitTable table_made t.tables h.tables 2 from_inits inits.tokens inits.spelt in
    let from_tables : List ℕ = flat_map table_line t.tables ++ from_inits in
    let shards = integer_spelt t.shards (omega (arith, h.shards)) 1 (codes ";" ++ (10 ∷ [] ++ from_tables)) (at_line (Mark semicolon) 1 ∷ tables.tokens) refl (mark refl (blank refl tables.spelt)) in
    let from_shards : List Token = at_line (Integer t.shards) 1 ∷ at_line (Mark semicolon) 1 ∷ tables.tokens in
    let ts : List Token = at_line (Word (codes "shards")) 1 ∷ from_shards in
    let u : Tree = record { shards = t.shards; shards_line = 1; tables = tables.tree; inits = inits.tree; procedures = procedures.tree } in
    let whole = with_nothing (codes "shards ") (fmt.decimal t.shards) (codes ";") (10 ∷ []) (flat_map table_line t.tables) (flat_map init_line t.inits) (flat_map procedure_lines t.procedures) in
    let spelt : IsTokens 1 (canonical t) ts = subst (λ z. IsTokens 1 z ts) (sym whole) (word (codes "shards") refl shards_word refl (blank refl shards)) in
    let is : IsText standard ts u = text (token_is (Word (codes "shards")) 1 from_shards) (record { is = refl; fits = h.shards }) (token_is (Mark semicolon) 1 tables.tokens) tables.is inits.is procedures.is
    (subst (λ k. k ≤ standard.tables) (sym (same_length bare_table tables.tree t.tables tables.same)) h.few_tables)
    (subst (λ k. k ≤ standard.inits) (sym (same_length bare_init inits.tree t.inits inits.same)) h.few_inits)
    (subst (λ k. k ≤ standard.procedures) (sym (same_length bare_procedure procedures.tree t.procedures procedures.same)) h.few_procedures) in
    (u, record { size = size; tokens = ts; spelt = spelt; text = is }, λ k. record { shards = t.shards; shards_line = 0; tables = tables.same k; inits = inits.same k; procedures = procedures.same k })

pub parsed_again : (bytes : List ℕ) (t : Tree) → IsWorkloadText bytes t → length (canonical t) ≤ text_limit → (u : Tree) × IsWorkloadText (canonical t) u × (without_lines u ≡ without_lines t)
parsed_again bytes t w size = text_made t (text_fit w.text (spelt_words w.spelt)) size

-- the same of bytes that are the canonical text
pub printed_again : (items : List ℕ) (t : Tree) → items ≡ canonical t → (bytes : List ℕ) → IsWorkloadText bytes t → length items ≤ text_limit → (u : Tree) × IsWorkloadText items u × (without_lines u ≡ without_lines t)
printed_again items t e bytes w size = subst (λ z. length z ≤ text_limit → (u : Tree) × IsWorkloadText z u × (without_lines u ≡ without_lines t)) (sym e) (parsed_again bytes t w) size
