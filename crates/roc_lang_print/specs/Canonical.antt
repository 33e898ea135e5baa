-- The canonical text of a tree: docs/LANGUAGE.md, "Canonical text".
use Rattle.std.specs.Prelude.{ℕ, Bool, true, false, ◌||◌, nat_lt, List, [], ◌∷◌, ◌++◌, codes, if◌then◌else◌}
use Rattle.std.specs.List.{flat_map}
use Rattle.std.specs.Fmt.{decimal, signed_decimal}
use Rattle.roc_lang.specs.Syntax.{Name, Expression, Number, Variable, Sum, Difference, Product, Minimum, Maximum, Less, Pick, Access, Statement, Get, Set, Out, Piece, Procedure, Table, Init, Tree}

-- the texts of several, and what stands between them
abbrev pub separated_text : {A : Type 0} (between : List ℕ) (text : A → List ℕ) → List A → List ℕ
separated_text between text [] = []
separated_text between text (x ∷ xs) = text x ++ flat_map (λ y. between ++ text y) xs

abbrev pub names_text : (between : List ℕ) → List Name → List ℕ
names_text between = separated_text between (λ n. n.text)

-- ---- expressions

-- + or -
abbrev pub is_sum : Expression → Bool
is_sum (Number value) = false
is_sum (Variable name) = false
is_sum (Sum e f) = true
is_sum (Difference e f) = true
is_sum (Product e f) = false
is_sum (Minimum e f) = false
is_sum (Maximum e f) = false
is_sum (Less e f) = false
is_sum (Pick c e f) = false

abbrev pub is_product : Expression → Bool
is_product (Number value) = false
is_product (Variable name) = false
is_product (Sum e f) = false
is_product (Difference e f) = false
is_product (Product e f) = true
is_product (Minimum e f) = false
is_product (Maximum e f) = false
is_product (Less e f) = false
is_product (Pick c e f) = false

-- in parentheses, where they are needed
abbrev pub enclosed : (needed : Bool) → List ℕ → List ℕ
enclosed needed text = (if needed then codes "(" else []) ++ text ++ (if needed then codes ")" else [])

-- Parentheses stand round a + or - that is an operand of * or the right operand of + or -, and round a * that is the right operand of *.
abbrev pub expression_text : Expression → List ℕ
expression_text (Number value) = signed_decimal value
expression_text (Variable name) = name.text
expression_text (Sum e f) = expression_text e ++ codes " + " ++ enclosed (is_sum f) (expression_text f)
expression_text (Difference e f) = expression_text e ++ codes " - " ++ enclosed (is_sum f) (expression_text f)
expression_text (Product e f) = enclosed (is_sum e) (expression_text e) ++ codes " * " ++ enclosed (is_sum f || is_product f) (expression_text f)
expression_text (Minimum e f) = codes "min(" ++ expression_text e ++ codes "," ++ expression_text f ++ codes ")"
expression_text (Maximum e f) = codes "max(" ++ expression_text e ++ codes "," ++ expression_text f ++ codes ")"
expression_text (Less e f) = codes "less(" ++ expression_text e ++ codes "," ++ expression_text f ++ codes ")"
expression_text (Pick c e f) = codes "pick(" ++ expression_text c ++ codes "," ++ expression_text e ++ codes "," ++ expression_text f ++ codes ")"

-- ---- lines of a procedure

-- the integers of an id, with commas between
abbrev pub id_text : List Expression → List ℕ
id_text id = separated_text (codes ",") expression_text id

-- t[E,E].c
abbrev pub access_text : Access → List ℕ
access_text a = a.table.text ++ codes "[" ++ id_text a.id ++ codes "]." ++ a.column.text

abbrev pub statement_text : Statement → List ℕ
statement_text (Get name from) = codes "get " ++ name.text ++ codes " = " ++ access_text from
statement_text (Set line to value) = codes "set " ++ access_text to ++ codes " = " ++ expression_text value
statement_text (Out value) = codes "out " ++ expression_text value

-- a statement's line
abbrev pub statement_line : Statement → List ℕ
statement_line s = codes "    " ++ statement_text s ++ codes ";" ++ 10 ∷ []

abbrev pub class_text : (is_now : Bool) → List ℕ
class_text is_now = if is_now then codes "now" else codes "later"

-- now p at E, or later p at E
abbrev pub head_text : Piece → List ℕ
head_text p = class_text p.is_now ++ codes " " ++ p.name.text ++ codes " at " ++ expression_text p.place

-- a piece's lines: its head, its statements, its closing brace
abbrev pub piece_lines : Piece → List ℕ
piece_lines p = codes "  " ++ head_text p ++ codes " {" ++ 10 ∷ [] ++ flat_map statement_line p.body ++ codes "  }" ++ 10 ∷ []

-- what stands behind the arguments: the word of a view, and the brace
abbrev pub opening_text : (is_view : Bool) → List ℕ
opening_text is_view = if is_view then codes ") view {" else codes ") {"

abbrev pub procedure_lines : Procedure → List ℕ
procedure_lines p =
    codes "proc " ++ p.name.text ++ codes "(" ++ names_text (codes ",") p.arguments ++ opening_text p.is_view ++ 10 ∷ [] ++ flat_map piece_lines p.pieces ++ codes "}" ++ 10 ∷ []

-- ---- the other lines

-- [n], where an id has more than one integer
abbrev pub arity_text : ℕ → List ℕ
arity_text arity = if nat_lt 1 arity then codes "[" ++ decimal arity ++ codes "]" else []

abbrev pub table_line : Table → List ℕ
table_line t = codes "table " ++ t.name.text ++ arity_text t.arity ++ codes " { " ++ names_text (codes ", ") t.columns ++ codes " }" ++ 10 ∷ []

-- t[P,I].c, where I is as many integers as the id has
abbrev pub cell_text : Init → List ℕ
cell_text i = i.table.text ++ codes "[" ++ signed_decimal i.place ++ codes "," ++ separated_text (codes ",") signed_decimal i.id ++ codes "]." ++ i.column.text

abbrev pub init_line : Init → List ℕ
init_line i = codes "init " ++ cell_text i ++ codes " = " ++ signed_decimal i.value ++ codes ";" ++ 10 ∷ []

abbrev pub shards_line : ℕ → List ℕ
shards_line shards = codes "shards " ++ decimal shards ++ codes ";" ++ 10 ∷ []

-- all lines of a text
abbrev pub canonical : Tree → List ℕ
canonical t = shards_line t.shards ++ flat_map table_line t.tables ++ flat_map init_line t.inits ++ flat_map procedure_lines t.procedures
