-- A text is read from left to right, rule by rule. What a text is stands in Grammar.antt of roc_lang.
use Rattle.std.specs.Prelude.{ℕ, ℤ, zero, suc, ◌+◌, ◌-◌, max, Bool, true, false, ◌||◌, nat_lt, if◌then◌else◌, List, [], ◌∷◌, Result, Ok}
use lib.Chars.{codes}
use Rattle.roc_lang.specs.Tokens.{Kind, Token}
use Rattle.roc_lang.specs.Syntax.{Name, Expression, Number, Variable, Sum, Difference, Product, Minimum, Maximum, Less, Pick, Access, Statement, Get, Set, Out, Piece, Procedure, Table, Init, Tree}
use Rattle.roc_lang.specs.Grammar.{Limits, open_brace, close_brace, open_parenthesis, close_parenthesis, open_bracket, close_bracket, comma, semicolon, dot, equals, plus, minus, star}
use Rattle.roc_lang_parse.specs.Stuck.{Stuck, Reading, ◌>>=◌, refuse, exceed, head_is}
use Rattle.roc_lang_parse.specs.Parts.{has_word, has_mark, has_integer, word_at, word_line_at, mark_at, mark_line_at, name_at, integer_at, bounded_at, signed_at, shards_at, class_at, sign_at, many_at}
use Rattle.roc_lang_parse.specs.Parts.{with_front, some_at, behind_comma_at, separated_at}

-- ---- expressions: each with its depth, which is at most the room

abbrev pub Deep : Type 0
Deep = Expression × ℕ

abbrev pub deeper : ℕ → ℕ → ℕ
deeper d e = max d e + 1

unfoldable pub number_at : List Token → Reading Deep
number_at ts = do
  n ← integer_at ts
  Ok ((Number n.0, 1), n.1)

unfoldable pub variable_at : List Token → Reading Deep
variable_at ts = do
  name ← name_at ts
  Ok ((Variable name.0, 1), name.1)

unfoldable pub enclosed_at : (inner : List Token → Reading Deep) → List Token → Reading Deep
enclosed_at inner ts = do
  a ← mark_at open_parenthesis ts
  x ← inner a.1
  b ← mark_at close_parenthesis x.1
  Ok ((x.0.0, x.0.1 + 1), b.1)

-- two expressions in parentheses, and the greater of their depths
unfoldable pub pair_at : (inner : List Token → Reading Deep) → List Token → Reading (Expression × Expression × ℕ)
pair_at inner ts = do
  a ← mark_at open_parenthesis ts
  x ← inner a.1
  y ← behind_comma_at inner x.1
  b ← mark_at close_parenthesis y.1
  Ok ((x.0.0, y.0.0, max x.0.1 y.0.1), b.1)

-- min, max or less
unfoldable pub function_at : (word : List ℕ) (make : Expression → Expression → Expression) (inner : List Token → Reading Deep) → List Token → Reading Deep
function_at word make inner ts = do
  a ← word_at word ts
  p ← pair_at inner a.1
  Ok ((make p.0.0 p.0.1, p.0.2 + 1), p.1)

unfoldable pub pick_at : (inner : List Token → Reading Deep) → List Token → Reading Deep
pick_at inner ts = do
  a ← word_at (codes "pick") ts
  b ← mark_at open_parenthesis a.1
  x ← inner b.1
  y ← behind_comma_at inner x.1
  z ← behind_comma_at inner y.1
  c ← mark_at close_parenthesis z.1
  Ok ((Pick x.0.0 y.0.0 z.0.0, max x.0.1 (max y.0.1 z.0.1) + 1), c.1)

-- what has operands, which need room
abbrev pub roomy : (room : ℕ) → Reading Deep → List Token → Reading Deep
roomy room read ts = if nat_lt 1 room then read else exceed ts

unfoldable pub atom_with : (inner : List Token → Reading Deep) (room : ℕ) → List Token → Reading Deep
atom_with inner room ts =
    if head_is has_integer ts then number_at ts
    else if head_is (has_mark open_parenthesis) ts then roomy room (enclosed_at inner ts) ts
    else if head_is (has_word (codes "min")) ts then roomy room (function_at (codes "min") Minimum inner ts) ts
    else if head_is (has_word (codes "max")) ts then roomy room (function_at (codes "max") Maximum inner ts) ts
    else if head_is (has_word (codes "less")) ts then roomy room (function_at (codes "less") Less inner ts) ts
    else if head_is (has_word (codes "pick")) ts then roomy room (pick_at inner ts) ts
    else variable_at ts

-- a * and the atom behind it
unfoldable pub factor_at : (atom : List Token → Reading Deep) → List Token → Reading Deep
factor_at atom ts = do
  a ← mark_at star ts
  atom a.1

-- a value that has begun, and what joins it, with so many turns: each makes it deeper
unfoldable pub loop_at : {B : Type 0} (starts : Kind → Bool) (item : List Token → Reading B) (join : Deep → B → Deep) (room turns : ℕ) → Deep → List Token → Reading Deep
loop_at starts item join room zero v ts = if head_is starts ts then exceed ts else Ok (v, ts)
loop_at starts item join room (suc turns) v ts =
    if head_is starts ts then (if nat_lt v.1 room then (do x ← item ts; loop_at starts item join room turns (join v x.0) x.1) else exceed ts) else Ok (v, ts)

abbrev pub times : Deep → Deep → Deep
times v x = (Product v.0 x.0, deeper v.1 x.1)

-- a product that has begun
abbrev pub factors_at : (atom : List Token → Reading Deep) (room turns : ℕ) → Deep → List Token → Reading Deep
factors_at atom = loop_at (has_mark star) (factor_at atom) times

unfoldable pub term_with : (inner lower : List Token → Reading Deep) (room : ℕ) → List Token → Reading Deep
term_with inner lower room ts = do
  x ← atom_with inner room ts
  factors_at (atom_with lower (room - 1)) room room x.0 x.1

abbrev pub is_sign : Kind → Bool
is_sign kind = has_mark plus kind || has_mark minus kind

abbrev pub sum_or_difference : Bool → Expression → Expression → Expression
sum_or_difference true e f = Sum e f
sum_or_difference false e f = Difference e f

-- a sign and the term behind it
unfoldable pub signed_term_at : (term : List Token → Reading Deep) → List Token → Reading (Bool × Deep)
signed_term_at term ts = do
  s ← sign_at ts
  x ← term s.1
  Ok ((s.0, x.0), x.1)

abbrev pub plus_or_minus : Deep → Bool × Deep → Deep
plus_or_minus v x = (sum_or_difference x.0 v.0 x.1.0, deeper v.1 x.1.1)

-- a sum that has begun
abbrev pub sums_at : (term : List Token → Reading Deep) (room turns : ℕ) → Deep → List Token → Reading Deep
sums_at term = loop_at is_sign (signed_term_at term) plus_or_minus

unfoldable pub sum_with : (inner lower lowest : List Token → Reading Deep) (room : ℕ) → List Token → Reading Deep
sum_with inner lower lowest room ts = do
  x ← term_with inner lower room ts
  sums_at (term_with lower lowest (room - 1)) room room x.0 x.1

-- expressions with this much room, with one less, and with two less
pub record Rooms : Type 0 where
  pub here : List Token → Reading Deep
  pub below : List Token → Reading Deep
  pub lower : List Token → Reading Deep

unfoldable pub rooms : ℕ → Rooms
rooms zero = record { here = refuse; below = refuse; lower = refuse }
rooms (suc room) = let r = rooms room in record { here = sum_with r.here r.below r.lower (suc room); below = r.here; lower = r.below }

abbrev pub deep_at : (room : ℕ) → List Token → Reading Deep
deep_at room = (rooms room).here

abbrev pub atom_at : (room : ℕ) → List Token → Reading Deep
atom_at room = atom_with (deep_at (room - 1)) room

abbrev pub term_at : (room : ℕ) → List Token → Reading Deep
term_at room = term_with (deep_at (room - 1)) (deep_at (room - 1 - 1)) room

-- an expression with this much room, by those with less
abbrev pub sum_at : (room : ℕ) → List Token → Reading Deep
sum_at room = sum_with (deep_at (room - 1)) (deep_at (room - 1 - 1)) (deep_at (room - 1 - 1 - 1)) room

unfoldable pub expression_at : (depth : ℕ) → List Token → Reading Expression
expression_at depth ts = do
  x ← deep_at depth ts
  Ok (x.0.0, x.1)

-- ---- statements

abbrev pub id_at : Limits → List Token → Reading (List Expression)
id_at limits = separated_at (expression_at limits.depth) (limits.ids - 1)

unfoldable pub access_at : Limits → List Token → Reading Access
access_at limits ts = do
  table ← name_at ts
  a ← mark_at open_bracket table.1
  id ← id_at limits a.1
  line ← mark_line_at close_bracket id.1
  b ← mark_at dot line.1
  column ← name_at b.1
  Ok (record { table = table.0; id = id.0; id_line = line.0; column = column.0 }, column.1)

unfoldable pub get_at : Limits → List Token → Reading Statement
get_at limits ts = do
  a ← word_at (codes "get") ts
  name ← name_at a.1
  b ← mark_at equals name.1
  from ← access_at limits b.1
  c ← mark_at semicolon from.1
  Ok (Get name.0 from.0, c.1)

unfoldable pub set_at : Limits → List Token → Reading Statement
set_at limits ts = do
  line ← word_line_at (codes "set") ts
  to ← access_at limits line.1
  b ← mark_at equals to.1
  value ← expression_at limits.depth b.1
  c ← mark_at semicolon value.1
  Ok (Set line.0 to.0 value.0, c.1)

unfoldable pub out_at : Limits → List Token → Reading Statement
out_at limits ts = do
  a ← word_at (codes "out") ts
  value ← expression_at limits.depth a.1
  b ← mark_at semicolon value.1
  Ok (Out value.0, b.1)

unfoldable pub statement_at : Limits → List Token → Reading Statement
statement_at limits ts =
    if head_is (has_word (codes "get")) ts then get_at limits ts
    else if head_is (has_word (codes "set")) ts then set_at limits ts
    else out_at limits ts

abbrev pub starts_statement : Kind → Bool
starts_statement kind = has_word (codes "get") kind || has_word (codes "set") kind || has_word (codes "out") kind

abbrev pub body_at : Limits → List Token → Reading (List Statement)
body_at limits = many_at starts_statement (statement_at limits) limits.statements

-- ---- procedures

-- the class with its line, the name and the place of a piece
unfoldable pub head_at : (depth : ℕ) → List Token → Reading ((Bool × ℕ) × Name × Expression)
head_at depth ts = do
  class ← class_at ts
  name ← name_at class.1
  a ← word_at (codes "at") name.1
  place ← expression_at depth a.1
  Ok ((class.0, name.0, place.0), place.1)

unfoldable pub piece_at : Limits → List Token → Reading Piece
piece_at limits ts = do
  head ← head_at limits.depth ts
  a ← mark_at open_brace head.1
  body ← body_at limits a.1
  b ← mark_at close_brace body.1
  Ok (record { is_now = head.0.0.0; class_line = head.0.0.1; name = head.0.1; place = head.0.2; body = body.0 }, b.1)

abbrev pub starts_piece : Kind → Bool
starts_piece kind = has_word (codes "now") kind || has_word (codes "later") kind

-- one piece, and so many more
abbrev pub some_pieces_at : Limits → (more : ℕ) → List Token → Reading (List Piece)
some_pieces_at limits more = some_at starts_piece (piece_at limits) (piece_at limits) more

-- a piece that was read, and so many more
abbrev pub pieces_behind : Limits → (first : Piece) (more : ℕ) → List Token → Reading (List Piece)
pieces_behind limits first more ts = with_front (first ∷ []) (many_at starts_piece (piece_at limits) more ts)

-- names and the closing parenthesis, or that alone
unfoldable pub names_closed_at : (more : ℕ) → List Token → Reading (List Name)
names_closed_at more ts = do
  names ← separated_at name_at more ts
  a ← mark_at close_parenthesis names.1
  Ok (names.0, a.1)

unfoldable pub names_or_none_at : (more : ℕ) → List Token → Reading (List Name)
names_or_none_at more ts = if head_is (has_mark close_parenthesis) ts then (do a ← mark_at close_parenthesis ts; Ok ([], a.1)) else names_closed_at more ts

unfoldable pub arguments_at : (more : ℕ) → List Token → Reading (List Name)
arguments_at more ts = do
  a ← mark_at open_parenthesis ts
  names_or_none_at more a.1

-- the word view and the brace that opens the pieces
unfoldable pub viewed_at : List Token → Reading Bool
viewed_at ts = do
  a ← word_at (codes "view") ts
  b ← mark_at open_brace a.1
  Ok (true, b.1)

-- the same, or the brace alone: whether the word stands there
unfoldable pub opening_at : List Token → Reading Bool
opening_at ts = if head_is (has_word (codes "view")) ts then viewed_at ts else (do a ← mark_at open_brace ts; Ok (false, a.1))

unfoldable pub procedure_at : Limits → List Token → Reading Procedure
procedure_at limits ts = do
  a ← word_at (codes "proc") ts
  name ← name_at a.1
  arguments ← arguments_at (limits.arguments - 1) name.1
  is_view ← opening_at arguments.1
  pieces ← some_pieces_at limits (limits.pieces - 1) is_view.1
  b ← mark_at close_brace pieces.1
  Ok (record { name = name.0; arguments = arguments.0; is_view = is_view.0; pieces = pieces.0 }, b.1)

-- ---- texts

-- how many integers an id has, and the brace behind it
unfoldable pub said_arity_at : Limits → List Token → Reading ℕ
said_arity_at limits ts = do
  a ← mark_at open_bracket ts
  arity ← bounded_at limits.least_arity limits.arity a.1
  b ← mark_at close_bracket arity.1
  c ← mark_at open_brace b.1
  Ok (arity.0, c.1)

-- the same, or the brace alone
unfoldable pub arity_at : Limits → List Token → Reading ℕ
arity_at limits ts = if head_is (has_mark open_bracket) ts then said_arity_at limits ts else (do a ← mark_at open_brace ts; Ok (1, a.1))

unfoldable pub table_at : Limits → List Token → Reading Table
table_at limits ts = do
  a ← word_at (codes "table") ts
  name ← name_at a.1
  arity ← arity_at limits name.1
  columns ← separated_at name_at (limits.columns - 1) arity.1
  b ← mark_at close_brace columns.1
  Ok (record { name = name.0; arity = arity.0; columns = columns.0 }, b.1)

-- the place and the id of a row, and the line of the bracket behind
unfoldable pub row_at : Limits → List Token → Reading (ℤ × List ℤ × ℕ)
row_at limits ts = do
  a ← mark_at open_bracket ts
  place ← signed_at a.1
  b ← mark_at comma place.1
  id ← separated_at signed_at (limits.ids - 1) b.1
  line ← mark_line_at close_bracket id.1
  Ok ((place.0, id.0, line.0), line.1)

unfoldable pub init_at : Limits → List Token → Reading Init
init_at limits ts = do
  a ← word_at (codes "init") ts
  table ← name_at a.1
  row ← row_at limits table.1
  b ← mark_at dot row.1
  column ← name_at b.1
  c ← mark_at equals column.1
  value ← signed_at c.1
  d ← mark_at semicolon value.1
  Ok (record { table = table.0; place = row.0.0; id = row.0.1; id_line = row.0.2; column = column.0; value = value.0 }, d.1)

-- the number of shards and its line
unfoldable pub front_at : List Token → Reading (ℕ × ℕ)
front_at ts = do
  a ← word_at (codes "shards") ts
  shards ← shards_at a.1
  b ← mark_at semicolon shards.1
  Ok (shards.0, b.1)

unfoldable pub end_at : List Token → Reading (Unit {0})
end_at [] = Ok (tt, [])
end_at (t ∷ ts) = refuse (t ∷ ts)

abbrev pub tables_at : Limits → List Token → Reading (List Table)
tables_at limits = many_at (has_word (codes "table")) (table_at limits) limits.tables

abbrev pub inits_at : Limits → List Token → Reading (List Init)
inits_at limits = many_at (has_word (codes "init")) (init_at limits) limits.inits

abbrev pub procedures_at : Limits → List Token → Reading (List Procedure)
procedures_at limits = many_at (has_word (codes "proc")) (procedure_at limits) limits.procedures

-- all of the tokens
unfoldable pub text_at : Limits → List Token → Reading Tree
text_at limits ts = do
  shards ← front_at ts
  tables ← tables_at limits shards.1
  inits ← inits_at limits tables.1
  procedures ← procedures_at limits inits.1
  end ← end_at procedures.1
  Ok (record { shards = shards.0.0; shards_line = shards.0.1; tables = tables.0; inits = inits.0; procedures = procedures.0 }, end.1)

-- the tree alone
unfoldable pub whole_at : Limits → List Token → Result Tree Stuck
whole_at limits ts = do
  x ← text_at limits ts
  Ok x.0
