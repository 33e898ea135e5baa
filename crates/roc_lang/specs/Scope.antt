-- What is wrong with the names of a text, in the order of the text: docs/LANGUAGE.md, "Scope".
use Rattle.std.specs.Prelude.{ℕ, Bool, true, false, ◌&&◌, nat_le, ◌==◌, length, List, [], ◌∷◌, ◌++◌, Option, Some, None, if◌then◌else◌}
use Rattle.std.specs.List.{list_any, flat_map, find}
use Rattle.std.specs.Str.{bytes_eq}
use Rattle.roc_lang.specs.declared.limits.TheConstants.{SHARDS}
use Rattle.roc_lang.specs.Syntax.{Name, Expression, Number, Variable, Sum, Difference, Product, Minimum, Maximum, Less, Pick, Access, Statement, Get, Set, Out, Piece, Procedure, Table, Init, Tree}

pub data FaultKind : Type 0 where
  Shards : FaultKind
  Twice Unknown LaterUsed SamePieceKey Unbound Arity Viewed : (name : List ℕ) → FaultKind

pub record Fault : Type 0 where
  pub kind : FaultKind
  pub line : ℕ

abbrev pub fault_at : Name → (List ℕ → FaultKind) → List Fault
fault_at name kind = record { kind = kind name.text; line = name.line } ∷ []

abbrev pub is_among : List Name → Name → Bool
is_among names name = list_any (λ n. bytes_eq n.text name.text) names

-- a name that stands among the earlier ones
abbrev pub repeated : List Name → Name → List Fault
repeated earlier name = if is_among earlier name then fault_at name Twice else []

-- the names that are repeated, each where it stands again
abbrev pub repeats : (earlier names : List Name) → List Fault
repeats earlier [] = []
repeats earlier (n ∷ ns) = repeated earlier n ++ repeats (earlier ++ n ∷ []) ns

-- ---- uses of names in a procedure

-- The names that are bound before a place: those that the whole procedure may use from there on (its arguments, and what earlier
-- now pieces bind), those of this piece, and those of earlier later pieces.
pub record Bound : Type 0 where
  pub known : List Name
  pub own : List Name
  pub past : List Name

-- a name that is used: places and ids, the keys, take no name of their own piece
abbrev pub use_faults : Bound → (is_key : Bool) → Name → List Fault
use_faults bound is_key name =
    if is_among bound.known name then []
    else if is_among bound.own name then (if is_key then fault_at name SamePieceKey else [])
    else if is_among bound.past name then fault_at name LaterUsed
    else fault_at name Unbound

-- the names of an expression from left to right
abbrev pub names_of : Expression → List Name
names_of (Number n) = []
names_of (Variable name) = name ∷ []
names_of (Sum e f) = names_of e ++ names_of f
names_of (Difference e f) = names_of e ++ names_of f
names_of (Product e f) = names_of e ++ names_of f
names_of (Minimum e f) = names_of e ++ names_of f
names_of (Maximum e f) = names_of e ++ names_of f
names_of (Less e f) = names_of e ++ names_of f
names_of (Pick c e f) = names_of c ++ names_of e ++ names_of f

abbrev pub key_faults : Bound → Expression → List Fault
key_faults bound e = flat_map (use_faults bound true) (names_of e)

abbrev pub value_faults : Bound → Expression → List Fault
value_faults bound e = flat_map (use_faults bound false) (names_of e)

-- ---- cells

abbrev pub table_named : List Table → Name → Option Table
table_named tables name = find (λ t. bytes_eq t.name.text name.text) tables

abbrev pub table_faults : Option Table → Name → List Fault
table_faults None name = fault_at name Unknown
table_faults (Some t) name = []

-- a column that its table does not have
abbrev pub column_faults : Option Table → Name → List Fault
column_faults None name = []
column_faults (Some t) name = if is_among t.columns name then [] else fault_at name Unknown

-- an id with another number of integers than its table's, told at the bracket behind it
abbrev pub arity_faults : Option Table → Name → (count line : ℕ) → List Fault
arity_faults None name count line = []
arity_faults (Some t) name count line = if count == t.arity then [] else record { kind = Arity name.text; line = line } ∷ []

abbrev pub access_faults : List Table → Bound → Access → List Fault
access_faults tables bound a =
    table_faults (table_named tables a.table) a.table ++ flat_map (key_faults bound) a.id ++ arity_faults (table_named tables a.table) a.table (length a.id) a.id_line
    ++ column_faults (table_named tables a.table) a.column

-- ---- statements

-- a name is bound behind its statement
abbrev pub bound_by : Statement → List Name
bound_by (Get name from) = name ∷ []
bound_by (Set line to value) = []
bound_by (Out value) = []

-- what a view may not have, told with its piece's name at the line of the word
abbrev pub viewed : (is_wrong : Bool) → (piece : Name) → (line : ℕ) → List Fault
viewed is_wrong piece line = if is_wrong then record { kind = Viewed piece.text; line = line } ∷ [] else []

-- where a piece stands: whether its procedure is a view, and the piece's name
pub record Within : Type 0 where
  pub is_view : Bool
  pub piece : Name

abbrev pub statement_faults : List Table → Within → Bound → Statement → List Fault
statement_faults tables within bound (Get name from) = repeated (bound.known ++ bound.own ++ bound.past) name ++ access_faults tables bound from
statement_faults tables within bound (Set line to value) = viewed within.is_view within.piece line ++ access_faults tables bound to ++ value_faults bound value
statement_faults tables within bound (Out value) = value_faults bound value

abbrev pub statements_faults : List Table → Within → Bound → List Statement → List Fault
statements_faults tables within bound [] = []
statements_faults tables within bound (s ∷ ss) =
    statement_faults tables within bound s ++ statements_faults tables within (record bound { own = bound.own ++ bound_by s }) ss

-- ---- pieces

-- what a piece's names are to the pieces behind it
abbrev pub bound_after : Bound → Piece → Bound
bound_after bound p = let names = flat_map bound_by p.body in
    if p.is_now then record { known = bound.known ++ names; own = []; past = bound.past } else record { known = bound.known; own = []; past = bound.past ++ names }

abbrev pub piece_faults : List Table → (is_view : Bool) → Bound → Piece → List Fault
piece_faults tables is_view bound p = key_faults bound p.place ++ statements_faults tables (record { is_view = is_view; piece = p.name }) bound p.body

abbrev pub pieces_faults : List Table → (is_view : Bool) → (earlier : List Name) → Bound → List Piece → List Fault
pieces_faults tables is_view earlier bound [] = []
pieces_faults tables is_view earlier bound (p ∷ ps) =
    viewed (is_view && p.is_now) p.name p.class_line ++ repeated earlier p.name ++ piece_faults tables is_view bound p
    ++ pieces_faults tables is_view (earlier ++ p.name ∷ []) (bound_after bound p) ps

-- ---- the parts of a text

abbrev pub tables_faults : (earlier : List Name) → List Table → List Fault
tables_faults earlier [] = []
tables_faults earlier (t ∷ ts) = repeated earlier t.name ++ repeats [] t.columns ++ tables_faults (earlier ++ t.name ∷ []) ts

abbrev pub init_faults : List Table → Init → List Fault
init_faults tables i =
    table_faults (table_named tables i.table) i.table ++ arity_faults (table_named tables i.table) i.table (length i.id) i.id_line ++ column_faults (table_named tables i.table) i.column

abbrev pub procedures_faults : List Table → (earlier : List Name) → List Procedure → List Fault
procedures_faults tables earlier [] = []
procedures_faults tables earlier (p ∷ ps) =
    repeated earlier p.name ++ repeats [] p.arguments ++ pieces_faults tables p.is_view [] (record { known = p.arguments; own = []; past = [] }) p.pieces
    ++ procedures_faults tables (earlier ++ p.name ∷ []) ps

-- there is a shard, and there are not too many
abbrev pub shards_faults : Tree → List Fault
shards_faults t = if nat_le 1 t.shards && nat_le t.shards SHARDS then [] else record { kind = Shards; line = t.shards_line } ∷ []

-- all faults of scope, in the order of the text
abbrev pub faults : Tree → List Fault
faults t = shards_faults t ++ tables_faults [] t.tables ++ flat_map (init_faults t.tables) t.inits ++ procedures_faults t.tables [] t.procedures
