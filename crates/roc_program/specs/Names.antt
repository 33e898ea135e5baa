-- The names that the parts of a procedure use, bind and give, by number
use Rattle.std.specs.Prelude.{ℕ, Bool, false, ◌||◌, ◌==◌, List, Option, Some, None}
use Rattle.std.specs.List.{filter_map, flat_map, list_any}
use Rattle.roc_program.specs.Program.{Expression, Number, Value, Sum, Difference, Product, Minimum, Maximum, Less, Pick, Access, Statement, Get, Set, Out, Piece}

-- the name of this number occurs in the expression
abbrev pub uses : Expression → ℕ → Bool
uses (Number n) name = false
uses (Value number) name = number == name
uses (Sum a b) name = uses a name || uses b name
uses (Difference a b) name = uses a name || uses b name
uses (Product a b) name = uses a name || uses b name
uses (Minimum a b) name = uses a name || uses b name
uses (Maximum a b) name = uses a name || uses b name
uses (Less a b) name = uses a name || uses b name
uses (Pick c a b) name = uses c name || (uses a name || uses b name)

-- it occurs in the access's id
abbrev pub id_uses : Access → ℕ → Bool
id_uses access name = list_any (λ e. uses e name) access.id

abbrev pub statement_uses : Statement → ℕ → Bool
statement_uses (Get number from) name = id_uses from name
statement_uses (Set to value) name = id_uses to name || uses value name
statement_uses (Out value) name = uses value name

abbrev pub piece_uses : Piece → ℕ → Bool
piece_uses piece name = uses piece.place name || list_any (λ s. statement_uses s name) piece.body

-- the name that a statement binds
abbrev pub binding : Statement → Option ℕ
binding (Get number from) = Some number
binding (Set to value) = None
binding (Out value) = None

-- what a statement adds to the reply
abbrev pub output : Statement → Option Expression
output (Get number from) = None
output (Set to value) = None
output (Out value) = Some value

-- the names that a piece binds
abbrev pub bindings_of : Piece → List ℕ
bindings_of piece = filter_map binding piece.body

-- the names that pieces bind, in program order
abbrev pub bindings : List Piece → List ℕ
bindings pieces = flat_map bindings_of pieces

-- what pieces add to the reply, in program order
abbrev pub outputs : List Piece → List Expression
outputs pieces = flat_map (λ piece. filter_map output piece.body) pieces

-- the name is among these
abbrev pub has_name : List ℕ → ℕ → Bool
has_name names n = list_any (λ m. m == n) names
