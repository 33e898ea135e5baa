-- The tokens of a workload text, rule by rule: docs/LANGUAGE.md, "Grammar" and "Limits".
-- Each rule relates the tokens from a place on with those that are left behind what it describes.
use Rattle.std.specs.Prelude.{◌≡◌, ℕ, ℤ, pos, neg_ℤ, ◌^◌, ◌<◌, ◌≤◌, Bool, true, false, IsFalse, List, [], ◌∷◌, length}
use Rattle.std.specs.Str.{bytes_eq}
use Rattle.std.specs.List.{list_any}
use lib.Chars.{codes}
use Rattle.roc_lang.specs.declared.limits.TheConstants as limit
use Rattle.roc_lang.specs.Tokens.{Kind, Word, Integer, Mark, Token}
use Rattle.roc_lang.specs.Syntax.{Name, Expression, Number, Variable, Sum, Difference, Product, Minimum, Maximum, Less, Pick, Access, Statement, Get, Set, Out, Piece, Procedure, Table, Init, Tree}

-- how many of each a text may have, and how deep an expression may be
pub record Limits : Type 0 where
  pub tables : ℕ
  pub columns : ℕ
  -- integers of an id: how few and how many a table may declare, and how many may stand in brackets
  pub least_arity : ℕ
  pub arity : ℕ
  pub ids : ℕ
  pub inits : ℕ
  pub procedures : ℕ
  pub arguments : ℕ
  pub pieces : ℕ
  pub statements : ℕ
  pub depth : ℕ

-- the limits of the language
abbrev pub standard : Limits
standard =
    record {
      tables = limit.TABLES;
      columns = limit.COLUMNS;
      least_arity = limit.LEAST_ARITY;
      arity = limit.ARITY;
      ids = limit.IDS;
      inits = limit.INITS;
      procedures = limit.PROCEDURES;
      arguments = limit.ARGUMENTS;
      pieces = limit.PIECES;
      statements = limit.STATEMENTS;
      depth = limit.DEPTH;
    }

-- how many bytes a text may have
abbrev pub text_limit : ℕ
text_limit = limit.TEXT_BYTES

-- ---- tokens

-- the first token is of this kind, and the others are left
pub record IsToken (kind : Kind) (tokens rest : List Token) : Type 0 where
  pub line : ℕ
  pub is : tokens ≡ record { kind = kind; line = line } ∷ rest

abbrev pub IsMark : ℕ → List Token → List Token → Type 0
IsMark b tokens rest = IsToken (Mark b) tokens rest

abbrev pub open_brace : ℕ
open_brace = 123

abbrev pub close_brace : ℕ
close_brace = 125

abbrev pub open_parenthesis : ℕ
open_parenthesis = 40

abbrev pub close_parenthesis : ℕ
close_parenthesis = 41

abbrev pub open_bracket : ℕ
open_bracket = 91

abbrev pub close_bracket : ℕ
close_bracket = 93

abbrev pub comma : ℕ
comma = 44

abbrev pub semicolon : ℕ
semicolon = 59

abbrev pub dot : ℕ
dot = 46

abbrev pub equals : ℕ
equals = 61

abbrev pub plus : ℕ
plus = 43

abbrev pub minus : ℕ
minus = 45

abbrev pub star : ℕ
star = 42

-- the words that are no names
abbrev pub is_reserved : List ℕ → Bool
is_reserved word = list_any (bytes_eq word)
    (codes "shards" ∷ codes "table" ∷ codes "init" ∷ codes "proc" ∷ codes "now" ∷ codes "later" ∷ codes "at" ∷ codes "get"
    ∷ codes "set" ∷ codes "out" ∷ codes "min" ∷ codes "max" ∷ codes "less" ∷ codes "pick" ∷ [])

pub record IsName (tokens rest : List Token) (name : Name) : Type 0 where
  pub is : tokens ≡ record { kind = Word name.text; line = name.line } ∷ rest
  pub free : IsFalse (is_reserved name.text)

pub record IsInteger (tokens rest : List Token) (value : ℕ) : Type 0 where
  pub is : IsToken (Integer value) tokens rest
  pub fits : value < 2 ^ 63

-- an integer, or - and an integer, which may be 2 ^ 63 there
pub data IsSigned : (tokens rest : List Token) → ℤ → Type 0 where
  plain : {a b : List Token} {n : ℕ} → IsInteger a b n → IsSigned a b (pos n)
  negated : {a b c : List Token} {n : ℕ} {value : ℤ} → IsMark minus a b → IsToken (Integer n) b c → n ≤ 2 ^ 63 → value ≡ neg_ℤ (pos n) → IsSigned a c value

-- ---- several

-- any number of them
pub data Each {A : Type 0} (Is : List Token → List Token → A → Type 0) : (tokens rest : List Token) → List A → Type 0 where
  none : {a : List Token} → Each Is a a []
  first : {a b c : List Token} {x : A} {xs : List A} → Is a b x → Each Is b c xs → Each Is a c (x ∷ xs)

-- at least one, with commas between
pub data Separated {A : Type 0} (Is : List Token → List Token → A → Type 0) : (tokens rest : List Token) → List A → Type 0 where
  last : {a b : List Token} {x : A} → Is a b x → Separated Is a b (x ∷ [])
  more : {a b c d : List Token} {x : A} {xs : List A} → Is a b x → IsMark comma b c → Separated Is c d xs → Separated Is a d (x ∷ xs)

-- ---- expressions, no deeper than depth

mutual
  -- terms with + and - between, grouped to the left
  pub data IsExpression : (depth : ℕ) (tokens rest : List Token) → Expression → Type 0 where
    term : {depth : ℕ} {a b : List Token} {e : Expression} → IsTerm depth a b e → IsExpression depth a b e
    sum : {below depth : ℕ} {a b c d : List Token} {e f : Expression} → below < depth → IsExpression below a b e → IsMark plus b c → IsTerm below c d f → IsExpression depth a d (Sum e f)
    difference : {below depth : ℕ} {a b c d : List Token} {e f : Expression} → below < depth → IsExpression below a b e → IsMark minus b c → IsTerm below c d f
        → IsExpression depth a d (Difference e f)

  -- atoms with * between, grouped to the left
  pub data IsTerm : (depth : ℕ) (tokens rest : List Token) → Expression → Type 0 where
    atom : {depth : ℕ} {a b : List Token} {e : Expression} → IsAtom depth a b e → IsTerm depth a b e
    product : {below depth : ℕ} {a b c d : List Token} {e f : Expression} → below < depth → IsTerm below a b e → IsMark star b c → IsAtom below c d f → IsTerm depth a d (Product e f)

  pub data IsAtom : (depth : ℕ) (tokens rest : List Token) → Expression → Type 0 where
    number : {depth : ℕ} {a b : List Token} {n : ℕ} → 0 < depth → IsInteger a b n → IsAtom depth a b (Number (pos n))
    variable : {depth : ℕ} {a b : List Token} {name : Name} → 0 < depth → IsName a b name → IsAtom depth a b (Variable name)
    parentheses : {below depth : ℕ} {a b c d : List Token} {e : Expression} → below < depth → IsMark open_parenthesis a b → IsExpression below b c e
        → IsMark close_parenthesis c d → IsAtom depth a d e
    minimum : {below depth : ℕ} {a b c : List Token} {e f : Expression} → below < depth → IsToken (Word (codes "min")) a b → IsPair below b c e f → IsAtom depth a c (Minimum e f)
    maximum : {below depth : ℕ} {a b c : List Token} {e f : Expression} → below < depth → IsToken (Word (codes "max")) a b → IsPair below b c e f → IsAtom depth a c (Maximum e f)
    less : {below depth : ℕ} {a b c : List Token} {e f : Expression} → below < depth → IsToken (Word (codes "less")) a b → IsPair below b c e f → IsAtom depth a c (Less e f)
    pick : {below depth : ℕ} {a b c d e f g h i : List Token} {x y z : Expression} → below < depth
        → IsToken (Word (codes "pick")) a b → IsMark open_parenthesis b c → IsExpression below c d x → IsMark comma d e → IsExpression below e f y → IsMark comma f g
        → IsExpression below g h z → IsMark close_parenthesis h i
        → IsAtom depth a i (Pick x y z)

  -- two operands in parentheses
  pub data IsPair : (depth : ℕ) (tokens rest : List Token) (first second : Expression) → Type 0 where
    pair : {depth : ℕ} {a b c d e f : List Token} {x y : Expression}
        → IsMark open_parenthesis a b → IsExpression depth b c x → IsMark comma c d → IsExpression depth d e y → IsMark close_parenthesis e f → IsPair depth a f x y

-- ---- statements

-- a word, with the line where it stands
pub record IsWordAt (word : List ℕ) (tokens rest : List Token) (line : ℕ) : Type 0 where
  pub is : tokens ≡ record { kind = Word word; line = line } ∷ rest

-- the bracket behind an id, with its line
pub record IsIdEnd (tokens rest : List Token) (line : ℕ) : Type 0 where
  pub is : tokens ≡ record { kind = Mark close_bracket; line = line } ∷ rest

-- one column of a row, whose id is at least one expression
pub data IsAccess (limits : Limits) : (tokens rest : List Token) → Access → Type 0 where
  access : {a b c d e f g : List Token} {to : Access}
      → IsName a b to.table → IsMark open_bracket b c → Separated (IsExpression limits.depth) c d to.id → IsIdEnd d e to.id_line → IsMark dot e f → IsName f g to.column
      → length to.id ≤ limits.ids → IsAccess limits a g to

pub data IsStatement (limits : Limits) : (tokens rest : List Token) → Statement → Type 0 where
  get : {a b c d e f : List Token} {name : Name} {from : Access}
      → IsToken (Word (codes "get")) a b → IsName b c name → IsMark equals c d → IsAccess limits d e from → IsMark semicolon e f → IsStatement limits a f (Get name from)
  set : {a b c d e f : List Token} {line : ℕ} {to : Access} {value : Expression}
      → IsWordAt (codes "set") a b line → IsAccess limits b c to → IsMark equals c d → IsExpression limits.depth d e value → IsMark semicolon e f → IsStatement limits a f (Set line to value)
  out : {a b c d : List Token} {value : Expression}
      → IsToken (Word (codes "out")) a b → IsExpression limits.depth b c value → IsMark semicolon c d → IsStatement limits a d (Out value)

-- ---- procedures

abbrev pub class_word : Bool → List ℕ
class_word true = codes "now"
class_word false = codes "later"

pub data IsPiece (limits : Limits) : (tokens rest : List Token) → Piece → Type 0 where
  piece : {a b c d e f g h : List Token} {p : Piece}
      → IsWordAt (class_word p.is_now) a b p.class_line → IsName b c p.name → IsToken (Word (codes "at")) c d → IsExpression limits.depth d e p.place
      → IsMark open_brace e f → Each (IsStatement limits) f g p.body → IsMark close_brace g h → length p.body ≤ limits.statements → IsPiece limits a h p

-- names in parentheses, or none
pub data IsArguments (limits : Limits) : (tokens rest : List Token) → List Name → Type 0 where
  no_arguments : {a b c : List Token} → IsMark open_parenthesis a b → IsMark close_parenthesis b c → IsArguments limits a c []
  arguments : {a b c d : List Token} {names : List Name}
      → IsMark open_parenthesis a b → Separated IsName b c names → IsMark close_parenthesis c d → length names ≤ limits.arguments → IsArguments limits a d names

-- what opens the pieces of a procedure: {, or the word view and {
pub data IsOpening : (tokens rest : List Token) → (is_view : Bool) → Type 0 where
  plain : {a b : List Token} → IsMark open_brace a b → IsOpening a b false
  viewed : {a b c : List Token} → IsToken (Word (codes "view")) a b → IsMark open_brace b c → IsOpening a c true

-- at least one piece
pub data IsProcedure (limits : Limits) : (tokens rest : List Token) → Procedure → Type 0 where
  procedure : {a b c d e f g : List Token} {p : Procedure}
      → IsToken (Word (codes "proc")) a b → IsName b c p.name → IsArguments limits c d p.arguments
      → IsOpening d e p.is_view → Each (IsPiece limits) e f p.pieces → IsMark close_brace f g → 0 < length p.pieces → length p.pieces ≤ limits.pieces → IsProcedure limits a g p

-- ---- texts

-- how many integers an id has: one where nothing is said
pub data IsArity (limits : Limits) : (tokens rest : List Token) → ℕ → Type 0 where
  one : {a : List Token} → IsArity limits a a 1
  said : {a b c d : List Token} {n : ℕ} → IsMark open_bracket a b → IsInteger b c n → IsMark close_bracket c d → limits.least_arity ≤ n → n ≤ limits.arity → IsArity limits a d n

pub data IsTable (limits : Limits) : (tokens rest : List Token) → Table → Type 0 where
  table : {a b c d e f g : List Token} {t : Table}
      → IsToken (Word (codes "table")) a b → IsName b c t.name → IsArity limits c d t.arity → IsMark open_brace d e → Separated IsName e f t.columns → IsMark close_brace f g
      → length t.columns ≤ limits.columns → IsTable limits a g t

-- a place and an id of at least one integer
pub data IsInit (limits : Limits) : (tokens rest : List Token) → Init → Type 0 where
  init : {a b c d e f g h i j k l m : List Token} {line : Init}
      → IsToken (Word (codes "init")) a b → IsName b c line.table
      → IsMark open_bracket c d → IsSigned d e line.place → IsMark comma e f → Separated IsSigned f g line.id → IsIdEnd g h line.id_line → IsMark dot h i → IsName i j line.column
      → IsMark equals j k → IsSigned k l line.value → IsMark semicolon l m → length line.id ≤ limits.ids → IsInit limits a m line

-- the number of shards, where it stands
pub record IsShards (tokens rest : List Token) (shards line : ℕ) : Type 0 where
  pub is : tokens ≡ record { kind = Integer shards; line = line } ∷ rest
  pub fits : shards < 2 ^ 63

-- all of the tokens are a text of this tree
pub data IsText (limits : Limits) : List Token → Tree → Type 0 where
  text : {a b c d e f : List Token} {t : Tree}
      → IsToken (Word (codes "shards")) a b → IsShards b c t.shards t.shards_line → IsMark semicolon c d
      → Each (IsTable limits) d e t.tables → Each (IsInit limits) e f t.inits → Each (IsProcedure limits) f [] t.procedures
      → length t.tables ≤ limits.tables → length t.inits ≤ limits.inits → length t.procedures ≤ limits.procedures → IsText limits a t
