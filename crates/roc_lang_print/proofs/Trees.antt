-- What holds of the tree of a text that was parsed: names are words, numbers fit, lists and depths are within the limits.
use Rattle.std.proofs.Common.{ℕ, ◌^◌, ◌<◌, ◌≤◌, Bool, List, length, arith, lit≤}
use Rattle.std.specs.List.{AllByRecursion}
use Rattle.roc_lang.specs.Syntax.{Name, Expression, Access, Statement, Get, Set, Out, Piece, Procedure, Table, Init, Tree}
use Rattle.roc_lang.specs.Tokens.{Token}
use Rattle.roc_lang.specs.Grammar as grammar
use Rattle.roc_lang.specs.Grammar.{standard, IsName, IsSigned, IsWordAt, IsIdEnd, IsExpression, IsAccess, IsStatement, IsPiece, IsArguments, IsOpening, IsProcedure, IsArity, IsTable, IsInit, IsText, Each, Separated}
use Rattle.roc_lang_print.proofs.Fit.{Words, behind, IsFitName, name_fit, IsFit, depth, expression_fit}
use Rattle.roc_lang_print.proofs.Spelling.{IsFitSigned, signed_fit}

-- ---- several

each_fit : {A : Type 0} (Is : List Token → List Token → A → Type 0) (Fit : A → Type 0) → ((a b : List Token) (x : A) → Is a b x → Words a → Fit x × Words b)
    → {a b : List Token} {xs : List A} → Each Is a b xs → Words a → AllByRecursion Fit xs × Words b
each_fit Is Fit step grammar.none w = (tt, w)
each_fit Is Fit step (grammar.first {a = a} {b = b} {x = x} i others) w =
    let y = step a b x i w in
    let ys = each_fit Is Fit step others y.1 in
    ((y.0, ys.0), ys.1)

separated_fit : {A : Type 0} (Is : List Token → List Token → A → Type 0) (Fit : A → Type 0) → ((a b : List Token) (x : A) → Is a b x → Words a → Fit x × Words b)
    → {a b : List Token} {xs : List A} → Separated Is a b xs → Words a → AllByRecursion Fit xs × (0 < length xs) × Words b
separated_fit Is Fit step (grammar.last {a = a} {b = b} {x = x} i) w = let y = step a b x i w in ((y.0, tt), omega arith, y.1)
separated_fit Is Fit step (grammar.more {a = a} {b = b} {x = x} i c others) w =
    let y = step a b x i w in
    let ys = separated_fit Is Fit step others (behind c y.1) in
    ((y.0, ys.0), omega arith, ys.2)

names_fit : {a b : List Token} {names : List Name} → Separated IsName a b names → Words a → AllByRecursion IsFitName names × (0 < length names) × Words b
names_fit i w = separated_fit IsName IsFitName (λ a b n j v. name_fit j v) i w

-- ---- procedures

pub record IsFitExpression (e : Expression) : Type 0 where
  pub fit : IsFit e
  pub shallow : depth e ≤ standard.depth

whole_fit : {a b : List Token} {e : Expression} → IsExpression standard.depth a b e → Words a → IsFitExpression e × Words b
whole_fit i w = let x = expression_fit i w in (record { fit = x.fit; shallow = x.shallow }, x.others)

-- what may stand in brackets
pub record IsFitId {A : Type 0} (Fit : A → Type 0) (id : List A) : Type 0 where
  pub all : AllByRecursion Fit id
  pub some : 0 < length id
  pub few : length id ≤ standard.ids

-- a word with its line
word_end : {word : List ℕ} {a b : List Token} {line : ℕ} → IsWordAt word a b line → Words a → Words b
word_end {line = line} i w = behind (record { line = line; is = i.is }) w

-- the bracket behind an id
id_end : {a b : List Token} {line : ℕ} → IsIdEnd a b line → Words a → Words b
id_end {line = line} i w = behind (record { line = line; is = i.is }) w

pub record IsFitAccess (a : Access) : Type 0 where
  pub table : IsFitName a.table
  pub id : IsFitId IsFitExpression a.id
  pub column : IsFitName a.column

access_fit : {a b : List Token} {x : Access} → IsAccess standard a b x → Words a → IsFitAccess x × Words b
access_fit (grammar.access t o i c d n few) w =
    let x = name_fit t w in
    let y = separated_fit (IsExpression standard.depth) IsFitExpression (λ a b e j v. whole_fit j v) i (behind o x.1) in
    let z = name_fit n (behind d (id_end c y.2)) in
    (record { table = x.0; id = record { all = y.0; some = y.1; few = few }; column = z.0 }, z.1)

abbrev pub IsFitStatement : Statement → Type 0
IsFitStatement (Get name from) = IsFitName name × IsFitAccess from
IsFitStatement (Set line to value) = IsFitAccess to × IsFitExpression value
IsFitStatement (Out value) = IsFitExpression value

statement_fit : {a b : List Token} {s : Statement} → IsStatement standard a b s → Words a → IsFitStatement s × Words b
statement_fit (grammar.get t n e i s) w =
    let x = name_fit n (behind t w) in
    let y = access_fit i (behind e x.1) in
    ((x.0, y.0), behind s y.1)
statement_fit (grammar.set t i e v s) w =
    let x = access_fit i (word_end t w) in
    let y = whole_fit v (behind e x.1) in
    ((x.0, y.0), behind s y.1)
statement_fit (grammar.out t v s) w = let x = whole_fit v (behind t w) in (x.0, behind s x.1)

pub record IsFitPiece (p : Piece) : Type 0 where
  pub name : IsFitName p.name
  pub place : IsFitExpression p.place
  pub body : AllByRecursion IsFitStatement p.body
  pub few : length p.body ≤ standard.statements

piece_fit : {a b : List Token} {p : Piece} → IsPiece standard a b p → Words a → IsFitPiece p × Words b
piece_fit (grammar.piece t n at e o body c few) w =
    let x = name_fit n (word_end t w) in
    let y = whole_fit e (behind at x.1) in
    let z = each_fit (IsStatement standard) IsFitStatement (λ a b x i v. statement_fit i v) body (behind o y.1) in
    (record { name = x.0; place = y.0; body = z.0; few = few }, behind c z.1)

pub record IsFitNames (names : List Name) (limit : ℕ) : Type 0 where
  pub all : AllByRecursion IsFitName names
  pub few : length names ≤ limit

arguments_fit : {a b : List Token} {names : List Name} → IsArguments standard a b names → Words a → IsFitNames names standard.arguments × Words b
arguments_fit (grammar.no_arguments o c) w = (record { all = tt; few = omega arith }, behind c (behind o w))
arguments_fit (grammar.arguments o i c few) w = let x = names_fit i (behind o w) in (record { all = x.0; few = few }, behind c x.2)

-- what opens the pieces
opening_fit : {a b : List Token} {is_view : Bool} → IsOpening a b is_view → Words a → Words b
opening_fit (grammar.plain o) w = behind o w
opening_fit (grammar.viewed t o) w = behind o (behind t w)

pub record IsFitProcedure (p : Procedure) : Type 0 where
  pub name : IsFitName p.name
  pub arguments : IsFitNames p.arguments standard.arguments
  pub pieces : AllByRecursion IsFitPiece p.pieces
  pub some : 0 < length p.pieces
  pub few : length p.pieces ≤ standard.pieces

procedure_fit : {a b : List Token} {p : Procedure} → IsProcedure standard a b p → Words a → IsFitProcedure p × Words b
procedure_fit (grammar.procedure t n i o pieces c some few) w =
    let x = name_fit n (behind t w) in
    let y = arguments_fit i x.1 in
    let z = each_fit (IsPiece standard) IsFitPiece (λ a b x j v. piece_fit j v) pieces (opening_fit o y.1) in
    (record { name = x.0; arguments = y.0; pieces = z.0; some = some; few = few }, behind c z.1)

-- ---- tables and init lines

pub record IsFitTable (t : Table) : Type 0 where
  pub name : IsFitName t.name
  pub some_integer : 1 ≤ t.arity
  pub few_integers : t.arity ≤ standard.arity
  pub columns : IsFitNames t.columns standard.columns
  pub some : 0 < length t.columns

arity_fit : {a b : List Token} {n : ℕ} → IsArity standard a b n → Words a → (1 ≤ n) × (n ≤ standard.arity) × Words b
arity_fit grammar.one w = (omega arith, lit≤ tt, w)
arity_fit (grammar.said o i c least most) w = (least, most, behind c (behind i.is (behind o w)))

table_fit : {a b : List Token} {t : Table} → IsTable standard a b t → Words a → IsFitTable t × Words b
table_fit (grammar.table t n r o i c few) w =
    let x = name_fit n (behind t w) in
    let a = arity_fit r x.1 in
    let y = names_fit i (behind o a.2) in
    (record { name = x.0; some_integer = a.0; few_integers = a.1; columns = record { all = y.0; few = few }; some = y.1 }, behind c y.2)

pub record IsFitInit (i : Init) : Type 0 where
  pub table : IsFitName i.table
  pub place : IsFitSigned i.place
  pub id : IsFitId IsFitSigned i.id
  pub column : IsFitName i.column
  pub value : IsFitSigned i.value

init_fit : {a b : List Token} {line : Init} → IsInit standard a b line → Words a → IsFitInit line × Words b
init_fit (grammar.init t n o p c i b d m e v s few) w =
    let x = name_fit n (behind t w) in
    let place = signed_fit p (behind o x.1) in
    let id = separated_fit IsSigned IsFitSigned (λ a b n j u. signed_fit j u) i (behind c place.1) in
    let column = name_fit m (behind d (id_end b id.2)) in
    let value = signed_fit v (behind e column.1) in
    (record { table = x.0; place = place.0; id = record { all = id.0; some = id.1; few = few }; column = column.0; value = value.0 }, behind s value.1)

-- ---- texts

pub record IsFitText (t : Tree) : Type 0 where
  pub shards : t.shards < 2 ^ 63
  pub tables : AllByRecursion IsFitTable t.tables
  pub inits : AllByRecursion IsFitInit t.inits
  pub procedures : AllByRecursion IsFitProcedure t.procedures
  pub few_tables : length t.tables ≤ standard.tables
  pub few_inits : length t.inits ≤ standard.inits
  pub few_procedures : length t.procedures ≤ standard.procedures

pub text_fit : {ts : List Token} {t : Tree} → IsText standard ts t → Words ts → IsFitText t
text_fit (grammar.text {t = t} k n s tables inits procedures few_tables few_inits few_procedures) w =
    let shards = behind (record { line = t.shards_line; is = n.is }) (behind k w) in
    let x = each_fit (IsTable standard) IsFitTable (λ a b x i v. table_fit i v) tables (behind s shards) in
    let y = each_fit (IsInit standard) IsFitInit (λ a b x i v. init_fit i v) inits x.1 in
    let z = each_fit (IsProcedure standard) IsFitProcedure (λ a b x i v. procedure_fit i v) procedures y.1 in
    record { shards = n.fits; tables = x.0; inits = y.0; procedures = z.0; few_tables = few_tables; few_inits = few_inits; few_procedures = few_procedures }
