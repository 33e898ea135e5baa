-- A text of the grammar is within the limits, and its integers fit 64 bits
use Rattle.std.proofs.Common.{◌≡◌, ℕ, zero, suc, ℤ, pos, ◌<◌, ◌≤◌, ◌^◌, List, length, FitsSigned, w64, sym, subst, arith, rules, lit≤}
use Rattle.std.specs.Prelude.{neg_ℤ}
use Rattle.std.specs.List.{AllByRecursion}
use Rattle.roc_lang.specs.Tokens.{Token}
use Rattle.roc_lang.specs.Syntax.{Expression, Access, Statement, Piece, Procedure, Table, Init, Name, Tree}
use Rattle.roc_lang.specs.Grammar as grammar
use Rattle.roc_lang.specs.Grammar.{standard, Each, none, first, Separated, last, more, IsExpression, IsTerm, IsAtom, IsPair, IsAccess, access, IsStatement, IsPiece, piece, IsArguments, no_arguments, arguments, IsProcedure, procedure, IsArity, one, said, IsTable, table, IsText, text}
use Rattle.roc_lang.specs.Limits.{IsSmallTable, IsSmallProcedure, IsSmallTree, AreWords, AreStatementWords, ArePieceWords, AreInitWords, IsWithinLimits}

-- what holds of each that a rule takes holds of all
pub each_all : {A : Type 0} {Is : List Token → List Token → A → Type 0} (P : A → Type 0) → ((a b : List Token) (x : A) → Is a b x → P x) → {a b : List Token} {xs : List A} → Each Is a b xs → AllByRecursion P xs
each_all P each none = tt
each_all P each (first h rest) = (each _ _ _ h, each_all P each rest)

least_arity : (a b : List Token) (n : ℕ) → IsArity standard a b n → standard.least_arity ≤ n
least_arity a b n one = omega arith
least_arity a b n (said h1 h2 h3 least most) = least

most_arity : (a b : List Token) (n : ℕ) → IsArity standard a b n → n ≤ standard.arity
most_arity a b n one = lit≤ tt
most_arity a b n (said h1 h2 h3 least most) = most

small_table : (a b : List Token) (t : Table) → IsTable standard a b t → IsSmallTable t
small_table a b t (table h1 h2 h3 h4 h5 h6 few) = record { some_integer = least_arity _ _ t.arity h3; arity = most_arity _ _ t.arity h3; columns = few }

separated_all : {A : Type 0} {Is : List Token → List Token → A → Type 0} (P : A → Type 0) → ((a b : List Token) (x : A) → Is a b x → P x) → {a b : List Token} {xs : List A} → Separated Is a b xs → AllByRecursion P xs
separated_all P each (last h) = (each _ _ _ h, tt)
separated_all P each (more h comma rest) = (each _ _ _ h, separated_all P each rest)

few_statements : (a b : List Token) (p : Piece) → IsPiece standard a b p → length p.body ≤ standard.statements
few_statements a b p (piece h1 h2 h3 h4 h5 h6 h7 few) = few

few_arguments : (a b : List Token) (names : List Name) → IsArguments standard a b names → length names ≤ standard.arguments
few_arguments a b names (no_arguments h1 h2) = omega arith
few_arguments a b names (arguments h1 h2 h3 few) = few

small_procedure : (a b : List Token) (p : Procedure) → IsProcedure standard a b p → IsSmallProcedure p
small_procedure a b p (procedure h1 h2 h3 h4 h5 h6 some few) =
    record { arguments = few_arguments _ _ p.arguments h3; some_piece = some; pieces = few; statements = each_all (λ p. length p.body ≤ standard.statements) few_statements h5 }

small_tree : (tokens : List Token) (t : Tree) → IsText standard tokens t → IsSmallTree t
small_tree tokens t (text h1 h2 h3 tables inits procedures few_tables few_inits few_procedures) =
    record {
      tables = record { few = few_tables; small = each_all IsSmallTable small_table tables };
      inits = few_inits;
      few_procedures = few_procedures;
      procedures = each_all IsSmallProcedure small_procedure procedures;
    }

-- ---- integers

pub integer_fits : (n : ℕ) → n < 2 ^ 63 → FitsSigned w64 (pos n)
integer_fits n h = search rules

mutual
  expression_words : {depth : ℕ} {a b : List Token} {e : Expression} → IsExpression depth a b e → AreWords e
  expression_words (grammar.term h) = term_words h
  expression_words (grammar.sum h1 h2 h3 h4) = (expression_words h2, term_words h4)
  expression_words (grammar.difference h1 h2 h3 h4) = (expression_words h2, term_words h4)

  term_words : {depth : ℕ} {a b : List Token} {e : Expression} → IsTerm depth a b e → AreWords e
  term_words (grammar.atom h) = atom_words h
  term_words (grammar.product h1 h2 h3 h4) = (term_words h2, atom_words h4)

  atom_words : {depth : ℕ} {a b : List Token} {e : Expression} → IsAtom depth a b e → AreWords e
  atom_words (grammar.number {depth} {a} {b} {n} h1 h2) = integer_fits n h2.fits
  atom_words (grammar.variable h1 h2) = tt
  atom_words (grammar.parentheses h1 h2 h3 h4) = expression_words h3
  atom_words (grammar.minimum h1 h2 h3) = pair_words h3
  atom_words (grammar.maximum h1 h2 h3) = pair_words h3
  atom_words (grammar.less h1 h2 h3) = pair_words h3
  atom_words (grammar.pick h1 h2 h3 h4 h5 h6 h7 h8 h9) = (expression_words h4, expression_words h6, expression_words h8)

  pair_words : {depth : ℕ} {a b : List Token} {e f : Expression} → IsPair depth a b e f → AreWords e × AreWords f
  pair_words (grammar.pair h1 h2 h3 h4 h5) = (expression_words h2, expression_words h4)

access_words : (a b : List Token) (to : Access) → IsAccess standard a b to → AllByRecursion AreWords to.id
access_words a b to (access h1 h2 h3 h4 h5 h6 few) = separated_all AreWords (λ a b e h. expression_words h) h3

statement_words : (a b : List Token) (s : Statement) → IsStatement standard a b s → AreStatementWords s
statement_words a b s (grammar.get {name = name} {from = from} h1 h2 h3 h4 h5) = access_words _ _ from h4
statement_words a b s (grammar.set {to = to} {value = value} h1 h2 h3 h4 h5) = (access_words _ _ to h2, expression_words h4)
statement_words a b s (grammar.out h1 h2 h3) = expression_words h2

piece_words : (a b : List Token) (p : Piece) → IsPiece standard a b p → ArePieceWords p
piece_words a b p (piece h1 h2 h3 h4 h5 h6 h7 few) = record { place = expression_words h4; body = each_all AreStatementWords statement_words h6 }

procedure_words : (a b : List Token) (p : Procedure) → IsProcedure standard a b p → AllByRecursion ArePieceWords p.pieces
procedure_words a b p (procedure h1 h2 h3 h4 h5 h6 some few) = each_all ArePieceWords piece_words h5

words_text : (tokens : List Token) (t : Tree) → IsText standard tokens t → AllByRecursion (λ p. AllByRecursion ArePieceWords p.pieces) t.procedures
words_text tokens t (text h1 h2 h3 tables inits procedures few_tables few_inits few_procedures) = each_all (λ p. AllByRecursion ArePieceWords p.pieces) procedure_words procedures

-- ---- init lines

signed_fits : (value : ℤ) (n : ℕ) → n ≤ 2 ^ 63 → value ≡ neg_ℤ (pos n) → FitsSigned w64 value
signed_fits value n h e = let P : ℤ → Type 0 = FitsSigned w64 in subst P (sym e) (negated_fits n h)
  where
    negated_fits : (n : ℕ) → n ≤ 2 ^ 63 → FitsSigned w64 (neg_ℤ (pos n))
    negated_fits zero h = search rules
    negated_fits (suc n) h = search rules

signed_words : {a b : List Token} {value : ℤ} → grammar.IsSigned a b value → FitsSigned w64 value
signed_words (grammar.plain {n = n} h) = integer_fits n h.fits
signed_words (grammar.negated {n = n} {value = value} h1 h2 h3 e) = signed_fits value n h3 e

init_words : (a b : List Token) (i : Init) → grammar.IsInit standard a b i → AreInitWords i
init_words a b i (grammar.init h1 h2 h3 h4 h5 h6 h7 h8 h9 h10 h11 h12 few) =
    record { place = signed_words h4; id = separated_all (FitsSigned w64) (λ a b n h. signed_words h) h6; value = signed_words h11 }

inits_text : (tokens : List Token) (t : Tree) → IsText standard tokens t → AllByRecursion AreInitWords t.inits
inits_text tokens t (text h1 h2 h3 tables inits procedures few_tables few_inits few_procedures) = each_all AreInitWords init_words inits

-- ---- texts

pub within_limits : (tokens : List Token) (t : Tree) → IsText standard tokens t → IsWithinLimits t
within_limits tokens t is = record { counts = small_tree tokens t is; inits = inits_text tokens t is; pieces = words_text tokens t is }
