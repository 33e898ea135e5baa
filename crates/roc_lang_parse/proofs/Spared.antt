-- Where tokens are few, the limit of the integers of an id may be as many: a rule takes with it what it takes without
use Rattle.std.proofs.Common.{◌≡◌, ℕ, suc, ◌+◌, ◌<◌, ◌≤◌, Bool, ℤ, List, ◌∷◌, length, ap, arith}
use Rattle.roc_lang.specs.Tokens.{Kind, Token, IsTokens}
use Rattle.roc_lang.specs.Syntax.{Name, Expression, Access, Statement, Piece, Procedure, Table, Init, Tree}
use Rattle.roc_lang.specs.Grammar as grammar
use Rattle.roc_lang.specs.Grammar.{Limits, standard, text_limit, IsToken, IsName, IsSigned, Each, Separated, IsExpression, IsTerm, IsAtom, IsPair, IsWordAt, IsIdEnd, IsAccess, IsStatement, IsPiece, IsArguments}
use Rattle.roc_lang.specs.Grammar.{IsOpening, IsProcedure, IsArity, IsTable, IsInit, IsShards, IsText}
use Rattle.roc_lang_parse.proofs.Counted.{few_tokens}

-- ---- each rule takes some tokens

-- less is left behind a rule than stood before it
abbrev Takes : (a b : List Token) → Type 0
Takes a b = length b < length a

taken : (t : Token) (a b : List Token) → a ≡ t ∷ b → Takes a b
taken t a b is = let same : length a ≡ suc (length b) = ap length is in omega arith

pub token_takes : {k : Kind} {a b : List Token} → IsToken k a b → Takes a b
token_takes {k} {a} {b} h = taken (record { kind = k; line = h.line }) a b h.is

name_takes : {a b : List Token} {name : Name} → IsName a b name → Takes a b
name_takes {a} {b} h = taken _ a b h.is

word_takes : {word : List ℕ} {a b : List Token} {line : ℕ} → IsWordAt word a b line → Takes a b
word_takes {a = a} {b = b} h = taken _ a b h.is

end_takes : {a b : List Token} {line : ℕ} → IsIdEnd a b line → Takes a b
end_takes {a} {b} h = taken _ a b h.is

shards_takes : {a b : List Token} {shards line : ℕ} → IsShards a b shards line → Takes a b
shards_takes {a} {b} h = taken _ a b h.is

pub signed_takes : {a b : List Token} {value : ℤ} → IsSigned a b value → Takes a b
signed_takes (grammar.plain h) = token_takes h.is
signed_takes (grammar.negated {a} {b} {c} h1 h2 few e) = let one = token_takes h1 in let two = token_takes h2 in omega (arith, one, two)

mutual
  pub expression_takes : {depth : ℕ} {a b : List Token} {e : Expression} → IsExpression depth a b e → Takes a b
  expression_takes (grammar.term h) = term_takes h
  expression_takes (grammar.sum h1 h2 h3 h4) = let one = expression_takes h2 in let two = token_takes h3 in let three = term_takes h4 in omega (arith, one, two, three)
  expression_takes (grammar.difference h1 h2 h3 h4) = let one = expression_takes h2 in let two = token_takes h3 in let three = term_takes h4 in omega (arith, one, two, three)

  term_takes : {depth : ℕ} {a b : List Token} {e : Expression} → IsTerm depth a b e → Takes a b
  term_takes (grammar.atom h) = atom_takes h
  term_takes (grammar.product h1 h2 h3 h4) = let one = term_takes h2 in let two = token_takes h3 in let three = atom_takes h4 in omega (arith, one, two, three)

  atom_takes : {depth : ℕ} {a b : List Token} {e : Expression} → IsAtom depth a b e → Takes a b
  atom_takes (grammar.number h1 h2) = token_takes h2.is
  atom_takes (grammar.variable h1 h2) = name_takes h2
  atom_takes (grammar.parentheses h1 h2 h3 h4) = let one = token_takes h2 in let two = expression_takes h3 in let three = token_takes h4 in omega (arith, one, two, three)
  atom_takes (grammar.minimum h1 h2 h3) = let one = token_takes h2 in let two = pair_takes h3 in omega (arith, one, two)
  atom_takes (grammar.maximum h1 h2 h3) = let one = token_takes h2 in let two = pair_takes h3 in omega (arith, one, two)
  atom_takes (grammar.less h1 h2 h3) = let one = token_takes h2 in let two = pair_takes h3 in omega (arith, one, two)
  atom_takes (grammar.pick h1 h2 h3 h4 h5 h6 h7 h8 h9) =
      let one = token_takes h2 in let two = token_takes h3 in let three = expression_takes h4 in let four = token_takes h5 in let five = expression_takes h6 in
      let six = token_takes h7 in let seven = expression_takes h8 in let eight = token_takes h9 in
      omega (arith, one, two, three, four, five, six, seven, eight)

  pair_takes : {depth : ℕ} {a b : List Token} {e f : Expression} → IsPair depth a b e f → Takes a b
  pair_takes (grammar.pair h1 h2 h3 h4 h5) =
      let one = token_takes h1 in let two = expression_takes h2 in let three = token_takes h3 in let four = expression_takes h4 in let five = token_takes h5 in
      omega (arith, one, two, three, four, five)

-- several with commas between take one each
several_take : {A : Type 0} {Is : List Token → List Token → A → Type 0} → ((a b : List Token) (x : A) → Is a b x → Takes a b) → {a b : List Token} {xs : List A}
    → Separated Is a b xs → length xs + length b ≤ length a
several_take takes (grammar.last {a} {b} {x} h) = let one = takes a b x h in omega (arith, one)
several_take takes (grammar.more {a} {b} {c} {d} {x} {xs} h comma rest) =
    let one = takes a b x h in let two = token_takes comma in let three = several_take takes rest in omega (arith, one, two, three)

-- ---- what takes no more tokens than these, and what it is with such a limit

-- a rule that takes something of these tokens takes it with this limit too
record Spares {A : Type 0} (Is Spared : List Token → List Token → A → Type 0) (most : ℕ) : Type 0 where
  takes : (a b : List Token) (x : A) → Is a b x → Takes a b
  spared : (a b : List Token) (x : A) → length a ≤ most → Is a b x → Spared a b x

each_takes : {A : Type 0} {Is : List Token → List Token → A → Type 0} → ((a b : List Token) (x : A) → Is a b x → Takes a b) → {a b : List Token} {xs : List A} → Each Is a b xs
    → length b ≤ length a
each_takes takes grammar.none = omega arith
each_takes takes (grammar.first {a} {b} {c} {x} h rest) = let one = takes a b x h in let two = each_takes takes rest in omega (arith, one, two)

each_spared : {A : Type 0} {Is Spared : List Token → List Token → A → Type 0} {most : ℕ} → Spares Is Spared most → {a b : List Token} {xs : List A} → length a ≤ most → Each Is a b xs
    → Each Spared a b xs
each_spared spares few grammar.none = grammar.none
each_spared spares few (grammar.first {a} {b} {c} {x} h rest) =
    let one = spares.takes a b x h in grammar.first (spares.spared a b x few h) (each_spared spares (omega (arith, one, few)) rest)

module _ (limits : Limits) (most : ℕ) where
  abbrev spare : Limits
  spare = record limits { ids = most }

  access_takes : (a b : List Token) (to : Access) → IsAccess limits a b to → Takes a b
  access_takes a b to (grammar.access h1 h2 h3 h4 h5 h6 few) =
      let one = name_takes h1 in let two = token_takes h2 in let three = several_take (λ a b e. expression_takes) h3 in let four = end_takes h4 in
      let five = token_takes h5 in let six = name_takes h6 in
      omega (arith, one, two, three, four, five, six)

  access_spared : (a b : List Token) (to : Access) → length a ≤ most → IsAccess limits a b to → IsAccess spare a b to
  access_spared a b to room (grammar.access h1 h2 h3 h4 h5 h6 few) =
      let one = name_takes h1 in let two = token_takes h2 in let three = several_take (λ a b e. expression_takes) h3 in
      grammar.access h1 h2 h3 h4 h5 h6 (omega (arith, one, two, three, room))

  statement_takes : (a b : List Token) (s : Statement) → IsStatement limits a b s → Takes a b
  statement_takes a b s (grammar.get {from = from} h1 h2 h3 h4 h5) =
      let one = token_takes h1 in let two = name_takes h2 in let three = token_takes h3 in let four = access_takes _ _ from h4 in let five = token_takes h5 in
      omega (arith, one, two, three, four, five)
  statement_takes a b s (grammar.set {to = to} h1 h2 h3 h4 h5) =
      let one = word_takes h1 in let two = access_takes _ _ to h2 in let three = token_takes h3 in let four = expression_takes h4 in let five = token_takes h5 in
      omega (arith, one, two, three, four, five)
  statement_takes a b s (grammar.out h1 h2 h3) = let one = token_takes h1 in let two = expression_takes h2 in let three = token_takes h3 in omega (arith, one, two, three)

  statement_spared : (a b : List Token) (s : Statement) → length a ≤ most → IsStatement limits a b s → IsStatement spare a b s
  statement_spared a b s room (grammar.get {from = from} h1 h2 h3 h4 h5) =
      let one = token_takes h1 in let two = name_takes h2 in let three = token_takes h3 in
      grammar.get h1 h2 h3 (access_spared _ _ from (omega (arith, one, two, three, room)) h4) h5
  statement_spared a b s room (grammar.set {to = to} h1 h2 h3 h4 h5) =
      let one = word_takes h1 in grammar.set h1 (access_spared _ _ to (omega (arith, one, room)) h2) h3 h4 h5
  statement_spared a b s room (grammar.out h1 h2 h3) = grammar.out h1 h2 h3

  statements : Spares (IsStatement limits) (IsStatement spare) most
  statements = record { takes = statement_takes; spared = statement_spared }

  piece_takes : (a b : List Token) (p : Piece) → IsPiece limits a b p → Takes a b
  piece_takes a b p (grammar.piece h1 h2 h3 h4 h5 h6 h7 few) =
      let one = word_takes h1 in let two = name_takes h2 in let three = token_takes h3 in let four = expression_takes h4 in let five = token_takes h5 in
      let six = each_takes statement_takes h6 in let seven = token_takes h7 in
      omega (arith, one, two, three, four, five, six, seven)

  piece_spared : (a b : List Token) (p : Piece) → length a ≤ most → IsPiece limits a b p → IsPiece spare a b p
  piece_spared a b p room (grammar.piece h1 h2 h3 h4 h5 h6 h7 few) =
      let one = word_takes h1 in let two = name_takes h2 in let three = token_takes h3 in let four = expression_takes h4 in let five = token_takes h5 in
      grammar.piece h1 h2 h3 h4 h5 (each_spared statements (omega (arith, one, two, three, four, five, room)) h6) h7 few

  pieces : Spares (IsPiece limits) (IsPiece spare) most
  pieces = record { takes = piece_takes; spared = piece_spared }

  arguments_take : (a b : List Token) (names : List Name) → IsArguments limits a b names → Takes a b
  arguments_take a b names (grammar.no_arguments h1 h2) = let one = token_takes h1 in let two = token_takes h2 in omega (arith, one, two)
  arguments_take a b names (grammar.arguments h1 h2 h3 few) =
      let one = token_takes h1 in let two = several_take (λ a b name. name_takes) h2 in let three = token_takes h3 in omega (arith, one, two, three)

  arguments_spared : (a b : List Token) (names : List Name) → IsArguments limits a b names → IsArguments spare a b names
  arguments_spared a b names (grammar.no_arguments h1 h2) = grammar.no_arguments h1 h2
  arguments_spared a b names (grammar.arguments h1 h2 h3 few) = grammar.arguments h1 h2 h3 few

  opening_takes : (a b : List Token) (is_view : Bool) → IsOpening a b is_view → Takes a b
  opening_takes a b is_view (grammar.plain h) = token_takes h
  opening_takes a b is_view (grammar.viewed h1 h2) = let one = token_takes h1 in let two = token_takes h2 in omega (arith, one, two)

  procedure_takes : (a b : List Token) (p : Procedure) → IsProcedure limits a b p → Takes a b
  procedure_takes a b p (grammar.procedure h1 h2 h3 h4 h5 h6 some few) =
      let one = token_takes h1 in let two = name_takes h2 in let three = arguments_take _ _ p.arguments h3 in let four = opening_takes _ _ p.is_view h4 in
      let five = each_takes piece_takes h5 in let six = token_takes h6 in
      omega (arith, one, two, three, four, five, six)

  procedure_spared : (a b : List Token) (p : Procedure) → length a ≤ most → IsProcedure limits a b p → IsProcedure spare a b p
  procedure_spared a b p room (grammar.procedure h1 h2 h3 h4 h5 h6 some few) =
      let one = token_takes h1 in let two = name_takes h2 in let three = arguments_take _ _ p.arguments h3 in let four = opening_takes _ _ p.is_view h4 in
      grammar.procedure h1 h2 (arguments_spared _ _ p.arguments h3) h4 (each_spared pieces (omega (arith, one, two, three, four, room)) h5) h6 some few

  procedures : Spares (IsProcedure limits) (IsProcedure spare) most
  procedures = record { takes = procedure_takes; spared = procedure_spared }

  arity_takes : (a b : List Token) (n : ℕ) → IsArity limits a b n → length b ≤ length a
  arity_takes a b n grammar.one = omega arith
  arity_takes a b n (grammar.said h1 h2 h3 least most) = let one = token_takes h1 in let two = token_takes h2.is in let three = token_takes h3 in omega (arith, one, two, three)

  arity_spared : (a b : List Token) (n : ℕ) → IsArity limits a b n → IsArity spare a b n
  arity_spared a b n grammar.one = grammar.one
  arity_spared a b n (grammar.said h1 h2 h3 least most) = grammar.said h1 h2 h3 least most

  table_takes : (a b : List Token) (t : Table) → IsTable limits a b t → Takes a b
  table_takes a b t (grammar.table h1 h2 h3 h4 h5 h6 few) =
      let one = token_takes h1 in let two = name_takes h2 in let three = arity_takes _ _ t.arity h3 in let four = token_takes h4 in
      let five = several_take (λ a b name. name_takes) h5 in let six = token_takes h6 in
      omega (arith, one, two, three, four, five, six)

  table_spared : (a b : List Token) (t : Table) → length a ≤ most → IsTable limits a b t → IsTable spare a b t
  table_spared a b t room (grammar.table h1 h2 h3 h4 h5 h6 few) = grammar.table h1 h2 (arity_spared _ _ t.arity h3) h4 h5 h6 few

  tables : Spares (IsTable limits) (IsTable spare) most
  tables = record { takes = table_takes; spared = table_spared }

  init_takes : (a b : List Token) (line : Init) → IsInit limits a b line → Takes a b
  init_takes a b line (grammar.init h1 h2 h3 h4 h5 h6 h7 h8 h9 h10 h11 h12 few) =
      let one = token_takes h1 in let two = name_takes h2 in let three = token_takes h3 in let four = signed_takes h4 in let five = token_takes h5 in
      let six = several_take (λ a b value. signed_takes) h6 in let seven = end_takes h7 in let eight = token_takes h8 in let nine = name_takes h9 in
      let ten = token_takes h10 in let eleven = signed_takes h11 in let twelve = token_takes h12 in
      omega (arith, one, two, three, four, five, six, seven, eight, nine, ten, eleven, twelve)

  init_spared : (a b : List Token) (line : Init) → length a ≤ most → IsInit limits a b line → IsInit spare a b line
  init_spared a b line room (grammar.init h1 h2 h3 h4 h5 h6 h7 h8 h9 h10 h11 h12 few) =
      let one = token_takes h1 in let two = name_takes h2 in let three = token_takes h3 in let four = signed_takes h4 in let five = token_takes h5 in
      let six = several_take (λ a b value. signed_takes) h6 in
      grammar.init h1 h2 h3 h4 h5 h6 h7 h8 h9 h10 h11 h12 (omega (arith, one, two, three, four, five, six, room))

  inits : Spares (IsInit limits) (IsInit spare) most
  inits = record { takes = init_takes; spared = init_spared }

  text_spared : (all : List Token) (t : Tree) → length all ≤ most → IsText limits all t → IsText spare all t
  text_spared all t room (grammar.text h1 h2 h3 tables_are inits_are procedures_are few_tables few_inits few_procedures) =
      let one = token_takes h1 in let two = shards_takes h2 in let three = token_takes h3 in
      let four = each_takes table_takes tables_are in let five = each_takes init_takes inits_are in
      grammar.text h1 h2 h3 (each_spared tables (omega (arith, one, two, three, room)) tables_are) (each_spared inits (omega (arith, one, two, three, four, room)) inits_are)
      (each_spared procedures (omega (arith, one, two, three, four, five, room)) procedures_are) few_tables few_inits few_procedures

pub never_too_long : (limits : Limits) (bytes : List ℕ) (all : List Token) (t : Tree) → length bytes ≤ text_limit → IsTokens 1 bytes all → IsText limits all t
    → IsText (record limits { ids = standard.ids }) all t
never_too_long limits bytes all t size are is = let few = few_tokens are in text_spared limits standard.ids all t (omega (arith, size, few)) is
