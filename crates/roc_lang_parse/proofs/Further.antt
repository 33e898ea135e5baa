-- What is a text within limits is one within further limits; and limits that are further than any.
use Rattle.std.proofs.Common.{ℕ, ◌+◌, ◌^◌, ◌≤◌, max, List, arith, lit≤, lit<}
use Rattle.roc_lang.specs.Syntax.{Name, Expression, Access, Statement, Piece, Procedure, Table, Init, Tree}
use Rattle.roc_lang.specs.Tokens.{Token}
use Rattle.roc_lang.specs.Grammar as grammar
use Rattle.roc_lang.specs.Grammar.{Limits, standard, IsExpression, IsAccess, access, IsStatement, Each, none, first, Separated, last, more, IsPiece, piece, IsArguments, no_arguments, arguments, IsProcedure, procedure, IsArity, one, said, IsTable, table, IsInit, init, IsText, text}
use Rattle.roc_lang_parse.proofs.Depths.{bounded_sum, deep_sum}
use Rattle.roc_lang_parse.proofs.Exact.{Rule}
use Rattle.roc_lang_parse.proofs.Wider.{Further}

-- no limit is further
pub record AtMost (l m : Limits) : Type 0 where
  pub tables : l.tables ≤ m.tables
  pub columns : l.columns ≤ m.columns
  pub least_arity : m.least_arity ≤ l.least_arity
  pub arity : l.arity ≤ m.arity
  pub ids : l.ids ≤ m.ids
  pub inits : l.inits ≤ m.inits
  pub procedures : l.procedures ≤ m.procedures
  pub arguments : l.arguments ≤ m.arguments
  pub pieces : l.pieces ≤ m.pieces
  pub statements : l.statements ≤ m.statements
  pub depth : l.depth ≤ m.depth

-- past these limits, and past the standard ones; each integer is within its bounds
pub past : Limits → Limits
past l = record {
  tables = max l.tables standard.tables + 1;
  columns = max l.columns standard.columns + 1;
  least_arity = 0;
  arity = max l.arity (2 ^ 63);
  ids = max l.ids standard.ids + 1;
  inits = max l.inits standard.inits + 1;
  procedures = max l.procedures standard.procedures + 1;
  arguments = max l.arguments standard.arguments + 1;
  pieces = max l.pieces standard.pieces + 1;
  statements = max l.statements standard.statements + 1;
  depth = max l.depth standard.depth + 1;
}

pub past_all : (l : Limits) → AtMost l (past l)
unfolding past
past_all l = record {
  tables = omega arith;
  columns = omega arith;
  least_arity = omega arith;
  arity = omega arith;
  ids = omega arith;
  inits = omega arith;
  procedures = omega arith;
  arguments = omega arith;
  pieces = omega arith;
  statements = omega arith;
  depth = omega arith;
}

pub past_standard : (l : Limits) → Further standard (past l)
unfolding past
past_standard l = record {
  tables = omega arith;
  columns = record { above = omega arith; further = omega arith };
  arity = record { some = lit≤ tt; low = lit< tt; no_least = omega arith; no_most = omega arith };
  ids = record { above = omega arith; further = omega arith };
  inits = omega arith;
  procedures = omega arith;
  arguments = record { above = omega arith; further = omega arith };
  pieces = record { above = omega arith; further = omega arith };
  statements = omega arith;
  depth = record { above = omega arith; further = omega arith };
}

-- past limits that are the standard ones but for the integers of an id
pub past_ids : (ids : ℕ) → 1 ≤ ids → Further (record standard { ids = ids }) (past (record standard { ids = ids }))
unfolding past
past_ids ids some = record {
  tables = omega arith;
  columns = record { above = omega arith; further = omega arith };
  arity = record { some = lit≤ tt; low = lit< tt; no_least = omega arith; no_most = omega arith };
  ids = record { above = some; further = omega arith };
  inits = omega arith;
  procedures = omega arith;
  arguments = record { above = omega arith; further = omega arith };
  pieces = record { above = omega arith; further = omega arith };
  statements = omega arith;
  depth = record { above = omega arith; further = omega arith };
}

further_expression : (k k' : ℕ) → k ≤ k' → {ts us : List Token} {e : Expression} → IsExpression k ts us e → IsExpression k' ts us e
further_expression k k' h i = let d = deep_sum i in let f = d.fits in bounded_sum d.is k' (omega arith)

further_each : {A : Type 0} {R S : Rule A} → ((ts us : List Token) (x : A) → R ts us x → S ts us x) → {ts us : List Token} {xs : List A} → Each R ts us xs → Each S ts us xs
further_each f none = none
further_each f (first i others) = first (f _ _ _ i) (further_each f others)

further_separated : {A : Type 0} {R S : Rule A} → ((ts us : List Token) (x : A) → R ts us x → S ts us x) → {ts us : List Token} {xs : List A} → Separated R ts us xs → Separated S ts us xs
further_separated f (last i) = last (f _ _ _ i)
further_separated f (more i m others) = more (f _ _ _ i) m (further_separated f others)

further_access : (l m : Limits) → AtMost l m → {ts us : List Token} {x : Access} → IsAccess l ts us x → IsAccess m ts us x
further_access l m h (access n o i z d c fits) =
    let a = h.ids in
    access n o (further_separated (λ ts us e i. further_expression l.depth m.depth h.depth i) i) z d c (omega arith)

further_statement : (l m : Limits) → AtMost l m → (ts us : List Token) (x : Statement) → IsStatement l ts us x → IsStatement m ts us x
further_statement l m h ts us x (grammar.get w n e f s) = grammar.get w n e (further_access l m h f) s
further_statement l m h ts us x (grammar.set w t e v s) = grammar.set w (further_access l m h t) e (further_expression l.depth m.depth h.depth v) s
further_statement l m h ts us x (grammar.out w v s) = grammar.out w (further_expression l.depth m.depth h.depth v) s

further_piece : (l m : Limits) → AtMost l m → (ts us : List Token) (p : Piece) → IsPiece l ts us p → IsPiece m ts us p
further_piece l m h ts us p (piece w n k x o s z fits) =
    let s' = h.statements in
    piece w n k (further_expression l.depth m.depth h.depth x) o (further_each (further_statement l m h) s) z (omega arith)

further_arguments : (l m : Limits) → AtMost l m → {ts us : List Token} {names : List Name} → IsArguments l ts us names → IsArguments m ts us names
further_arguments l m h (no_arguments o c) = no_arguments o c
further_arguments l m h (arguments o s c fits) = let a = h.arguments in arguments o s c (omega arith)

further_procedure : (l m : Limits) → AtMost l m → (ts us : List Token) (p : Procedure) → IsProcedure l ts us p → IsProcedure m ts us p
further_procedure l m h ts us p (procedure w n list o ps z positive fits) = let a = h.pieces in procedure w n (further_arguments l m h list) o (further_each (further_piece l m h) ps) z positive (omega arith)

further_arity : (l m : Limits) → AtMost l m → {ts us : List Token} {n : ℕ} → IsArity l ts us n → IsArity m ts us n
further_arity l m h one = one
further_arity l m h (said o n c least most) = let a = h.least_arity in let b = h.arity in said o n c (omega arith) (omega arith)

further_table : (l m : Limits) → AtMost l m → (ts us : List Token) (t : Table) → IsTable l ts us t → IsTable m ts us t
further_table l m h ts us t (table w n r o cs z fits) = let a = h.columns in table w n (further_arity l m h r) o cs z (omega arith)

further_init : (l m : Limits) → AtMost l m → (ts us : List Token) (x : Init) → IsInit l ts us x → IsInit m ts us x
further_init l m h ts us x (init w t o p c q z d n e v s fits) = let a = h.ids in init w t o p c q z d n e v s (omega arith)

pub further_text : (l m : Limits) → AtMost l m → {ts : List Token} {t : Tree} → IsText l ts t → IsText m ts t
further_text l m h (text w n s tables inits procedures x y z) =
    let a = h.tables in
    let b = h.inits in
    let c = h.procedures in
    text w n s (further_each (further_table l m h) tables) (further_each (further_init l m h) inits) (further_each (further_procedure l m h) procedures) (omega arith) (omega arith) (omega arith)
