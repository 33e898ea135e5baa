-- The names of a text's tree are words
use Rattle.std.proofs.Common.{◌≡◌, ℕ, ℤ, Bool, List, [], ◌∷◌, ◌++◌, subst}
use Rattle.std.specs.List.{AllByRecursion}
use Rattle.roc_lang.specs.Syntax.{Name, Expression, Access, Statement, Piece, Procedure, Table, Init, Tree}
use Rattle.roc_lang.specs.Tokens as tokens
use Rattle.roc_lang.specs.Tokens.{Kind, Word, Integer, Mark, Token, IsWord, IsTokenStep, IsTokens}
use Rattle.roc_lang.specs.Grammar as grammar
use Rattle.roc_lang.specs.Grammar.{Limits, IsToken, IsName, IsSigned, Each, Separated, IsExpression, IsTerm, IsAtom, IsPair, IsAccess, IsStatement, IsPiece, IsArguments, IsOpening, IsProcedure, IsArity, IsTable, IsInit, IsText}
use Rattle.roc_report.specs.Names.{IsWordName, HasWords}

-- ---- the words of tokens

abbrev IsSpelt : Kind → Type 0
IsSpelt (Word letters) = IsWord letters
IsSpelt (Integer n) = Unit {0}
IsSpelt (Mark b) = Unit {0}

-- each word among tokens is one
abbrev Words : List Token → Type 0
Words ts = AllByRecursion (λ t. IsSpelt t.kind) ts

step_words : {line : ℕ} {bytes : List ℕ} {ts : List Token} {after : ℕ} {rest : List ℕ} → IsTokenStep line bytes ts after rest → (others : List Token) → Words others → Words (ts ++ others)
step_words (tokens.blank h) others w = w
step_words (tokens.comment text e all end) others w = w
step_words (tokens.word letters e is end) others w = (is, w)
step_words (tokens.integer digits e is end) others w = (tt, w)
step_words (tokens.mark h) others w = (tt, w)

spelt_words : {line : ℕ} {bytes : List ℕ} {ts : List Token} → IsTokens line bytes ts → Words ts
spelt_words tokens.nothing = tt
spelt_words (tokens.step {others = others} n i) = step_words n others (spelt_words i)

-- ---- what is left behind a part

-- behind a first token
headed : {t : Token} {a b : List Token} → a ≡ t ∷ b → Words a → Words b
headed e w = (subst Words e w).1

behind : {kind : Kind} {a b : List Token} → IsToken kind a b → Words a → Words b
behind t w = headed t.is w

name_word : {a b : List Token} {name : Name} → IsName a b name → Words a → IsWordName name × Words b
name_word i w = subst Words i.is w

-- each of several, and what is left behind them
module _ {A : Type 0} {Is : List Token → List Token → A → Type 0} (P : A → Type 0) (one : (a b : List Token) (x : A) → Is a b x → Words a → P x × Words b) where
  each_word : {a b : List Token} {xs : List A} → Each Is a b xs → Words a → AllByRecursion P xs × Words b
  each_word grammar.none w = (tt, w)
  each_word (grammar.first h rest) w = let x = one _ _ _ h w in let xs = each_word rest x.1 in ((x.0, xs.0), xs.1)

  separated_words : {a b : List Token} {xs : List A} → Separated Is a b xs → Words a → AllByRecursion P xs × Words b
  separated_words (grammar.last h) w = let x = one _ _ _ h w in ((x.0, tt), x.1)
  separated_words (grammar.more h c rest) w = let x = one _ _ _ h w in let xs = separated_words rest (behind c x.1) in ((x.0, xs.0), xs.1)

-- of parts without names of these kinds only what is left behind them
abbrev Any : {A : Type 0} → A → Type 0
Any x = Unit {0}

mutual
  expression_rest : {depth : ℕ} {a b : List Token} {e : Expression} → IsExpression depth a b e → Words a → Words b
  expression_rest (grammar.term h) w = term_rest h w
  expression_rest (grammar.sum l h m i) w = term_rest i (behind m (expression_rest h w))
  expression_rest (grammar.difference l h m i) w = term_rest i (behind m (expression_rest h w))

  term_rest : {depth : ℕ} {a b : List Token} {e : Expression} → IsTerm depth a b e → Words a → Words b
  term_rest (grammar.atom h) w = atom_rest h w
  term_rest (grammar.product l h m i) w = atom_rest i (behind m (term_rest h w))

  atom_rest : {depth : ℕ} {a b : List Token} {e : Expression} → IsAtom depth a b e → Words a → Words b
  atom_rest (grammar.number l i) w = behind i.is w
  atom_rest (grammar.variable l i) w = (name_word i w).1
  atom_rest (grammar.parentheses l o h c) w = behind c (expression_rest h (behind o w))
  atom_rest (grammar.minimum l t p) w = pair_rest p (behind t w)
  atom_rest (grammar.maximum l t p) w = pair_rest p (behind t w)
  atom_rest (grammar.less l t p) w = pair_rest p (behind t w)
  atom_rest (grammar.pick l t o x c y d z e) w = behind e (expression_rest z (behind d (expression_rest y (behind c (expression_rest x (behind o (behind t w)))))))

  pair_rest : {depth : ℕ} {a b : List Token} {e f : Expression} → IsPair depth a b e f → Words a → Words b
  pair_rest (grammar.pair o x c y p) w = behind p (expression_rest y (behind c (expression_rest x (behind o w))))

any_expression : {depth : ℕ} {a b : List Token} {e : Expression} → IsExpression depth a b e → Words a → Any e × Words b
any_expression h w = (tt, expression_rest h w)

access_rest : {limits : Limits} {a b : List Token} {to : Access} → IsAccess limits a b to → Words a → Words b
access_rest (grammar.access n o ids c d m few) w =
    let id = (separated_words Any (λ a b x. any_expression) ids (behind o (name_word n w).1)).1 in
    (name_word m (behind d (headed c.is id))).1

statement_rest : {limits : Limits} {a b : List Token} {s : Statement} → IsStatement limits a b s → Words a → Words b
statement_rest (grammar.get g n e f s) w = behind s (access_rest f (behind e (name_word n (behind g w)).1))
statement_rest (grammar.set g f e v s) w = behind s (expression_rest v (behind e (access_rest f (headed g.is w))))
statement_rest (grammar.out g v s) w = behind s (expression_rest v (behind g w))

any_statement : {limits : Limits} {a b : List Token} {s : Statement} → IsStatement limits a b s → Words a → Any s × Words b
any_statement h w = (tt, statement_rest h w)

any_piece : {limits : Limits} {a b : List Token} {p : Piece} → IsPiece limits a b p → Words a → Any p × Words b
any_piece (grammar.piece c n at place o body d few) w =
    (tt, behind d (each_word Any (λ a b x. any_statement) body (behind o (expression_rest place (behind at (name_word n (headed c.is w)).1)))).1)

arguments_rest : {limits : Limits} {a b : List Token} {names : List Name} → IsArguments limits a b names → Words a → Words b
arguments_rest (grammar.no_arguments o c) w = behind c (behind o w)
arguments_rest (grammar.arguments o names c few) w = behind c (separated_words IsWordName (λ a b x. name_word) names (behind o w)).1

opening_rest : {a b : List Token} {is_view : Bool} → IsOpening a b is_view → Words a → Words b
opening_rest (grammar.plain o) w = behind o w
opening_rest (grammar.viewed v o) w = behind o (behind v w)

signed_rest : {a b : List Token} {value : ℤ} → IsSigned a b value → Words a → Any value × Words b
signed_rest (grammar.plain i) w = (tt, behind i.is w)
signed_rest (grammar.negated m i few e) w = (tt, behind i (behind m w))

arity_rest : {limits : Limits} {a b : List Token} {n : ℕ} → IsArity limits a b n → Words a → Words b
arity_rest grammar.one w = w
arity_rest (grammar.said o i c least most) w = behind c (behind i.is (behind o w))

any_init : {limits : Limits} {a b : List Token} {i : Init} → IsInit limits a b i → Words a → Any i × Words b
any_init (grammar.init t n o place c ids d e m f v s few) w = (
  tt,
  (let id = (signed_rest place (behind o (name_word n (behind t w)).1)).1 in
      let column = behind e (headed d.is (separated_words Any (λ a b x. signed_rest) ids (behind c id)).1) in
      behind s (signed_rest v (behind f (name_word m column).1)).1),
)

-- ---- names

-- a table's name, and those of its columns
abbrev IsNamedTable : Table → Type 0
IsNamedTable t = IsWordName t.name × AllByRecursion IsWordName t.columns

table_words : {limits : Limits} {a b : List Token} {t : Table} → IsTable limits a b t → Words a → IsNamedTable t × Words b
table_words (grammar.table h n arity o columns c few) w =
    let name = name_word n (behind h w) in
    let names = separated_words IsWordName (λ a b x. name_word) columns (behind o (arity_rest arity name.1)) in
    ((name.0, names.0), behind c names.1)

procedure_words : {limits : Limits} {a b : List Token} {p : Procedure} → IsProcedure limits a b p → Words a → IsWordName p.name × Words b
procedure_words (grammar.procedure h n given o pieces c some few) w =
    let name = name_word n (behind h w) in
    (name.0, behind c (each_word Any (λ a b x. any_piece) pieces (opening_rest o (arguments_rest given name.1))).1)

both_of : {A : Type 0} (P Q : A → Type 0) (xs : List A) → AllByRecursion (λ x. P x × Q x) xs → AllByRecursion P xs × AllByRecursion Q xs
both_of P Q [] all = (tt, tt)
both_of P Q (x ∷ xs) all = let rest = both_of P Q xs all.1 in ((all.0.0, rest.0), (all.0.1, rest.1))

pub has_words : (limits : Limits) (bytes : List ℕ) (ts : List Token) (t : Tree) → IsTokens 1 bytes ts → IsText limits ts t → HasWords t
has_words limits bytes ts t spelt (grammar.text h n s tables inits procedures few_tables few_inits few_procedures) =
    let of_tables = each_word IsNamedTable (λ a b x. table_words) tables (behind s (headed n.is (behind h (spelt_words spelt)))) in
    let named = both_of (λ (t : Table). IsWordName t.name) (λ (t : Table). AllByRecursion IsWordName t.columns) t.tables of_tables.0 in
    let of_procedures = each_word (λ (p : Procedure). IsWordName p.name) (λ a b x. procedure_words) procedures (each_word Any (λ a b x. any_init) inits of_tables.1).1 in
    record { procedures = of_procedures.0; tables = named.0; columns = named.1 }
