-- The names of the tree of a workload text: docs/LANGUAGE.md, "Tokens" and "Scope"
use Rattle.std.specs.List.{AllByRecursion}
use Rattle.roc_lang.specs.Syntax.{Name, Table, Tree}
use Rattle.roc_lang.specs.Tokens.{IsWord}

abbrev pub IsWordName : Name → Type 0
IsWordName name = IsWord name.text

-- the names of procedures, tables and columns are words
pub record HasWords (t : Tree) : Type 0 where
  pub procedures : AllByRecursion (λ p. IsWordName p.name) t.procedures
  pub tables : AllByRecursion (λ (table : Table). IsWordName table.name) t.tables
  pub columns : AllByRecursion (λ (table : Table). AllByRecursion IsWordName table.columns) t.tables
