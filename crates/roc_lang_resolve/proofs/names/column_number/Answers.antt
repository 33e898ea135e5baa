use Rattle.std.proofs.Common.{◌≡◌, ◌∙◌, ℕ, ◌<◌, List, [], length, map, get_or, sym, ap, arith}
use Rattle.std.proofs.lemmas.List.{length-map}
use Rattle.roc_lang.specs.declared.syntax.Table.{Table}
use Rattle.roc_lang.specs.Tree.{name_tree, table_tree}
use Rattle.roc_lang.specs.Limits.{IsSmallTable}
use Rattle.roc_program.proofs.Rows.{read-map, all_read}
use Rattle.roc_lang_resolve.specs.Resolve.{texts, number_in}
use Rattle.roc_lang_resolve.proofs.names.column_number.Goals as goal

-- the tree of the table that was read
table_read : (tables : List Table) (i : ℕ) (t : Table) → i < length tables → t ≡ get_or tables i t → table_tree t ≡ get_or (map table_tree tables) i (table_tree t)
table_read tables i t within is = sym (read-map table_tree tables i t (table_tree t) within is)

columns_read : (tables : List Table) (i : ℕ) (t : Table) → i < length tables → t ≡ get_or tables i t → get_or (map (λ t. texts t.columns) (map table_tree tables)) i [] ≡ texts (map name_tree t.columns.items)
columns_read tables i t within is =
    let here : i < length (map table_tree tables) = omega (arith, length-map tables table_tree) in
    read-map (λ t. texts t.columns) (map table_tree tables) i (table_tree t) [] here (table_read tables i t within is)

columns_of : (c : goal.After-place_in) → c.deref.result.now ≡ c.index-tables-table.result.columns.items
columns_of c = c.deref.ensures.value ∙ ap (λ t. t.columns.items) (sym c.index-tables-table.is)

pub returns-then-table-tables-clause-number : goal.returns-then-table-tables-clause-number
returns-then-table-tables-clause-number c =
    c.place_in.ensures.number
    ∙ ap (λ columns. number_in (texts (map name_tree columns)) (name_tree c.args.name.now).text) (columns_of c)
    ∙ ap (λ columns. number_in columns (name_tree c.args.name.now).text)
    (sym (columns_read c.args.tables.now c.args.table c.index-tables-table.result c.if-table-tables.true c.index-tables-table.is))

pub returns-then-table-tables-clause-within : goal.returns-then-table-tables-clause-within
returns-then-table-tables-clause-within c =
    let small = all_read IsSmallTable table_tree c.args.tables.now c.args.table c.index-tables-table.result c.requires.small c.if-table-tables.true c.index-tables-table.is in
    omega (arith, small.columns, ap length (columns_of c), length-map c.index-tables-table.result.columns.items name_tree)
