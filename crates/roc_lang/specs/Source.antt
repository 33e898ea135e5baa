-- The tree of a source: its fields, without where they lie in memory.
use Rattle.std.specs.Prelude.{map}
use Rattle.roc_lang.specs.declared.source.Source.TheInside.{Inside}
use Rattle.roc_lang.specs.Syntax.{Tree}
use Rattle.roc_lang.specs.Tree.{table_tree, init_tree, procedure_tree}

abbrev pub tree : Inside → Tree
tree s = record {
  shards = s.shards;
  shards_line = s.shards_line;
  tables = map table_tree s.tables.items;
  inits = map init_tree s.inits.items;
  procedures = map procedure_tree s.procedures.items;
}
