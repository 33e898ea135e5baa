-- The ids of a tree's init lines have one to four integers, where its program is well formed
use Rattle.std.proofs.Common.{List, [], ◌∷◌, map}
use Rattle.std.specs.List.{AllByRecursion}
use Rattle.roc_lang.specs.Syntax as syntax
use Rattle.roc_program.specs.Keys.{IsKey}
use Rattle.roc_program.specs.Program.{Table}
use Rattle.roc_program.specs.WellFormed.{IsTable, IsInit}
use Rattle.roc_program.proofs.Keyed.{cell_keyed}
use Rattle.roc_lang_resolve.specs.Resolve as resolve

pub inits_keyed : (sources : List syntax.Table) (tables : List Table) (inits : List syntax.Init) → AllByRecursion IsTable tables → AllByRecursion (IsInit tables) (map (resolve.init sources) inits) → AllByRecursion (λ i. IsKey i.id) inits
inits_keyed sources tables [] small formed = tt
inits_keyed sources tables (i ∷ is) small formed =
    (cell_keyed tables (resolve.init sources i).table (resolve.init sources i).column i.id small formed.0.column, inits_keyed sources tables is small formed.1)
