-- Data flow between the pieces of a procedure: docs/CHECKER.md, "Merging"
use Rattle.std.specs.Prelude.{ℕ, Bool, IsTrue}
use Rattle.std.specs.List.{list_any}
use Rattle.roc_program.specs.Program.{Workload}
use Rattle.roc_program.specs.Pieces.{piece_of}
use Rattle.roc_program.specs.Names.{bindings_of, piece_uses}
use Rattle.roc_merge_groups.specs.Groups.{piece_numbered}

-- y depends on z: it uses a name that z binds
abbrev pub feeds : Workload → (proc z y : ℕ) → Bool
feeds program proc z y = list_any (piece_uses (piece_of program (piece_numbered proc y))) (bindings_of (piece_of program (piece_numbered proc z)))

-- a path of such steps, in one step or through others
pub data Leads (feeds : ℕ → ℕ → Bool) (from : ℕ) : ℕ → Type 0 where
  directly : {to : ℕ} → IsTrue (feeds from to) → Leads feeds from to
  onward : {by to : ℕ} → Leads feeds from by → IsTrue (feeds by to) → Leads feeds from to

-- x is between p and q: a path leads from p through x to q
pub record IsBetween (program : Workload) (proc p x q : ℕ) : Type 0 where
  pub behind : Leads (feeds program proc) p x
  pub before : Leads (feeds program proc) x q
