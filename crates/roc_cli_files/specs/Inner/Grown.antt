-- What comes of a workload that was read, where it is to be a grown one
use Rattle.std.specs.Prelude.{◌≡◌, ◌≢◌, ℕ, List, Option, Result, Ok, Err}
use Rattle.roc_program.specs.Program.{Workload}
use Rattle.roc_epoch.specs.declared.next.Next.{Next}
use Rattle.roc_epoch.specs.Growth.{IsGrowth}
use Rattle.roc_cli_files.specs.declared.fault.Fault.{Fault}
use Rattle.roc_cli_files.specs.declared.fault.Fault.TheVariants.{Growth, Same}
use Rattle.roc_cli_files.specs.declared.tagged.Tagged.{Tagged}
use Rattle.roc_cli_files.specs.NodeNames.{HoldsNext, NextFails}

-- it is what nodes go over to, or no grown one of this program
abbrev pub IsJudgedNext : (name : List ℕ) → Workload → Tagged → (coords : ℕ) → Result Next Fault → Type 0
IsJudgedNext name program tagged coords (Ok next) = (next ≡ record { plan = tagged.plan; tag = tagged.tag; coords = coords }) × IsGrowth program tagged.plan.program (Ok tt)
IsJudgedNext name program tagged coords (Err (Growth file fault)) = (file.now ≡ name) × IsGrowth program tagged.plan.program (Err fault)
IsJudgedNext name program tagged coords (Err _) = ⊥

-- it has another tag than this
abbrev pub IsJudgedTag : (name tag : List ℕ) → Next → Result Next Fault → Type 0
IsJudgedTag name tag next (Ok kept) = (kept ≡ next) × (next.tag ≢ tag)
IsJudgedTag name tag next (Err (Same file)) = (file.now ≡ name) × (next.tag ≡ tag)
IsJudgedTag name tag next (Err _) = ⊥

-- why a file gives none that has another tag
abbrev pub ApartFails : (List ℕ → Option (List ℕ)) → (name : List ℕ) → (coords : ℕ) → Workload → (tag : List ℕ) → (old new : Option (List ℕ)) → Fault → Type 0
ApartFails content name coords program tag old new (Same file) =
    (file.now ≡ name) × ((next : Next) × HoldsNext content name program coords next × (next.tag ≡ tag) × (new ≡ old))
ApartFails content name coords program tag old new fault = NextFails content name program old new fault
