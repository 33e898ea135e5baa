-- What reading a workload to grow to gives
use Rattle.std.proofs.Common.{◌≡◌, ◌≢◌, ℕ, List, Option, Some, None, Result, Ok, Err, IfOk, IfErr, refl, sym, ap, subst, ◌∙◌}
use Rattle.roc_cli_words.specs.declared.command.Growth.{Growth as Growing}
use Rattle.roc_cli_words.specs.Commands.{growth_of}
use Rattle.roc_program.specs.Program.{Workload}
use Rattle.roc_epoch.specs.declared.next.Next.{Next}
use Rattle.roc_cli_files.specs.declared.fault.Fault.{Fault}
use Rattle.roc_cli_files.specs.declared.fault.Fault.TheVariants.{Growth, Same}
use Rattle.roc_cli_files.specs.declared.tagged.Tagged.{Tagged}
use Rattle.roc_cli_files.specs.Input.{PlanFails}
use Rattle.roc_cli_files.specs.NodeNames.{HoldsTagged, HoldsNext, HoldsGrowth, NextFails, GrowthFails}
use Rattle.roc_cli_files.specs.Inner.Grown.{IsJudgedNext, IsJudgedTag, ApartFails}

module _ (content : List ℕ → Option (List ℕ)) (name : List ℕ) (program : Workload) where
  -- its file gives no plan
  pub planless : (old new : Option (List ℕ)) (fault : Fault) → PlanFails content name old new fault → NextFails content name program old new fault
  planless old new (Growth file fault) h = absurd h.0
  planless old new _ h = h

  -- its file gives one, which was judged
  module _ (tagged : Tagged) (coords : ℕ) (held : HoldsTagged content name tagged.plan tagged.tag) where
    pub next_held : (result : Result Next Fault) → IsJudgedNext name program tagged coords result → IfOk result (HoldsNext content name program coords)
    next_held (Ok next) (e, grown) = subst (HoldsNext content name program coords) (sym e) (record { held = held; grown = grown; count = refl })
    next_held (Err fault) h = tt

    pub next_fails : (old new : Option (List ℕ)) (result : Result Next Fault) → new ≡ old → IsJudgedNext name program tagged coords result
        → IfErr result (NextFails content name program old new)
    next_fails old new (Ok next) same h = tt
    next_fails old new (Err (Growth file fault)) same (e, is) = (e, record { plan = tagged.plan; held = held.0; is = is }, same)
    next_fails old new (Err _) same h = absurd h

  -- ---- ..with another tag

  module _ (coords : ℕ) (tag : List ℕ) where
    pub apart_held : (next : Next) → HoldsNext content name program coords next → (result : Result Next Fault) → IsJudgedTag name tag next result
        → IfOk result (λ n. HoldsNext content name program coords n × (n.tag ≢ tag))
    apart_held next held (Ok kept) (e, other) = subst (λ (n : Next). HoldsNext content name program coords n × (n.tag ≢ tag)) (sym e) (held, other)
    apart_held next held (Err fault) h = tt

    pub apart_fails : (next : Next) → HoldsNext content name program coords next → (old new : Option (List ℕ)) (result : Result Next Fault) → new ≡ old → IsJudgedTag name tag next result
        → IfErr result (ApartFails content name coords program tag old new)
    apart_fails next held old new (Ok kept) same h = tt
    apart_fails next held old new (Err (Same file)) same (e, is) = (e, (next, held, is, same))
    apart_fails next held old new (Err _) same h = absurd h

    pub nextless : (old new : Option (List ℕ)) (fault : Fault) → NextFails content name program old new fault → ApartFails content name coords program tag old new fault
    nextless old new (Same file) h = absurd h.0
    nextless old new _ h = h

-- ---- ..where it is named

module _ (content : List ℕ → Option (List ℕ)) (program : Workload) (tag : List ℕ) (growth : Option Growing) (asked : Growing) (is : growth ≡ Some asked) where
  pub named_held : (next : Next) → HoldsNext content asked.workload.now program asked.coords next × (next.tag ≢ tag)
      → HoldsGrowth content (growth_of growth) program tag (Some next)
  named_held next h = subst (λ g. HoldsGrowth content (growth_of g) program tag (Some next)) (sym is) h

  pub named_fails : (old new : Option (List ℕ)) (fault : Fault) → ApartFails content asked.workload.now asked.coords program tag old new fault
      → GrowthFails content (growth_of growth) program tag old new fault
  named_fails old new (Same file) (e, (next, held, same, untouched)) = (
    asked.coords,
    next,
    ap growth_of is ∙ ap (λ (n : List ℕ). Some (n, asked.coords)) (sym e),
    subst (λ (n : List ℕ). HoldsNext content n program asked.coords next) (sym e) held,
    same,
    untouched,
  )
  named_fails old new _ h = (asked.workload.now, asked.coords, ap growth_of is, h)

pub unnamed_held : (content : List ℕ → Option (List ℕ)) (program : Workload) (tag : List ℕ) (growth : Option Growing) → growth ≡ None → HoldsGrowth content (growth_of growth) program tag None
unnamed_held content program tag growth is = subst (λ g. HoldsGrowth content (growth_of g) program tag None) (sym is) tt
