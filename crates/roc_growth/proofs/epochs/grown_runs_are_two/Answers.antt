use Rattle.std.proofs.Common.{◌≡◌, ℕ, List, ◌∷◌, [], ◌++◌, Option, sym, subst, arith}
use Rattle.roc_sequence.specs.Lists.{Has}
use Rattle.roc_base.specs.declared.id.TxnId.{TxnId}
use Rattle.roc_depgraph.proofs.Listed.{has_listed}
use Rattle.roc_plan.specs.Groups.{Plan}
use Rattle.roc_plan.specs.Accepted.{IsAccepted}
use Rattle.roc_audit.specs.History.{WasSubmitted}
use Rattle.roc_audit.specs.Order.{noted}
use Rattle.roc_law_protocol.specs.declared.event.Event.{Event as TheirEvent}
use Rattle.roc_law_world.specs.World.{World, Beginning}
use Rattle.roc_law_world.specs.Beginnings.{IsViewBeginning}
use Rattle.roc_law_world.specs.Happens as happen
use Rattle.roc_law_world.specs.Run as views
use Rattle.roc_two_files.specs.Left.{AreDrained, left_behind}
use Rattle.roc_growth.proofs.Orders.{noted_behind, has_noted, submitted_all}
use Rattle.roc_growth.proofs.Phases.{Laws}
use Rattle.roc_growth.proofs.Glue.{glued, epochs, counted_run}
use Rattle.roc_growth.proofs.epochs.grown_runs_are_two.Goals as goal

pub returns : goal.returns
returns c plan next coords steps g accepted of run = epochs laws plan next accepted of coords steps g (glued laws plan next accepted of coords (counted_run plan next coords steps g run) steps g run)
  where
    submitted : (plan : Plan) (b : Beginning) (coords : ℕ) (steps : List views.Stepped) (w : World) → IsAccepted plan → IsViewBeginning plan b → views.IsRunFrom plan b coords steps w
        → (t : TxnId) → Has t w.order → WasSubmitted w.history t
    submitted plan b coords steps w accepted begins run t h =
        let q = c.looks_fit.ensures plan b coords steps w accepted begins run in submitted_all q.0 w.history t (q.3.submitted t (has_listed w.order t h))

    behind :
        (plan grown : Plan) (b : Beginning) (coords : ℕ) (steps more : List views.Stepped) (w v : World) → IsAccepted plan → IsAccepted grown → IsViewBeginning plan b
        → views.IsRunFrom plan b coords steps w → AreDrained w.coords → grown.program.shards ≡ plan.program.shards → views.IsRunFrom grown (left_behind plan b w) coords more v
        → (e : Option TheirEvent) (o : happen.Outcome) → views.Transition grown v e o → (decided : List TxnId) → o.world.order ≡ noted v.order decided
        → noted (w.order ++ v.order) decided ≡ w.order ++ noted v.order decided
    behind plan grown b coords steps more w v accepted accepted2 begins run drained shards run2 e o h decided order =
        noted_behind w.order v.order decided (λ t is there.
        (let low = c.epochs_stand_apart.ensures.before plan grown b coords steps w run t (submitted plan b coords steps w accepted begins run t there) in
        let begins2 = c.drained_worlds_begin.ensures plan grown b coords steps w accepted begins run drained shards in
        let run3 = views.steps_on e o run2 h in
        let late = submitted grown (left_behind plan b w) coords (more ++ (record { event = e; outcome = o }) ∷ []) o.world accepted2 begins2 run3 t (subst (Has t) (sym order) (has_noted v.order decided t is)) in
        let high = c.epochs_stand_apart.ensures.behind plan grown b coords (more ++ (record { event = e; outcome = o }) ∷ []) w o.world run3 t late in
        omega (arith, low, high)))

    laws : Laws
    laws =
        record {
          begins = c.first_worlds_begin.ensures;
          begins_behind = c.drained_worlds_begin.ensures;
          nothing_between = c.nothing_between_is_sent.ensures.steps;
          keep_nothing = c.drained_coordinators_keep_nothing.ensures;
          begun_servers = c.begun_nodes_are_renewed.ensures.servers;
          begun_viewing = c.begun_nodes_are_renewed.ensures.viewing;
          begun_coords = c.begun_nodes_are_renewed.ensures.coords;
          fits = c.worlds_fit.ensures.runs;
          behind = behind;
        }
