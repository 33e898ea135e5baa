-- What nodes log is what the world's nodes log in a run, whole
use Rattle.std.proofs.Common.{◌≡◌, ℕ, List, Ok, sym, subst}
use Rattle.std.specs.Prelude.{filter}
use Rattle.roc_base.specs.declared.node.Node.{Node}
use Rattle.roc_msg.specs.declared.msg.Msg.{Msg}
use Rattle.roc_wire.specs.declared.header.Header.{Header}
use Rattle.roc_wire.specs.Laws.{Spells}
use Rattle.roc_wire.specs.Reading.{datagram, pair}
use Rattle.roc_law_world.specs.World.{World, first_world}
use Rattle.roc_law_world.specs.Run.{Stepped, IsRun}
use Rattle.roc_log.specs.declared.line.LogLine.{LogLine}
use Rattle.roc_fold.specs.Fold.{Core, first_core}
use Rattle.roc_node.specs.NodeEvent.{NodeSetting}
use Rattle.roc_law_audit.specs.LogsOfRuns.{AreLoggedFrom, AreStops, AreAllLogged}
use Rattle.roc_law_nodes.specs.Own.{OwnEvent, own_events}
use Rattle.roc_law_nodes.specs.Turns.{is_for_core}
use Rattle.roc_law_nodes.proofs.NodeLogs.{AreLogged, AreLoggedAmid, IsNone, none_between, stops_between}
use Rattle.roc_law_nodes.proofs.RunLogs.{run_logs, lines_alone, lines_amid}

module _ (reads : (bytes : List ℕ) (header : Header) (msg : Msg) → Spells bytes header msg → datagram bytes ≡ Ok (pair header msg)) (S : NodeSetting) (coords : ℕ) {steps : List Stepped} {w : World}
    (r : IsRun S.plan coords steps w) where
  abbrev begun : World
  begun = first_world S.plan coords

  -- what leads a node's core over its own events in the run is logged in it
  pub logged_in_run : (at : Node) → S.header.from ≡ at → {owns : List OwnEvent} {core : Core} {lines : List LogLine} → AreLogged S.plan S.header (first_core S.plan at) owns core lines
      → owns ≡ own_events at w.sent steps → AreLoggedFrom S.header begun steps lines
  logged_in_run at is {owns} {core} {lines} l e =
      run_logs reads S.plan coords S.header IsNone (AreLoggedFrom S.header begun) (lines_alone S.header begun) r
      (subst (λ (n : Node). AreLoggedAmid IsNone S.plan S.header (first_core S.plan n) owns core lines) (sym is) (none_between l))
      (subst (λ (n : Node). owns ≡ own_events n w.sent steps) (sym is) e)

  -- and with Stops between, what leads over all of them that are for a core
  pub logged_amid_run : (at : Node) → S.header.from ≡ at → {owns : List OwnEvent} {core : Core} {lines : List LogLine} → AreLogged S.plan S.header (first_core S.plan at) owns core lines
      → filter is_for_core owns ≡ own_events at w.sent steps → AreAllLogged S.header begun steps lines
  logged_amid_run at is {owns} {core} {lines} l e =
      run_logs reads S.plan coords S.header (AreStops S.header) (AreAllLogged S.header begun) (lines_amid S.header begun) r
      (subst (λ (n : Node). AreLoggedAmid (AreStops S.header) S.plan S.header (first_core S.plan n) (filter is_for_core owns) core lines) (sym is)
      (stops_between reads S.plan S.header (first_core S.plan at) l))
      (subst (λ (n : Node). filter is_for_core owns ≡ own_events n w.sent steps) (sym is) e)
