-- Servers hold only cells that the program of the last file has
use Rattle.std.proofs.Common.{◌≡◌, ℕ, zero, suc, ◌+◌, ◌<◌, Bool, true, false, cond, List, [], ◌∷◌, ◌++◌, length, map, Option, Some, None, Result, Ok, Err, refl, sym, ap, subst, ◌∙◌, arith}
use Rattle.std.proofs.Common.{length-append}
use Rattle.std.specs.Prelude.{slice_get, slice_index_or, nat_lt}
use Rattle.std.specs.List.{AllByRecursion, range_with_len}
use Rattle.roc_sequence.proofs.Members.{has_at}
use Rattle.roc_sequence.proofs.Holds.{all_has, all_set}
use Rattle.roc_base.specs.declared.id.TxnId.{TxnId}
use Rattle.roc_base.specs.declared.node.Node.{Node}
use Rattle.roc_base.specs.declared.node.Node.TheVariants.{Server, Coord}
use Rattle.roc_rows.specs.declared.cell.Cell.{Cell}
use Rattle.roc_rows.specs.Store.{Store}
use Rattle.roc_program.specs.Program.{Workload, Table}
use Rattle.roc_program.specs.WellFormed.{IsProgram}
use Rattle.roc_program.specs.LookUps.{no_table}
use Rattle.roc_plan.specs.Accepted.{IsAccepted}
use Rattle.roc_plan.specs.Groups.{Plan}
use Rattle.roc_msg.specs.declared.msg.Msg.{Msg}
use Rattle.roc_msg.specs.declared.outbox.Outgoing.{Outgoing}
use Rattle.roc_step.specs.State.{ServerStep}
use Rattle.roc_coord.specs.declared.handled.SubmitFault.TheVariants as fault
use Rattle.roc_law_protocol.specs.declared.event.Kept.{Kept}
use Rattle.roc_epoch.specs.declared.file.File.{File}
use Rattle.roc_epoch.specs.declared.next.Next.{Next}
use Rattle.roc_epoch.specs.Files.{own_plan, IsNextOf}
use Rattle.roc_epoch.specs.Grown.{IsGrownFrom}
use Rattle.roc_grown.specs.declared.handled.GrownFault.{GrownFault}
use Rattle.roc_grown.specs.declared.handled.GrownFault.TheVariants.{Draining, Plain}
use Rattle.roc_grown.specs.Server.{GrownServerState, GrownStep, first_grown_server, foreign_at, taken_at, switched_to, switched_sends, with_drained, have_all_drained, gone_over, over_if_all}
use Rattle.roc_grown.specs.Server.{told_drained, after_drained, restarted, GrownHandles, of_drained, of_switched, of_other, of_own}
use Rattle.roc_grown.specs.Coord.{GrownCoordState, after_grown_submit}
use Rattle.roc_growth.specs.declared.event.Event.{Event}
use Rattle.roc_growth.specs.declared.event.Event.TheVariants.{Submit, Deliver, Tick, Stop, Drain}
use Rattle.roc_growth.specs.World.{GrownWorld, mark_delivered}
use Rattle.roc_growth.specs.Happens.{Outcome, Submits, IsReceived, StopsIn, at_rest, unrecorded, recorded, started_again}
use Rattle.roc_growth.specs.Run.{Stepped, Transition, IsGrownRun, at_first, steps_on}
use Rattle.roc_report.specs.ReportLine.{IsCellOf}
use Rattle.roc_replay.specs.BoundLine.{last_program}
use Rattle.roc_replay.proofs.OwnCells.{ReadLaws, HoldsOwn, message_own, start_holds}

-- ---- cells of both files

in_front : {A : Type 0} (xs ys : List A) (n : ℕ) (d : A) → n < length xs → slice_index_or (xs ++ ys) n d ≡ slice_index_or xs n d
in_front [] ys n d l = absurd (omega arith)
in_front (x ∷ xs) ys zero d l = refl
in_front (x ∷ xs) ys (suc n) d l = in_front xs ys n d (omega arith)

-- a cell of the old program is one of the grown one
cells_stay : (old new : Workload) → IsGrownFrom old new → (c : Cell) → IsCellOf old c → IsCellOf new c
cells_stay old new grown c is =
    let more = grown.tables.0 in
    let tables : new.tables ≡ old.tables ++ more = grown.tables.1 in
    let long = ap length tables ∙ length-append old.tables more in
    let table = is.table in
    let same : slice_index_or new.tables c.table no_table ≡ slice_index_or old.tables c.table no_table =
    ap (λ (ts : List Table). slice_index_or ts c.table no_table) tables ∙ in_front old.tables more c.table no_table table in
    record { table = omega arith; column = subst (λ (t : Table). c.column < length t.columns) (sym same) is.column }

first_wider : (plan : Plan) (next : Option Next) → IsNextOf plan next → (c : Cell) → IsCellOf plan.program c → IsCellOf (last_program plan next) c
first_wider plan None of c is = is
first_wider plan (Some next) of c is = cells_stay plan.program next.plan.program of.1 c is

wider : (plan : Plan) (next : Option Next) → IsNextOf plan next → (switched : Bool) (c : Cell) → IsCellOf (own_plan plan next switched).program c → IsCellOf (last_program plan next) c
wider plan None of switched c is = is
wider plan (Some next) of true c is = is
wider plan (Some next) of false c is = cells_stay plan.program next.plan.program of.1 c is

well_formed : (plan : Plan) (next : Option Next) → IsAccepted plan → IsNextOf plan next → (switched : Bool) → IsProgram (own_plan plan next switched).program
well_formed plan None accepted of switched = accepted.well_formed
well_formed plan (Some next) accepted of true = of.0.well_formed
well_formed plan (Some next) accepted of false = accepted.well_formed

-- ---- a server

-- what goes over keeps its cells
drained_store : (next : Option Next) (s : GrownServerState) (upto : TxnId) → (after_drained next s upto).state.core.store ≡ s.core.store
drained_store None s upto = refl
drained_store (Some next) s upto = known (nat_lt upto.coord next.coords)
  where
    more : GrownServerState
    more = record s { drained = with_drained upto s.drained }

    over : (b : Bool) → (cond b (taken_at (gone_over more) (switched_sends s.core.shard next.coords more.drained)) (taken_at more [])).state.core.store ≡ s.core.store
    over true = refl
    over false = refl

    told : (b : Bool) → (cond b (taken_at s (switched_to s.core.shard upto ∷ [])) (over_if_all next more)).state.core.store ≡ s.core.store
    told true = refl
    told false = over (have_all_drained next.coords more.drained)

    known : (b : Bool) → (cond b (told_drained next s upto) (foreign_at s)).state.core.store ≡ s.core.store
    known true = told s.switched
    known false = refl

module _ (laws : ReadLaws) (plan : Plan) (next : Option Next) (accepted : IsAccepted plan) (of : IsNextOf plan next) where
  abbrev Own : GrownServerState → Type 0
  Own s = HoldsOwn (last_program plan next) s.core.store

  abbrev OwnServers : List GrownServerState → Type 0
  OwnServers servers = AllByRecursion Own servers

  handled_own : (s : GrownServerState) (file : File) (msg : Msg) (g : GrownStep) → GrownHandles plan next s file msg g → Own s → Own g.state
  handled_own s file _ _ (of_drained upto g e) h =
      subst (λ (g : GrownStep). Own g.state) (sym e) (subst (λ (store : Store). HoldsOwn (last_program plan next) store) (sym (drained_store next s upto)) h)
  handled_own s file _ _ (of_switched upto shard g e) h = subst (λ (g : GrownStep). Own g.state) (sym e) h
  handled_own s file _ _ (of_other msg g between other e) h = subst (λ (g : GrownStep). Own g.state) (sym e) h
  handled_own s file _ _ (of_own msg r q g between own handles answers e) h =
      let all = last_program plan next in
      let after : HoldsOwn all r.state.store =
      subst (λ (r : ServerStep). HoldsOwn all r.state.store) (sym handles.is)
      (message_own laws (own_plan plan next s.switched) (well_formed plan next accepted of s.switched) all (wider plan next of s.switched) s.core handles.findings msg h) in
      subst (λ (g : GrownStep). Own g.state) (sym e) after

  -- ---- worlds

  first_own : (a n : ℕ) → OwnServers (map (λ n. first_grown_server plan (record { 0 = n })) (range_with_len a n))
  first_own a zero = tt
  first_own a (suc n) =
      (start_holds laws plan accepted.well_formed (last_program plan next) (first_wider plan next of) (record { 0 = a }), first_own (a + 1) n)

  own_there : (w : GrownWorld) → OwnServers w.servers → (shard : ℕ) (s : GrownServerState) → slice_get w.servers shard ≡ Some s → Own s
  own_there w h shard s at = all_has Own s w.servers h (has_at w.servers shard s at)

  step_own : (w : GrownWorld) → OwnServers w.servers → (e : Option Event) (o : Outcome) → Transition plan next w e o → OwnServers o.world.servers
  step_own w h None o c = subst (λ (o : Outcome). OwnServers o.world.servers) (sym c) h
  step_own w h (Some (Submit n proc args)) o (call, s, there, c) =
      go (after_grown_submit plan next s proc args).state (after_grown_submit plan next s proc args).sends (after_grown_submit plan next s proc args).answer c
    where
      go : (state : GrownCoordState) (outs : List Outgoing) (answer : Result TxnId GrownFault) → Submits w n proc args state outs answer o → OwnServers o.world.servers
      go state outs (Ok id) e = subst (λ (o : Outcome). OwnServers o.world.servers) (sym e) h
      go state outs (Err Draining) e = subst (λ (o : Outcome). OwnServers o.world.servers) (sym e) h
      go state outs (Err (Plain fault.NoProc)) e = subst (λ (o : Outcome). OwnServers o.world.servers) (sym e) h
      go state outs (Err (Plain fault.Spent)) e = subst (λ (o : Outcome). OwnServers o.world.servers) (sym e) h
      go state outs (Err (Plain fault.Busy)) e = subst (λ (o : Outcome). OwnServers o.world.servers) (sym e) h
      go state outs (Err (Plain fault.Args)) e = absurd e
      go state outs (Err (Plain fault.NoMemory)) e = absurd e
  step_own w h (Some (Deliver k)) o (m, some, there, c) = go m.message.to c
    where
      go : (to : Node) → IsReceived plan next (mark_delivered w k) m.file m.message.msg to o → OwnServers o.world.servers
      go (Server shard) served =
          let after = handled_own served.state m.file m.message.msg served.step served.handles (own_there w h shard.0 served.state served.there) in
          subst (λ (o : Outcome). OwnServers o.world.servers) (sym served.is) (all_set Own w.servers shard.0 served.step.state h after)
      go (Coord n) (s, at, e) = subst (λ (o : Outcome). OwnServers o.world.servers) (sym e) h
  step_own w h (Some (Tick (Server shard))) o (s, there, e) =
      subst (λ (o : Outcome). OwnServers o.world.servers) (sym e) (all_set Own w.servers shard.0 s h (own_there w h shard.0 s there))
  step_own w h (Some (Tick (Coord n))) o (s, there, e) = subst (λ (o : Outcome). OwnServers o.world.servers) (sym e) h
  step_own w h (Some (Drain n)) o (grows, s, there, e) = subst (λ (o : Outcome). OwnServers o.world.servers) (sym e) h
  step_own w h (Some (Stop shard during)) o x = subst (λ (o : Outcome). OwnServers o.world.servers) (sym x.is) (go during x.before x.step x.stops)
    where
      own : Own x.state
      own = own_there w h shard.0 x.state x.there

      go : (at : Option (ℕ × Kept)) (before : GrownWorld) (r : GrownStep) → StopsIn plan next w shard.0 x.state at before r → OwnServers (started_again before shard.0 r).world.servers
      go at before r at_rest = all_set Own w.servers shard.0 (restarted x.state) h own
      go at before r (unrecorded k m sent) = all_set Own w.servers shard.0 (restarted x.state) h own
      go at before r (recorded k many m whole sent handles) = all_set Own w.servers shard.0 (restarted whole.state) h (handled_own x.state m.file m.message.msg whole handles own)

  pub run_own : (coords : ℕ) (steps : List Stepped) (w : GrownWorld) → IsGrownRun plan next coords steps w → OwnServers w.servers
  run_own coords steps w (at_first counted) = first_own 0 plan.program.shards
  run_own coords steps w (steps_on {steps = before} {w = v} e o r h) = step_own v (run_own coords before v r) e o h
