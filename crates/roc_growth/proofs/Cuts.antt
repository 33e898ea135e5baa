-- Where a run was before one of its steps, and what stays from there on
use Rattle.std.proofs.Common.{◌≡◌, ◌≢◌, ◌∙◌, ◌⊎◌, inl, inr, ℕ, ℤ, Bool, true, false, cond, List, [], ◌∷◌, ◌++◌, Option, Some, None, refl, sym, ap, subst, append-nil, append_assoc}
use Rattle.std.proofs.lemmas.Bool.{cases_eq}
use Rattle.std.specs.Prelude.{slice_get, slice_set, nat_lt, Result, Ok, Err}
use Rattle.roc_sequence.specs.Lists.{Has}
use Rattle.roc_base.specs.declared.id.TxnId.{TxnId}
use Rattle.roc_base.specs.declared.node.Node.{Node}
use Rattle.roc_base.specs.declared.node.Node.TheVariants.{Server, Coord}
use Rattle.roc_msg.specs.declared.msg.Msg.{Msg}
use Rattle.roc_msg.specs.declared.outbox.Outgoing.{Outgoing}
use Rattle.roc_plan.specs.Groups.{Plan}
use Rattle.roc_audit.specs.declared.entry.Entry.{Entry}
use Rattle.roc_audit.proofs.Splits.{not_empty}
use Rattle.roc_coord.specs.declared.handled.SubmitFault.TheVariants as core_fault
use Rattle.roc_law_protocol.specs.declared.event.Kept.{Kept}
use Rattle.roc_law_protocol.proofs.FirstTaken.{at_end}
use Rattle.roc_sequence.proofs.Members.{same_there}
use Rattle.roc_epoch.specs.declared.file.File.{File}
use Rattle.roc_epoch.specs.declared.next.Next.{Next}
use Rattle.roc_two_files.specs.Sealed.{Sealed}
use Rattle.roc_grown.specs.declared.handled.GrownFault.{GrownFault}
use Rattle.roc_grown.specs.declared.handled.GrownFault.TheVariants as fault
use Rattle.roc_grown.specs.Server.{GrownServerState, GrownStep, GrownHandles, of_drained, of_switched, of_other, of_own, after_drained, told_drained, over_if_all, foreign_at, taken_at, with_drained, switched_to, grown_server_tick}
use Rattle.roc_grown.specs.Coord.{GrownCoordState, after_grown_submit, after_drain, after_grown_message}
use Rattle.roc_growth.specs.declared.event.Event.{Event}
use Rattle.roc_growth.specs.declared.event.Event.TheVariants.{Submit, Deliver, Tick, Stop, Drain}
use Rattle.roc_growth.specs.World.{GrownWorld, mark_delivered, at_server, at_coord}
use Rattle.roc_growth.specs.Happens.{Outcome, Submits, IsReceived, StopsIn, at_rest, unrecorded, recorded}
use Rattle.roc_growth.specs.Run.{Stepped, Transition, IsGrownRun, at_first, steps_on}
use Rattle.roc_growth.specs.Told.{HasSwitched, AreTold}
use Rattle.roc_growth.proofs.Going.{GoesOn, AreOn, same_on, on_and_on, set_on, submission_goes_on, message_goes_on, drain_goes_on}
use Rattle.roc_law_protocol.proofs.Changed.{get-set_here, get-set_other}

-- ---- what stays

-- what was sent was, who has switched has, and coordinators go on
pub record IsLater (v w : GrownWorld) : Type 0 where
  pub more : List Sealed
  pub sent : w.sent ≡ v.sent ++ more
  pub switched : (n : ℕ) → HasSwitched v.servers n → HasSwitched w.servers n
  pub coords : AreOn v.coords w.coords

pub no_later : (w : GrownWorld) → IsLater w w
no_later w = record { more = []; sent = sym (append-nil w.sent); switched = λ n h. h; coords = same_on w.coords }

pub later_on : (u v w : GrownWorld) → IsLater u v → IsLater v w → IsLater u w
later_on u v w a b =
    record {
      more = a.more ++ b.more;
      sent = b.sent ∙ (ap (λ l. l ++ b.more) a.sent ∙ append_assoc u.sent a.more b.more);
      switched = λ n h. b.switched n (a.switched n h);
      coords = on_and_on u.coords v.coords w.coords a.coords b.coords;
    }

-- a message comes, and nothing else
came : (w : GrownWorld) (k : ℕ) → IsLater w (mark_delivered w k)
came w k = record { more = []; sent = sym (append-nil w.sent); switched = λ n h. h; coords = same_on w.coords }

-- ---- a server that has switched has

told_switched : (next : Next) (s : GrownServerState) (upto : TxnId) → s.switched ≡ true → (told_drained next s upto).state.switched ≡ true
told_switched next s upto is =
    ap (λ b. (cond b (taken_at s (switched_to s.core.shard upto ∷ [])) (over_if_all next (record s { drained = with_drained upto s.drained }))).state.switched) is ∙ is

drained_switched : (next : Option Next) (s : GrownServerState) (upto : TxnId) → s.switched ≡ true → (after_drained next s upto).state.switched ≡ true
drained_switched None s upto is = is
drained_switched (Some next) s upto is = go (nat_lt upto.coord next.coords)
  where
    go : (b : Bool) → (cond b (told_drained next s upto) (foreign_at s)).state.switched ≡ true
    go true = told_switched next s upto is
    go false = is

pub handled_switched : (plan : Plan) (next : Option Next) (s : GrownServerState) (file : File) (msg : Msg) (g : GrownStep) → GrownHandles plan next s file msg g → s.switched ≡ true → g.state.switched ≡ true
handled_switched plan next s file _ _ (of_drained upto g e) is = ap (λ (g : GrownStep). g.state.switched) e ∙ drained_switched next s upto is
handled_switched plan next s file _ _ (of_switched upto shard g e) is = ap (λ (g : GrownStep). g.state.switched) e ∙ is
handled_switched plan next s file _ _ (of_other msg g between other e) is = ap (λ (g : GrownStep). g.state.switched) e ∙ is
handled_switched plan next s file _ _ (of_own msg r q g between own handles answers e) is = ap (λ (g : GrownStep). g.state.switched) e ∙ is

-- ---- an event

-- a server takes a step
served_later : (w : GrownWorld) (shard : ℕ) (s : GrownServerState) (r : GrownStep) → slice_get w.servers shard ≡ Some s → (s.switched ≡ true → r.state.switched ≡ true) → IsLater w (at_server w shard r)
served_later w shard s r there stays = record { more = _; sent = refl; switched = λ n h. go n h (cases_eq shard n); coords = same_on w.coords }
  where
    go : (n : ℕ) → HasSwitched w.servers n → (shard ≡ n) ⊎ (shard ≢ n) → HasSwitched (slice_set w.servers shard r.state) n
    go n (z, at, is) (inl e) = (
      r.state,
      subst (λ n. slice_get (slice_set w.servers shard r.state) n ≡ Some r.state) e (get-set_here w.servers shard s r.state there),
      stays (ap (λ (s : GrownServerState). s.switched) (same_there w.servers n s z (subst (λ n. slice_get w.servers n ≡ Some s) e there) at) ∙ is),
    )
    go n (z, at, is) (inr e) = (z, get-set_other w.servers shard n r.state e ∙ at, is)

-- a coordinator takes a step, which changes no server
coordinated_later : (w : GrownWorld) (n : ℕ) (s after : GrownCoordState) (outs : List Outgoing) (told : List Entry) → slice_get w.coords n ≡ Some s → GoesOn s after → IsLater w (at_coord w n after outs told)
coordinated_later w n s after outs told there on = record { more = _; sent = refl; switched = λ n h. h; coords = set_on w.coords n s after there on }

submitted_later : (w : GrownWorld) (n proc : ℕ) (args : List ℤ) (s after : GrownCoordState) (outs : List Outgoing) (r : Result TxnId GrownFault) (o : Outcome) → slice_get w.coords n ≡ Some s → GoesOn s after
    → Submits w n proc args after outs r o → IsLater w o.world
submitted_later w n proc args s after outs (Ok id) o there on h = subst (λ (o : Outcome). IsLater w o.world) (sym h) (coordinated_later w n s after outs _ there on)
submitted_later w n proc args s after outs (Err fault.Draining) o there on h = subst (λ (o : Outcome). IsLater w o.world) (sym h) (no_later w)
submitted_later w n proc args s after outs (Err (fault.Plain core_fault.NoProc)) o there on h = subst (λ (o : Outcome). IsLater w o.world) (sym h) (no_later w)
submitted_later w n proc args s after outs (Err (fault.Plain core_fault.Spent)) o there on h = subst (λ (o : Outcome). IsLater w o.world) (sym h) (no_later w)
submitted_later w n proc args s after outs (Err (fault.Plain core_fault.Busy)) o there on h = subst (λ (o : Outcome). IsLater w o.world) (sym h) (no_later w)
submitted_later w n proc args s after outs (Err (fault.Plain core_fault.Args)) o there on h = absurd h
submitted_later w n proc args s after outs (Err (fault.Plain core_fault.NoMemory)) o there on h = absurd h

pub step_later : (plan : Plan) (next : Option Next) (w : GrownWorld) → AreTold w → (e : Option Event) (o : Outcome) → Transition plan next w e o → IsLater w o.world
step_later plan next w told None o h = subst (λ (o : Outcome). IsLater w o.world) (sym h) (no_later w)
step_later plan next w told (Some (Submit n proc args)) o (call, s, there, h) =
    let r = after_grown_submit plan next s proc args in
    submitted_later w n proc args s r.state r.sends r.answer o there (submission_goes_on plan next s proc args) h
step_later plan next w told (Some (Deliver k)) o (m, some, there, h) = go m.message.to h
  where
    go : (to : Node) → IsReceived plan next (mark_delivered w k) m.file m.message.msg to o → IsLater w o.world
    go (Server shard) x =
        subst (λ (o : Outcome). IsLater w o.world) (sym x.is)
        (later_on w (mark_delivered w k) _ (came w k)
        (served_later (mark_delivered w k) shard.0 x.state x.step x.there (handled_switched plan next x.state m.file m.message.msg x.step x.handles)))
    go (Coord n) (s, at, is) =
        subst (λ (o : Outcome). IsLater w o.world) (sym is)
        (later_on w (mark_delivered w k) _ (came w k)
        (coordinated_later (mark_delivered w k) n s (after_grown_message plan next s m.file m.message.msg).state _ _ at (message_goes_on plan next n s m.file (told.telling n s at) m.message.msg)))
step_later plan next w told (Some (Tick (Server shard))) o (s, there, is) = subst (λ (o : Outcome). IsLater w o.world) (sym is) (served_later w shard.0 s (taken_at s (grown_server_tick s)) there (λ h. h))
step_later plan next w told (Some (Tick (Coord n))) o (s, there, is) =
    subst (λ (o : Outcome). IsLater w o.world) (sym is) (record { more = _; sent = refl; switched = λ n h. h; coords = same_on w.coords })
step_later plan next w told (Some (Drain n)) o (more, s, there, is) =
    subst (λ (o : Outcome). IsLater w o.world) (sym is) (coordinated_later w n s (after_drain plan s).state (after_drain plan s).sends [] there (drain_goes_on plan s))
step_later plan next w told (Some (Stop shard during)) o x =
    subst (λ (o : Outcome). IsLater w o.world) (sym x.is)
    (later_on w (at_server x.before shard.0 x.step) _ (go during x.before x.step x.stops) (record { more = _; sent = refl; switched = λ n h. h; coords = same_on x.before.coords }))
  where
    go : (during : Option (ℕ × Kept)) (before : GrownWorld) (step : GrownStep) → StopsIn plan next w shard.0 x.state during before step → IsLater w (at_server before shard.0 step)
    go during before step at_rest = served_later w shard.0 x.state step x.there (λ h. h)
    go during before step (unrecorded k m sent) = later_on w (mark_delivered w k) _ (came w k) (served_later (mark_delivered w k) shard.0 x.state step x.there (λ h. h))
    go during before step (recorded k many m r sent handles) =
        later_on w (mark_delivered w k) _ (came w k)
        (served_later (mark_delivered w k) shard.0 x.state step x.there (handled_switched plan next x.state m.file m.message.msg r handles))

-- ---- a run, cut before a step

pub record IsCut (plan : Plan) (next : Option Next) (coords : ℕ) (front : List Stepped) (x : Stepped) (w : GrownWorld) : Type 0 where
  pub before : GrownWorld
  pub run : IsGrownRun plan next coords front before
  pub moves : Transition plan next before x.event x.outcome
  pub later : IsLater before w
  pub behind : IsLater x.outcome.world w

module _ (plan : Plan) (next : Option Next) (coords : ℕ) (told : (steps : List Stepped) (w : GrownWorld) → IsGrownRun plan next coords steps w → AreTold w) where
  pub cut : (steps : List Stepped) (w : GrownWorld) → IsGrownRun plan next coords steps w
      → (front : List Stepped) (x : Stepped) (behind : List Stepped) → steps ≡ front ++ x ∷ behind → IsCut plan next coords front x w
  cut steps w (at_first counted) front x behind e = absurd (not_empty front x behind e)
  cut steps w (steps_on {steps = old} {w = v} event o run moves) front x behind e = elim (at_end old front behind (record { event = event; outcome = o }) x e) [
    | inl now ↦
        record {
          before = v;
          run = subst (λ l. IsGrownRun plan next coords l v) now.0 run;
          moves = subst (λ (y : Stepped). Transition plan next v y.event y.outcome) now.1 moves;
          later = step_later plan next v (told old v run) event o moves;
          behind = subst (λ (y : Stepped). IsLater y.outcome.world o.world) now.1 (no_later o.world);
        }
    | inr was ↦
        (let c = cut old v run front x was.0 was.1 in
        let last = step_later plan next v (told old v run) event o moves in
        record { before = c.before; run = c.run; moves = c.moves; later = later_on c.before v o.world c.later last; behind = later_on x.outcome.world v o.world c.behind last })
  ]

-- a step of a run has its place there
pub placed_step : (steps : List Stepped) (x : Stepped) → Has x steps → (front : List Stepped) × (behind : List Stepped) × (steps ≡ front ++ x ∷ behind)
placed_step [] x h = absurd h
placed_step (y ∷ steps) x (inl e) = ([], steps, ap (λ y. y ∷ steps) (sym e))
placed_step (y ∷ steps) x (inr h) = let r = placed_step steps x h in (y ∷ r.0, r.1, ap (λ l. y ∷ l) r.2)
