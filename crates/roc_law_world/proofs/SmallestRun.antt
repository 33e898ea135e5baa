-- A run of the smallest plan in which a transaction is answered. States are written as changes of the first ones, and each step computes
use Rattle.std.proofs.Common.{◌≡◌, ℕ, zero, suc, pos, List, [], ◌∷◌, Option, Some, None, map, refl, sym, subst, arith}
use Rattle.std.specs.Prelude.{slice_get}
use Rattle.roc_base.specs.declared.id.TxnId.{TxnId}
use Rattle.roc_base.specs.declared.node.Shard.{Shard}
use Rattle.roc_base.specs.declared.node.Node.TheVariants.{Server, Coord}
use Rattle.roc_msg.specs.declared.msg.Envelope.{Envelope}
use Rattle.roc_msg.specs.declared.msg.Msg.{Msg}
use Rattle.roc_msg.specs.declared.msg.Msg.TheVariants.{Start, StartOk, Commit, CommitOk}
use Rattle.roc_step.specs.Waits.{none_waiting}
use Rattle.roc_step.specs.declared.started.StartedGroup.{StartedGroup}
use Rattle.roc_step.specs.Reads.{first_viewing}
use Rattle.roc_step.specs.declared.handled.Handled.TheVariants.{Done}
use Rattle.roc_step.specs.State.{ServerState, ServerStep}
use Rattle.roc_step.specs.Step.{Handles}
use Rattle.roc_coord.specs.declared.transaction.Transaction.{Transaction}
use Rattle.roc_coord.specs.State.{CoordState}
use Rattle.roc_coord.specs.Starts.{shards_below}
use Rattle.roc_audit.specs.declared.entry.Entry.TheVariants.{Submitted, Answered}
use Rattle.roc_law_protocol.specs.declared.event.Event.{Event}
use Rattle.roc_law_protocol.specs.declared.event.Event.TheVariants.{Submit, Deliver}
use Rattle.roc_law_protocol.specs.declared.event.Seen.TheVariants as seen
use Rattle.roc_law_protocol.specs.Beginnings as protocol
use Rattle.roc_law_protocol.specs.Quiet.{Counts}
use Rattle.roc_law_protocol.specs.Happens.{ran_at}
use Rattle.roc_law_plans.specs.SmallPlans.{smallest}
use Rattle.roc_law_world.specs.World.{World, first_world}
use Rattle.roc_law_world.specs.Happens.{undecided, Happens}
use Rattle.roc_law_world.specs.Run.{Stepped, IsRun, at_beginning, steps_on}
use Rattle.roc_law_world.specs.Quiet.{IsQuiet}
use Rattle.roc_law_world.proofs.WithoutStops.{counts_at}
use Rattle.roc_law_world.proofs.Alone.{decided_of_none, decided_alone, led_to_none, new_of_none, new_alone}

abbrev shard : Shard
shard = record { 0 = 0 }

abbrev pub id : TxnId
id = record { coord = 0; seq = 0 }

abbrev server : ServerState
server = protocol.begun_server (protocol.first_beginning smallest) 0

abbrev coord : CoordState
coord = protocol.begun_coord (protocol.first_beginning smallest) 0

abbrev to_server : Msg → Envelope
to_server msg = record { from = Coord 0; to = Server shard; msg = msg }

abbrev to_coord : Msg → Envelope
to_coord msg = record { from = Server shard; to = Coord 0; msg = msg }

-- ---- it is submitted

abbrev submitted_transaction : Transaction
submitted_transaction = record { id = id; proc = 0; args = []; starts = (record { group = 0; shard = shard }) ∷ []; startoks = []; asked = []; commitoks = [] }

abbrev submitted_coord : CoordState
submitted_coord = record coord { next = 1; pending = submitted_transaction ∷ []; unanswered = id ∷ [] }

abbrev start : Envelope
start = to_server (Start id 0 0 [] [])

abbrev submitted_world : World
submitted_world = record (first_world smallest 1) { coords = submitted_coord ∷ []; sent = start ∷ []; undelivered = 1 ∷ []; history = Submitted id 0 [] ∷ [] }

submits : Happens smallest (first_world smallest 1) (Submit 0 0 []) (undecided (seen.Submitted id) submitted_world)
submits = (coord, refl, refl)

-- ---- its group starts

abbrev started_group : StartedGroup
started_group = record { id = id; proc = 0; group = 0; args = []; inputs = []; cells = []; bound = []; outs = []; edges = []; facts = []; later = None }

abbrev started_server : ServerState
started_server = record server { started = started_group ∷ [] }

abbrev startok : Envelope
startok = to_coord (StartOk id 0 shard [] [] [] [])

abbrev started_world : World
started_world = record submitted_world { servers = started_server ∷ []; sent = start ∷ startok ∷ []; undelivered = 2 ∷ [] }

abbrev started_step : ServerStep
started_step = record { answer = Done; state = started_server; sends = record { to = Coord 0; msg = startok.msg } ∷ []; components = []; decided = []; ran = [] }

start_handled : Handles smallest server (Start id 0 0 [] []) started_step
start_handled =
    record {
      findings = record { before = []; reached = []; components = [] };
      found = record { before = decided_of_none; reached = led_to_none []; components = new_of_none };
      is = refl;
    }

starts : Happens smallest submitted_world (Deliver 1) (record { seen = seen.Done; components = []; decided = []; ran = []; world = started_world })
starts = (
  start,
  omega arith,
  refl,
  record {
    state = server;
    there = refl;
    viewing = first_viewing;
    keeps = refl;
    step = started_step;
    handles = start_handled;
    reads = record { viewing = first_viewing; sends = [] };
    answers = record { decided = []; found = decided_of_none; is = refl };
    is = refl;
  },
)

-- ---- its commit is asked for

abbrev asked_transaction : Transaction
asked_transaction = record submitted_transaction { startoks = (record { group = 0; bound = []; outs = []; edges = []; facts = [] }) ∷ []; asked = shard ∷ [] }

abbrev commit : Envelope
commit = to_server (Commit id [] [])

abbrev asked_world : World
asked_world = record started_world { coords = (record submitted_coord { pending = asked_transaction ∷ [] }) ∷ []; sent = start ∷ startok ∷ commit ∷ []; undelivered = 3 ∷ [] }

commits : Happens smallest started_world (Deliver 2) (undecided seen.Done asked_world)
unfolding shards_below
commits = (startok, omega arith, refl, (submitted_coord, refl, refl))

-- ---- it is decided, and its group runs

abbrev decided_server : ServerState
decided_server =
    record started_server {
      started = (record started_group { later = Some (pos 1 ∷ []) }) ∷ [];
      lists = record { known = (record { of = id; edges = [] }) ∷ []; links = (record { of = id; edges = [] }) ∷ []; waiting = none_waiting; taken = (id ∷ []) ∷ [] };
    }

abbrev commitok : Envelope
commitok = to_coord (CommitOk id shard (pos 1 ∷ []))

abbrev decided_world : World
decided_world = record asked_world { servers = decided_server ∷ []; sent = start ∷ startok ∷ commit ∷ commitok ∷ []; undelivered = 4 ∷ []; order = id ∷ [] }

abbrev decided_step : ServerStep
decided_step = record { answer = Done; state = decided_server; sends = record { to = Coord 0; msg = commitok.msg } ∷ []; components = (id ∷ []) ∷ []; decided = id ∷ []; ran = started_group ∷ [] }

commit_handled : Handles smallest started_server (Commit id [] []) decided_step
commit_handled =
    record {
      findings = record { before = []; reached = []; components = (id ∷ []) ∷ [] };
      found = record { before = decided_of_none; reached = led_to_none []; components = new_alone id };
      is = refl;
    }

runs : Happens smallest asked_world (Deliver 3) (record { seen = seen.Done; components = (id ∷ []) ∷ []; decided = id ∷ []; ran = ran_at 0 started_group ∷ []; world = decided_world })
runs = (
  commit,
  omega arith,
  refl,
  record {
    state = started_server;
    there = refl;
    viewing = first_viewing;
    keeps = refl;
    step = decided_step;
    handles = commit_handled;
    reads = record { viewing = first_viewing; sends = [] };
    answers = record { decided = id ∷ []; found = decided_alone id; is = refl };
    is = refl;
  },
)

-- ---- and it is answered

abbrev pub answered_world : World
answered_world = record decided_world { coords = (record submitted_coord { pending = []; unanswered = [] }) ∷ []; undelivered = []; history = Submitted id 0 [] ∷ Answered id (pos 1 ∷ []) ∷ [] }

answers : Happens smallest decided_world (Deliver 4) (undecided (seen.Answered id (pos 1 ∷ [])) answered_world)
answers = (commitok, omega arith, refl, (record submitted_coord { pending = asked_transaction ∷ [] }, refl, refl))

pub run : (steps : List Stepped) × IsRun smallest 1 steps answered_world
run =
    let one = steps_on (Some (Submit 0 0 [])) _ at_beginning submits in
    let two = steps_on (Some (Deliver 1)) _ one starts in
    let three = steps_on (Some (Deliver 2)) _ two commits in
    let four = steps_on (Some (Deliver 3)) _ three runs in
    (_, steps_on (Some (Deliver 4)) _ four answers)

-- each message was delivered, and no server stopped
abbrev its_events : List (Option Event)
its_events = Some (Submit 0 0 []) ∷ Some (Deliver 1) ∷ Some (Deliver 2) ∷ Some (Deliver 3) ∷ Some (Deliver 4) ∷ []

events_are : map (λ (s : Stepped). s.event) run.0 ≡ its_events
unfolding run
events_are = refl

all_count : (k : ℕ) (m : Envelope) → slice_get answered_world.sent k ≡ Some m → Counts its_events answered_world.sent (suc k)
all_count zero m e = counts_at its_events answered_world.sent 1 1 refl refl
all_count (suc zero) m e = counts_at its_events answered_world.sent 2 2 refl refl
all_count (suc (suc zero)) m e = counts_at its_events answered_world.sent 3 3 refl refl
all_count (suc (suc (suc zero))) m e = counts_at its_events answered_world.sent 4 4 refl refl
all_count (suc (suc (suc (suc k)))) m e = absurd (cc)

pub quiet : IsQuiet smallest run.0 answered_world id
quiet = record { each = λ k m u h e r. subst (λ events. Counts events answered_world.sent (suc k)) (sym events_are) (all_count k m h) }
