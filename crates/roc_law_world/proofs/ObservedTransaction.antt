-- A run of a plan with a view begins with a transaction that sets a cell. States are written as changes of those before, and each step computes
use Rattle.std.proofs.Common.{pos, true, List, [], ◌∷◌, Some, None, refl, arith}
use Rattle.roc_base.specs.declared.id.TxnId.{TxnId}
use Rattle.roc_base.specs.declared.node.Shard.{Shard}
use Rattle.roc_base.specs.declared.node.Node.TheVariants.{Server, Coord}
use Rattle.roc_depgraph.specs.declared.known.KnownList.{KnownList}
use Rattle.roc_msg.specs.declared.msg.Envelope.{Envelope}
use Rattle.roc_msg.specs.declared.msg.Msg.{Msg}
use Rattle.roc_msg.specs.declared.msg.Msg.TheVariants.{Start, StartOk, Commit, CommitOk}
use Rattle.roc_rows.specs.declared.cell.Cell.{Cell}
use Rattle.roc_rows.specs.Store.{empty, write}
use Rattle.roc_rows.specs.Versions.{unwritten, counted}
use Rattle.roc_step.specs.Waits.{none_waiting}
use Rattle.roc_step.specs.declared.started.StartedGroup.{StartedGroup}
use Rattle.roc_step.specs.Reads.{first_viewing}
use Rattle.roc_step.specs.declared.handled.Handled.TheVariants.{Done}
use Rattle.roc_step.specs.State.{ServerState, Viewing}
use Rattle.roc_step.specs.Step.{Findings, Handles}
use Rattle.roc_coord.specs.declared.transaction.Transaction.{Transaction}
use Rattle.roc_coord.specs.State.{CoordState}
use Rattle.roc_coord.specs.Starts.{shards_below}
use Rattle.roc_audit.specs.declared.entry.Entry.TheVariants.{Submitted, Answered}
use Rattle.roc_law_protocol.specs.declared.event.Event.TheVariants.{Submit, Deliver}
use Rattle.roc_law_protocol.specs.declared.event.Seen.TheVariants as seen
use Rattle.roc_law_protocol.specs.Beginnings as protocol
use Rattle.roc_law_protocol.specs.Happens.{ran_at}
use Rattle.roc_law_plans.specs.SmallPlans.{observed}
use Rattle.roc_law_world.specs.World.{World, first_world}
use Rattle.roc_law_world.specs.Happens.{Outcome, undecided, Happens}
use Rattle.roc_law_world.proofs.Alone.{decided_of_none, decided_alone, led_to_none, new_of_none, new_alone}

abbrev pub shard : Shard
shard = record { 0 = 0 }

-- the transaction, and the view
abbrev pub id : TxnId
id = record { coord = 0; seq = 0 }

abbrev pub view : TxnId
view = record { coord = 0; seq = 1 }

abbrev pub cell : Cell
cell = record { table = 0; place = pos 0; id = pos 0 ∷ []; column = 0 }

abbrev pub server : ServerState
server = protocol.begun_server (protocol.first_beginning observed) 0

abbrev pub coord : CoordState
coord = protocol.begun_coord (protocol.first_beginning observed) 0

abbrev pub to_server : Msg → Envelope
to_server msg = record { from = Coord 0; to = Server shard; msg = msg }

abbrev pub to_coord : Msg → Envelope
to_coord msg = record { from = Server shard; to = Coord 0; msg = msg }

-- ---- the transaction is submitted

abbrev pub submitted_transaction : Transaction
submitted_transaction = record { id = id; proc = 0; args = []; starts = (record { group = 0; shard = shard }) ∷ []; startoks = []; asked = []; commitoks = [] }

abbrev pub submitted_coord : CoordState
submitted_coord = record coord { next = 1; pending = submitted_transaction ∷ []; unanswered = id ∷ [] }

abbrev pub start : Envelope
start = to_server (Start id 0 0 [] [])

abbrev pub submitted_world : World
submitted_world = record (first_world observed 1) { coords = submitted_coord ∷ []; sent = start ∷ []; undelivered = 1 ∷ []; history = Submitted id 0 [] ∷ [] }

pub submits : Happens observed (first_world observed 1) (Submit 0 0 []) (undecided (seen.Submitted id) submitted_world)
submits = (coord, refl, refl)

-- ---- its group starts

abbrev pub started_group : StartedGroup
started_group = record { id = id; proc = 0; group = 0; args = []; inputs = []; cells = (record { cell = cell; writes = true }) ∷ []; bound = []; outs = []; edges = []; facts = []; later = None }

abbrev pub started_server : ServerState
started_server = record server { started = started_group ∷ [] }

abbrev pub startok : Envelope
startok = to_coord (StartOk id 0 shard [] [] [] [])

abbrev pub started_world : World
started_world = record submitted_world { servers = started_server ∷ []; sent = start ∷ startok ∷ []; undelivered = 2 ∷ [] }

abbrev pub none_found : Findings
none_found = record { before = []; reached = []; components = [] }

start_handled : Handles observed server (Start id 0 0 [] []) (record { answer = Done; state = started_server; sends = record { to = Coord 0; msg = startok.msg } ∷ []; components = []; decided = []; ran = [] })
start_handled = record { findings = none_found; found = record { before = decided_of_none; reached = led_to_none []; components = new_of_none }; is = refl }

pub starts : Happens observed submitted_world (Deliver 1) (undecided seen.Done started_world)
starts = (
  start,
  omega arith,
  refl,
  record {
    state = server;
    there = refl;
    viewing = first_viewing;
    keeps = refl;
    step = _;
    handles = start_handled;
    reads = record { viewing = first_viewing; sends = [] };
    answers = record { decided = []; found = decided_of_none; is = refl };
    is = refl;
  },
)

-- ---- its commit is asked for

abbrev pub asked_transaction : Transaction
asked_transaction = record submitted_transaction { startoks = (record { group = 0; bound = []; outs = []; edges = []; facts = [] }) ∷ []; asked = shard ∷ [] }

abbrev pub commit : Envelope
commit = to_server (Commit id [] [])

abbrev pub asked_world : World
asked_world = record started_world { coords = (record submitted_coord { pending = asked_transaction ∷ [] }) ∷ []; sent = start ∷ startok ∷ commit ∷ []; undelivered = 3 ∷ [] }

pub commits : Happens observed started_world (Deliver 2) (undecided seen.Done asked_world)
unfolding shards_below
commits = (startok, omega arith, refl, (submitted_coord, refl, refl))

-- ---- it is decided, and its group sets the cell

abbrev pub one_list : List KnownList
one_list = (record { of = id; edges = [] }) ∷ []

abbrev pub decided_server : ServerState
decided_server =
    record started_server {
      store = write empty cell (pos 1);
      started = (record started_group { later = Some [] }) ∷ [];
      lists = record { known = one_list; links = one_list; waiting = none_waiting; taken = (id ∷ []) ∷ [] };
    }

abbrev pub written_viewing : Viewing
written_viewing = record { versions = counted unwritten cell; reads = [] }

abbrev pub commitok : Envelope
commitok = to_coord (CommitOk id shard [])

abbrev pub decided_world : World
decided_world =
    record asked_world { servers = decided_server ∷ []; viewing = written_viewing ∷ []; sent = start ∷ startok ∷ commit ∷ commitok ∷ []; undelivered = 4 ∷ []; order = id ∷ [] }

abbrev pub decides : Outcome
decides = record { seen = seen.Done; components = (id ∷ []) ∷ []; decided = id ∷ []; ran = ran_at 0 started_group ∷ []; world = decided_world }

commit_handled : Handles observed started_server (Commit id [] [])
    (record { answer = Done; state = decided_server; sends = record { to = Coord 0; msg = commitok.msg } ∷ []; components = (id ∷ []) ∷ []; decided = id ∷ []; ran = started_group ∷ [] })
commit_handled =
    record { findings = record { before = []; reached = []; components = (id ∷ []) ∷ [] }; found = record { before = decided_of_none; reached = led_to_none []; components = new_alone id }; is = refl }

pub runs : Happens observed asked_world (Deliver 3) decides
runs = (
  commit,
  omega arith,
  refl,
  record {
    state = started_server;
    there = refl;
    viewing = first_viewing;
    keeps = refl;
    step = _;
    handles = commit_handled;
    reads = record { viewing = written_viewing; sends = [] };
    answers = record { decided = id ∷ []; found = decided_alone id; is = refl };
    is = refl;
  },
)

-- ---- and it is answered

abbrev pub answered_world : World
answered_world = record decided_world { coords = (record submitted_coord { pending = []; unanswered = [] }) ∷ []; undelivered = []; history = Submitted id 0 [] ∷ Answered id [] ∷ [] }

pub answers : Happens observed decided_world (Deliver 4) (undecided (seen.Answered id []) answered_world)
answers = (commitok, omega arith, refl, (record submitted_coord { pending = asked_transaction ∷ [] }, refl, refl))
