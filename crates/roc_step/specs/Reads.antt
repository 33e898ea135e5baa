-- Reads of read-only transactions, and what a server keeps for them beside its state: docs/PROTOCOL.md, "Views"
use Rattle.std.specs.Prelude.{◌≡◌, Bool, true, false, not, ◌&&◌, ◌||◌, ◌==◌, nat_lt, List, [], ◌∷◌, ◌++◌, Option, Some, None, length, map, filter, if◌then◌else◌}
use Rattle.std.specs.List.{list_any}
use Rattle.roc_sequence.specs.Places.{is_listed}
use Rattle.roc_base.specs.declared.node.Node.TheVariants.{Coord}
use Rattle.roc_base.specs.declared.id.TxnId.{TxnId}
use Rattle.roc_base.specs.Equality.{is_nums}
use Rattle.roc_base.specs.TxnId.{is_txn, txn_lt}
use Rattle.roc_msg.specs.declared.msg.Msg.{Msg}
use Rattle.roc_msg.specs.declared.msg.Msg.TheVariants.{Read, ReadOk}
use Rattle.roc_msg.specs.declared.outbox.Outgoing.{Outgoing}
use Rattle.roc_msg.specs.declared.outbox.Ran.{Ran}
use Rattle.roc_msg.specs.declared.reason.Reason.TheVariants.{BadProc, BadGroup, BadInputs, NotHere}
use Rattle.roc_plan.specs.Groups.{Plan, procedure_of, groups_of, shard_of, group_place, is_view_of}
use Rattle.roc_group.specs.declared.access.Access.{Access}
use Rattle.roc_group.specs.Accesses.{do_write}
use Rattle.roc_group.specs.GroupRun.{GroupCall, call, group_run, group_uses}
use Rattle.roc_rows.specs.Versions.{Counts, version, counted, unwritten}
use Rattle.roc_step.specs.New.{AreDecided}
use Rattle.roc_step.specs.declared.handled.Handled.{Handled}
use Rattle.roc_step.specs.declared.handled.Handled.TheVariants.{Done, Ignored, Gone}
use Rattle.roc_step.specs.declared.kept_read.KeptRead.{KeptRead}
use Rattle.roc_step.specs.declared.started.StartedGroup.{StartedGroup}
use Rattle.roc_step.specs.Below.{is_ended}
use Rattle.roc_step.specs.Runs.{accesses_of}
use Rattle.roc_step.specs.State.{refused, answered, first_answer, ServerState, ServerStep, Viewing}

-- before any write and any read
abbrev pub first_viewing : Viewing
first_viewing = record { versions = unwritten; reads = [] }

-- ---- why a read is not taken

abbrev pub read_call : KeptRead → GroupCall
read_call q = call q.proc q.group q.args []

-- what a read is answered that is not taken: it comes too late of a view that is ended, or is ignored
abbrev pub read_refusal : Plan → ServerState → KeptRead → Option Handled
read_refusal plan s q =
    first_answer (
    (is_ended s.below q.id, Gone)
    ∷ (not (is_view_of plan q.proc), Ignored BadProc)
    ∷ (not (nat_lt q.group (length (groups_of plan q.proc))), Ignored BadGroup)
    ∷ (not (length q.args == (procedure_of plan q.proc).arguments), Ignored BadInputs)
    ∷ (not (shard_of plan (group_place plan q.proc q.group q.args []) == s.shard.0), Ignored NotHere)
    ∷ [])

-- a read changes nothing of what transactions left, and no answer to it is sent here: see `reads_behind`
abbrev pub read_judged : ServerState → Option Handled → ServerStep
read_judged s (Some answer) = refused s answer
read_judged s None = answered s []

abbrev pub after_read : Plan → ServerState → KeptRead → ServerStep
after_read plan s q = read_judged s (read_refusal plan s q)

-- ---- how often cells were written

-- with one more access that ran
abbrev pub with_access : Counts → Ran → Counts
with_access versions a = if a.writes then counted versions a.cell else versions

-- with these, in their order
abbrev pub with_accesses : Counts → List Ran → Counts
with_accesses versions [] = versions
with_accesses versions (a ∷ more) = with_accesses (with_access versions a) more

-- ---- which reads are kept

abbrev pub is_same_read : KeptRead → KeptRead → Bool
is_same_read q r = is_txn q.id r.id && (q.round == r.round && (q.proc == r.proc && (q.group == r.group && is_nums q.args r.args)))

-- one that is kept is not kept twice
abbrev pub with_read : KeptRead → List KeptRead → List KeptRead
with_read q reads = if list_any (is_same_read q) reads then reads else reads ++ q ∷ []

-- with the read of a message that was taken
abbrev pub reads_with : Msg → Handled → List KeptRead → List KeptRead
reads_with (Read id round proc group args) Done reads = with_read (record { id = id; round = round; proc = proc; group = group; args = args }) reads
reads_with msg answer reads = reads

-- ---- which are free, and what is answered to them

-- the cells that a read's group reads
abbrev pub read_uses : Plan → ServerState → KeptRead → List Access
read_uses plan s q = group_uses plan (read_call q) s.store

-- the group writes one of them
abbrev pub holds_up : Plan → ServerState → KeptRead → StartedGroup → Bool
holds_up plan s q e = list_any (λ a. do_write e.cells a.cell) (read_uses plan s q)

-- no undecided group that started here does. `decided` are the transactions that are decided here
abbrev pub is_free : Plan → (decided : List TxnId) → ServerState → KeptRead → Bool
is_free plan decided s q = not (list_any (λ e. not (is_listed is_txn decided e.id) && holds_up plan s q e) s.started)

-- the versions of the cells, and what the group adds to the reply
abbrev pub readok_of : Plan → ServerState → Counts → KeptRead → Outgoing
readok_of plan s versions q =
    record {
      to = Coord q.id.coord;
      msg = ReadOk q.id q.round q.group s.shard (map (λ a. version versions a.cell) (read_uses plan s q)) (group_run plan (read_call q) s.store).reply;
    }

-- by id, then by group, then by round
abbrev pub is_read_before : KeptRead → KeptRead → Bool
is_read_before q r =
    txn_lt q.id r.id || (is_txn q.id r.id && (nat_lt q.group r.group || (q.group == r.group && nat_lt q.round r.round)))

-- before the first that is not before it
abbrev pub put_read : KeptRead → List KeptRead → List KeptRead
put_read q [] = q ∷ []
put_read q (r ∷ rs) = if is_read_before r q then r ∷ put_read q rs else q ∷ r ∷ rs

-- in that order; of those that it does not tell apart the first to come stands first
abbrev pub in_turn : List KeptRead → List KeptRead
in_turn [] = []
in_turn (q ∷ qs) = put_read q (in_turn qs)

-- ---- what comes of a step for reads

-- what is kept for views then, and what is sent behind all else that the step sends
pub record ReadStep : Type 0 where
  pub viewing : Viewing
  pub sends : List Outgoing

abbrev pub is_taken : Handled → Bool
is_taken Done = true
is_taken Gone = true
is_taken (Ignored reason) = false

-- the kept reads that are free behind a step are answered, and kept no longer
abbrev pub answering : Plan → (decided : List TxnId) → ServerState → Counts → List KeptRead → ReadStep
answering plan decided s versions reads =
    record {
      viewing = record { versions = versions; reads = filter (λ q. not (is_free plan decided s q)) reads };
      sends = map (readok_of plan s versions) (in_turn (filter (is_free plan decided s) reads));
    }

-- what comes of a message that was ignored: nothing
abbrev pub reads_behind : Plan → (decided : List TxnId) → Viewing → Msg → ServerStep → ReadStep
reads_behind plan decided v msg r =
    if is_taken r.answer then answering plan decided r.state (with_accesses v.versions (accesses_of r.ran)) (reads_with msg r.answer v.reads)
    else record { viewing = v; sends = [] }

-- q is what comes of the step r for reads; there is exactly one such
pub record AnswersReads (plan : Plan) (v : Viewing) (msg : Msg) (r : ServerStep) (q : ReadStep) : Type 0 where
  -- what is decided here behind the step
  pub decided : List TxnId
  pub found : AreDecided r.state.lists.links decided
  pub is : q ≡ reads_behind plan decided v msg r
