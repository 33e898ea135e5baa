-- How a run with servers of its own ends.
use Rattle.std.proofs.Common.{◌≡◌, ◌≢◌, ℕ, zero, suc, ◌+◌, ◌<◌, ◌≤◌, Bool, true, false, not, nat_eq, List, [], ◌∷◌, ◌++◌, length, map, refl, sym, ◌∙◌, ap, subst, arith, eq-eqb}
use Rattle.std.specs.Prelude.{Option, Some, None, IfSome, IsNone, if◌then◌else◌}
use Rattle.std.proofs.lemmas.List.{length-map, length_push}
use Rattle.std.proofs.lemmas.Bool.{false≢true}
use Rattle.std.proofs.lemmas.Option.{same_Some}
use Rattle.roc_io.specs.declared.link.Addr.{Addr}
use Rattle.roc_io.specs.declared.spawner.AllStarted.{AllStarted}
use Rattle.roc_io.specs.declared.spawner.AllStarted.TheVariants.{Ok, NoMemory as NoRoom, Failed}
use Rattle.roc_io.specs.declared.spawner.ChildWait.{ChildWait}
use Rattle.roc_io.specs.Cause.{HasCause, Rose}
use Rattle.roc_io.specs.Spawner.{StartsAll, EndsStarts, all_start_failed, ended_badly}
use Rattle.roc_io.specs.Start.{Start}
use Rattle.roc_io.specs.Call.{LinkView}
use Rattle.roc_node_submit.specs.SubmitEnd.{TurnsCall}
use Rattle.roc_node_submit.specs.declared.ends.SubmitEnd.{SubmitEnd}
use Rattle.roc_node_submit.specs.declared.ends.SubmitEnd.TheVariants as submit
use Rattle.roc_node_local.specs.declared.children.ChildEnd.{ChildEnd}
use Rattle.roc_node_local.specs.declared.local.LocalEnd.{LocalEnd}
use Rattle.roc_node_local.specs.declared.local.LocalEnd.TheVariants.{Done, ChildFault}
use Rattle.roc_node_local.specs.Children.{AwaitsAll, first_bad, serve_commands}
use Rattle.roc_node_local.specs.Local.{LocalAsk, LocalCall, RunsServers, Works, BlamesChild, local_end_of, with_child}

-- ---- how many

-- no more children run than were to be started
at_most_all : (end : AllStarted) (made all : ℕ) → EndsStarts end made all → made ≤ all
at_most_all Ok made all e = omega (arith, e)
at_most_all NoRoom made all less = omega (arith, less)
at_most_all Failed made all less = omega (arith, less)

pub few_run : {end : AllStarted} {old new : Option (List Start)} {commands : List (List (List ℕ))} {before after : List ℕ} (most : ℕ)
    → StartsAll end old new commands before after → before ≡ [] → length commands ≤ most → length after ≤ most
few_run {end} {commands = commands} {before = before} {after = after} most starts none few =
    let all = at_most_all end (length starts.starts) (length commands) starts.ends in
    let from_none : after ≡ map (λ (start : Start). start.child) starts.starts = starts.added ∙ ap (λ l. l ++ map (λ (start : Start). start.child) starts.starts) none in
    let count : length after ≡ length starts.starts = ap length from_none ∙ length-map starts.starts (λ (start : Start). start.child) in
    omega (arith, all, count, few)

pub commands_count : (workload cluster : List ℕ) (turns shards : ℕ) → length (serve_commands workload cluster turns shards) ≡ shards
commands_count workload cluster turns zero = refl
commands_count workload cluster turns (suc n) =
    let more = length_push (serve_commands workload cluster turns n) _ in
    let so_far = commands_count workload cluster turns n in
    more ∙ omega (arith, so_far)

-- ---- children that are to blame

bad_status : (status : Option ℕ) (shard : ℕ) (rest : Option ChildEnd) (child : ℕ) → IfSome rest (λ bad. bad.status ≢ Some 0)
    → let wait : ChildWait = record { child = child; status = status } in
    IfSome (if ended_badly wait then Some (record { shard = record { 0 = shard }; status = status }) else rest) (λ (bad : ChildEnd). bad.status ≢ Some 0)
bad_status None shard rest child later = λ e. cc
bad_status (Some n) shard rest child later = go (nat_eq n 0) refl
  where
    go : (good : Bool) → nat_eq n 0 ≡ good → IfSome (if not good then Some (record { shard = record { 0 = shard }; status = Some n }) else rest) (λ (bad : ChildEnd). bad.status ≢ Some 0)
    go true e = later
    go false e = λ same. let zero_status : n ≡ 0 = same_Some n 0 same in absurd (false≢true (sym e ∙ eq-eqb n 0 zero_status))

first_is_bad : (shard : ℕ) (waits : List ChildWait) → IfSome (first_bad shard waits) (λ bad. bad.status ≢ Some 0)
first_is_bad shard [] = tt
first_is_bad shard (wait ∷ waits) = bad_status wait.status shard (first_bad (shard + 1) waits) wait.child (first_is_bad (shard + 1) waits)

blamed_child : (bad : Option ChildEnd) (old new : ℕ) → IfSome bad (λ end. IsNone end.status → Rose old new) → (bad ≡ None → new ≡ old) → old ≤ new → IfSome bad (λ end. end.status ≢ Some 0)
    → BlamesChild (with_child Done bad) old new
blamed_child None old new failed succeeded rises wrong = succeeded refl
blamed_child (Some bad) old new failed succeeded rises wrong = go bad.status failed wrong
  where
    go : (status : Option ℕ) → (IsNone status → Rose old new) → status ≢ Some 0 → BlamesChild (ChildFault bad.shard status) old new
    go None failed wrong = failed refl
    go (Some n) failed wrong = (λ e. wrong (ap Some e), rises)

-- where submitting ended so
blamed_behind : (submitted : SubmitEnd) (bad : Option ChildEnd) (old new : ℕ) → IfSome bad (λ end. IsNone end.status → Rose old new) → (bad ≡ None → new ≡ old) → old ≤ new
    → IfSome bad (λ end. end.status ≢ Some 0) → BlamesChild (with_child (local_end_of submitted) bad) old new
blamed_behind submit.Done bad old new failed succeeded rises wrong = blamed_child bad old new failed succeeded rises wrong
blamed_behind submit.Unanswered bad old new failed succeeded rises wrong = rises
blamed_behind submit.LinkFault bad old new failed succeeded rises wrong = rises
blamed_behind submit.SinkFault bad old new failed succeeded rises wrong = rises
blamed_behind submit.BookFault bad old new failed succeeded rises wrong = rises
blamed_behind submit.NoMemory bad old new failed succeeded rises wrong = rises

pub blamed : (asked : LocalAsk) (call : TurnsCall) (starts : AllStarted) (running : ℕ) (first : LocalEnd) (bad : Option ChildEnd) (o p : Option (List ChildWait)) (children : List ℕ) (old mid new : ℕ)
    → HasCause (all_start_failed starts) old mid → Works asked call starts running first → AwaitsAll o p children bad
    → IfSome bad (λ end. IsNone end.status → Rose mid new) → (bad ≡ None → new ≡ mid) → mid ≤ new → BlamesChild (with_child first bad) old new
blamed asked call Ok running first bad o p children old mid new cause works awaited failed succeeded rises =
    let wrong : IfSome bad (λ end. end.status ≢ Some 0) = subst (λ (b : Option ChildEnd). IfSome b (λ end. end.status ≢ Some 0)) (sym awaited.bad) (first_is_bad 0 awaited.waits) in
    subst (λ (end : LocalEnd). BlamesChild (with_child end bad) old new) (sym works.2)
    (subst (λ n. BlamesChild (with_child (local_end_of works.0) bad) n new) cause (blamed_behind works.0 bad mid new failed succeeded rises wrong))
blamed asked call NoRoom running first bad o p children old mid new cause works awaited failed succeeded rises =
    subst (λ (end : LocalEnd). BlamesChild (with_child end bad) old new) (sym works.1) (omega (arith, cause, rises))
blamed asked call Failed running first bad o p children old mid new cause works awaited failed succeeded rises =
    subst (λ (end : LocalEnd). BlamesChild (with_child end bad) old new) (sym works.1) (λ below. let rose : old < mid = cause.rose (omega (arith, rises, below)) in omega (arith, rose, rises))

-- ---- over a link that is bound

-- the same call from before its bind on
pub from_bind : (asked : LocalAsk) (call : LocalCall) (end : LocalEnd) (old : LinkView) (bound_old bound_new : Option (List Addr)) → call.node.link.old ≡ old → RunsServers asked call end
    → RunsServers asked (record {
      node = record { link = record { bound_old = bound_old; bound_new = bound_new; old = old; new = call.node.link.new }; out = call.node.out };
      children = call.children;
    }) end
from_bind asked call end old bound_old bound_new same r = record {
  starts = r.starts;
  children = r.children;
  started = r.started;
  middle = r.middle;
  first = r.first;
  works = subst (λ (l : LinkView). Works asked (record { old = l; new = r.middle; out = call.node.out }) r.starts (length r.children) r.first) same r.works;
  stopped = r.stopped;
  bad = r.bad;
  awaited = r.awaited;
  stops_first = r.stops_first;
  ends = r.ends;
}
