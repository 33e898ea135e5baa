-- What it shows of the server that a message is taken, or is not
use Rattle.std.proofs.Common.{◌≡◌, ◌==◌, ◌&&◌, nat_lt, Bool, true, false, not, List, [], ◌∷◌, Some, None, is_none, length, map, refl, ap, ◌⊎◌, inl, inr}
use Rattle.std.proofs.lemmas.Bool.{false≢true, and_parts, not-true}
use Rattle.std.specs.Prelude.{if◌then◌else◌}
use Rattle.roc_base.specs.declared.id.TxnId.{TxnId}
use Rattle.roc_base.specs.Edge.{Dependency}
use Rattle.roc_depgraph.specs.declared.known.KnownList.{KnownList}
use Rattle.roc_depgraph.specs.Deps.{is_known}
use Rattle.roc_step.specs.Waits.{was_asked_for}
use Rattle.roc_msg.specs.declared.reason.Reason.{Reason}
use Rattle.roc_msg.specs.declared.reason.Reason.TheVariants.{BadProc, BadGroup, BadInputs, NotHere, Late, Differs}
use Rattle.roc_plan.specs.Groups.{Plan, groups_of, shard_of, group_place}
use Rattle.roc_group.specs.GroupRun.{GroupCall}
use Rattle.roc_step.specs.Below.{is_ended}
use Rattle.roc_step.specs.declared.handled.Handled.{Handled}
use Rattle.roc_step.specs.declared.handled.Handled.TheVariants.{Ignored, Gone}
use Rattle.roc_step.specs.Carried.{list_with, is_unlike}
use Rattle.roc_step.specs.Lists.{commit_differs, commit_refusal, known_refusal}
use Rattle.roc_step.specs.Start.{has_procedure, has_counts, differs, start_refusal}
use Rattle.roc_step.specs.State.{first_answer, find_group, is_here, ServerState}
use Rattle.roc_law_protocol.proofs.Gone.{IsGone}

-- ---- why a message is not taken: it comes too late, or is ignored

abbrev ignores : List (Bool × Reason) → List (Bool × Handled)
ignores cs = map (λ c. (c.0, Ignored c.1)) cs

abbrev pub IsIgnored : Handled → Type 0
IsIgnored answer = (why : Reason) × (answer ≡ Ignored why)

first_ignored : (cs : List (Bool × Reason)) (answer : Handled) → first_answer (ignores cs) ≡ Some answer → IsIgnored answer
first_ignored [] answer e = absurd (cc)
first_ignored (c ∷ cs) answer e = go c.0 e (first_ignored cs answer)
  where
    go : (b : Bool) → (if b then Some (Ignored c.1) else first_answer (ignores cs)) ≡ Some answer → (first_answer (ignores cs) ≡ Some answer → IsIgnored answer) → IsIgnored answer
    go true f ih = (c.1, just f)
      where
        just : Some (Ignored c.1) ≡ Some answer → answer ≡ Ignored c.1
        just f = cc
    go false f ih = ih f

late_or_ignored : (late : Bool) (cs : List (Bool × Reason)) (answer : Handled) → first_answer ((late, Gone) ∷ ignores cs) ≡ Some answer → (late ≡ true) ⊎ IsIgnored answer
late_or_ignored true cs answer e = inl refl
late_or_ignored false cs answer e = inr (first_ignored cs answer e)

-- a start comes too late only of a transaction that has ended
pub start_late : (plan : Plan) (s : ServerState) (id : TxnId) (c : GroupCall) (answer : Handled) → start_refusal plan s id c ≡ Some answer → (is_ended s.below id ≡ true) ⊎ IsIgnored answer
start_late plan s id c answer e =
    elim (late_or_ignored (is_none (find_group id c.group s.started) && is_ended s.below id)
    ((not (has_procedure plan c.proc), BadProc)
    ∷ (not (nat_lt c.group (length (groups_of plan c.proc))), BadGroup)
    ∷ (not (has_counts plan c), BadInputs)
    ∷ (not (shard_of plan (group_place plan c.proc c.group c.args c.inputs) == s.shard.0), NotHere)
    ∷ (is_none (find_group id c.group s.started) && is_known s.lists.known id, Late)
    ∷ (differs s id c, Differs)
    ∷ []) answer e) [
      | inl h ↦ inl (and_parts (is_none (find_group id c.group s.started)) (is_ended s.below id) h).1
      | inr i ↦ inr i
    ]

-- a commit only of one that is gone
pub commit_late : (s : ServerState) (id : TxnId) (edges : List Dependency) (facts : List KnownList) (answer : Handled) → commit_refusal s id edges facts ≡ Some answer → IsGone s id ⊎ IsIgnored answer
commit_late s id edges facts answer e =
    elim (late_or_ignored (not (is_here id s.started) && is_ended s.below id) ((not (is_here id s.started), NotHere) ∷ (commit_differs s id edges facts, Differs) ∷ []) answer e) [
      | inl h ↦ (let p = and_parts (not (is_here id s.started)) (is_ended s.below id) h in inl (record { nowhere = not-true (is_here id s.started) p.0; ended = p.1 }))
      | inr i ↦ inr i
    ]

-- and a list that answers a fetch only where it was not asked for
pub known_late : (s : ServerState) (id : TxnId) (edges : List Dependency) (answer : Handled) → known_refusal s id edges ≡ Some answer → (was_asked_for id s.lists.waiting.asked ≡ false) ⊎ IsIgnored answer
known_late s id edges answer e =
    elim (late_or_ignored (not (was_asked_for id s.lists.waiting.asked) && is_ended s.below id) ((not (was_asked_for id s.lists.waiting.asked), NotHere) ∷ (is_unlike s.lists.known (list_with id edges), Differs) ∷ []) answer e) [
      | inl h ↦ inl (not-true (was_asked_for id s.lists.waiting.asked) (and_parts (not (was_asked_for id s.lists.waiting.asked)) (is_ended s.below id) h).0)
      | inr i ↦ inr i
    ]

-- ---- what a message that is taken shows

-- a commit that is taken is of a transaction with a group here
pub commits_here : (s : ServerState) (id : TxnId) (edges : List Dependency) (facts : List KnownList) → commit_refusal s id edges facts ≡ None → is_here id s.started ≡ true
commits_here s id edges facts taken = go (is_here id s.started) (is_ended s.below id) (commit_differs s id edges facts) taken
  where
    go : (b e d : Bool) → first_answer ((not b && e, Gone) ∷ (not b, Ignored NotHere) ∷ (d, Ignored Differs) ∷ []) ≡ None → b ≡ true
    go true e d f = refl
    go false true d f = absurd (cc)
    go false false d f = absurd (cc)

-- a start of a new group that is taken is of a transaction that is not gone
pub starts_here : (plan : Plan) (s : ServerState) (id : TxnId) (c : GroupCall) → start_refusal plan s id c ≡ None → find_group id c.group s.started ≡ None → ¬ IsGone s id
starts_here plan s id c taken none g =
    go (is_none (find_group id c.group s.started)) (is_ended s.below id)
    ((not (has_procedure plan c.proc), Ignored BadProc)
    ∷ (not (nat_lt c.group (length (groups_of plan c.proc))), Ignored BadGroup)
    ∷ (not (has_counts plan c), Ignored BadInputs)
    ∷ (not (shard_of plan (group_place plan c.proc c.group c.args c.inputs) == s.shard.0), Ignored NotHere)
    ∷ (is_none (find_group id c.group s.started) && is_known s.lists.known id, Ignored Late)
    ∷ (differs s id c, Ignored Differs)
    ∷ []) taken (ap is_none none) g.ended
  where
    go : (b e : Bool) (rest : List (Bool × Handled)) → first_answer ((b && e, Gone) ∷ rest) ≡ None → b ≡ true → e ≡ true → ⊥
    go true true rest f h k = cc
    go true false rest f h k = false≢true k
    go false e rest f h k = false≢true h
