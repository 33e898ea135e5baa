-- What a server's fold tells of groups that wait is of those that are yet to run
use Rattle.std.proofs.Common.{◌≡◌, ℕ, true, false, not, List, [], ◌∷◌, Some, map, filter, sym, ap, subst, append-nil}
use Rattle.std.proofs.lemmas.Bool.{and_parts, and_from, not-true, not_from_false}
use Rattle.std.specs.Prelude.{slice_get}
use Rattle.roc_sequence.specs.Lists.{Has}
use Rattle.roc_sequence.specs.Places.{is_listed}
use Rattle.roc_sequence.proofs.Members.{has_map, from_has_map, has_flat_map, from_has_flat_map, has_filter, from_has_filter, same_there}
use Rattle.roc_sequence.proofs.Places.{listed_false, unlisted_test}
use Rattle.roc_base.specs.declared.id.TxnId.{TxnId}
use Rattle.roc_base.specs.TxnId.{is_txn}
use Rattle.roc_depgraph.specs.Deps.{IsDecided}
use Rattle.roc_depgraph.proofs.RisingLists.{rising_one}
use Rattle.roc_msg.specs.declared.outbox.Ran.{Ran}
use Rattle.roc_plan.specs.Groups.{Plan, is_immediate_of}
use Rattle.roc_step.specs.New.{AreDecided}
use Rattle.roc_step.specs.Runs.{accesses_of}
use Rattle.roc_step.specs.State.{ServerState, Viewing}
use Rattle.roc_step.specs.Waiting.{is_waiting, waiting_of, waiting_groups}
use Rattle.roc_step.specs.declared.started.StartedGroup.{StartedGroup}
use Rattle.roc_step.specs.declared.waiting.Waiting.{Waiting}
use Rattle.roc_fold.specs.Fold.{serving}
use Rattle.roc_fold.specs.Folded.{access_by, accesses_waiting, AreWaiting}
use Rattle.roc_law_audit.specs.InTheWorld.{StillWaits}

module _ (plan : Plan) (s : ServerState) (decided : List TxnId) (are : AreDecided s.lists.links decided) where
  abbrev pub waits_there : List Ran
  waits_there = accesses_waiting (waiting_groups plan decided s)

  pub are_waiting : (v : Viewing) → AreWaiting plan (serving s v) waits_there
  are_waiting v others k = ap (λ ids. accesses_waiting (waiting_groups plan ids s)) (rising_one (IsDecided s.lists.links) decided others are k)

  module _ (servers : List ServerState) (shard : ℕ) (there : slice_get servers shard ≡ Some s) where
    pub still_there : (e : StartedGroup) → StillWaits plan servers shard e → (b : Ran) → Has b (accesses_of (e ∷ [])) → Has b waits_there
    still_there e k b h =
        let same : k.server ≡ s = same_there servers shard k.server s k.there there in
        let here : Has e s.started = subst (λ (x : ServerState). Has e x.started) same k.here in
        let unlisted : is_listed is_txn decided e.id ≡ false = unlisted_test is_txn decided e.id
        (λ l. k.undecided (subst (λ (x : ServerState). IsDecided x.lists.links e.id) (sym same) (are.sound e.id l))) in
        let waits : is_waiting plan decided e ≡ true =
        and_from (not (is_immediate_of plan e.proc e.group)) (not (is_listed is_txn decided e.id)) (not_from_false (is_immediate_of plan e.proc e.group) k.deferrable)
        (not_from_false (is_listed is_txn decided e.id) unlisted) in
        has_flat_map (λ (x : Waiting). map (access_by x.id) x.cells) b (waiting_of e) (waiting_groups plan decided s)
        (has_map waiting_of e (filter (is_waiting plan decided) s.started) (has_filter (is_waiting plan decided) e s.started here waits))
        (subst (Has b) (append-nil (map (access_by e.id) e.cells)) h)

    pub there_still : (b : Ran) → Has b waits_there → (e : StartedGroup) × StillWaits plan servers shard e × Has b (accesses_of (e ∷ []))
    there_still b h =
        let x = from_has_flat_map (λ (x : Waiting). map (access_by x.id) x.cells) b (waiting_groups plan decided s) h in
        let y = from_has_map waiting_of x.0 (filter (is_waiting plan decided) s.started) x.1 in
        let e = y.0 in
        let z = from_has_filter (is_waiting plan decided) e s.started y.1 in
        let both = and_parts (not (is_immediate_of plan e.proc e.group)) (not (is_listed is_txn decided e.id)) z.1 in
        let unlisted = listed_false is_txn decided e.id (not-true (is_listed is_txn decided e.id) both.1) in (
          e,
          record { server = s; there = there; here = z.0; deferrable = not-true (is_immediate_of plan e.proc e.group) both.0; undecided = λ d. unlisted (are.complete e.id d) },
          subst (Has b) (sym (append-nil (map (access_by e.id) e.cells))) (subst (λ (w : Waiting). Has b (map (access_by w.id) w.cells)) y.2 x.2),
        )
