-- A coordinator's step keeps what is named there, and that its transactions are the plan's
use Rattle.std.proofs.Common.{◌≡◌, ℕ, ℤ, ◌<◌, ◌==◌, ◌&&◌, Bool, true, false, not, cond, List, [], ◌∷◌, Option, Some, None, length, map, refl, sym, subst, arith, inl, inr}
use Rattle.std.proofs.lemmas.Bool.{and_parts, eqb-true}
use Rattle.std.specs.Prelude.{filter, flat_map, is_some, if◌then◌else◌}
use Rattle.std.specs.List.{AllByRecursion, list_any, range_with_len}
use Rattle.roc_sequence.specs.Lists.{Has}
use Rattle.roc_sequence.proofs.Found.{found_has}
use Rattle.roc_sequence.proofs.Holds.{all_has, has_all, all_append, all_weaker, any_has}
use Rattle.roc_sequence.proofs.Members.{has_append, has_one, from_has_map, from_has_filter, from_has_flat_map}
use Rattle.roc_sequence.proofs.Ranges.{range_below}
use Rattle.roc_base.specs.declared.id.TxnId.{TxnId}
use Rattle.roc_base.specs.declared.node.Shard.{Shard}
use Rattle.roc_base.specs.TxnId.{is_txn}
use Rattle.roc_base.specs.Edge.{Dependency}
use Rattle.roc_depgraph.specs.declared.known.KnownList.{KnownList}
use Rattle.roc_msg.specs.declared.msg.Msg.{Msg}
use Rattle.roc_msg.specs.declared.msg.Msg.TheVariants.{StartOk, Commit, CommitOk, ReadOk}
use Rattle.roc_msg.specs.declared.outbox.Outgoing.{Outgoing}
use Rattle.roc_msg.specs.declared.reason.Reason.{Reason}
use Rattle.roc_msg.specs.declared.reason.Reason.TheVariants.{Stale, Unfit}
use Rattle.roc_program.proofs.Transactions.{transaction_parts}
use Rattle.roc_plan.specs.Groups.{Plan, procedure_of, groups_of, shard_of, group_place, is_transaction}
use Rattle.roc_coord.specs.declared.transaction.SentStart.{SentStart}
use Rattle.roc_coord.specs.declared.transaction.TakenStart.{TakenStart}
use Rattle.roc_coord.specs.declared.transaction.TakenCommit.{TakenCommit}
use Rattle.roc_coord.specs.declared.transaction.Transaction.{Transaction}
use Rattle.roc_coord.specs.Fits.{IsTransactionOf}
use Rattle.roc_coord.specs.State.{find_transaction, with_transaction, find_startok, was_asked, has_commitok, CoordState, CoordStep}
use Rattle.roc_coord.specs.Starts.{group_numbers, inputs_for, can_start, ready_groups, shards_below, shards_of, start_for, sent_start, with_starts, starts_of, all_started, all_edges, all_facts, gathered, commit_to, commits_of, bound_count, out_count}
use Rattle.roc_coord.specs.Step.{unless_refused, is_fit_startok, with_commits, commits_for, with_startok, startok_taken, after_startok, with_commitok, reply_now, commitok_taken, commitok_refusal, after_commitok, after_message, without_transaction}
use Rattle.roc_coord.specs.Submit.{new_transaction, accepted}
use Rattle.roc_coord.specs.Tick.{awaits_startok, starts_again, commits_again, sent_again}
use Rattle.roc_law_protocol.specs.Aside.{transaction_tick_sends}
use Rattle.roc_law_protocol.specs.Fits.{AreSeenHere, AreListsHere, NamesNodes, IsTransactionHere}
use Rattle.roc_law_protocol.proofs.Coordinators.{from_gathered}
use Rattle.roc_law_protocol.proofs.Facts.{has_fitting}
use Rattle.roc_law_protocol.proofs.Named.{shard_below, all_flat, seen_united, IsOutHere}
use Rattle.roc_law_protocol.proofs.Marks.{mark_sent}
use Rattle.roc_coord.specs.Marks.{ended_sends, passes_mark}
use Rattle.roc_coord.proofs.Keeping.{all_filter}

-- the shards of sent starts are there
asked_here : (servers : ℕ) (starts : List SentStart) → AllByRecursion (λ (start : SentStart). start.shard.0 < servers) starts → (count : ℕ) → AllByRecursion (λ (shard : Shard). shard.0 < servers) (shards_below count starts)
unfolding shards_below
asked_here servers starts h count = has_all (λ (shard : Shard). shard.0 < servers) (shards_below count starts) (λ shard k.
    (let f = from_has_filter (λ (shard : Shard). list_any (λ (start : SentStart). start.shard.0 == shard.0) starts) shard (map (λ n. record { 0 = n }) (range_with_len 0 count)) k in
    let q = any_has (λ (start : SentStart). start.shard.0 == shard.0) starts f.1 in
    subst (λ n. n < servers) (eqb-true q.0.shard.0 shard.0 q.2) (all_has (λ (start : SentStart). start.shard.0 < servers) q.0 starts h q.1)))

module _ (plan : Plan) (servers coords : ℕ) (some : 0 < plan.program.shards) (shards : servers ≡ plan.program.shards) where
  abbrev AreOutsHere : List Outgoing → Type 0
  AreOutsHere outs = AllByRecursion (IsOutHere servers coords) outs

  -- of the plan, and what it names is there
  pub record IsHeld (x : Transaction) : Type 0 where
    pub here : IsTransactionHere servers coords x
    pub of : IsTransactionOf plan x

  -- ---- what is sent of such a transaction

  starts_here : (x : Transaction) → IsHeld x → (gs : List ℕ) → AreOutsHere (map (start_for plan x) gs)
  starts_here x k [] = tt
  starts_here x k (g ∷ gs) = ((subst (λ n. shard_of plan (group_place plan x.proc g x.args (inputs_for plan x g)) < n) (sym shards) (shard_below plan some (group_place plan x.proc g x.args (inputs_for plan x g))), k.here.coord), starts_here x k gs)

  commit_names : (x : Transaction) → IsHeld x → NamesNodes servers coords (Commit x.id (all_edges x) (all_facts x))
  commit_names x k = (
    seen_united servers coords (flat_map (λ (ok : TakenStart). ok.edges) x.startoks) (all_flat (λ (d : Dependency). d.at.0 < servers) (λ (ok : TakenStart). ok.edges) x.startoks (all_weaker (λ (ok : TakenStart). AreSeenHere servers coords ok.edges × AreListsHere servers coords ok.facts) (λ (ok : TakenStart). AreSeenHere servers coords ok.edges) (λ ok h. h.0) x.startoks k.here.startoks)),
    has_all (λ (f : KnownList). AreSeenHere servers coords f.edges) (all_facts x) (λ f h.
        (let others = filter (λ (fact : KnownList). not (is_txn fact.of x.id)) (gathered (flat_map (λ (ok : TakenStart). ok.facts) x.startoks)) in
        let a = (from_has_filter (λ (fact : KnownList). not (is_txn fact.of x.id)) f (gathered (flat_map (λ (ok : TakenStart). ok.facts) x.startoks)) (has_fitting others f h)).0 in
        let b = from_has_flat_map (λ (ok : TakenStart). ok.facts) f x.startoks (from_gathered f (flat_map (λ (ok : TakenStart). ok.facts) x.startoks) a) in
        all_has (λ (f : KnownList). AreSeenHere servers coords f.edges) f b.0.facts (all_has (λ (ok : TakenStart). AreSeenHere servers coords ok.edges × AreListsHere servers coords ok.facts) b.0 x.startoks k.here.startoks b.1).1 b.2)),
  )

  commits_here : (x : Transaction) → IsHeld x → (to : List Shard) → AllByRecursion (λ (shard : Shard). shard.0 < servers) to → AreOutsHere (map (commit_to x) to)
  commits_here x k [] h = tt
  commits_here x k (shard ∷ to) h = ((h.0, commit_names x k), commits_here x k to h.1)

  -- ---- such a transaction, changed

  numbers_below : (x : Transaction) → AllByRecursion (λ g. g < length (groups_of plan x.proc)) (group_numbers plan x.proc)
  numbers_below x = range_below 0 (length (groups_of plan x.proc)) (length (groups_of plan x.proc)) (omega arith)

  started_held : (x : Transaction) → IsHeld x → IsHeld (with_starts plan x)
  started_held x k =
      record {
        here = record {
          coord = k.here.coord;
          starts = all_append (λ (start : SentStart). start.shard.0 < servers) x.starts (map (sent_start plan x) (ready_groups plan x)) k.here.starts (shards_sent (ready_groups plan x));
          startoks = k.here.startoks;
          asked = k.here.asked;
        };
        of = record {
          procedure = k.of.procedure;
          args = k.of.args;
          starts = all_append (λ (start : SentStart). start.group < length (groups_of plan x.proc)) x.starts (map (sent_start plan x) (ready_groups plan x)) k.of.starts (groups_sent (ready_groups plan x) (all_filter (λ g. g < length (groups_of plan x.proc)) (can_start plan x) (group_numbers plan x.proc) (numbers_below x)));
          startoks = k.of.startoks;
        };
      }
    where
      shards_sent : (gs : List ℕ) → AllByRecursion (λ (start : SentStart). start.shard.0 < servers) (map (sent_start plan x) gs)
      shards_sent [] = tt
      shards_sent (g ∷ gs) = (subst (λ n. shard_of plan (group_place plan x.proc g x.args (inputs_for plan x g)) < n) (sym shards) (shard_below plan some (group_place plan x.proc g x.args (inputs_for plan x g))), shards_sent gs)

      groups_sent : (gs : List ℕ) → AllByRecursion (λ g. g < length (groups_of plan x.proc)) gs → AllByRecursion (λ (start : SentStart). start.group < length (groups_of plan x.proc)) (map (sent_start plan x) gs)
      groups_sent [] h = tt
      groups_sent (g ∷ gs) h = (h.0, groups_sent gs h.1)

  committed_held : (x : Transaction) → IsHeld x → IsHeld (with_commits plan x)
  committed_held x k = go (all_started plan x)
    where
      go : (b : Bool) → IsHeld (if b then record x { asked = shards_of x } else x)
      go true = record { here = record { coord = k.here.coord; starts = k.here.starts; startoks = k.here.startoks; asked = asked_here servers x.starts k.here.starts 64 }; of = record { procedure = k.of.procedure; args = k.of.args; starts = k.of.starts; startoks = k.of.startoks } }
      go false = k

  -- ---- a step

  module _ (s : CoordState) (numbered : s.number < coords) (held : (x : Transaction) → Has x s.pending → IsHeld x) where
    pub record KeepsCoord (after : CoordState) (outs : List Outgoing) : Type 0 where
      pub number : after.number < coords
      pub pending : (x : Transaction) → Has x after.pending → IsHeld x
      pub sends : AreOutsHere outs

    same : (outs : List Outgoing) → AreOutsHere outs → KeepsCoord s outs
    same outs sends = record { number = numbered; pending = held; sends = sends }

    kept : (x : Transaction) → IsHeld x → (z : Transaction) → Has z (with_transaction s x).pending → IsHeld z
    kept x k z h =
        let q = from_has_map (λ (y : Transaction). if is_txn y.id x.id then x else y) z s.pending h in
        go q.0 q.1 (is_txn q.0.id x.id) q.2
      where
        go : (y : Transaction) → Has y s.pending → (b : Bool) → z ≡ cond b x y → IsHeld z
        go y j true e = subst IsHeld (sym e) k
        go y j false e = subst IsHeld (sym e) (held y j)

    abbrev After : CoordStep → Type 0
    After r = KeepsCoord r.state r.sends

    startok_keeps : (ok : TakenStart) (shard : Shard) (id : TxnId) → AreSeenHere servers coords ok.edges → AreListsHere servers coords ok.facts → (x : Option Transaction) → find_transaction id s.pending ≡ x → After (after_startok plan s id x ok shard)
    startok_keeps ok shard id edges facts None e = same [] tt
    startok_keeps ok shard id edges facts (Some x) e = refused (is_some (find_startok ok.group x.startoks)) (is_fit_startok plan x ok shard) refl
      where
        k : IsHeld x
        k = held x (found_has (λ (x : Transaction). is_txn x.id id) s.pending x e).0

        -- a start of its group was sent
        group_known : is_fit_startok plan x ok shard ≡ true → ok.group < length (groups_of plan x.proc)
        group_known fit =
            let p = and_parts (was_asked x ok.group shard && length ok.bound == bound_count plan x.proc ok.group) (length ok.outs == out_count plan x.proc ok.group) fit in
            let a = (and_parts (was_asked x ok.group shard) (length ok.bound == bound_count plan x.proc ok.group) p.0).0 in
            let q = any_has (λ (start : SentStart). start.group == ok.group && start.shard.0 == shard.0) x.starts a in
            subst (λ g. g < length (groups_of plan x.proc)) (eqb-true q.0.group ok.group (and_parts (q.0.group == ok.group) (q.0.shard.0 == shard.0) q.2).0) (all_has (λ (start : SentStart). start.group < length (groups_of plan x.proc)) q.0 x.starts k.of.starts q.1)

        now : is_fit_startok plan x ok shard ≡ true → IsHeld (with_startok x ok)
        now fit =
            record {
              here = record {
                coord = k.here.coord;
                starts = k.here.starts;
                startoks = all_append (λ (ok : TakenStart). AreSeenHere servers coords ok.edges × AreListsHere servers coords ok.facts) x.startoks (ok ∷ []) k.here.startoks ((edges, facts), tt);
                asked = k.here.asked;
              };
              of = record {
                procedure = k.of.procedure;
                args = k.of.args;
                starts = k.of.starts;
                startoks = all_append (λ (ok : TakenStart). ok.group < length (groups_of plan x.proc)) x.startoks (ok ∷ []) k.of.startoks (group_known fit, tt);
              };
            }

        round : (y : Transaction) → IsHeld y → After (startok_taken plan s y)
        round y j =
            let z = with_starts plan y in
            let jz = started_held y j in
            record {
              number = numbered;
              pending = kept (with_commits plan z) (committed_held z jz);
              sends = all_append (IsOutHere servers coords) (starts_of plan y) (commits_for plan z) (starts_here y j (ready_groups plan y)) (commits z jz (all_started plan z));
            }
          where
            commits : (z : Transaction) → IsHeld z → (b : Bool) → AreOutsHere (if b then commits_of z else [])
            commits z jz true = commits_here z jz (shards_of z) (asked_here servers z.starts jz.here.starts 64)
            commits z jz false = tt

        refused : (again fit : Bool) → is_fit_startok plan x ok shard ≡ fit → After (unless_refused s (if again then Some Stale else if not fit then Some Unfit else None) (startok_taken plan s (with_startok x ok)))
        refused true fit f = same [] tt
        refused false false f = same [] tt
        refused false true f = round (with_startok x ok) (now f)

    pub told_here : (after : CoordState) → after.number ≡ s.number → AreOutsHere (ended_sends plan after)
    told_here after same =
        has_all (IsOutHere servers coords) (ended_sends plan after)
        (λ out h. (let q = mark_sent plan after out h in subst (IsOutHere servers coords) (sym q.is) (in_shards q.shard q.there, subst (λ n. n < coords) (sym same) numbered)))
      where
        in_shards : (n : ℕ) → Has n (range_with_len 0 plan.program.shards) → n < servers
        in_shards n h = subst (λ m. n < m) (sym shards) (all_has (λ n. n < plan.program.shards) n (range_with_len 0 plan.program.shards) (range_below 0 plan.program.shards plan.program.shards (omega arith)) h)

    pub answered_told : (after : CoordState) → after.number ≡ s.number → (b : Bool) → AreOutsHere (if b then ended_sends plan after else [])
    answered_told after same true = told_here after same
    answered_told after same false = tt

    commitok_keeps : (ok : TakenCommit) (id : TxnId) (x : Option Transaction) → find_transaction id s.pending ≡ x → After (after_commitok plan s id x ok)
    commitok_keeps ok id None e = same [] tt
    commitok_keeps ok id (Some x) e = refused (commitok_refusal plan x ok) (reply_now plan (with_commitok x ok))
      where
        now : IsHeld (with_commitok x ok)
        now =
            let k = held x (found_has (λ (x : Transaction). is_txn x.id id) s.pending x e).0 in
            record { here = record { coord = k.here.coord; starts = k.here.starts; startoks = k.here.startoks; asked = k.here.asked }; of = record { procedure = k.of.procedure; args = k.of.args; starts = k.of.starts; startoks = k.of.startoks } }

        refused : (why : Option Reason) (reply : Option (List ℤ)) → After (unless_refused s why (commitok_taken plan s (with_commitok x ok) reply))
        refused (Some why) reply = same [] tt
        refused None None = record { number = numbered; pending = kept (with_commitok x ok) now; sends = tt }
        refused None (Some reply) = record { number = numbered; pending = λ z h. held z (from_has_filter (λ (z : Transaction). not (is_txn z.id x.id)) z s.pending h).0; sends = answered_told (without_transaction s x.id) refl (passes_mark s (without_transaction s x.id)) }

    pub message_keeps : (msg : Msg) → NamesNodes servers coords msg → After (after_message plan s msg)
    message_keeps (StartOk id group shard bound outs edges facts) k = startok_keeps (record { group = group; bound = bound; outs = outs; edges = edges; facts = facts }) shard id k.0 k.1 (find_transaction id s.pending) refl
    message_keeps (CommitOk id shard outs) k = commitok_keeps (record { shard = shard; outs = outs }) id (find_transaction id s.pending) refl
    message_keeps (ReadOk id round group shard versions outs) k = absurd k
    message_keeps msg k = same [] tt

    pub tick_keeps : KeepsCoord s (transaction_tick_sends plan s)
    tick_keeps =
        same (transaction_tick_sends plan s)
        (all_append (IsOutHere servers coords) (flat_map (sent_again plan) s.pending) (ended_sends plan s)
        (all_flat (IsOutHere servers coords) (sent_again plan) s.pending (has_all (λ x. AreOutsHere (sent_again plan x)) s.pending (λ x h. again x (held x h) (all_started plan x))))
        (told_here s refl))
      where
        again : (x : Transaction) → IsHeld x → (b : Bool) → AreOutsHere (if b then commits_again x else starts_again plan x)
        again x k true = commits_here x k (filter (λ (shard : Shard). not (has_commitok shard x.commitoks)) x.asked) (all_filter (λ (shard : Shard). shard.0 < servers) (λ (shard : Shard). not (has_commitok shard x.commitoks)) x.asked k.here.asked)
        again x k false = starts_here x k (filter (awaits_startok x) (group_numbers plan x.proc))

    pub submission_keeps : (proc : ℕ) (args : List ℤ) → is_transaction plan proc ≡ true → length args ≡ (procedure_of plan proc).arguments
        → KeepsCoord (accepted plan s (new_transaction s proc args)).state (accepted plan s (new_transaction s proc args)).sends
    submission_keeps proc args known counted =
        let x = new_transaction s proc args in
        let k : IsHeld x = record { here = record { coord = numbered; starts = tt; startoks = tt; asked = tt }; of = record { procedure = (transaction_parts plan.program proc known).there; args = counted; starts = tt; startoks = tt } } in
        record {
          number = numbered;
          pending = λ z h. elim (has_append z s.pending (with_starts plan x ∷ []) h) [ inl j ↦ held z j | inr j ↦ subst IsHeld (sym (has_one z (with_starts plan x) j)) (started_held x k) ];
          sends = starts_here x k (ready_groups plan x);
        }
