-- What is tried of lists: the state behind it, that it is of the plan, and that it can be kept
use Rattle.std.proofs.Common.{◌≡◌, ◌++◌, ℕ, Bool, true, false, not, ◌&&◌, List, [], Option, Some, None, refl, sym, ap, subst, ◌∙◌, append-nil, Result, Ok, Err, OnOk}
use Rattle.std.specs.List.{flat_map, AllByRecursion}
use Rattle.roc_sequence.specs.Lists.{Has}
use Rattle.roc_sequence.specs.Places.{is_listed}
use Rattle.roc_base.specs.declared.id.TxnId.{TxnId}
use Rattle.roc_base.specs.declared.node.Shard.{Shard}
use Rattle.roc_base.specs.TxnId.{is_txn}
use Rattle.roc_depgraph.specs.Deps.{is_known}
use Rattle.roc_depgraph.specs.declared.known.KnownList.{KnownList}
use Rattle.roc_msg.specs.Outbox.{Collected, HasSent}
use Rattle.roc_plan.specs.Groups.{Plan}
use Rattle.roc_step.specs.declared.handled.Handled.{Handled}
use Rattle.roc_step.specs.declared.handled.Handled.TheVariants.{Done, Gone}
use Rattle.roc_step.specs.declared.started.StartedGroup.{StartedGroup}
use Rattle.roc_step.specs.Asking.{knowns_for}
use Rattle.roc_step.specs.Fits.{AreGroupsOf}
use Rattle.roc_step.specs.Forgets.{over}
use Rattle.roc_step.specs.Links.{all_entries}
use Rattle.roc_step.specs.Lists.{after_ended}
use Rattle.roc_step.specs.State.{hearing, unrun, Lists, ServerState}
use Rattle.roc_step.specs.Waits.{was_asked_for}
use Rattle.roc_server_groups.specs.Groups.{AreSameGroups}
use Rattle.roc_server_groups.specs.GroupsNow.{groups_behind, groups_without, GroupsNow, RunsDecided}
use Rattle.roc_server_groups.proofs.SameGroups.{fits_same, fits_some, here_same}
use Rattle.roc_server_lists.specs.ListsNow.{asks_of, lists_behind, newly_of, over_of, IsHeard, IsNoneLeft, IsSettledBy, IsTaught, IsTried, ListsNow, TriedLists}
use Rattle.roc_server.specs.declared.parts.ServerParts.{ServerParts}
use Rattle.roc_server.specs.Inner.Parts.{state_behind, state_of, CanRelease, IsIdle, IsSound}
use Rattle.roc_server.specs.Inner.Settled.{Settles}
use Rattle.roc_server.specs.Inner.Shown.{ShowsStep}
use Rattle.roc_server.specs.Inner.Taught.{newly_told, Teaches}
use Rattle.roc_server.proofs.ReadsBefore.{over_same}
use Rattle.roc_server.proofs.SettledRuns.{hears, hears_alone, settles}
use Rattle.roc_server.proofs.TeachSteps.{state_then, teaches}

-- ---- the groups behind a step in which none starts

all_ran : (g : GroupsNow) → g.starting ≡ [] → g.ran ++ g.starting ≡ g.ran
all_ran g none = ap (λ es. g.ran ++ es) none ∙ append-nil g.ran

pub fits_behind : (plan : Plan) (ids : List TxnId) (g : GroupsNow) → AreSameGroups g.kept g.ran → g.starting ≡ [] → AreGroupsOf plan g.kept → AreGroupsOf plan (groups_behind ids g)
fits_behind plan ids g same none fits =
    subst (λ es. AreGroupsOf plan (groups_without ids es)) (sym (all_ran g none))
    (fits_some plan (λ (e : StartedGroup). not (is_listed is_txn ids e.id)) g.ran (fits_same plan g.kept g.ran same fits))

-- ---- it can be kept

others_same : (ids : List TxnId) (old new : List StartedGroup) → AreSameGroups old new → AreSameGroups (groups_without ids old) (groups_without ids new)
others_same ids old new same = over_same unrun (λ (e : StartedGroup). not (is_listed is_txn ids e.id)) (λ e. refl) (λ e. refl) old new same

-- who is here is all that is asked of groups
left_same : (l : Lists) (old new : List StartedGroup) → AreSameGroups old new → IsNoneLeft old l → IsNoneLeft new l
left_same l old new same none =
    subst (λ (here : TxnId → Bool). AllByRecursion (λ d. (not (is_known l.links d.from) && (not (here d.from) && not (was_asked_for d.from l.waiting.asked))) ≡ false) (all_entries l.links))
    (sym (λ i id. here_same id old new same i)) none

pub can_release : (k : ServerParts) → AreSameGroups k.groups.kept k.groups.ran → k.groups.starting ≡ [] → IsNoneLeft (groups_without (over_of k.lists.tried) k.groups.kept) (lists_behind k.lists).lists → CanRelease k
can_release k same none left =
    let ids = over_of k.lists.tried in
    let lists = (lists_behind k.lists).lists in
    record {
      left = subst (λ es. IsNoneLeft (groups_without ids es) lists) (sym (all_ran k.groups none)) (left_same lists (groups_without ids k.groups.kept) (groups_without ids k.groups.ran) (others_same ids k.groups.kept k.groups.ran same) left);
      starting = λ e has. absurd (subst (Has e) none has);
    }

-- what is so at any answer
pub on_any : {A E P : Type 0} (r : Result A E) → P → OnOk r P
on_any (Ok a) p = p
on_any (Err e) p = tt

-- ---- the state behind it

tried_is : (P : TriedLists → Type 0) (o : Option TriedLists) → IsTried P o → (t : TriedLists) × (o ≡ Some t) × P t
tried_is P None h = absurd h
tried_is P (Some t) h = (t, refl, h)

behind_tried : (s : ServerState) (k : ServerParts) (t : TriedLists) → k.lists.tried ≡ Some t → k.groups.starting ≡ [] → state_then s k.rows.store k.groups.ran t ≡ state_behind s.shard k
behind_tried s k t is none =
    (λ i. record { shard = s.shard; store = k.rows.store; started = groups_without t.over (sym (all_ran k.groups none) i); lists = t.kept.lists; below = t.kept.below })
    ∙ ap (λ o. state_behind s.shard (record k { lists = record k.lists { tried = o } })) (sym is)

-- ---- a watermark is heard

module _ (shard : Shard) (old : ServerParts) (idle : IsIdle old) (coord mark : ℕ) (lists : ListsNow) (tried : IsTried (IsHeard (state_of shard old) coord mark) lists.tried) where
  abbrev heard : ServerParts
  heard = record old { lists = lists }

  behind_heard : (t : TriedLists) → lists.tried ≡ Some t → state_then (state_of shard old) (state_of shard old).store old.groups.kept t ≡ state_behind shard heard
  behind_heard t is = (λ i. state_then (state_of shard old) (idle.store i) (sym idle.groups.ran i) t) ∙ behind_tried (state_of shard old) heard t is idle.groups.starting

  pub hears_tried : (sends : Collected) → ShowsStep (after_ended (state_of shard old) coord mark) Done (state_behind shard heard) sends sends
  hears_tried sends =
      let u = tried_is (IsHeard (state_of shard old) coord mark) lists.tried tried in
      subst (λ state. ShowsStep (after_ended (state_of shard old) coord mark) Done state sends sends) (behind_heard u.0 u.1) (hears (state_of shard old) coord mark u.0 u.2 sends Done)

-- what it forgets are groups of the plan
pub heard_fits : (plan : Plan) (s state : ServerState) (coord mark : ℕ) (answer : Handled) (before sent : Collected) → ShowsStep (after_ended s coord mark) answer state before sent → AreGroupsOf plan s.started
    → AreGroupsOf plan state.started
heard_fits plan s state coord mark answer before sent h fits =
    subst (λ (u : ServerState). AreGroupsOf plan u.started) h.keeps
    (fits_some plan (λ (e : StartedGroup). not (is_listed is_txn (over (hearing s coord mark).below s.lists.taken) e.id)) s.started fits)

-- of one that was not asked for the watermark alone
pub hears_alone_tried : (plan : Plan) (shard : Shard) (old : ServerParts) → IsIdle old → (id : TxnId) (mark : ℕ) (lists : ListsNow) → IsTried (IsHeard (state_of shard old) id.coord mark) lists.tried → (sends : Collected)
    → was_asked_for id old.lists.kept.lists.waiting.asked ≡ false → Settles plan (state_of shard old) (state_behind shard (record old { lists = lists })) sends sends id mark Gone
hears_alone_tried plan shard old idle id mark lists tried sends unasked =
    let s = state_of shard old in
    let u = tried_is (IsHeard s id.coord mark) lists.tried tried in
    subst (λ state. Settles plan s state sends sends id mark Gone) (behind_heard shard old idle id.coord mark lists tried u.0 u.1) (hears_alone plan s id mark u.0 u.2 sends unasked)

-- ---- what is newly decided runs, and is told

module _ (plan : Plan) (shard : Shard) (old new : ServerParts) (sound : IsSound old) (idle : IsIdle old) (starting : new.groups.starting ≡ old.groups.starting) (told done after : Collected)
    (r : RunsDecided plan old.groups.ran new.groups.ran old.rows.store new.rows.store told done (newly_of new.lists.tried)) where
  abbrev s : ServerState
  s = state_of shard old

  runs : (t : TriedLists) → new.lists.tried ≡ Some t → RunsDecided plan s.started new.groups.ran s.store new.rows.store told done t.newly
  runs t is =
      subst (RunsDecided plan s.started new.groups.ran s.store new.rows.store told done) (ap newly_of is)
      (subst (λ store. RunsDecided plan s.started new.groups.ran store new.rows.store told done (newly_of new.lists.tried)) (sym idle.store)
      (subst (λ es. RunsDecided plan es new.groups.ran old.rows.store new.rows.store told done (newly_of new.lists.tried)) idle.groups.ran r))

  module _ (again : Option TxnId) (last : HasSent done after (newly_told plan shard new.groups.ran again (newly_of new.lists.tried) (asks_of new.lists.tried))) where
    tells : (t : TriedLists) → new.lists.tried ≡ Some t → HasSent done after (newly_told plan shard new.groups.ran again t.newly t.asks)
    tells t is = subst (λ o. HasSent done after (newly_told plan shard new.groups.ran again (newly_of o) (asks_of o))) is last

    pub teaches_tried : (news : List KnownList) → IsTried (IsTaught s old.lists.decided news) new.lists.tried → (before : Collected) → HasSent before told (flat_map (knowns_for s.lists.waiting.askers) news)
        → Teaches plan s (state_behind shard new) before after news again Done
    teaches_tried news tried before first =
        let u = tried_is (IsTaught s old.lists.decided news) new.lists.tried tried in
        subst (λ state. Teaches plan s state before after news again Done) (behind_tried s new u.0 u.1 (starting ∙ idle.groups.starting))
        (teaches plan s old.lists.decided sound.lists.decided news again u.0 u.2 new.rows.store new.groups.ran before told done after first (runs u.0 u.1) (tells u.0 u.1))

  pub settles_tried : HasSent done after (newly_told plan shard new.groups.ran None (newly_of new.lists.tried) (asks_of new.lists.tried)) → (id : TxnId) (mark : ℕ)
      → was_asked_for id s.lists.waiting.asked ≡ true → IsTried (IsSettledBy s old.lists.decided id mark) new.lists.tried → Settles plan s (state_behind shard new) told after id mark Done
  settles_tried last id mark asked tried =
      let u = tried_is (IsSettledBy s old.lists.decided id mark) new.lists.tried tried in
      subst (λ state. Settles plan s state told after id mark Done) (behind_tried s new u.0 u.1 (starting ∙ idle.groups.starting))
      (settles plan s old.lists.decided sound.lists.decided id mark asked u.0 u.2 new.rows.store new.groups.ran told done after (runs u.0 u.1) (tells None last u.0 u.1))
