-- A group that starts, over the parts of a server
use Rattle.std.proofs.Common.{◌≡◌, ◌++◌, ℤ, Bool, false, List, [], ◌∷◌, None, map, filter, if◌then◌else◌, sym, ap, subst, ◌∙◌}
use Rattle.roc_sequence.proofs.Members.{has_one}
use Rattle.roc_sequence.specs.Lists.{Has}
use Rattle.roc_base.specs.declared.id.TxnId.{TxnId}
use Rattle.roc_base.specs.declared.node.Shard.{Shard}
use Rattle.roc_base.specs.Edge.{Dependency}
use Rattle.roc_base.specs.Edges.{united}
use Rattle.roc_depgraph.specs.declared.known.KnownList.{KnownList}
use Rattle.roc_group.specs.declared.access.Access.{Access}
use Rattle.roc_group.specs.GroupRun.{bound_by_run, group_run, group_uses, GroupCall}
use Rattle.roc_plan.specs.Groups.{is_immediate_of, Plan}
use Rattle.roc_rows.specs.Store.{Store}
use Rattle.roc_step.specs.declared.started.StartedGroup.{StartedGroup}
use Rattle.roc_step.specs.New.{AreLedTo}
use Rattle.roc_step.specs.Piggyback.{facts_of, AreFactsFor}
use Rattle.roc_step.specs.Start.{conflicts_before, edge_to, edges_for, is_immediate_group}
use Rattle.roc_server.specs.declared.parts.ServerParts.{ServerParts}
use Rattle.roc_sequence.proofs.Holds.{all_append}
use Rattle.roc_sequence.specs.Places.{is_listed}
use Rattle.roc_base.specs.TxnId.{is_txn}
use Rattle.roc_depgraph.specs.Deps.{is_known}
use Rattle.roc_msg.specs.Outbox.{Collected}
use Rattle.roc_step.specs.declared.handled.Handled.TheVariants.{Done}
use Rattle.roc_step.specs.Fits.{AreGroupsOf, IsCallOf}
use Rattle.roc_step.specs.Runs.{group_call}
use Rattle.roc_step.specs.State.{ServerState}
use Rattle.roc_step.proofs.SameIds.{known_alike}
use Rattle.roc_server_groups.specs.GroupsNow.{groups_behind}
use Rattle.roc_server_lists.specs.ListsNow.{lists_behind, over_of, IsNoneLeft, KeptLists}
use Rattle.roc_server.specs.Inner.Parts.{state_behind, state_of, CanRelease, IsIdle, IsSound}
use Rattle.roc_server.specs.Inner.Starts.{IsNewGroup, StartsNew, TellsStart}
use Rattle.roc_server.proofs.PartSteps.{lists_idle, others_none}
use Rattle.roc_server.proofs.StartSteps.{left_more, not_decided, start_tried}

-- ---- as it is made, where nothing is tried

module _ (plan : Plan) (k : ServerParts) (idle : IsIdle k) (shard : Shard) where
  -- its entries, over the groups with what they gave
  pub edges_of_state : (id : TxnId) (c : GroupCall) (immediate : Bool) (cells : List Access) → immediate ≡ is_immediate_group plan c → cells ≡ group_uses plan c k.rows.store
      → (edges : List Dependency) → edges ≡ united (map (edge_to shard immediate) (filter (conflicts_before plan k.lists.decided id immediate cells) k.groups.ran))
      → edges ≡ edges_for plan k.lists.decided (state_of shard k) id c
  edges_of_state id c immediate cells is_immediate are edges h =
      let uses : cells ≡ group_uses plan c (state_of shard k).store = are ∙ ap (group_uses plan c) (sym idle.store) in
      h ∙ (λ i. united (map (edge_to shard (is_immediate i)) (filter (conflicts_before plan k.lists.decided id (is_immediate i) (uses i)) (idle.groups.ran i))))

  pub new_in_state : (store : Store) (id : TxnId) (c : GroupCall) (cells : List Access) (bound outs : List ℤ) (edges : List Dependency) (facts known links : List KnownList) (told : List Dependency)
      → cells ≡ group_uses plan c k.rows.store
      → bound ≡ (if is_immediate_of plan c.proc c.group then bound_by_run plan c k.rows.store else [])
      → outs ≡ (if is_immediate_of plan c.proc c.group then (group_run plan c k.rows.store).reply else [])
      → store ≡ (if is_immediate_of plan c.proc c.group then (group_run plan c k.rows.store).store else k.rows.store)
      → edges ≡ edges_for plan k.lists.decided (state_of shard k) id c
      → known ≡ k.lists.kept.lists.known → links ≡ k.lists.kept.lists.links → told ≡ edges → AreFactsFor known links told facts
      → IsNewGroup plan k.lists.decided (state_of shard k) store id c (record { id = id; proc = c.proc; group = c.group; args = c.args; inputs = c.inputs; cells = cells; bound = bound; outs = outs; edges = edges; facts = facts; later = None })
  new_in_state store id c cells bound outs edges facts known links told cells_are bound_is outs_are ran edges_are known_is links_is told_is f =
      let was = idle.store in
      record {
        reached = f.reached;
        led = subst (λ (es : List Dependency). AreLedTo k.lists.kept.lists.links es f.reached) (told_is ∙ edges_are) (subst (λ (ls : List KnownList). AreLedTo ls told f.reached) links_is f.led);
        is = (λ i. let e : StartedGroup = record {
          id = id;
          proc = c.proc;
          group = c.group;
          args = c.args;
          inputs = c.inputs;
          cells = (cells_are ∙ ap (group_uses plan c) (sym was)) i;
          bound = (bound_is ∙ ap (λ (s : Store). if is_immediate_of plan c.proc c.group then bound_by_run plan c s else []) (sym was)) i;
          outs = (outs_are ∙ ap (λ (s : Store). if is_immediate_of plan c.proc c.group then (group_run plan c s).reply else []) (sym was)) i;
          edges = edges_are i;
          facts = (f.are ∙ ap (λ (ks : List KnownList). facts_of ks f.reached) known_is) i;
          later = None;
        } in e);
        ran = ran ∙ ap (λ (s : Store). if is_immediate_of plan c.proc c.group then (group_run plan c s).store else s) (sym was);
      }

-- ---- as it is tried

module _ (plan : Plan) (old new : ServerParts) (idle : IsIdle old) (e : StartedGroup) (starting : new.groups.starting ≡ e ∷ []) (kept : new.groups.ran ≡ old.groups.ran) (lists : new.lists ≡ old.lists) where
  -- it stands behind the others
  pub started_more : groups_behind (over_of new.lists.tried) new.groups ≡ old.groups.kept ++ e ∷ []
  started_more =
      (λ i. groups_behind (over_of (lists i).tried) new.groups) ∙ (λ i. groups_behind (over_of (idle.lists i)) new.groups) ∙ others_none (new.groups.ran ++ new.groups.starting)
      ∙ (λ i. (kept ∙ idle.groups.ran) i ++ starting i)

  lists_same : lists_behind new.lists ≡ old.lists.kept
  lists_same = ap lists_behind lists ∙ lists_idle old idle

  -- the state that it leaves
  state_more : (shard : Shard) → record (state_of shard old) { store = new.rows.store; started = groups_behind (over_of new.lists.tried) new.groups } ≡ state_behind shard new
  state_more shard i = record {
    shard = shard;
    store = new.rows.store;
    started = groups_behind (over_of new.lists.tried) new.groups;
    lists = (sym lists_same i).lists;
    below = (sym lists_same i).below;
  }

  module _ (id : TxnId) (c : GroupCall) (shard : Shard) (store : Store) (n : IsNewGroup plan old.lists.decided (state_of shard old) store id c e) where
    pub starts_new : (before sent : Collected) → new.rows.store ≡ store → TellsStart plan shard e before sent → StartsNew plan old.lists.decided (state_of shard old) (state_behind shard new) before sent id c Done
    starts_new before sent same told =
        let m : IsNewGroup plan old.lists.decided (state_of shard old) new.rows.store id c e = subst (λ (s : Store). IsNewGroup plan old.lists.decided (state_of shard old) s id c e) (sym same) n in
        subst (λ (s : ServerState). StartsNew plan old.lists.decided (state_of shard old) s before sent id c Done) (state_more shard)
        (start_tried plan old.lists.decided (state_of shard old) new.rows.store (groups_behind (over_of new.lists.tried) new.groups) id c e before sent m started_more told)

    pub fits_more : IsCallOf plan c → AreGroupsOf plan old.groups.kept → AreGroupsOf plan (groups_behind (over_of new.lists.tried) new.groups)
    fits_more call fits =
        let own : IsCallOf plan (group_call e) = subst (λ (g : StartedGroup). IsCallOf plan (group_call g)) (sym n.is) call in
        subst (AreGroupsOf plan) (sym started_more) (all_append (λ (g : StartedGroup). IsCallOf plan (group_call g)) old.groups.kept (e ∷ []) fits (own, tt))

    -- nothing is decided of a transaction whose list is not known
    pub can_start : IsSound old → is_known old.lists.kept.lists.known id ≡ false → CanRelease new
    can_start sound unknown =
        let own : e.id ≡ id = ap (λ (g : StartedGroup). g.id) n.is in
        let known : is_known old.lists.kept.lists.links id ≡ false = known_alike old.lists.kept.lists.known old.lists.kept.lists.links sound.lists.same_ids id ∙ unknown in
        let free : is_listed is_txn old.lists.decided id ≡ false = not_decided old.lists.kept.lists.links old.lists.decided id sound.lists.decided known in
        record {
          left =
              subst (λ (l : KeptLists). IsNoneLeft (groups_behind (over_of new.lists.tried) new.groups) l.lists) (sym lists_same)
              (subst (λ es. IsNoneLeft es old.lists.kept.lists) (sym started_more) (left_more old.groups.kept old.lists.kept.lists e sound.left));
          starting = λ x has. (λ i. is_listed is_txn (lists i).decided x.id) ∙ ap (is_listed is_txn old.lists.decided) (ap (λ (g : StartedGroup). g.id) (has_one x e (subst (Has x) starting has)) ∙ own) ∙ free;
        }
