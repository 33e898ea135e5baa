-- What comes of a watermark, and of a settled transaction
use Rattle.std.proofs.Common.{◌≡◌, ℕ, List, [], ◌++◌, None, Bool, true, false, if◌then◌else◌, map, filter, refl, sym, ap, subst, ◌∙◌}
use Rattle.std.proofs.lemmas.List.{append-nil}
use Rattle.std.specs.List.{flat_map}
use Rattle.roc_base.specs.declared.id.TxnId.{TxnId}
use Rattle.roc_step.specs.Waits.{was_asked_for}
use Rattle.roc_depgraph.specs.Deps.{IsDecided}
use Rattle.roc_msg.specs.Outbox.{Collected, HasSent}
use Rattle.roc_plan.specs.Groups.{Plan}
use Rattle.roc_rows.specs.Store.{Store}
use Rattle.roc_step.specs.declared.started.StartedGroup.{StartedGroup}
use Rattle.roc_step.specs.Links.{without_links}
use Rattle.roc_step.specs.New.{AreDecided, AreNewTaken}
use Rattle.roc_step.proofs.TakenNew.{nothing_new}
use Rattle.roc_step.specs.declared.handled.Handled.{Handled}
use Rattle.roc_step.specs.declared.handled.Handled.TheVariants.{Done, Gone}
use Rattle.roc_step.specs.Forgets.{forget, forgetting}
use Rattle.roc_step.specs.Asking.{fetch_from}
use Rattle.roc_step.specs.Lists.{decides, is_settled, lists_settled}
use Rattle.roc_step.specs.Runs.{accesses_of, all_buffered, commitok, commitok_of, take_all}
use Rattle.roc_step.specs.State.{hearing, is_here, refused, ServerState}
use Rattle.roc_server_groups.specs.Groups.{holding}
use Rattle.roc_server_groups.specs.GroupsNow.{RunsDecided}
use Rattle.roc_server_groups.proofs.SameGroups.{here_same}
use Rattle.roc_server_lists.specs.ListsNow.{IsHeard, IsSettledBy, TriedLists}
use Rattle.roc_server.specs.Inner.Settled.{Settles}
use Rattle.roc_server.specs.Inner.Shown.{ShowsStep}
use Rattle.roc_server.specs.Inner.Taught.{newly_told}
use Rattle.roc_server.proofs.PartSteps.{others_over}
use Rattle.roc_server.proofs.TeachSteps.{newly_decided, state_then}

-- ---- a watermark is heard

module _ (s : ServerState) (coord mark : ℕ) (t : TriedLists) (h : IsHeard s coord mark t) where
  heard_left : forget (hearing s coord mark) ≡ state_then s s.store s.started t
  heard_left i = record {
    shard = s.shard;
    store = s.store;
    started = others_over (hearing s coord mark).below s.lists.taken t.over h.over s.started i;
    lists = (sym h.kept i).lists;
    below = (sym h.kept i).below;
  }

  pub hears : (sends : Collected) (answer : Handled) → ShowsStep (forgetting (refused (hearing s coord mark) answer)) answer (state_then s s.store s.started t) sends sends
  hears sends answer = record {
    answers = refl;
    keeps = heard_left;
    sends = sym (append-nil sends.messages);
    decides = sym (append-nil sends.decided);
    ran = sym (append-nil sends.ran);
  }

-- of one that was not asked for the watermark alone
pub hears_alone : (plan : Plan) (s : ServerState) (id : TxnId) (mark : ℕ) (t : TriedLists) → IsHeard s id.coord mark t → (sends : Collected) → was_asked_for id s.lists.waiting.asked ≡ false
    → Settles plan s (state_then s s.store s.started t) sends sends id mark Gone
hears_alone plan s id mark t h sends unasked =
    let Steps : Bool → Type 0 = λ b.
    ShowsStep (forgetting (if b then decides plan (hearing s id.coord mark) (lists_settled s id mark []) [] [] [] else refused (hearing s id.coord mark) Gone)) Gone (state_then s s.store s.started t) sends sends in
    record {
      components = [];
      are_new = subst (λ ks. AreNewTaken (IsDecided s.lists.links) ks []) (append-nil s.lists.links ∙ ap (λ b. if b then map (without_links (is_settled s id mark)) s.lists.links else s.lists.links) (sym unasked)) (nothing_new s.lists.links);
      shown = subst Steps (sym unasked) (hears s id.coord mark t h sends Gone);
    }

-- ---- it is settled

module _ (plan : Plan) (s : ServerState) (decided : List TxnId) (are : AreDecided s.lists.links decided) (id : TxnId) (mark : ℕ) (asked : was_asked_for id s.lists.waiting.asked ≡ true) (t : TriedLists) (h : IsSettledBy s decided id mark t)
    (store : Store) (ran : List StartedGroup) (before done after : Collected) (r : RunsDecided plan s.started ran s.store store before done t.newly)
    (last : HasSent done after (newly_told plan s.shard ran None t.newly t.asks)) where
  abbrev ids : List TxnId
  ids = flat_map (λ c. c) h.components

  abbrev knowing : ServerState
  knowing = record (hearing s id.coord mark) { lists = lists_settled s id mark h.components }

  abbrev reached_state : ServerState
  reached_state = holding knowing store ran

  reached : take_all plan knowing ids ≡ reached_state
  reached = ap (take_all plan knowing) (sym h.newly) ∙ r.runs knowing

  left : forget reached_state ≡ state_then s store ran t
  left i = record {
    shard = s.shard;
    store = store;
    started = others_over (hearing s id.coord mark).below (lists_settled s id mark h.components).taken t.over h.over ran i;
    lists = (sym h.kept i).lists;
    below = (sym h.kept i).below;
  }

  told_here : map (commitok plan s.shard ran) (filter (λ u. is_here u ran) t.newly) ≡ map (commitok_of plan (take_all plan knowing ids)) (filter (λ u. is_here u s.started) ids)
  told_here i = map (commitok_of plan (sym reached i)) (filter (λ u. here_same u s.started ran r.groups i) (h.newly i))

  told : newly_told plan s.shard ran None t.newly t.asks ≡ map (commitok_of plan (take_all plan knowing ids)) (filter (λ u. is_here u s.started) ids) ++ []
  told = append-nil (map (commitok plan s.shard ran) (filter (λ u. is_here u ran) t.newly) ++ map (fetch_from s.shard) t.asks) ∙ (λ i. told_here i ++ map (fetch_from s.shard) (h.asks i))

  abbrev settling : Bool → Type 0
  settling b =
      ShowsStep (forgetting (if b then decides plan (hearing s id.coord mark) (lists_settled s id mark h.components) h.components [] [] else refused (hearing s id.coord mark) Gone)) Done (state_then s store ran t) before after

  pub settles : Settles plan s (state_then s store ran t) before after id mark Done
  settles = record {
    components = h.components;
    are_new =
        subst (λ ks. AreNewTaken (IsDecided s.lists.links) ks h.components) (ap (λ b. if b then map (without_links (is_settled s id mark)) s.lists.links else s.lists.links) (sym asked))
        (newly_decided s.lists.links (map (without_links (is_settled s id mark)) s.lists.links) decided h.components are h.chosen);
    shown =
        subst settling (sym asked)
        (record {
          answers = refl;
          keeps = ap forget reached ∙ left;
          sends = last.0 ∙ (λ i. r.messages i ++ told i);
          decides = last.1 ∙ r.told ∙ ap (λ ts. before.decided ++ ts) h.newly;
          ran = last.2 ∙ r.ran ∙ ap (λ ts. before.ran ++ accesses_of (all_buffered plan s.started ts)) h.newly;
        });
  }
