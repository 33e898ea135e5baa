-- What comes of lists that are taught
use Rattle.std.proofs.Common.{◌≡◌, List, ◌++◌, Option, map, filter, refl, sym, ap, ◌∙◌, append_assoc}
use Rattle.std.specs.List.{flat_map}
use Rattle.roc_base.specs.declared.id.TxnId.{TxnId}
use Rattle.roc_depgraph.specs.declared.known.KnownList.{KnownList}
use Rattle.roc_depgraph.specs.Deps.{IsDecided}
use Rattle.roc_msg.specs.Outbox.{Collected, HasSent}
use Rattle.roc_msg.specs.declared.outbox.Outgoing.{Outgoing}
use Rattle.roc_plan.specs.Groups.{Plan}
use Rattle.roc_rows.specs.Store.{Store}
use Rattle.roc_sequence.specs.Places.{IsListed}
use Rattle.roc_base.specs.TxnId.{is_txn}
use Rattle.roc_step.specs.declared.handled.Handled.TheVariants.{Done}
use Rattle.roc_step.specs.declared.started.StartedGroup.{StartedGroup}
use Rattle.roc_step.specs.Forgets.{forget}
use Rattle.roc_step.specs.Runs.{accesses_of, all_buffered, commitok, commitok_of, take_all}
use Rattle.roc_step.specs.New.{AreDecided, AreNewTaken}
use Rattle.roc_step.specs.Asking.{knowns_for, fetch_from}
use Rattle.roc_step.specs.Lists.{links_of, lists_after, taught}
use Rattle.roc_server_groups.specs.Groups.{holding}
use Rattle.roc_server_groups.specs.GroupsNow.{groups_without, RunsDecided}
use Rattle.roc_server_lists.specs.ListsNow.{IsTaught, TriedLists}
use Rattle.roc_server.specs.Inner.Taught.{newly_told, own_again, with_own, Teaches}
use Rattle.roc_step.specs.State.{is_here, ServerState, ServerStep}
use Rattle.roc_server_groups.proofs.SameGroups.{here_same}
use Rattle.roc_server.proofs.PartSteps.{others_over}

-- what is new beside a list of what is decided is new
pub newly_decided : (links later : List KnownList) (decided : List TxnId) (components : List (List TxnId)) → AreDecided links decided → AreNewTaken (IsListed is_txn decided) later components → AreNewTaken (IsDecided links) later components
newly_decided links later decided components are chosen =
    record {
      members = record {
        only = λ t l. let u = chosen.members.only t l in (u.0, λ d. u.1 (are.complete t d));
        all = λ t d. chosen.members.all t (d.0, λ l. d.1 (are.sound t l));
      };
      taken = chosen.taken;
    }

-- the state that a step leaves, by its parts
abbrev pub state_then : ServerState → Store → List StartedGroup → TriedLists → ServerState
state_then s store ran t = record { shard = s.shard; store = store; started = groups_without t.over ran; lists = t.kept.lists; below = t.kept.below }

module _ (plan : Plan) (s : ServerState) (decided : List TxnId) (are : AreDecided s.lists.links decided) (news : List KnownList) (again : Option TxnId) (t : TriedLists) (h : IsTaught s decided news t)
    (store : Store) (ran : List StartedGroup) (before told done after : Collected) (first : HasSent before told (flat_map (knowns_for s.lists.waiting.askers) news))
    (r : RunsDecided plan s.started ran s.store store told done t.newly) (last : HasSent done after (newly_told plan s.shard ran again t.newly t.asks)) where
  abbrev ids : List TxnId
  ids = flat_map (λ c. c) h.components

  abbrev knowing : ServerState
  knowing = record s { lists = lists_after s news h.components }

  abbrev reached_state : ServerState
  reached_state = holding knowing store ran

  reached : take_all plan knowing ids ≡ reached_state
  reached = ap (take_all plan knowing) (sym h.newly) ∙ r.runs knowing

  left : forget reached_state ≡ state_then s store ran t
  left i = record {
    shard = s.shard;
    store = store;
    started = others_over s.below (lists_after s news h.components).taken t.over h.over ran i;
    lists = (sym h.kept i).lists;
    below = (sym h.kept i).below;
  }

  told_here : map (commitok plan s.shard ran) (filter (λ u. is_here u ran) t.newly) ≡ map (commitok_of plan (take_all plan knowing ids)) (filter (λ u. is_here u s.started) ids)
  told_here i = map (commitok_of plan (sym reached i)) (filter (λ u. here_same u s.started ran r.groups i) (h.newly i))

  abbrev knowns : List Outgoing
  knowns = flat_map (knowns_for s.lists.waiting.askers) news

  abbrev step : ServerStep
  step = with_own plan again (taught plan s news h.components)

  own_is : own_again plan s.shard ran again ≡ own_again plan (take_all plan knowing ids).shard (take_all plan knowing ids).started again
  own_is i = let u = sym reached i in own_again plan u.shard u.started again

  sends : after.messages ≡ before.messages ++ step.sends
  sends =
      last.0 ∙ ap (λ ms. ms ++ newly_told plan s.shard ran again t.newly t.asks) (r.messages ∙ first.0)
      ∙ moved before.messages knowns (map (commitok plan s.shard ran) (filter (λ u. is_here u ran) t.newly)) (map (fetch_from s.shard) t.asks) (own_again plan s.shard ran again)
      ∙ (λ i. before.messages ++ ((knowns ++ (told_here i ++ map (fetch_from s.shard) (h.asks i))) ++ own_is i))
    where
      moved : (a b c d e : List Outgoing) → (a ++ b) ++ ((c ++ d) ++ e) ≡ a ++ ((b ++ (c ++ d)) ++ e)
      moved a b c d e = append_assoc a b ((c ++ d) ++ e) ∙ ap (λ x. a ++ x) (sym (append_assoc b (c ++ d) e))

  pub teaches : Teaches plan s (state_then s store ran t) before after news again Done
  teaches = record {
    components = h.components;
    are_new = newly_decided s.lists.links (s.lists.links ++ links_of s news) decided h.components are h.chosen;
    shown = record {
      answers = refl;
      keeps = ap forget reached ∙ left;
      sends = sends;
      decides = last.1 ∙ r.told ∙ (λ i. first.1 i ++ h.newly i);
      ran = last.2 ∙ r.ran ∙ (λ i. first.2 i ++ accesses_of (all_buffered plan s.started (h.newly i)));
    };
  }
