-- One turn of a server's node after another, and how they end.
use Rattle.std.proofs.Common.{◌≡◌, inl, inr, ℕ, ◌+◌, ◌<◌, ◌≤◌, Bool, true, false, List, [], ◌∷◌, ◌++◌, map, length, Ok, Err, refl, sym, ◌∙◌, ap, subst, append-nil, append_assoc, length-append, arith}
use Rattle.roc_io.specs.declared.link.Addr.{Addr}
use Rattle.roc_io.specs.Call.{LinkView}
use Rattle.roc_io.specs.Link.{Reception, sending, receiving, came, none_came, vain}
use Rattle.roc_node.specs.Moves.{Moves}
use Rattle.roc_node.proofs.Moving.{Moves-trans, Moves-none}
use Rattle.roc_node.specs.NodeEvent.{receive_of, took, silent}
use Rattle.roc_grown_node.specs.Setting.{GrownNodeSetting}
use Rattle.roc_grown_serve.specs.declared.server_node.GrownServerNode.{GrownServerNode}
use Rattle.roc_grown_serve.specs.declared.server_node.TurnOutput.{TurnOutput}
use Rattle.roc_grown_serve.specs.declared.server_turns.TurnEnd.{TurnEnd}
use Rattle.roc_grown_serve.specs.declared.server_turns.TurnEnd.TheVariants as turn
use Rattle.roc_grown_serve.specs.declared.server_turns.RunEnd.TheVariants as run
use Rattle.roc_grown_serve.specs.GrownRun.{GrownNodeState, AfterGrownEvent, begun, goes_on}
use Rattle.roc_grown_serve.specs.ServesGrowing.{RunsGrownServer}
use Rattle.roc_grown_serve.specs.Inner.GrownTurn.{bare, node_of, GivesOut, Leads, TakesOne, TurnsOnce, TakesTurn, RanSo, RunsTurns, are_over, are_wanted, are_cut_off}
use Rattle.roc_grown_serve.proofs.Servers.{continued, event_behind}

-- ---- one receive

module _ (S : GrownNodeSetting) (before after : GrownServerNode) (a b : LinkView) where
  -- a datagram that came, whose bytes the buffer holds
  pub takes_packet : (output : TurnOutput) (from : Addr) (bytes taken : List ℕ) → bytes ≡ taken
      → Leads (AfterGrownEvent S (bare before) (took (record { address = from; bytes = bytes }))) after output
      → Moves a b (receiving (came (record { address = from; bytes = taken })) ∷ []) → TakesOne S before after a b (Ok output)
  takes_packet output from bytes taken same leads moves = record {
    last = came (record { address = from; bytes = bytes }) ∷ [];
    one = omega arith;
    moves = subst (λ l. Moves a b (receiving (came (record { address = from; bytes = l })) ∷ [])) (sym same) moves;
    comes = record { event = took (record { address = from; bytes = bytes }); is = refl; leads = leads };
  }

  -- silence
  pub takes_silence : (output : TurnOutput) → Leads (AfterGrownEvent S (bare before) silent) after output → Moves a b (receiving none_came ∷ []) → TakesOne S before after a b (Ok output)
  takes_silence output leads moves = record { last = none_came ∷ []; one = omega arith; moves = moves; comes = record { event = silent; is = refl; leads = leads } }

  -- memory was wanting for what came
  pub wants_memory : (heard : Reception) → Moves a b (receiving heard ∷ []) → TakesOne S before after a b (Err turn.NoMemory)
  wants_memory heard moves = record { last = heard ∷ []; one = omega arith; moves = moves; comes = tt }

  -- the receive failed
  pub hears_nothing : Moves a b (receiving vain ∷ []) → TakesOne S before after a b (Err turn.LinkFault)
  hears_nothing moves = record { last = vain ∷ []; one = omega arith; moves = moves; comes = refl }

-- ---- one turn

module _ (S : GrownNodeSetting) (before after : GrownServerNode) (a b c : LinkView) where
  turned : (stopped : Bool) (output : TurnOutput) (h : TakesOne S before after a b (Ok output)) → output.stopped ≡ stopped → Moves b c (map sending output.sends.items)
      → TurnsOnce S stopped h.last before after a c
  turned stopped output h stops m = record {
    event = h.comes.event;
    is = h.comes.is;
    messages = h.comes.leads.messages;
    traffic = map sending output.sends.items;
    leads = subst (λ s. AfterGrownEvent S (bare before) h.comes.event (node_of after h.comes.leads.messages (map sending output.sends.items) s)) stops h.comes.leads.is;
    moves = Moves-trans a b c (receive_of h.comes.event ∷ []) (map sending output.sends.items) (subst (Moves a b) h.comes.is h.moves) m;
  }

  -- an event was taken, and given out
  pub gave_out : (output : TurnOutput) (h : TakesOne S before after a b (Ok output)) (end : TurnEnd) → GivesOut output b c end → TakesTurn S before after a c end
  gave_out output h turn.Goes g = record { last = h.last; one = h.one; turns = turned false output h g.0 g.1 }
  gave_out output h turn.Stopped g = record { last = h.last; one = h.one; turns = turned true output h g.0 g.1 }
  gave_out output h turn.NoMemory g = absurd g
  gave_out output h turn.LinkFault g = absurd g

-- it was not taken
pub turned_back : (S : GrownNodeSetting) (before after : GrownServerNode) (a b : LinkView) (end : TurnEnd) → TakesOne S before after a b (Err end) → TakesTurn S before after a b end
turned_back S before after a b turn.Goes h = absurd h.comes
turned_back S before after a b turn.Stopped h = absurd h.comes
turned_back S before after a b turn.NoMemory h = record { last = h.last; one = h.one; turns = h.moves }
turned_back S before after a b turn.LinkFault h = record { last = h.last; one = h.one; turns = (h.comes, h.moves) }

-- ---- several turns

-- no turn so far
pub ran_none : (S : GrownNodeSetting) (server_node : GrownServerNode) (a : LinkView) → RanSo S (bare server_node) 0 false server_node a a
ran_none S server_node a = record { events = []; messages = []; traffic = []; counted = refl; run = begun; moves = Moves-none a a refl refl refl refl }

-- one more turn
pub ran_more : (S : GrownNodeSetting) (first : GrownNodeState) (before after : GrownServerNode) (count : ℕ) (stopped : Bool) (a b c : LinkView) (last : List Reception)
    → RanSo S first count false before a b → TurnsOnce S stopped last before after b c → RanSo S first (count + 1) stopped after a c
ran_more S first before after count stopped a b c last r h = record {
  events = r.events ++ h.event ∷ [];
  messages = r.messages ++ h.messages;
  traffic = (r.traffic ++ receive_of h.event ∷ []) ++ h.traffic;
  counted = let e = r.counted in length-append r.events (h.event ∷ []) ∙ ap (λ n. n + 1) e;
  run = goes_on h.event (continued r.messages (r.traffic ++ receive_of h.event ∷ []) (node_of after h.messages h.traffic stopped)) r.run refl
      (event_behind r.messages (r.traffic ++ receive_of h.event ∷ []) S before h.event _ h.leads);
  moves = subst (Moves a c) (sym (append_assoc r.traffic (receive_of h.event ∷ []) h.traffic)) (Moves-trans a b c r.traffic (receive_of h.event ∷ h.traffic) r.moves h.moves);
}

-- ---- the ends

module _ (S : GrownNodeSetting) (first : GrownNodeState) (before after : GrownServerNode) (turns count : ℕ) (a b c : LinkView) (below : count < turns)
    (r : RanSo S first count false before a b) where
  abbrev there : GrownNodeState
  there = node_of before r.messages r.traffic false

  runs_on : (last : List Reception) → length last ≤ 1 → Moves b c (map receiving last) → RunsGrownServer S first turns last r.events there a c
  runs_on last one moves = let counted = r.counted in record { run = r.run; few = omega arith; moves = Moves-trans a b c r.traffic (map receiving last) r.moves moves }

  pub ends_wanted : TakesTurn S before after b c turn.NoMemory → RunsTurns S first turns after a c run.NoMemory
  ends_wanted t = are_wanted r.events there t.last t.one (runs_on t.last t.one t.turns)

  pub ends_cut_off : TakesTurn S before after b c turn.LinkFault → RunsTurns S first turns after a c run.LinkFault
  ends_cut_off t = let counted = r.counted in
      are_cut_off r.events there refl (omega arith) (subst (λ last. RunsGrownServer S first turns last r.events there a c) t.turns.0 (runs_on t.last t.one t.turns.1))

  pub ends_stopped : TakesTurn S before after b c turn.Stopped → RunsTurns S first turns after a c (run.Over true)
  ends_stopped t =
      let all = ran_more S first before after count true a b c t.last r t.turns in
      let counted = all.counted in
      are_over true all.messages all.traffic all.events (inl refl) (record { run = all.run; few = omega arith; moves = subst (Moves a c) (sym (append-nil all.traffic)) all.moves })

-- all turns were taken
pub ends_turns : (S : GrownNodeSetting) (first : GrownNodeState) (after : GrownServerNode) (turns count : ℕ) (a b : LinkView) → turns ≤ count → count ≤ turns
    → RanSo S first count false after a b → RunsTurns S first turns after a b (run.Over false)
ends_turns S first after turns count a b least most r =
    let counted : length r.events ≡ turns = let so_many = r.counted in omega arith in
    are_over false r.messages r.traffic r.events (inr counted) (record { run = r.run; few = omega arith; moves = subst (Moves a b) (sym (append-nil r.traffic)) r.moves })
