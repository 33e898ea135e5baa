-- One turn of a server's node after another, and how they end.
use Rattle.std.proofs.Common.{◌≡◌, inl, ℕ, ◌≤◌, ◌+◌, Bool, true, false, List, [], ◌∷◌, ◌++◌, map, length, Ok, Err, refl, sym, ◌∙◌, ap, subst, append-nil, append_assoc, length-append, arith}
use Rattle.roc_disk.specs.declared.disk.Disk.{Ghosts as DiskOf}
use Rattle.roc_disk.proofs.Moments.{joined, weaker}
use Rattle.roc_book.specs.Call.{BookView}
use Rattle.roc_io.specs.declared.link.Addr.{Addr}
use Rattle.roc_io.specs.Call.{LinkView}
use Rattle.roc_io.specs.Link.{LinkEvent, Reception, sending, receiving, came, none_came, vain}
use Rattle.roc_kept.specs.declared.fault.KeptFault.{KeptFault}
use Rattle.roc_kept.specs.declared.fault.KeptFault.TheVariants as fault
use Rattle.roc_kept.specs.declared.kept.KeptServer.{KeptServer}
use Rattle.roc_kept.specs.Kept.{kept_failed}
use Rattle.roc_log.specs.declared.line.LogLine.{LogLine}
use Rattle.roc_log.specs.LogLine.{lines_text}
use Rattle.roc_msg.specs.declared.outbox.Outgoing.{Outgoing}
use Rattle.roc_node.specs.Moves.{Moves}
use Rattle.roc_node.proofs.Moving.{Moves-trans}
use Rattle.roc_node.specs.NodeEvent.{NodeEvent, NodeSetting, receive_of, took, silent}
use Rattle.roc_node_serve.specs.declared.server_node.ServerNode.{ServerNode}
use Rattle.roc_node_serve.specs.declared.server_node.TurnOutput.{TurnOutput}
use Rattle.roc_node_serve.specs.declared.server_turns.TurnEnd.{TurnEnd}
use Rattle.roc_node_serve.specs.declared.server_turns.TurnEnd.TheVariants as turn
use Rattle.roc_node_serve.specs.Keeping.{RecoversOnWay}
use Rattle.roc_node_serve.specs.ServerRun.{ServerNodeState, AfterEvent, IsServerRunFrom, begun, goes_on}
use Rattle.roc_node_serve.specs.Inner.JournalTurn.{IsOpen, LeftAround, KeepsBy, KeepsOn, Hinders}
use Rattle.roc_node_serve.specs.Inner.LogTurn.{Took}
use Rattle.roc_node_serve.specs.Inner.ServerTurn.{bare, node_of, GivesOut, Leads, TakesOne, TurnsOnce, TakesTurn, RanSo, turn_of}
use Rattle.roc_node_serve.proofs.Logs.{Took-none, Took-lines}
use Rattle.roc_node_serve.proofs.Servers.{continued, event_behind}
use Rattle.roc_node_serve.proofs.Journals.{OnlyNow, still_leaves, keeps_still, around_on_way, reached_on_way, on_further}

-- ---- one receive

module _ {D : Type 0} (disk : DiskOf D) (old new : D) (logs : Bool) (S : NodeSetting) (before after : ServerNode) (a b : LinkView) where
  -- a datagram that came, whose bytes the buffer holds
  pub takes_packet : (output : TurnOutput) (from : Addr) (bytes taken : List ℕ) → bytes ≡ taken
      → Leads logs S (AfterEvent S (bare before) (took (record { address = from; bytes = bytes }))) after output
      → KeepsBy disk old new S (LeftAround S (bare before) (came (record { address = from; bytes = bytes }) ∷ [])) before.server after.server false true
      → Moves a b (receiving (came (record { address = from; bytes = taken })) ∷ []) → TakesOne disk old new logs S before after a b (Ok output)
  takes_packet output from bytes taken same leads keeps moves = record {
    last = came (record { address = from; bytes = bytes }) ∷ [];
    one = omega arith;
    moves = subst (λ l. Moves a b (receiving (came (record { address = from; bytes = l })) ∷ [])) (sym same) moves;
    comes = record { event = took (record { address = from; bytes = bytes }); is = refl; leads = leads };
    keeps = keeps;
  }

  -- and was not taken
  hindered : (last : List Reception) (f : KeptFault) → length last ≤ 1 → Moves a b (map receiving last) → Hinders {T = TurnOutput} old new S (bare before) before.server last (Err f)
      → KeepsBy disk old new S (LeftAround S (bare before) last) before.server after.server (kept_failed {T = TurnOutput} (Err f)) false
      → TakesOne disk old new logs S before after a b (Err (turn_of f))
  hindered last fault.NoMemory one moves h keeps = record { last = last; one = one; moves = moves; comes = tt; keeps = keeps }
  hindered last fault.Full one moves h keeps = record { last = last; one = one; moves = moves; comes = h; keeps = keeps }
  hindered last fault.Disk one moves h keeps = record { last = last; one = one; moves = moves; comes = h; keeps = keeps }
  hindered last fault.Broken one moves h keeps = absurd h

  pub hinders_packet : (f : KeptFault) (end : TurnEnd) (from : Addr) (bytes taken : List ℕ) → end ≡ turn_of f → bytes ≡ taken
      → Hinders {T = TurnOutput} old new S (bare before) before.server (came (record { address = from; bytes = bytes }) ∷ []) (Err f)
      → KeepsBy disk old new S (LeftAround S (bare before) (came (record { address = from; bytes = bytes }) ∷ [])) before.server after.server (kept_failed {T = TurnOutput} (Err f)) false
      → Moves a b (receiving (came (record { address = from; bytes = taken })) ∷ []) → TakesOne disk old new logs S before after a b (Err end)
  hinders_packet f end from bytes taken is same h keeps moves =
      subst (λ e. TakesOne disk old new logs S before after a b (Err e)) (sym is)
      (hindered (came (record { address = from; bytes = bytes }) ∷ []) f (omega arith)
      (subst (λ l. Moves a b (receiving (came (record { address = from; bytes = l })) ∷ [])) (sym same) moves) h keeps)

  module _ (only : OnlyNow disk) (stays : new ≡ old) (same : after ≡ before) (ready : IsOpen S before.server) where
    stays_around : (last : List Reception) (goes : Bool) → KeepsBy disk old new S (LeftAround S (bare before) last) before.server after.server false goes
    stays_around last goes = keeps_still disk S only old new (LeftAround S (bare before) last) before.server after.server goes stays (ap (λ (n : ServerNode). n.server) same) ready
        (λ image left. inl left)

    -- silence
    pub takes_silence : (output : TurnOutput) → Leads logs S (AfterEvent S (bare before) silent) after output → Moves a b (receiving none_came ∷ [])
        → TakesOne disk old new logs S before after a b (Ok output)
    takes_silence output leads moves =
        record { last = none_came ∷ []; one = omega arith; moves = moves; comes = record { event = silent; is = refl; leads = leads }; keeps = stays_around (none_came ∷ []) true }

    -- memory was wanting for what came
    pub wants_memory : (heard : Reception) → Moves a b (receiving heard ∷ []) → TakesOne disk old new logs S before after a b (Err turn.NoMemory)
    wants_memory heard moves = record { last = heard ∷ []; one = omega arith; moves = moves; comes = tt; keeps = stays_around (heard ∷ []) false }

    -- the receive failed
    pub hears_nothing : Moves a b (receiving vain ∷ []) → TakesOne disk old new logs S before after a b (Err turn.LinkFault)
    hears_nothing moves = record { last = vain ∷ []; one = omega arith; moves = moves; comes = refl; keeps = stays_around (vain ∷ []) false }

-- ---- one turn

module _ {D : Type 0} (disk : DiskOf D) (old new : D) (logs : Bool) (S : NodeSetting) (before after : ServerNode) (a b c : LinkView) (p q : BookView) where
  turned : (stopped : Bool) (output : TurnOutput) (h : TakesOne disk old new logs S before after a b (Ok output)) → output.stopped ≡ stopped
      → Took logs p q (lines_text S.plan.program h.comes.leads.lines) → Moves b c (map sending output.sends.items) → TurnsOnce logs S stopped h.last before after a c p q
  turned stopped output h stops gained m = record {
    event = h.comes.event;
    is = h.comes.is;
    messages = h.comes.leads.messages;
    sends = output.sends.items;
    lines = h.comes.leads.lines;
    leads = subst (λ s. AfterEvent S (bare before) h.comes.event (node_of after h.comes.leads.messages (map sending output.sends.items) h.comes.leads.lines s)) stops h.comes.leads.is;
    moves = Moves-trans a b c (receive_of h.comes.event ∷ []) (map sending output.sends.items) (subst (Moves a b) h.comes.is h.moves) m;
    took = gained;
  }

  -- an event was taken, and given out
  pub gave_out : (output : TurnOutput) (h : TakesOne disk old new logs S before after a b (Ok output)) (end : TurnEnd)
      → GivesOut logs (lines_text S.plan.program h.comes.leads.lines) output b c p q end → TakesTurn disk old new logs S before after a c p q end
  gave_out output h turn.Goes g = record { last = h.last; one = h.one; turns = turned false output h g.0 g.1 g.2; keeps = h.keeps }
  gave_out output h turn.Stopped g = record { last = h.last; one = h.one; turns = turned true output h g.0 g.1 g.2; keeps = h.keeps }
  gave_out output h turn.BookFault g = record {
    last = h.last;
    one = h.one;
    turns = record {
      event = h.comes.event;
      is = h.comes.is;
      next = node_of after h.comes.leads.messages (map sending output.sends.items) h.comes.leads.lines output.stopped;
      leads = h.comes.leads.is;
      moves = subst (λ v. Moves a v (map receiving h.last)) (sym g.1) h.moves;
      took = g.0;
    };
    keeps = h.keeps;
  }
  gave_out output h turn.NoMemory g = absurd g
  gave_out output h turn.LinkFault g = absurd g
  gave_out output h turn.Full g = absurd g
  gave_out output h turn.Disk g = absurd g

-- it was not taken
pub turned_back : {D : Type 0} (disk : DiskOf D) (old new : D) (logs : Bool) (S : NodeSetting) (before after : ServerNode) (a b : LinkView) (p : BookView) (end : TurnEnd)
    → TakesOne disk old new logs S before after a b (Err end)
    → TakesTurn disk old new logs S before after a b p p end
turned_back disk old new logs S before after a b p turn.Goes h = absurd h.comes
turned_back disk old new logs S before after a b p turn.Stopped h = absurd h.comes
turned_back disk old new logs S before after a b p turn.BookFault h = absurd h.comes
turned_back disk old new logs S before after a b p turn.NoMemory h = record { last = h.last; one = h.one; turns = (h.moves, refl); keeps = h.keeps }
turned_back disk old new logs S before after a b p turn.LinkFault h = record { last = h.last; one = h.one; turns = (h.comes, h.moves, refl); keeps = h.keeps }
turned_back disk old new logs S before after a b p turn.Full h = record { last = h.last; one = h.one; turns = (h.comes, h.moves, refl); keeps = h.keeps }
turned_back disk old new logs S before after a b p turn.Disk h = record { last = h.last; one = h.one; turns = (h.comes, h.moves, refl); keeps = h.keeps }

-- ---- several turns

module _ {D : Type 0} (disk : DiskOf D) (only : OnlyNow disk) (logs : Bool) (S : NodeSetting) where
  -- no turn so far
  pub ran_none : (now : D) (messages : List Outgoing) (sends : List LinkEvent) (logged : List LogLine) (server_node : ServerNode) (a b : LinkView) (p : BookView) → IsOpen S server_node.server
      → Moves a b sends
      → RanSo disk now now logs S (node_of server_node messages sends logged false) 0 false server_node.server server_node a b p p
  ran_none now messages sends logged server_node a b p ready moves =
      let first = node_of server_node messages sends logged false in record {
        events = [];
        messages = messages;
        traffic = sends;
        logged = logged;
        counted = refl;
        run = begun;
        moves = moves;
        keeps = record {
          faults = refl;
          told = λ tells. tells;
          unkept = λ none. (none, refl);
          ready = ready;
          shard = refl;
          kept = λ tells name kept. kept;
          any_moment = λ tells name kept.
              still_leaves disk only now S.plan name S.header.tag _ _ _ _ tells kept (reached_on_way S first server_node.server.server.state.shard [] server_node messages sends logged begun refl);
        };
        lines = [];
        adds = sym (append-nil logged);
        took = Took-none logs p p refl;
      }

-- one more turn
module _ {D : Type 0} (disk : DiskOf D) (old mid new : D) (S : NodeSetting) (first : ServerNodeState) (start : KeptServer) (before after : ServerNode) where
  keeps_more : (events : List NodeEvent) (event : NodeEvent) (last : List Reception) (messages : List Outgoing) (traffic : List LinkEvent) (logged : List LogLine)
      → IsServerRunFrom S first events (node_of before messages traffic logged false)
      → map receiving last ≡ receive_of event ∷ [] → KeepsOn disk old mid S first events start before.server
      → KeepsBy disk mid new S (LeftAround S (bare before) last) before.server after.server false true
      → KeepsOn disk old new S first (events ++ event ∷ []) start after.server
  keeps_more events event last messages traffic logged run is k h =
      let further = RecoversOnWay S first start.server.state.shard (events ++ event ∷ []) in record {
        faults = h.cause ∙ k.faults;
        told = λ tells. k.told (h.told tells);
        unkept = λ none. let one = k.unkept none in let two = h.unkept one.0 in (two.0, two.1 ∙ one.1);
        ready = h.ready refl;
        shard = h.shard ∙ k.shard;
        kept = λ tells name kept. h.kept refl tells name (k.kept (h.told tells) name kept);
        any_moment = λ tells name kept.
            joined disk name old mid new further
            (weaker disk name old mid _ further (on_further S first start.server.state.shard events (event ∷ [])) (k.any_moment (h.told tells) name kept))
            (weaker disk name mid new _ further (around_on_way S first start.server.state.shard events before messages traffic logged run k.shard last event is)
            (h.any_moment tells name (k.kept (h.told tells) name kept)));
      }

  pub ran_more : (logs : Bool) (count : ℕ) (stopped : Bool) (a b c : LinkView) (p q s : BookView) (last : List Reception) → RanSo disk old mid logs S first count false start before a b p q
      → TurnsOnce logs S stopped last before after b c q s
      → KeepsBy disk mid new S (LeftAround S (bare before) last) before.server after.server false true → RanSo disk old new logs S first (count + 1) stopped start after a c p s
  ran_more logs count stopped a b c p q s last r h k = record {
    events = r.events ++ h.event ∷ [];
    messages = r.messages ++ h.messages;
    traffic = (r.traffic ++ receive_of h.event ∷ []) ++ map sending h.sends;
    logged = r.logged ++ h.lines;
    counted = let e = r.counted in length-append r.events (h.event ∷ []) ∙ ap (λ n. n + 1) e;
    run = goes_on h.event (continued r.messages (r.traffic ++ receive_of h.event ∷ []) r.logged (node_of after h.messages (map sending h.sends) h.lines stopped)) r.run refl
        (event_behind r.messages (r.traffic ++ receive_of h.event ∷ []) r.logged S before h.event _ h.leads);
    moves = subst (Moves a c) (sym (append_assoc r.traffic (receive_of h.event ∷ []) (map sending h.sends)))
        (Moves-trans a b c r.traffic (receive_of h.event ∷ map sending h.sends) r.moves h.moves);
    keeps = keeps_more r.events h.event last r.messages r.traffic r.logged r.run h.is r.keeps k;
    lines = r.lines ++ h.lines;
    adds = ap (λ l. l ++ h.lines) r.adds ∙ append_assoc first.logged r.lines h.lines;
    took = Took-lines logs S.plan.program p q s r.lines h.lines r.took h.took;
  }
