-- How the turns of a server's node end.
use Rattle.std.proofs.Common.{◌≡◌, inl, inr, ⊎_elim, ℕ, ◌<◌, ◌≤◌, Bool, true, false, List, [], ◌∷◌, ◌++◌, map, length, None, refl, sym, ◌∙◌, ap, subst, append-nil, arith}
use Rattle.roc_book.specs.Call.{BookView}
use Rattle.roc_disk.specs.declared.disk.Disk.{Ghosts as DiskOf}
use Rattle.roc_disk.proofs.Moments.{joined, weaker}
use Rattle.roc_io.specs.Call.{LinkView}
use Rattle.roc_io.specs.Cause.{HasCause}
use Rattle.roc_io.specs.Link.{LinkEvent, Reception, receiving, came, vain}
use Rattle.roc_kept.specs.declared.kept.KeptServer.{KeptServer}
use Rattle.roc_kept.specs.Kept.{is_too_long, Recovers}
use Rattle.roc_log.specs.declared.line.LogLine.{LogLine}
use Rattle.roc_log.specs.LogLine.{lines_text}
use Rattle.roc_msg.specs.declared.msg.Msg.{Msg}
use Rattle.roc_msg.specs.declared.outbox.Outgoing.{Outgoing}
use Rattle.roc_wire.specs.declared.header.Header.{Header}
use Rattle.roc_node.specs.Moves.{Moves}
use Rattle.roc_node.proofs.Moving.{Moves-trans}
use Rattle.roc_node.specs.NodeEvent.{NodeEvent, NodeSetting, receive_of, took, silent}
use Rattle.roc_node_serve.specs.declared.server_node.ServerNode.{ServerNode}
use Rattle.roc_node_serve.specs.declared.server_turns.TurnEnd.TheVariants as turn
use Rattle.roc_node_serve.specs.declared.server_turns.RunEnd.TheVariants as run
use Rattle.roc_node_serve.specs.Keeping.{RecoversNode, RecoversOnWay, IsLeftOnWay}
use Rattle.roc_node_serve.specs.ServeEnd.{behind, filled_at, amid, RunsServer}
use Rattle.roc_node_serve.specs.ServerRun.{ServerNodeState, IsServerRunFrom}
use Rattle.roc_node_serve.specs.Inner.JournalTurn.{LeftAround, KeepsBy, KeepsOn, CallsDisk, LeavesJournal, FillsAt}
use Rattle.roc_node_serve.specs.Inner.LogTurn.{Took, TookAll}
use Rattle.roc_node_serve.specs.Inner.ServerTurn.{bare, node_of, TakesTurn, RanSo, ComesOfTurns, are_over, are_wanted, are_cut_off, are_filled, are_broken, are_unlogged}
use Rattle.roc_node_serve.proofs.Journals.{CountsNow, kept_recovers, left_behind, around_reached, too_long_for}
use Rattle.roc_node_serve.proofs.Logs.{Took-trans, front_taken}
use Rattle.roc_node_serve.proofs.Servers.{continued, event_behind}
use Rattle.roc_node_serve.proofs.Turning.{ran_more}

-- ---- what calls of the disk came of several turns

module _ {D : Type 0} (disk : DiskOf D) (old mid new : D) (S : NodeSetting) (first : ServerNodeState) (events : List NodeEvent) (start before after : KeptServer)
    (k : KeepsOn disk old mid S first events start before) where
  calls_more : (around : List ℕ → Type 0) (failed goes of_journal : Bool) → KeepsBy disk mid new S around before after failed goes → (before.keeper ≡ None → of_journal ≡ false)
      → CallsDisk disk old new start failed of_journal
  calls_more around failed goes of_journal h none = record {
    cause = subst (λ n. HasCause failed n (disk.faults new)) k.faults h.cause;
    told = λ tells. k.told (h.told tells);
    unkept = λ unkept. let one = k.unkept unkept in let two = h.unkept one.0 in (two.1 ∙ one.1, none one.0);
  }

  pub calls_on : (around : List ℕ → Type 0) (goes : Bool) → KeepsBy disk mid new S around before after false goes → CallsDisk disk old new start false false
  calls_on around goes h = calls_more around false goes false h (λ none. refl)

  pub calls_failed : (around : List ℕ → Type 0) (goes : Bool) → KeepsBy disk mid new S around before after true goes → CallsDisk disk old new start true true
  calls_failed around goes h = calls_more around true goes true h (λ none. (h.unkept none).2)

  pub calls_filled : (around : List ℕ → Type 0) (goes : Bool) (node : ServerNodeState) (last : List Reception) → FillsAt mid new S node before last
      → KeepsBy disk mid new S around before after false goes
      → CallsDisk disk old new start false true
  calls_filled around goes node last fills h =
      calls_more around false goes true h (λ none. sym fills.full.too_long ∙ ap (λ keeper. is_too_long keeper (record { header = fills.header; msg = fills.msg })) none)

-- turns that went well
pub calls_none : {D : Type 0} (disk : DiskOf D) (old new : D) (S : NodeSetting) (first : ServerNodeState) (events : List NodeEvent) (start after : KeptServer)
    → KeepsOn disk old new S first events start after
    → CallsDisk disk old new start false false
calls_none disk old new S first events start after k = record { cause = k.faults; told = k.told; unkept = λ unkept. ((k.unkept unkept).1, refl) }

-- ---- what several turns leave of the journal

-- no event is one that a receive in vain gave
none_in_vain : (last : List Reception) (event : NodeEvent) → last ≡ vain ∷ [] → map receiving last ≡ receive_of event ∷ [] → ⊥
none_in_vain last event vainly is = of_vain event (sym (ap (map receiving) vainly) ∙ is) where
  of_vain : (event : NodeEvent) → receiving vain ∷ [] ≡ receive_of event ∷ [] → ⊥
  of_vain (took packet) h = cc
  of_vain silent h = cc

module _ {D : Type 0} (disk : DiskOf D) (counts : CountsNow disk) (old mid new : D) (S : NodeSetting) (first : ServerNodeState) (start : KeptServer) (before after : ServerNode)
    (events : List NodeEvent) (messages : List Outgoing)
    (traffic : List LinkEvent) (logged : List LogLine) (run : IsServerRunFrom S first events (node_of before messages traffic logged false))
    (k : KeepsOn disk old mid S first events start before.server) where
  abbrev here : ServerNodeState
  here = node_of before messages traffic logged false

  on_way : (image : List ℕ) → RecoversNode S.plan S.header.tag start.server.state.shard here image → RecoversOnWay S first start.server.state.shard events image
  on_way image recovers = record { front = events; rest = []; is = sym (append-nil events); node = here; run = run; recovers = recovers }

  pub leaves_amid : (last : List Reception) (failed goes : Bool) → KeepsBy disk mid new S (LeftAround S (bare before) last) before.server after.server failed goes
      → LeavesJournal disk old new S first start.server.state.shard start (amid events here last)
  leaves_amid last failed goes h =
      let around = around_reached S first start.server.state.shard events before messages traffic logged run k.shard last in
      let far = IsLeftOnWay S first start.server.state.shard (amid events here last) in record {
        leaves = λ tells name kept image left.
            around image (left_behind disk counts mid new name _ tells (h.any_moment tells name (k.kept (h.told tells) name kept)) image left);
        any_moment = λ tells name kept.
            joined disk name old mid new far (weaker disk name old mid _ far (λ image left. inl left) (k.any_moment (h.told tells) name kept))
            (weaker disk name mid new _ far (λ image left. ⊎_elim (λ reached. inl (on_way image reached)) (λ next. inr next) (around image left))
            (h.any_moment tells name (k.kept (h.told tells) name kept)));
      }

  pub leaves_vainly : (last : List Reception) (failed : Bool) → last ≡ vain ∷ [] → KeepsBy disk mid new S (LeftAround S (bare before) last) before.server after.server failed false
      → LeavesJournal disk old new S first start.server.state.shard start (behind events here)
  leaves_vainly last failed vainly h =
      let around : (image : List ℕ) → LeftAround S (bare before) last image → RecoversNode S.plan S.header.tag start.server.state.shard here image =
      λ image left. ⊎_elim (λ reached. reached) (λ next. absurd (none_in_vain last next.event vainly next.is))
      (around_reached S first start.server.state.shard events before messages traffic logged run k.shard last image left) in
      let far = IsLeftOnWay S first start.server.state.shard (behind events here) in record {
        leaves = λ tells name kept image left.
            around image (left_behind disk counts mid new name _ tells (h.any_moment tells name (k.kept (h.told tells) name kept)) image left);
        any_moment = λ tells name kept.
            joined disk name old mid new far (k.any_moment (h.told tells) name kept)
            (weaker disk name mid new _ far (λ image left. on_way image (around image left)) (h.any_moment tells name (k.kept (h.told tells) name kept)));
      }

  pub leaves_filled : (header : Header) (msg : Msg) → new ≡ mid → is_too_long before.server.keeper (record { header = header; msg = msg }) ≡ true
      → LeavesJournal disk old new S first start.server.state.shard start (filled_at events here header msg)
  leaves_filled header msg stays too_long = subst (λ d. LeavesJournal disk old d S first start.server.state.shard start (filled_at events here header msg)) (sym stays) (record {
    leaves = λ tells name kept image left.
        let there = k.kept tells name kept in (
          subst (λ h. Recovers S.plan S.header.tag h image before.server.server.state before.server.server.viewing) k.shard
              (kept_recovers disk mid S.plan name S.header.tag _ _ before.server.keeper there image left),
          too_long_for disk mid S.plan name S.header.tag _ _ before.server.keeper header msg there too_long image left,
        );
    any_moment = k.any_moment;
  })

-- behind turns that went well
pub leaves_behind : {D : Type 0} (disk : DiskOf D) (old new : D) (S : NodeSetting) (first : ServerNodeState) (start : KeptServer) (after : ServerNode) (events : List NodeEvent)
    (messages : List Outgoing) (traffic : List LinkEvent) (logged : List LogLine) (stopped : Bool)
    → KeepsOn disk old new S first events start after.server → LeavesJournal disk old new S first start.server.state.shard start (behind events (node_of after messages traffic logged stopped))
leaves_behind disk old new S first start after events messages traffic logged stopped k = record {
  leaves = λ tells name kept image left.
      subst (λ h. Recovers S.plan S.header.tag h image after.server.server.state after.server.server.viewing) k.shard
      (kept_recovers disk new S.plan name S.header.tag _ _ after.server.keeper (k.kept tells name kept) image left);
  any_moment = k.any_moment;
}

-- ---- the ends

module _ {D : Type 0} (disk : DiskOf D) (counts : CountsNow disk) (old mid new : D) (S : NodeSetting) (first : ServerNodeState) (start : KeptServer) (before after : ServerNode) (turns count : ℕ)
    (logs : Bool) (a b c : LinkView) (p q s : BookView) (below : count < turns)
    (r : RanSo disk old mid logs S first count false start before a b p q) where
  abbrev there : ServerNodeState
  there = node_of before r.messages r.traffic r.logged false

  -- the book took no more than before
  took_all : s ≡ q → TookAll logs p s S.plan.program first there
  took_all same = record { lines = r.lines; is = r.adds; took = subst (λ v. Took logs p v (lines_text S.plan.program r.lines)) (sym same) r.took }

  runs_on : (last : List Reception) → length last ≤ 1 → Moves b c (map receiving last) → RunsServer S first turns last r.events there a c
  runs_on last one moves = let counted = r.counted in record { run = r.run; few = omega arith; moves = Moves-trans a b c r.traffic (map receiving last) r.moves moves }

  pub ends_wanted : TakesTurn disk mid new logs S before after b c q s turn.NoMemory → ComesOfTurns disk old new logs S first turns start after a c p s run.NoMemory
  ends_wanted t = record {
    reached = amid r.events there t.last;
    runs = are_wanted r.events there t.last t.one (runs_on t.last t.one t.turns.0);
    leaves = leaves_amid disk counts old mid new S first start before after r.events r.messages r.traffic r.logged r.run r.keeps t.last false false t.keeps;
    took = took_all t.turns.1;
  }

  pub ends_cut_off : TakesTurn disk mid new logs S before after b c q s turn.LinkFault → ComesOfTurns disk old new logs S first turns start after a c p s run.LinkFault
  ends_cut_off t = let counted = r.counted in record {
    reached = behind r.events there;
    runs = are_cut_off r.events there refl (omega arith) (subst (λ last. RunsServer S first turns last r.events there a c) t.turns.0 (runs_on t.last t.one t.turns.1));
    leaves = leaves_vainly disk counts old mid new S first start before after r.events r.messages r.traffic r.logged r.run r.keeps t.last false t.turns.0 t.keeps;
    took = took_all t.turns.2;
  }

  pub ends_filled : TakesTurn disk mid new logs S before after b c q s turn.Full → ComesOfTurns disk old new logs S first turns start after a c p s run.Full
  ends_filled t = let fills = t.turns.0 in record {
    reached = filled_at r.events there fills.header fills.msg;
    runs = are_filled r.events there fills.packet fills.header fills.msg fills.brings fills.full.records refl
        (subst (λ last. RunsServer S first turns last r.events there a c) fills.is (runs_on t.last t.one t.turns.1));
    leaves = leaves_filled disk counts old mid new S first start before after r.events r.messages r.traffic r.logged r.run r.keeps fills.header fills.msg fills.full.untouched fills.full.too_long;
    took = took_all t.turns.2;
  }

  pub ends_broken : TakesTurn disk mid new logs S before after b c q s turn.Disk → ComesOfTurns disk old new logs S first turns start after a c p s run.Disk
  ends_broken t = let breaks = t.turns.0 in record {
    reached = amid r.events there (came breaks.packet ∷ []);
    runs = are_broken r.events there breaks.packet breaks.header breaks.msg breaks.brings refl
        (subst (λ last. RunsServer S first turns last r.events there a c) breaks.is (runs_on t.last t.one t.turns.1));
    leaves = subst (λ last. LeavesJournal disk old new S first start.server.state.shard start (amid r.events there last)) breaks.is
        (leaves_amid disk counts old mid new S first start before after r.events r.messages r.traffic r.logged r.run r.keeps t.last true false t.keeps);
    took = took_all t.turns.2;
  }

  -- the book failed
  pub ends_unlogged : TakesTurn disk mid new logs S before after b c q s turn.BookFault → ComesOfTurns disk old new logs S first turns start after a c p s run.BookFault
  ends_unlogged t =
      let cut = t.turns in
      let traffic = r.traffic ++ receive_of cut.event ∷ [] in record {
        reached = amid r.events there t.last;
        runs = are_unlogged r.events there t.last cut.event cut.is refl (runs_on t.last t.one cut.moves);
        leaves = leaves_amid disk counts old mid new S first start before after r.events r.messages r.traffic r.logged r.run r.keeps t.last false true t.keeps;
        took = record {
          kept = cut.took.0;
          event = cut.event;
          is = cut.is;
          next = continued r.messages traffic r.logged cut.next;
          after = event_behind r.messages traffic r.logged S before cut.event cut.next cut.leads;
          lines = r.lines;
          before = r.adds;
          more = cut.next.logged;
          adds = refl;
          cut = cut.took.2.0;
          took = Took-trans logs p q s _ _ r.took (front_taken logs q s _ cut.took);
        };
      }

  pub ends_stopped : TakesTurn disk mid new logs S before after b c q s turn.Stopped → ComesOfTurns disk old new logs S first turns start after a c p s (run.Over true)
  ends_stopped t =
      let all = ran_more disk old mid new S first start before after logs count true a b c p q s t.last r t.turns t.keeps in
      let counted = all.counted in record {
        reached = behind all.events (node_of after all.messages all.traffic all.logged true);
        runs = are_over true all.messages all.traffic all.logged all.events (inl refl)
            (record { run = all.run; few = omega arith; moves = subst (Moves a c) (sym (append-nil all.traffic)) all.moves });
        leaves = leaves_behind disk old new S first start after all.events all.messages all.traffic all.logged true all.keeps;
        took = record { lines = all.lines; is = all.adds; took = all.took };
      }

-- all turns were taken
pub ends_turns : {D : Type 0} (disk : DiskOf D) (old new : D) (S : NodeSetting) (first : ServerNodeState) (start : KeptServer) (after : ServerNode) (turns count : ℕ) (logs : Bool) (a b : LinkView)
    (p q : BookView) → turns ≤ count → count ≤ turns → RanSo disk old new logs S first count false start after a b p q
    → ComesOfTurns disk old new logs S first turns start after a b p q (run.Over false)
ends_turns disk old new S first start after turns count logs a b p q least most r =
    let counted : length r.events ≡ turns = let so_many = r.counted in omega arith in record {
      reached = behind r.events (node_of after r.messages r.traffic r.logged false);
      runs = are_over false r.messages r.traffic r.logged r.events (inr counted) (record { run = r.run; few = omega arith; moves = subst (Moves a b) (sym (append-nil r.traffic)) r.moves });
      leaves = leaves_behind disk old new S first start after r.events r.messages r.traffic r.logged false r.keeps;
      took = record { lines = r.lines; is = r.adds; took = r.took };
    }
