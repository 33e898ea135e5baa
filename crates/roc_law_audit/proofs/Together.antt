-- The folds of the logs of a run tell the run
use Rattle.std.proofs.Common.{◌≡◌, ℕ, ◌<◌, ◌==◌, Bool, true, false, List, [], ◌∷◌, Ok, length, refl, sym, ap, subst, inl, inr, arith}
use Rattle.std.proofs.lemmas.Option.{slice_get_within}
use Rattle.std.specs.Prelude.{if◌then◌else◌}
use Rattle.roc_sequence.specs.Lists.{Has}
use Rattle.roc_sequence.specs.Places.{IsListed}
use Rattle.roc_sequence.proofs.Members.{has_flat_map, from_has_flat_map}
use Rattle.roc_base.specs.declared.id.TxnId.{TxnId}
use Rattle.roc_base.specs.declared.node.Shard.{Shard}
use Rattle.roc_base.specs.declared.node.Node.{Node}
use Rattle.roc_base.specs.declared.node.Node.TheVariants.{Server, Coord}
use Rattle.roc_base.specs.TxnId.{is_txn}
use Rattle.roc_depgraph.proofs.Listed.{has_listed, listed_has}
use Rattle.roc_msg.specs.declared.msg.Msg.{Msg}
use Rattle.roc_plan.specs.Groups.{Plan}
use Rattle.roc_wire.specs.declared.header.Header.{Header}
use Rattle.roc_wire.specs.Laws.{Spells}
use Rattle.roc_wire.specs.Reading.{datagram, pair}
use Rattle.roc_step.specs.Runs.{accesses_of}
use Rattle.roc_audit.specs.declared.entry.Entry.{Entry}
use Rattle.roc_law_protocol.proofs.Findings.{decided_there}
use Rattle.roc_law_protocol.specs.Happens.{RanAt}
use Rattle.roc_law_world.specs.World.{World, first_world}
use Rattle.roc_law_world.specs.Run.{Stepped, IsRun, IsNodeOf}
use Rattle.roc_law_world.proofs.Outcomes.{there as within_there}
use Rattle.roc_log.specs.declared.line.LogLine.{LogLine}
use Rattle.roc_log.specs.declared.line.Log.{Log}
use Rattle.roc_judge.specs.declared.folded.Folded.{Folded}
use Rattle.roc_judge.specs.Before as before
use Rattle.roc_fold.specs.Told.{told_from}
use Rattle.roc_fold.specs.Folded.{IsFoldOfLines, IsFolded}
use Rattle.roc_law_audit.specs.InTheWorld.{ran_on, TellsShard, AreOfRun, all_ran}
use Rattle.roc_law_audit.specs.LogsOfRuns.{AreAllLogged, AreLogsOfRun, AreFoldsOf}
use Rattle.roc_law_audit.proofs.Fronts.{taken_from}
use Rattle.roc_law_audit.proofs.ServerLogs.{server_stands}
use Rattle.roc_law_audit.proofs.CoordLogs.{IsToldIn, coord_stands}
use Rattle.roc_law_audit.proofs.Decided.{servers_stay, coords_stay, order_decided, decided_order, ran_there, history_told}
use Rattle.roc_law_audit.proofs.WaitsThere.{waits_there, are_waiting, still_there, there_still}

-- nothing ran where no server is
on_none : (n : ℕ) (rs : List RanAt) → ((q : RanAt) → Has q rs → q.shard < n) → ran_on n rs ≡ []
on_none n [] all = refl
on_none n (r ∷ rs) all = go (r.shard == n) refl (on_none n rs (λ q h. all q (inr h)))
  where
    go : (b : Bool) → (r.shard == n) ≡ b → ran_on n rs ≡ [] → (if b then r.group ∷ ran_on n rs else ran_on n rs) ≡ []
    go true e none = absurd (let l = all r (inl refl) in grind (arith))
    go false e none = none

module _ (reads : (bytes : List ℕ) (header : Header) (msg : Msg) → Spells bytes header msg → datagram bytes ≡ Ok (pair header msg)) (plan : Plan) (coords : ℕ) {steps : List Stepped} {w : World}
    (r : IsRun plan coords steps w) where
  abbrev begun : World
  begun = first_world plan coords

  abbrev Tells : ℕ → Folded → Type 0
  Tells shard f = TellsShard plan (all_ran steps) w.servers w.history shard f

  -- what the fold of a node's log tells
  pub data TellsNode (lines : List LogLine) (f : Folded) : Node → Type 0 where
    of_server : (shard : Shard) → f.told ≡ [] → f.decided ≡ taken_from (Server shard) begun steps → Tells shard.0 f → TellsNode lines f (Server shard)
    of_coord : (number : ℕ) → f.told ≡ told_from number 0 lines → IsToldIn (told_from number 0 lines) w.history → f.decided ≡ [] → Tells plan.program.shards f → TellsNode lines f (Coord number)

  -- ---- each log

  node_folds : (tag : List ℕ) (node : Node) (lines : List LogLine) → IsNodeOf w node → AreAllLogged (record { tag = tag; from = node }) begun steps lines
      → (f : Folded) × IsFoldOfLines plan (record { tag = tag; from = node }) node lines f × TellsNode lines f node
  node_folds tag (Server shard) lines within logged =
      let t = within_there w.servers shard.0 within in
      let s = t.0 in
      let st = server_stands reads plan coords tag shard r lines logged s t.1 in
      let d = decided_there s.lists.links in
      let f : Folded = record { told = []; decided = taken_from (Server shard) begun steps; ran = accesses_of (ran_on shard.0 (all_ran steps)); waits = waits_there plan s d.0 d.1 } in (
        f,
        record { fold = _; folds = st.folds; ended = refl; told = refl; decided = refl; ran = refl; waits = are_waiting plan s d.0 d.1 st.viewing },
        of_server shard refl refl
            (record { ran_there = refl; waits = still_there plan s d.0 d.1 w.servers shard.0 t.1; waits_only = there_still plan s d.0 d.1 w.servers shard.0 t.1; in_time = λ t u h. elim h [ ] }),
      )
  node_folds tag (Coord number) lines within logged =
      let t = within_there w.coords number within in
      let st = coord_stands reads plan coords tag number r lines logged t.0 t.1 in
      let f : Folded = record { told = told_from number 0 lines; decided = []; ran = []; waits = [] } in (
        f,
        record { fold = _; folds = st.folds; ended = refl; told = refl; decided = refl; ran = refl; waits = refl },
        of_coord number refl st.told refl
            (record {
              ran_there = ap accesses_of (sym (on_none plan.program.shards (all_ran steps) (ran_there reads plan coords r)));
              waits = λ e k b h. absurd (let l = slice_get_within w.servers plan.program.shards k.server k.there in let m = servers_stay reads plan coords r in omega (arith, l, m));
              waits_only = λ b h. elim h [ ];
              in_time = st.told.in_time;
            }),
      )

  module _ (logs : List Log) (are : AreLogsOfRun plan coords steps w logs) where
    pub log_folds : (log : Log) → Has log logs → (f : Folded) × IsFolded plan log f × TellsNode log.lines f log.node
    log_folds log h = let k = are.each log h in node_folds log.tag log.node log.lines k.0 k.1

    server_within : (n : ℕ) → n < plan.program.shards → n < length w.servers
    server_within n h = subst (λ m. n < m) (sym (servers_stay reads plan coords r)) h

    pub server_has_log : (shard : Shard) → shard.0 < plan.program.shards → (log : Log) × Has log logs × (log.node ≡ Server shard)
    server_has_log shard h = are.all (Server shard) (server_within shard.0 h)

    module _ (one : (log : Log) (a b : Folded) → IsFolded plan log a → IsFolded plan log b → a ≡ b) (folds : List Folded) (of : AreFoldsOf plan logs folds) where
      fold_tells : (log : Log) → Has log logs → (f : Folded) → IsFolded plan log f → TellsNode log.lines f log.node
      fold_tells log h f is = let k = log_folds log h in subst (λ (x : Folded). TellsNode log.lines x log.node) (one log k.0 f k.1 is) k.2

      -- the fold of a node
      node_fold : (node : Node) → IsNodeOf w node → (log : Log) × Has log logs × (log.node ≡ node) × (f : Folded) × Has f folds × TellsNode log.lines f node
      node_fold node within =
          let l = are.all node within in
          let f = of.all l.0 l.1 in
          (l.0, l.1, l.2, f.0, f.1, subst (TellsNode l.0.lines f.0) l.2 (fold_tells l.0 l.1 f.0 f.2))

      decided_by : (t : TxnId) (f : Folded) → Has t f.decided → {lines : List LogLine} {node : Node} → TellsNode lines f node → Has t w.order
      decided_by t f h (of_server shard told decided tells) = decided_order reads plan coords r shard t (subst (Has t) decided h)
      decided_by t f h (of_coord number told part decided tells) = elim (subst (Has t) decided h) [ ]

      told_by_one : (e : Entry) (f : Folded) → Has e f.told → {lines : List LogLine} {node : Node} → TellsNode lines f node → Has e w.history
      told_by_one e f h (of_server shard told decided tells) = elim (subst (Has e) told h) [ ]
      told_by_one e f h (of_coord number told part decided tells) = part.has e (subst (Has e) told h)

      some_shard : (f : Folded) → {lines : List LogLine} {node : Node} → TellsNode lines f node → (shard : ℕ) × Tells shard f
      some_shard f (of_server shard told decided tells) = (shard.0, tells)
      some_shard f (of_coord number told part decided tells) = (plan.program.shards, tells)

      server_tells : (shard : Shard) (f : Folded) {lines : List LogLine} → TellsNode lines f (Server shard) → (f.decided ≡ taken_from (Server shard) begun steps) × Tells shard.0 f
      server_tells shard f (of_server _ told decided tells) = (decided, tells)

      coord_tells : (number : ℕ) (f : Folded) {lines : List LogLine} → TellsNode lines f (Coord number) → f.told ≡ told_from number 0 lines
      coord_tells number f (of_coord _ told part decided tells) = told

      decided_to : (t : TxnId) → IsListed is_txn (before.candidates folds) t → IsListed is_txn w.order t
      decided_to t l =
          let x = from_has_flat_map (λ (f : Folded). f.decided) t folds (listed_has (before.candidates folds) t l) in
          let g = of.each x.0 x.1 in
          has_listed w.order t (decided_by t x.0 x.2 (fold_tells g.0 g.1 x.0 g.2))

      decided_from : (t : TxnId) → IsListed is_txn w.order t → IsListed is_txn (before.candidates folds) t
      decided_from t l =
          let d = order_decided reads plan coords r t (listed_has w.order t l) in
          let n = node_fold (Server d.0) (server_within d.0.0 d.1) in
          let k = server_tells d.0 n.3 n.5 in
          has_listed (before.candidates folds) t (has_flat_map (λ (f : Folded). f.decided) t n.3 folds n.4 (subst (Has t) (sym k.0) d.2))

      told_to : (e : Entry) → Has e w.history → Has e (before.told folds)
      told_to e h =
          let d = history_told reads plan coords r e h in
          let within : d.0 < length w.coords = subst (λ m. d.0 < m) (sym (coords_stay reads plan coords r)) d.1 in
          let n = node_fold (Coord d.0) within in
          let logged = subst (λ (m : Node). AreAllLogged (record { tag = n.0.tag; from = m }) begun steps n.0.lines) n.2 (are.each n.0 n.1).1 in
          has_flat_map (λ (f : Folded). f.told) e n.3 folds n.4 (subst (Has e) (sym (coord_tells d.0 n.3 n.5)) (d.2 n.0.tag n.0.lines logged))

      told_from_folds : (e : Entry) → Has e (before.told folds) → Has e w.history
      told_from_folds e h =
          let x = from_has_flat_map (λ (f : Folded). f.told) e folds h in
          let g = of.each x.0 x.1 in
          told_by_one e x.0 x.2 (fold_tells g.0 g.1 x.0 g.2)

      pub folds_of_run : AreOfRun plan (all_ran steps) w.servers w.history w.order folds
      folds_of_run = record {
        decided = λ t. (decided_to t, decided_from t);
        told = λ e. (told_to e, told_from_folds e);
        each = λ f h. (let g = of.each f h in some_shard f (fold_tells g.0 g.1 f g.2));
        logged = λ q h. (let shard : Shard = record { 0 = q.shard } in
            let n = node_fold (Server shard) (server_within q.shard (ran_there reads plan coords r q h)) in
            (n.3, n.4, (server_tells shard n.3 n.5).1));
      }
