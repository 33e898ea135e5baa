-- The order is a serial witness of the history
use Rattle.std.proofs.Common.{◌≡◌, ℕ, ℤ, pos, suc, ◌<◌, List, [], ◌∷◌, ◌++◌, Some, length, map, refl, sym, ap, subst, ◌∙◌, inl, inr, arith, append-nil}
use Rattle.std.specs.Prelude.{slice_get, slice_index_or, zip}
use Rattle.std.specs.List.{cons_option}
use Rattle.std.proofs.lemmas.List.{map-append}
use Rattle.std.proofs.lemmas.List.Concat.{flat_map-append}
use Rattle.roc_sequence.specs.Lists.{Has}
use Rattle.roc_sequence.proofs.Members.{has_append, has_map}
use Rattle.roc_sequence.proofs.Places.{listed_head, listed_tail}
use Rattle.roc_sequence.specs.Places.{IsListed, NoneTwice}
use Rattle.roc_base.specs.declared.id.TxnId.{TxnId}
use Rattle.roc_base.specs.TxnId.{is_txn}
use Rattle.roc_depgraph.proofs.Listed.{has_listed}
use Rattle.roc_plan.specs.Groups.{Plan, outs_of}
use Rattle.roc_whole.specs.Serial as whole
use Rattle.roc_whole.specs.Serial.{serial_answers}
use Rattle.roc_law_orders.specs.Behaviour.{TxnGroup, is_txn_group, Yield}
use Rattle.roc_law_orders.specs.Runs.{first_stage, stage_behind, account_at, Account}
use Rattle.roc_law_orders.specs.Orders.{one_by_one}
use Rattle.roc_law_orders.proofs.Stages.{yielded_at}
use Rattle.roc_law_orders.proofs.SameGroups.{is_group-same}
use Rattle.roc_law_log.specs.Scheme.{Scheme}
use Rattle.roc_law_log.specs.Log.{Log, first_log}
use Rattle.roc_law_log.specs.Kept.{KeepsRan}
use Rattle.roc_law_log.specs.Invariants.{LogInvariants}
use Rattle.roc_audit.specs.declared.entry.Entry.{Entry}
use Rattle.roc_audit.specs.History.{WasSubmitted, WasAnswered}
use Rattle.roc_audit.specs.Witness.{submitted_call, submitted_calls, reply_in, serial_reply_from, IsSerialWitnessFrom}
use Rattle.roc_step.specs.State.{ServerState}
use Rattle.roc_coord.specs.State.{CoordState}
use Rattle.roc_law_protocol.specs.PlanAssumptions.{IsSchemeOf, IsWholeReplyFrom}
use Rattle.roc_law_protocol.specs.Beginnings.{Beginning, begun_server, begun_world, IsBeginning}
use Rattle.roc_law_protocol.specs.World.{World}
use Rattle.roc_law_protocol.specs.Happens.{RanAt}
use Rattle.roc_law_protocol.specs.Run.{Stepped}
use Rattle.roc_law_protocol.specs.Beside.{IsRunBeside, beside_begins, beside_goes_on}
use Rattle.roc_law_protocol.specs.Kept.{ran_in}
use Rattle.roc_law_protocol.specs.Inner.Given.{LogLaws}
use Rattle.roc_law_protocol.proofs.Means.{run_of, entry_run, RanMeans, AreRan, Ran, stage, AnswerMeans}
use Rattle.roc_law_protocol.specs.Inner.Given.{SerialLaws, StoreLaws}
use Rattle.roc_law_protocol.proofs.Firsts.{begun_means, found_at}
use Rattle.roc_law_protocol.proofs.TakenRuns.{none_taken}
use Rattle.roc_law_protocol.proofs.KeptRuns.{AreKeptIn, none_kept, are_kept_on}
use Rattle.roc_law_protocol.proofs.AcceptedSubmissions.{submissions_from}
use Rattle.roc_law_protocol.proofs.Logged.{Agrees, IsLogged, RunsOn, ordered_submitted}
use Rattle.roc_law_protocol.proofs.Worlds.{step_logged}
use Rattle.roc_law_protocol.proofs.Onward.{agrees_before}

-- ---- what ran

-- what is in a list is listed there
pub run_listed : (rs : List TxnGroup) (r : TxnGroup) → Has r rs → IsListed is_txn_group rs r
run_listed [] r h = absurd h
run_listed (q ∷ rs) r (inl e) = subst (IsListed is_txn_group (q ∷ rs)) (sym e) (listed_head is_txn_group q rs (is_group-same q))
run_listed (q ∷ rs) r (inr h) = listed_tail is_txn_group q rs r (run_listed rs r h)

pub ran_more : (steps : List Stepped) (s : Stepped) → ran_in (steps ++ s ∷ []) ≡ ran_in steps ++ s.outcome.ran
ran_more steps s = flat_map-append (λ (s : Stepped). s.outcome.ran) steps (s ∷ []) ∙ ap (λ l. ran_in steps ++ l) (append-nil s.outcome.ran)

module _ (plan : Plan) (asked : TxnId → whole.Call) (S : Scheme) (start : Beginning) (is : IsSchemeOf plan asked S) (laws : LogLaws S start.store) (stores : StoreLaws) (begins : IsBeginning plan start) where
  -- what ran goes on
  ran_on : (log later : Log) → LogInvariants S start.store log → (ran more : List RanAt) → AreRan plan asked S start log ran → RunsOn plan asked S start is laws log later more → AreRan plan asked S start later (ran ++ more)
  ran_on log later i ran more a b =
      record {
        groups = b.groups ∙ (ap (λ l. l ++ map (λ r. entry_run r.group) more) a.groups ∙ sym (map-append (λ (r : RanAt). entry_run r.group) ran more));
        each = λ r h. elim (has_append r ran more h) [ inl k ↦ kept r k | inr k ↦ b.each r k ];
      }
    where
      kept : (r : RanAt) → Has r ran → RanMeans plan asked S start later r
      kept r h =
          let m = a.each r h in
          let q = entry_run r.group in
          let listed : IsListed is_txn_group log.past.ran q = subst (λ l. IsListed is_txn_group l q) (sym a.groups) (run_listed (map (λ (r : RanAt). entry_run r.group) ran) q (has_map (λ (r : RanAt). entry_run r.group) r ran h)) in
          let began = i.ran_started q listed in
          record { on = ap (S.group_shard q) (b.grows.inputs q (i.needs_ran q began)) ∙ m.on; cells = m.cells ∙ sym (b.grows.uses q began) }

  -- the log of the world where a run begins
  pub begun_logged : (coords : ℕ) → IsLogged plan asked S start is laws (begun_world plan start coords) first_log
  begun_logged coords =
      record {
        means = begun_means plan asked S start is begins coords;
        began = λ r h. absurd (omega arith);
        starts = λ m h. absurd h;
        pending = λ n c e x h. absurd (nothing n c e x h);
        in_time = λ t u b l. absurd b;
        called = λ t h. absurd h.2;
      }
    where
      nothing : (n : ℕ) (c : CoordState) → slice_get (begun_world plan start coords).coords n ≡ Some c → (x : _) → Has x c.pending → ⊥
      nothing n c e x h = subst (λ (c : CoordState). Has x c.pending) (found_at _ 0 coords n c e) h

  pub run_logged : (coords : ℕ) (steps : List Stepped) (w : World) → IsRunBeside plan start coords steps w → Agrees asked w → (log : Log) × IsLogged plan asked S start is laws w log × AreRan plan asked S start log (ran_in steps) × AreKeptIn plan asked S start w log steps
  run_logged coords steps w beside_begins agrees = (
    first_log,
    begun_logged coords,
    record { groups = refl; each = λ r h. absurd h },
    record { taken = none_taken plan asked S start; kept = λ n s h. none_kept plan asked S start first_log n s (ap (λ (s : ServerState). s.lists.taken) (found_at (begun_server start) 0 plan.program.shards n s h)) },
  )
  run_logged coords steps w (beside_goes_on {steps = front} {w = v} e o r h) agrees =
      let before = run_logged coords front v r (agrees_before plan v (submissions_from plan start coords front v r) asked e o h agrees) in
      let now = step_logged plan asked S start is laws v before.0 (submissions_from plan start coords front v r) before.1 e o h agrees in
      let i = laws.holds before.0 before.1.means.reached in (
        now.0,
        now.1,
        subst (AreRan plan asked S start now.0) (sym (ran_more front (record { event = e; outcome = o }))) (ran_on before.0 now.0 i (ran_in front) o.ran before.2 now.2),
        are_kept_on plan asked S start is before.0 now.0 i (laws.holds now.0 now.1.means.reached) now.2.grows front (record { event = e; outcome = o }) v now.3 before.1.means.servers now.1.means.servers before.3,
      )

-- ---- replies

same_list : (xs ys : List ℤ) → length xs ≡ length ys → ((at : ℕ) → at < length xs → slice_index_or xs at (pos 0) ≡ slice_index_or ys at (pos 0)) → xs ≡ ys
same_list [] [] e h = refl
same_list [] (y ∷ ys) e h = absurd (omega arith)
same_list (x ∷ xs) [] e h = absurd (omega arith)
same_list (x ∷ xs) (y ∷ ys) e h = let first = h 0 (omega arith) in let rest = same_list xs ys (omega arith) (λ at l. h (suc at) (omega arith)) in λ i. first i ∷ rest i

pub calls_are : (asked : TxnId → whole.Call) (h : List Entry) (order : List TxnId) → ((t : TxnId) → Has t order → submitted_call t h ≡ Some (asked t)) → submitted_calls h order ≡ map asked order
calls_are asked h [] e = refl
calls_are asked h (t ∷ order) e = let a = e t (inl refl) in let b = calls_are asked h order (λ u k. e u (inr k)) in λ i. cons_option (a i) (b i)

module _ (plan : Plan) (asked : TxnId → whole.Call) (S : Scheme) (start : Beginning) (is : IsSchemeOf plan asked S) (laws : LogLaws S start.store) (serials : SerialLaws S start.store) where
  module _ (w : World) (log : Log) (o : IsLogged plan asked S start is laws w log) where
    i : LogInvariants S start.store log
    i = laws.holds log o.means.reached

    -- ---- in a list that keeps what ran

    module _ (O : List TxnId) (keeps : KeepsRan S start.store log O) where
      gave_same : (r : TxnGroup) → Ran plan asked S start log r → IsListed is_txn O r.txn → (stage_behind S.behaviour start.store (one_by_one S.behaviour O)).yielded r ≡ (stage plan asked S start log).yielded r
      unfolding account_at
      gave_same r h l =
          let once = (serials.stand O).once keeps.once in
          let in_turn = (serials.stand O).all r l (i.are_groups r (i.ran_started r h)) in
          yielded_at S.behaviour (one_by_one S.behaviour O) (first_stage start.store) r once in_turn
          ∙ (ap (λ (a : Account). a.yield) (serials.same log o.means.reached O keeps r h l)
          ∙ sym (yielded_at S.behaviour log.past.ran (first_stage start.store) r i.ran_once h))

      reply_same : (t : TxnId) (reply : List ℤ) → AnswerMeans plan asked S start log t reply → (other : List ℤ) → IsWholeReplyFrom plan start.store asked S O t other → other ≡ reply
      reply_same t reply a other x =
          same_list other reply (x.count ∙ sym a.count)
          (λ at l.
          let g = a.given at (subst (λ n. at < n) (x.count ∙ sym a.count) l) in
          let r = run_of t g.group in
          x.given g.group at (slice_index_or reply at (pos 0)) ((is.groups t g.group).0 (i.are_groups r (i.ran_started r g.ran)))
          (subst (λ (y : Yield). Has (at, slice_index_or reply at (pos 0)) (zip (outs_of plan (asked t).procedure g.group) y.outs)) (sym (gave_same r g.ran (keeps.all t a.throughout.in_order))) g.gave))

      pub ordered : (t : TxnId) → IsListed is_txn O t → IsListed is_txn w.order t
      ordered t h = subst (λ l. IsListed is_txn l t) (sym o.means.order) (keeps.from t h)

      -- each answered transaction has its reply
      pub replies : (calls : (t : TxnId) → WasSubmitted w.history t → submitted_call t w.history ≡ Some (asked t))
          → ((t : TxnId) → IsListed is_txn O t → (reply : List ℤ) × IsWholeReplyFrom plan start.store asked S O t reply)
          → (t : TxnId) (reply : List ℤ) → WasAnswered w.history t reply → serial_reply_from plan.program start.store w.history O t ≡ Some reply
      replies calls wholes t reply h =
          let a = o.means.answered t reply h in
          let x = wholes t (keeps.all t a.throughout.in_order) in
          let same = reply_same t reply a x.0 x.1 in
          let l : submitted_calls w.history O ≡ map asked O =
          calls_are asked w.history O (λ u k. calls u (ordered_submitted plan asked S start is laws w log o u (ordered u (has_listed O u k)))) in
          ap (λ cs. reply_in t (serial_answers plan.program start.store cs)) l ∙ (x.1.is ∙ ap (λ r. Some r) same)

    pub witness : (calls : (t : TxnId) → WasSubmitted w.history t → submitted_call t w.history ≡ Some (asked t))
        → ((t : TxnId) → IsListed is_txn log.order t → (reply : List ℤ) × IsWholeReplyFrom plan start.store asked S log.order t reply)
        → IsSerialWitnessFrom plan.program start.store w.history w.order
    witness calls wholes =
        record {
          once = subst (NoneTwice is_txn) (sym o.means.order) i.order.once;
          submitted = ordered_submitted plan asked S start is laws w log o;
          answered = λ t reply h. subst (λ l. IsListed is_txn l t) (sym o.means.order) (o.means.answered t reply h).throughout.in_order;
          replies = λ t reply h. subst (λ order. serial_reply_from plan.program start.store w.history order t ≡ Some reply) (sym o.means.order) (replies log.order (serials.order log o.means.reached) calls wholes t reply h);
          real_time = o.in_time;
        }
