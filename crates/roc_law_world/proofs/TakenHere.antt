-- No message is refused in a world with views
use Rattle.std.proofs.Common.{◌≡◌, ◌∙◌, ◌⊎◌, inl, inr, ℕ, ℤ, suc, ◌-◌, ◌<◌, ◌==◌, Bool, true, false, not, List, [], Option, Some, None, length, refl, sym, ap, subst, arith, is_some}
use Rattle.std.proofs.lemmas.Bool.{false≢true, eq-eqb, and_from}
use Rattle.std.proofs.lemmas.Bool.Decides.{nat_tests}
use Rattle.std.specs.Prelude.{slice_get, nat_lt, if◌then◌else◌}
use Rattle.roc_sequence.specs.Lists.{Has}
use Rattle.roc_sequence.proofs.Found.{found_has}
use Rattle.roc_base.specs.declared.id.TxnId.{TxnId}
use Rattle.roc_base.specs.declared.node.Node.{Node}
use Rattle.roc_base.specs.declared.node.Node.TheVariants.{Server, Coord}
use Rattle.roc_base.specs.declared.node.Shard.{Shard}
use Rattle.roc_base.specs.TxnId.{is_txn}
use Rattle.roc_base.specs.Equalities.{is_txn-true}
use Rattle.roc_msg.specs.declared.msg.Msg.{Msg}
use Rattle.roc_msg.specs.declared.msg.Msg.TheVariants.{Read, ReadOk}
use Rattle.roc_msg.specs.declared.msg.Envelope.{Envelope}
use Rattle.roc_msg.specs.declared.reason.Reason.{Reason}
use Rattle.roc_msg.specs.declared.reason.Reason.TheVariants.{Stale, Unfit}
use Rattle.roc_plan.specs.Groups.{Plan, procedure_of, groups_of, is_view_of, bound_of, outs_of, shard_of, group_place}
use Rattle.roc_whole.specs.Serial as whole
use Rattle.roc_step.specs.Below.{is_ended}
use Rattle.roc_step.specs.declared.handled.Handled.{Handled}
use Rattle.roc_step.specs.declared.handled.Handled.TheVariants as server_answer
use Rattle.roc_step.specs.State.{ServerState, ServerStep}
use Rattle.roc_step.specs.Reads.{read_refusal, read_judged}
use Rattle.roc_step.specs.Step as server
use Rattle.roc_readonly.specs.declared.view.Round.{Round}
use Rattle.roc_readonly.specs.declared.view.Round.TheVariants.{Waits, Ends, GoesOn}
use Rattle.roc_readonly.specs.declared.view.TakenRead.{TakenRead}
use Rattle.roc_readonly.specs.declared.view.View.{View}
use Rattle.roc_readonly.specs.Round.{find_read, read_shard, with_readok, round_of, is_fit_readok}
use Rattle.roc_coord.specs.declared.handled.Handled.{Handled as CoordHandled}
use Rattle.roc_coord.specs.declared.handled.Handled.TheVariants as coord_answer
use Rattle.roc_coord.specs.declared.transaction.Transaction.{Transaction}
use Rattle.roc_coord.specs.State.{ignored, find_transaction, find_view, CoordState}
use Rattle.roc_coord.specs.Step.{unless_refused, readok_taken, unread, after_readok, after_message}
use Rattle.roc_law_protocol.specs.declared.event.Event.TheVariants.{Deliver}
use Rattle.roc_law_protocol.specs.declared.event.Seen.{Seen}
use Rattle.roc_law_protocol.specs.declared.event.Seen.TheVariants as seen
use Rattle.roc_law_protocol.specs.Happens as theirs
use Rattle.roc_law_protocol.specs.World as transactions
use Rattle.roc_law_world.specs.World.{World, mark_delivered}
use Rattle.roc_law_world.specs.Happens.{Outcome, IsServed, IsReceived}
use Rattle.roc_law_world.specs.Beside.{is_of_view, is_of_transaction, number_among}
use Rattle.roc_law_world.proofs.Besides.{Holds}
use Rattle.roc_law_world.proofs.Coordinators.{IsCoordSound, pending_no_view}
use Rattle.roc_law_world.proofs.ReadsFit.{IsReadAt, IsOkOf, MessageFits, ViewFits, ReadsFit}
use Rattle.roc_law_world.proofs.ReadsFitRuns.{Numbers}
use Rattle.roc_law_world.proofs.Sent.{found_beside}
use Rattle.roc_law_world.proofs.ViewMeans.{proc_of, args_of, is_view_id}

-- ---- a message of transactions

pub one_less : (n : ℕ) → suc n - 1 ≡ n
one_less n = omega arith

-- the same is seen where it comes beside
pub record IsSeenBeside (plan : Plan) (t : transactions.World) (k : ℕ) (m : Envelope) (what : Seen) : Type 0 where
  pub found : slice_get t.sent (k - 1) ≡ Some m
  pub outcome : theirs.Outcome
  pub happens : theirs.Happens plan t (Deliver k) outcome
  pub same : outcome.seen ≡ what

module _ (plan : Plan) (is_view : TxnId → Bool) (w : World) (t : transactions.World) (h : Holds plan is_view w t)
    (j : ℕ) (m : Envelope) (at : slice_get w.sent j ≡ Some m) (of : is_of_transaction m ≡ true) where
  abbrev other : transactions.World
  other = transactions.mark_delivered t (suc (number_among w.sent j))

  there : slice_get t.sent (suc (number_among w.sent j) - 1) ≡ Some m
  there = subst (λ k. slice_get t.sent k ≡ Some m) (sym (one_less (number_among w.sent j))) (found_beside is_view w t h.beside j m at of)

  pub seen_beside : (o : Outcome) → IsReceived plan (mark_delivered w (suc j)) m.msg m.to o → IsSeenBeside plan t (suc (number_among w.sent j)) m o.seen
  seen_beside o g = go m.to refl g
    where
      go : (to : Node) → m.to ≡ to → IsReceived plan (mark_delivered w (suc j)) m.msg to o → IsSeenBeside plan t (suc (number_among w.sent j)) m o.seen
      go (Server shard) to g =
          record {
            found = there;
            outcome = theirs.served other shard.0 g.step;
            happens = (
              m,
              omega arith,
              there,
              subst (λ (to : Node). theirs.IsReceived plan other m.msg to (theirs.served other shard.0 g.step)) (sym to)
                  (g.state, g.step, subst (λ l. slice_get l shard.0 ≡ Some g.state) (sym h.beside.servers) g.there, g.handles, refl),
            );
            same = sym (ap (λ (o : Outcome). o.seen) g.is);
          }
      go (Coord n) to (s, found, is) =
          record {
            found = there;
            outcome = theirs.coordinated other n (after_message plan s m.msg);
            happens = (
              m,
              omega arith,
              there,
              subst (λ (to : Node). theirs.IsReceived plan other m.msg to (theirs.coordinated other n (after_message plan s m.msg))) (sym to)
                  (s, subst (λ l. slice_get l n ≡ Some s) (sym h.beside.coords) found, refl),
            );
            same = sym (ap (λ (o : Outcome). o.seen) is);
          }

-- ---- a read at a server

abbrev pub IsTakenSo : Seen → Type 0
IsTakenSo what = (what ≡ seen.Done) ⊎ (what ≡ seen.Gone)

abbrev IsTakenOrGone : Option Handled → Type 0
IsTakenOrGone why = (why ≡ None) ⊎ (why ≡ Some server_answer.Gone)

module _ (plan : Plan) (calls : TxnId → whole.Call) where
  read_taken : (s : ServerState) (id : TxnId) (round proc group : ℕ) (args : List ℤ) → IsReadAt plan calls id proc group args s.shard.0
      → IsTakenOrGone (read_refusal plan s (record { id = id; round = round; proc = proc; group = group; args = args }))
  read_taken s id round proc group args f = go (is_ended s.below id) refl
    where
      view : is_view_of plan proc ≡ true
      view = f.view

      group_there : nat_lt group (length (groups_of plan proc)) ≡ true
      group_there = let l = f.group_is in grind (arith, nat_tests)

      counts : (length args == (procedure_of plan proc).arguments) ≡ true
      counts = eq-eqb (length args) (procedure_of plan proc).arguments f.counted

      here : (shard_of plan (group_place plan proc group args []) == s.shard.0) ≡ true
      here = eq-eqb (shard_of plan (group_place plan proc group args [])) s.shard.0 f.here

      go : (b : Bool) → is_ended s.below id ≡ b → IsTakenOrGone (read_refusal plan s (record { id = id; round = round; proc = proc; group = group; args = args }))
      go true e = inr (rw e refl)
      go false e = inl (rw (e, view, group_there, counts, here) refl)

  pub view_served : (w : World) (o : ReadsFit plan calls w) (numbers : Numbers plan calls w) (k : ℕ) (m : Envelope)
      → MessageFits plan calls m.msg m.to → is_of_view m.msg ≡ true → (n : ℕ) → m.to ≡ Server (record { 0 = n })
      → (u : Outcome) → IsServed plan (mark_delivered w k) m.msg n u → IsTakenSo u.seen
  view_served w o numbers k m fits view n to u x =
      subst IsTakenSo (sym (ap (λ (u : Outcome). u.seen) x.is ∙ ap (λ (r : ServerStep). theirs.server_seen r.answer) x.handles.is)) (go m.msg fits view)
    where
      done : (r : Option Handled) → IsTakenOrGone r → IsTakenSo (theirs.server_seen (read_judged x.state r).answer)
      done None e = inl refl
      done (Some answer) (inl e) = absurd (cc)
      done (Some answer) (inr e) = inr (ap theirs.server_seen (just e))
        where
          just : {a : Handled} → Some a ≡ Some server_answer.Gone → a ≡ server_answer.Gone
          just e = cc

      the_shard : (a b : Shard) → Server a ≡ Server b → a ≡ b
      the_shard a b e = cc

      no_server : (c : ℕ) → m.to ≡ Coord c → ⊥
      no_server c e = let f = to in cc

      go : (msg : Msg) → MessageFits plan calls msg m.to → is_of_view msg ≡ true → IsTakenSo (theirs.server_seen (server.after_message plan x.state x.handles.findings msg).answer)
      go (Read id round proc group args) f e =
          let same : f.0 ≡ n = ap (λ (s : Shard). s.0) (the_shard (record { 0 = f.0 }) (record { 0 = n }) (sym f.1 ∙ to)) in
          let number : x.state.shard.0 ≡ n = numbers n x.state x.there in
          done (read_refusal plan x.state (record { id = id; round = round; proc = proc; group = group; args = args }))
          (read_taken x.state id round proc group args (subst (IsReadAt plan calls id proc group args) (same ∙ sym number) f.2))
      go (ReadOk id round group shard versions outs) f e = absurd (no_server id.coord f.0)
      go msg f e = absurd (false≢true e)

  -- ---- a readok at a coordinator

  -- only a stale message is ignored
  abbrev StaleAlone : CoordHandled → Type 0
  StaleAlone a = (why : Reason) → a ≡ coord_answer.Ignored why → why ≡ Stale

  module _ (s : CoordState) (sound : IsCoordSound (is_view_id plan calls) s) (all : (v : View) → Has v s.views → ViewFits plan calls v) (id : TxnId) (round : ℕ) (ok : TakenRead) (shard : Shard)
      (fits : IsOkOf plan calls id ok.group shard ok.versions ok.outs)
    where
      stale : StaleAlone (coord_answer.Ignored Stale)
      stale why e = the_reason e
        where
          the_reason : coord_answer.Ignored Stale ≡ coord_answer.Ignored why → why ≡ Stale
          the_reason e = cc

      -- no transaction has the id
      none_waits : (x : Option Transaction) → find_transaction id s.pending ≡ x → StaleAlone (ignored s (unread x)).answer
      none_waits None e = stale
      none_waits (Some x) e =
          let f = found_has (λ (y : Transaction). is_txn y.id id) s.pending x e in
          absurd (false≢true (sym (pending_no_view (is_view_id plan calls) s sound x f.0) ∙ (ap (is_view_id plan calls) (is_txn-true x.id id f.1) ∙ fits.view)))

      taken : (v : View) (b : Round) → StaleAlone (readok_taken plan s v b).answer
      taken v Waits why e = absurd (cc)
      taken v GoesOn why e = absurd (cc)
      taken v (Ends reply) why e = absurd (cc)

      is_fit : (v : View) → v.id ≡ id → ViewFits plan calls v → is_fit_readok plan v ok shard ≡ true
      is_fit v same f =
          let proc : v.proc ≡ proc_of plan calls id = f.procedure ∙ ap (proc_of plan calls) same in
          let args : v.args ≡ args_of plan calls id = f.arguments ∙ ap (args_of plan calls) same in
          let there : ok.group < length (groups_of plan v.proc) = subst (λ p. ok.group < length (groups_of plan p)) (sym proc) fits.group_is in
          let group : nat_lt ok.group (length (groups_of plan v.proc)) ≡ true = grind (arith, nat_tests) in
          let here : (read_shard plan v ok.group).0 ≡ shard.0 = (λ i. shard_of plan (group_place plan (proc i) ok.group (args i) [])) ∙ fits.here in
          let versions : length ok.versions ≡ length (bound_of plan v.proc ok.group) = fits.versions_counted ∙ ap (λ p. length (bound_of plan p ok.group)) (sym proc) in
          let outs : length ok.outs ≡ length (outs_of plan v.proc ok.group) = fits.outs_counted ∙ ap (λ p. length (outs_of plan p ok.group)) (sym proc) in
          and_from (nat_lt ok.group (length (groups_of plan v.proc))) _ group
          (and_from ((read_shard plan v ok.group).0 == shard.0) _ (eq-eqb (read_shard plan v ok.group).0 shard.0 here)
          (and_from (length ok.versions == length (bound_of plan v.proc ok.group)) (length ok.outs == length (outs_of plan v.proc ok.group))
          (eq-eqb (length ok.versions) (length (bound_of plan v.proc ok.group)) versions) (eq-eqb (length ok.outs) (length (outs_of plan v.proc ok.group)) outs)))

      readok_ignored : (x : Option View) → find_view id s.views ≡ x → StaleAlone (after_readok plan s id x round ok shard).answer
      readok_ignored None e = none_waits (find_transaction id s.pending) refl
      readok_ignored (Some v) e =
          let f = found_has (λ (y : View). is_txn y.id id) s.views v e in
          current (round == v.round) (is_some (find_read ok.group v.got)) (is_fit_readok plan v ok shard) (is_fit v (is_txn-true v.id id f.1) (all v f.0))
        where
          current : (a b c : Bool) → c ≡ true
              → StaleAlone (unless_refused s (if not a then Some Stale else if b then Some Stale else if not c then Some Unfit else None)
              (readok_taken plan s (with_readok v ok) (round_of plan (with_readok v ok)))).answer
          current false b c f = stale
          current true true c f = stale
          current true false true f = taken (with_readok v ok) (round_of plan (with_readok v ok))
          current true false false f = absurd (false≢true f)

  -- of a message of views
  pub view_ignored : (s : CoordState) (sound : IsCoordSound (is_view_id plan calls) s) (all : (v : View) → Has v s.views → ViewFits plan calls v)
      (n : ℕ) (msg : Msg) (to : Node) → to ≡ Coord n → MessageFits plan calls msg to → is_of_view msg ≡ true
      → (why : Reason) → theirs.coord_seen (after_message plan s msg).answer ≡ seen.Ignored why → why ≡ Stale
  view_ignored s sound all n (ReadOk id round group shard versions outs) to is_to f view why e =
      readok_ignored s sound all id round (record { group = group; versions = versions; outs = outs }) shard f.1 (find_view id s.views) refl why (was_ignored _ e)
    where
      was_ignored : (a : CoordHandled) → theirs.coord_seen a ≡ seen.Ignored why → a ≡ coord_answer.Ignored why
      was_ignored coord_answer.Done e = absurd (cc)
      was_ignored (coord_answer.Answered id reply) e = absurd (cc)
      was_ignored (coord_answer.Ignored reason) e = let same : reason ≡ why = cc in ap coord_answer.Ignored same
  view_ignored s sound all n (Read id round proc group args) to is_to f view why e = absurd (let g = f.1 in let h = is_to in apart g h)
    where
      apart : to ≡ Server (record { 0 = f.0 }) → to ≡ Coord n → ⊥
      apart g h = cc
  view_ignored s sound all n msg to is_to f view why e = absurd (false≢true view)
