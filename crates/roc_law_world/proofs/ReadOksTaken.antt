-- A coordinator takes a readok: its round waits, or the next begins, or the view is answered
use Rattle.std.proofs.Common.{◌≡◌, ◌≢◌, ◌∙◌, ◌⊎◌, inl, inr, ℕ, ℤ, ◌<◌, ◌==◌, true, false, not, List, [], ◌∷◌, ◌++◌, Option, Some, None, map, length, take, refl, sym, ap, subst, arith, append-nil}
use Rattle.std.proofs.lemmas.Bool.{false≢true, cases_eq, eqb-true, not-true, and_parts}
use Rattle.std.proofs.lemmas.List.{length-append, take-append-le}
use Rattle.std.specs.Prelude.{slice_get, slice_set, flat_map, nat_eq}
use Rattle.std.specs.Cmp.Lexicographic.{pointwise}
use Rattle.std.specs.List.{list_any, range_with_len}
use Rattle.roc_sequence.specs.Lists.{Has}
use Rattle.roc_sequence.proofs.Holds.{every_has}
use Rattle.roc_sequence.proofs.Members.{has_append, has_left, has_one, has_more, from_has_map, from_has_filter}
use Rattle.roc_sequence.proofs.Found.{found_has}
use Rattle.roc_base.specs.declared.id.TxnId.{TxnId}
use Rattle.roc_base.specs.declared.node.Node.TheVariants.{Coord}
use Rattle.roc_base.specs.declared.node.Shard.{Shard}
use Rattle.roc_base.specs.TxnId.{is_txn}
use Rattle.roc_base.specs.Equalities.{is_txn-same}
use Rattle.roc_msg.specs.declared.msg.Msg.TheVariants.{ReadOk}
use Rattle.roc_msg.specs.declared.msg.Envelope.{Envelope}
use Rattle.roc_msg.specs.declared.outbox.Outgoing.{Outgoing}
use Rattle.roc_rows.specs.Versions.{Counts}
use Rattle.roc_plan.specs.Groups.{Plan, groups_of}
use Rattle.roc_whole.specs.Serial as whole
use Rattle.roc_group.specs.GroupRun.{call, group_run}
use Rattle.roc_law_orders.specs.Runs.{stage_behind}
use Rattle.roc_law_orders.specs.Orders.{one_by_one}
use Rattle.roc_law_log.specs.Scheme.{Scheme, IsSoundScheme}
use Rattle.roc_law_log.specs.Log.{Log}
use Rattle.roc_law_log.specs.Steps.{LogSteps, no_steps}
use Rattle.roc_law_log.specs.Invariants.{LogInvariants, LogGrows}
use Rattle.roc_law_log.proofs.Following.{AreFound}
use Rattle.roc_readonly.specs.declared.view.TakenRead.{TakenRead}
use Rattle.roc_readonly.specs.declared.view.View.{View}
use Rattle.roc_readonly.specs.Round.{view_groups, find_read, reads_of, is_same_reading, is_steady, next_round, outs_in, view_reply, with_readok, most_writes}
use Rattle.roc_coord.specs.State.{with_view, CoordState}
use Rattle.roc_coord.specs.Step.{without_view}
use Rattle.roc_audit.specs.declared.entry.Entry.TheVariants.{Submitted, Answered}
use Rattle.roc_audit.specs.History.{WasSubmitted}
use Rattle.roc_audit.specs.Woven.{Look}
use Rattle.roc_law_protocol.specs.PlanAssumptions.{IsSchemeOf}
use Rattle.roc_law_protocol.specs.Beginnings as protocol
use Rattle.roc_law_protocol.specs.World.{sent_by}
use Rattle.roc_law_world.specs.World.{World, looks_in, at_coord}
use Rattle.roc_law_world.specs.Beside.{is_of_view}
use Rattle.roc_law_world.proofs.Sent.{AreOfTransactions}
use Rattle.roc_law_world.proofs.Readings.{ViewLaws, AreSteady, IsReading, steady_reading}
use Rattle.roc_law_world.proofs.ViewMeans.{IsLastLook, proc_of, args_of, IsReadBetween, IsViewKept, IsViewAnswered, reply_behind, ViewsMean}
use Rattle.roc_law_world.proofs.ViewsStay.{kept_on, answered_on, rounds_on, for_on, of_transactions_for, no_read, no_ok}
use Rattle.roc_law_world.proofs.RoundReads.{no_looks, one_look, IsReadOf, reads_are, group_there, read_id, read_no_ok}
use Rattle.roc_law_world.proofs.ViewRounds.{found_one, number, view_replaced}
use Rattle.roc_law_protocol.proofs.Changed.{get-set_here, get-set_other, get-set_cases}
use Rattle.roc_law_protocol.proofs.Grows.{flat_map_same}

module _ (plan : Plan) (calls : TxnId → whole.Call) (asked : TxnId → whole.Call) (S : Scheme) (start : protocol.Beginning) (before : ℕ → Counts) where
  abbrev Mean : World → Log → Type 0
  Mean w log = ViewsMean plan calls asked S start before w log

  abbrev Kept : World → Log → View → Type 0
  Kept w log v = IsViewKept plan calls asked S start before w log v

  module _ (w : World) (log : Log) (m : Mean w log) (order : w.order ≡ log.order) (inv : LogInvariants S start.store log) (n : ℕ) (s : CoordState) (there : slice_get w.coords n ≡ Some s) where
    -- ---- a readok is taken

    module _ (v : View) (has : Has v s.views) (e : Envelope) (stands : Has e w.sent) (group : ℕ) (shard : Shard) (vs : List ℕ) (outs : List ℤ) (is : e.msg ≡ ReadOk v.id v.round group shard vs outs) where
      abbrev ok : TakenRead
      ok = record { group = group; versions = vs; outs = outs }

      abbrev k : Kept w log v
      k = m.views n s there v has

      -- it was read since the round began
      read_now : IsReadBetween plan calls asked S start before (m.views n s there v has).since log v.id group vs outs
      read_now = ((m.views n s there v has).rounds.oks e stands v.round group shard vs outs is).1 refl

      got_then : (x : TakenRead) → Has x (with_readok v ok).got → IsReadBetween plan calls asked S start before (m.views n s there v has).since log v.id x.group x.versions x.outs
      got_then x h = elim (has_more x ok v.got h) [
        | inl j ↦ (m.views n s there v has).got x j
        | inr j ↦ subst (λ (x : TakenRead). IsReadBetween plan calls asked S start before (m.views n s there v has).since log v.id x.group x.versions x.outs) (sym j) read_now
      ]

      -- the round goes on
      pub readok_waits : Mean (at_coord w n (with_view s (with_readok v (record { group = group; versions = vs; outs = outs }))) [] []) log
      readok_waits =
          view_replaced plan calls asked S start before w log m order inv n s there v (with_readok v ok) has refl [] (λ e h. absurd h) (λ l h. absurd h)
          (record {
            since = (m.views n s there v has).since;
            reached = (m.views n s there v has).reached;
            grows = (m.views n s there v has).grows;
            last_look = subst (λ l. IsLastLook l v.id (length (m.views n s there v has).since.order)) (sym (append-nil w.looks)) (m.views n s there v has).last_look;
            submitted = ((m.views n s there v has).submitted.0, (m.views n s there v has).submitted.1, has_left (Submitted v.id (m.views n s there v has).submitted.0 (m.views n s there v has).submitted.1) w.history [] (m.views n s there v has).submitted.2);
            unanswered = λ reply h. (m.views n s there v has).unanswered reply (subst (λ h. Has (Answered v.id reply) h) (append-nil w.history) h);
            view = (m.views n s there v has).view;
            procedure = (m.views n s there v has).procedure;
            arguments = (m.views n s there v has).arguments;
            rounds = rounds_on plan calls asked S start before w (at_coord w n (with_view s (with_readok v ok)) [] []) log log no_steps v.id v.round (m.views n s there v has).since [] refl
                (λ e h. absurd h) (λ e h. absurd h) (m.views n s there v has).rounds.kept (m.views n s there v has).rounds;
            got = got_then;
            last = (m.views n s there v has).last;
          })

      -- the next round begins
      pub readok_goes_on : 0 < length (groups_of plan v.proc)
          → Mean (at_coord w n (with_view s (next_round (with_readok v (record { group = group; versions = vs; outs = outs })))) (reads_of plan (next_round (with_readok v (record { group = group; versions = vs; outs = outs })))) []) log
      readok_goes_on some =
          view_replaced plan calls asked S start before w log m order inv n s there v (next_round (with_readok v ok)) has refl (reads_of plan (next_round (with_readok v ok)))
          (λ e h. inr (sent_read e h)) (λ l h. ap (λ (l : Look). l.id) (has_one l (record { id = v.id; behind = length w.order }) (subst (λ ls. Has l ls) looks h)))
          (record {
            since = log;
            reached = inv;
            grows = no_steps;
            last_look = record { front = w.looks; back = []; is = ap (λ l. w.looks ++ l) looks ∙ ap (λ l. w.looks ++ record { id = v.id; behind = length l } ∷ []) order; none = λ l h. absurd h };
            submitted = (kv.submitted.0, kv.submitted.1, has_left (Submitted v.id kv.submitted.0 kv.submitted.1) w.history [] kv.submitted.2);
            unanswered = λ reply h. kv.unanswered reply (subst (λ h. Has (Answered v.id reply) h) (append-nil w.history) h);
            view = kv.view;
            procedure = kv.procedure;
            arguments = kv.arguments;
            rounds = record {
              reads = λ e h r p g l f. elim (has_append e w.sent (map (sent_by (Coord n)) (reads_of plan (next_round (with_readok v ok)))) h) [
                | inl j ↦ (let z = kv.rounds.reads e j r p g l f in omega arith)
                | inr j ↦ (let z = (read_id plan calls asked S start before (next_round (with_readok v ok)) e (sent_read e j) v.id r p g l f).1 in omega arith)
              ];
              kept = λ k z at q h same. let l = kv.rounds.kept k z at q h same in omega arith;
              oks = λ e h r g shard vs outs f. elim (has_append e w.sent (map (sent_by (Coord n)) (reads_of plan (next_round (with_readok v ok)))) h) [
                | inl j ↦ (let z = (kv.rounds.oks e j r g shard vs outs f).0 in (omega arith, λ same. absurd (omega arith)))
                | inr j ↦ absurd (read_no_ok plan calls asked S start before (next_round (with_readok v ok)) e (sent_read e j) v.id r g shard vs outs f)
              ];
            };
            got = λ x h. absurd h;
            last = λ x h. let b = got_then x h in record { log = b.log; until = b.until; reading = b.reading };
          })
        where
          kv : Kept w log v
          kv = m.views n s there v has

          looks : looks_in (length w.order) (reads_of plan (next_round (with_readok v ok))) ≡ record { id = v.id; behind = length w.order } ∷ []
          looks = one_look plan (next_round (with_readok v ok)) (length w.order) some

          sent_read : (e : Envelope) → Has e (map (sent_by (Coord n)) (reads_of plan (next_round (with_readok v ok)))) → IsReadOf plan (next_round (with_readok v ok)) e
          sent_read e h = reads_are plan (next_round (with_readok v ok)) (Coord n) (view_groups plan (next_round (with_readok v ok))) (group_there plan (next_round (with_readok v ok))) e h

      -- the round found what the one before found, and the view is answered

      module _ (is_scheme : IsSchemeOf plan asked S) (sound : IsSoundScheme S) (found : AreFound S start.store) (laws : ViewLaws plan) (steady : AreSteady S start.store)
          (grow : (a b : Log) → LogInvariants S start.store a → LogSteps S start.store a b → LogGrows S start.store a b) (found_same : is_steady plan (with_readok v (record { group = group; versions = vs; outs = outs })) ≡ true)
          (sends : List Outgoing) (ours : AreOfTransactions sends) where
        abbrev taken : View
        taken = with_readok v ok

        abbrev reply : List ℤ
        reply = view_reply plan (with_readok v ok)

        abbrev since : Log
        since = (m.views n s there v has).since

        -- what a group read in both rounds
        one_reading : (g : ℕ) → Has g (view_groups plan (with_readok v ok))
            → outs_in (find_read g (with_readok v ok).got) ≡ (group_run plan (call (proc_of plan calls v.id) g (args_of plan calls v.id) []) (stage_behind S.behaviour start.store (one_by_one S.behaviour (m.views n s there v has).since.order)).store).reply
        one_reading g h =
            go (find_read g v.last) refl (find_read g (with_readok v ok).got) refl
            (every_has (λ g. is_same_reading (find_read g (with_readok v ok).last) (find_read g (with_readok v ok).got)) (view_groups plan (with_readok v ok)) found_same g h)
          where
            alike : (xs ys : List ℕ) → pointwise nat_eq xs ys ≡ true → xs ≡ ys
            alike [] [] e = refl
            alike [] (y ∷ ys) e = absurd (false≢true e)
            alike (x ∷ xs) [] e = absurd (false≢true e)
            alike (x ∷ xs) (y ∷ ys) e = let p = and_parts (nat_eq x y) (pointwise nat_eq xs ys) e in ap (λ z. z ∷ xs) (eqb-true x y p.0) ∙ ap (λ l. y ∷ l) (alike xs ys p.1)

            go : (a : Option TakenRead) → find_read g v.last ≡ a → (b : Option TakenRead) → find_read g (with_readok v ok).got ≡ b → is_same_reading a b ≡ true
                → outs_in b ≡ (group_run plan (call (proc_of plan calls v.id) g (args_of plan calls v.id) []) (stage_behind S.behaviour start.store (one_by_one S.behaviour (m.views n s there v has).since.order)).store).reply
            go (Some a) ea (Some b) eb e =
                let p = and_parts (pointwise nat_eq a.versions b.versions) (not (list_any (λ n. n == most_writes) b.versions)) e in
                let same : a.versions ≡ b.versions = alike a.versions b.versions p.0 in
                let fa = found_has (λ (ok : TakenRead). ok.group == g) v.last a ea in
                let fb = found_has (λ (ok : TakenRead). ok.group == g) (with_readok v ok).got b eb in
                let ga : a.group ≡ g = eqb-true a.group g fa.1 in
                let gb : b.group ≡ g = eqb-true b.group g fb.1 in
                let ra = (m.views n s there v has).last a fa.0 in
                let rb = got_then b fb.0 in
                steady_reading plan asked S start before is_scheme sound found laws steady ra.log (m.views n s there v has).since rb.log (proc_of plan calls v.id) g (args_of plan calls v.id) b.versions a.outs b.outs
                (m.views n s there v has).view
                (subst (λ l. IsReading plan asked S start before ra.log (proc_of plan calls v.id) g (args_of plan calls v.id) l a.outs) same (subst (λ c. IsReading plan asked S start before ra.log (proc_of plan calls v.id) c (args_of plan calls v.id) a.versions a.outs) ga ra.reading))
                (subst (λ c. IsReading plan asked S start before rb.log (proc_of plan calls v.id) c (args_of plan calls v.id) b.versions b.outs) gb rb.reading)
                ra.until rb.since (not-true (list_any (λ n. n == most_writes) b.versions) p.1)
            go (Some a) ea None eb e = absurd (false≢true e)
            go None ea b eb e = absurd (false≢true e)

        -- so the reply is that behind the order as it was when the round began
        reads_behind : view_reply plan (with_readok v ok) ≡ reply_behind plan calls asked S start before (m.views n s there v has).since.order v.id
        reads_behind =
            flat_map_same (λ g. outs_in (find_read g (with_readok v ok).got)) _ (view_groups plan (with_readok v ok)) one_reading
            ∙ ap (λ p. flat_map (λ g. (group_run plan (call (proc_of plan calls v.id) g (args_of plan calls v.id) []) (stage_behind S.behaviour start.store (one_by_one S.behaviour (m.views n s there v has).since.order)).store).reply) (range_with_len 0 (length (groups_of plan p)))) (m.views n s there v has).procedure

        abbrev ended : World
        ended = at_coord w n (without_view s v.id) sends (Answered v.id (view_reply plan (with_readok v ok)) ∷ [])

        same_looks : w.looks ++ looks_in (length w.order) sends ≡ w.looks ++ []
        same_looks = ap (λ l. w.looks ++ l) (no_looks (length w.order) sends ours)

        are_transactions : (e : Envelope) → Has e (map (sent_by (Coord n)) sends) → is_of_view e.msg ≡ false
        are_transactions e h = let p = from_has_map (sent_by (Coord n)) e sends h in ap (λ (e : Envelope). is_of_view e.msg) p.2 ∙ ours p.0 p.1

        front_of : (xs ys rest : List TxnId) → ys ≡ xs ++ rest → take (length xs) ys ≡ xs
        front_of xs ys rest e = ap (take (length xs)) e ∙ (take-append-le (length xs) xs rest (omega arith) ∙ take_all xs)
          where
            take_all : (xs : List TxnId) → take (length xs) xs ≡ xs
            take_all [] = refl
            take_all (x ∷ xs) = ap (λ l. x ∷ l) (take_all xs)

        answered_now : IsViewAnswered plan calls asked S start before (at_coord w n (without_view s v.id) sends (Answered v.id (view_reply plan (with_readok v ok)) ∷ [])) v.id (view_reply plan (with_readok v ok))
        answered_now =
            let g = (grow (m.views n s there v has).since log (m.views n s there v has).reached (m.views n s there v has).grows).order in
            record {
              behind = length (m.views n s there v has).since.order;
              last_look = subst (λ l. IsLastLook l v.id (length (m.views n s there v has).since.order)) (sym (same_looks ∙ append-nil w.looks)) (m.views n s there v has).last_look;
              few = (let l = length-append (m.views n s there v has).since.order g.0 in let e = ap (λ (l : List TxnId). length l) (order ∙ g.1) in omega arith);
              is = reads_behind ∙ ap (λ l. reply_behind plan calls asked S start before l v.id) (sym (front_of (m.views n s there v has).since.order w.order g.0 (order ∙ g.1)));
            }

        left_views : (k : ℕ) (c : CoordState) → slice_get (slice_set w.coords n (without_view s v.id)) k ≡ Some c → (x : View) → Has x c.views → (b : CoordState) × (slice_get w.coords k ≡ Some b) × Has x b.views × (x.id ≢ v.id)
        left_views k c at x h = elim (get-set_cases w.coords n k s (without_view s v.id) c there at) [
          | inl e ↦
              (let f = from_has_filter (λ (u : View). not (is_txn u.id v.id)) x s.views (subst (λ (c : CoordState). Has x c.views) e.1 h) in
              (s, subst (λ k. slice_get w.coords k ≡ Some s) e.0 there, f.0, λ d. false≢true (sym (ap (λ t. not (is_txn t v.id)) d ∙ ap not (is_txn-same v.id)) ∙ f.1)))
          | inr e ↦ (c, e.1, h, λ d. e.0 (sym (m.own n s there v has) ∙ (ap (λ (t : TxnId). t.coord) (sym d) ∙ m.own k c e.1 x h)))
        ]

        answers_it : (id : TxnId) (gave : List ℤ) → Has (Answered id gave) (Answered v.id (view_reply plan (with_readok v ok)) ∷ []) → (id ≡ v.id) × (gave ≡ view_reply plan (with_readok v ok))
        answers_it id gave h = parts id v.id gave (view_reply plan (with_readok v ok)) (has_one (Answered id gave) (Answered v.id (view_reply plan (with_readok v ok))) h)
          where
            parts : (a b : TxnId) (x y : List ℤ) → Answered a x ≡ Answered b y → (a ≡ b) × (x ≡ y)
            parts a b x y e = (cc, cc)

        not_submitted : (t : TxnId) (p : ℕ) (a : List ℤ) → ¬ Has (Submitted t p a) (Answered v.id (view_reply plan (with_readok v ok)) ∷ [])
        not_submitted t p a (inl e) = apart e
          where
            apart : Submitted t p a ≢ Answered v.id (view_reply plan (with_readok v ok))
            apart e = cc
        not_submitted t p a (inr h) = h

        pub readok_ends : Mean (at_coord w n (without_view s v.id) sends (Answered v.id (view_reply plan (with_readok v (record { group = group; versions = vs; outs = outs }))) ∷ [])) log
        readok_ends =
            record {
              versions = m.versions;
              are_for = for_on plan calls asked S start before w ended log log no_steps (Answered v.id reply ∷ []) refl (map (sent_by (Coord n)) sends) refl
                  (λ e h. of_transactions_for plan calls asked S start before (w.history ++ Answered v.id reply ∷ []) e.msg e.to (are_transactions e h)) m.are_for.kept m.are_for;
              views = λ k c at x h. let b = left_views k c at x h in
                  kept_on plan calls asked S start before w ended log log no_steps x [] same_looks (λ l h. absurd h) (Answered v.id reply ∷ []) refl (λ gave h. b.3 (answers_it x.id gave h).0)
                  (λ since from rounds. rounds_on plan calls asked S start before w ended log log no_steps x.id x.round since (map (sent_by (Coord n)) sends) refl
                  (λ e j r p g l f. absurd (no_read plan calls asked S start before e.msg (are_transactions e j) x.id r p g l f))
                  (λ e j r g shard vs outs f. absurd (no_ok plan calls asked S start before e.msg (are_transactions e j) x.id r g shard vs outs f))
                  rounds.kept rounds)
                  (m.views k b.0 b.1 x b.2);
              answered = λ id gave view h. elim (has_append (Answered id gave) w.history (Answered v.id reply ∷ []) h) [
                | inl k ↦ answered_on plan calls asked S start before w ended log log no_steps id gave [] same_looks (λ l h. absurd h) [] (sym (append-nil w.order)) (m.answered id gave view k)
                | inr k ↦ (let p = answers_it id gave k in subst (λ t. IsViewAnswered plan calls asked S start before ended t gave) (sym p.0) (subst (λ l. IsViewAnswered plan calls asked S start before ended v.id l) (sym p.1) answered_now))
              ];
              given = λ t h. given_left t (t_submitted t h) (cases_eq n t.coord);
              numbers = λ k c at. elim (get-set_cases w.coords n k s (without_view s v.id) c there at) [
                | inl e ↦ ap (λ (c : CoordState). c.number) e.1 ∙ (number plan calls asked S start before w log m order inv n s there ∙ e.0)
                | inr e ↦ m.numbers k c e.1
              ];
              told = λ t gave h. later_submitted t (elim (has_append (Answered t gave) w.history (Answered v.id reply ∷ []) h) [
                | inl k ↦ m.told t gave k
                | inr k ↦ subst (WasSubmitted w.history) (sym (answers_it t gave k).0) (m.views n s there v has).submitted
              ]);
              own = λ k c at x h. let b = left_views k c at x h in m.own k b.0 b.1 x b.2;
              one = λ k c at x z h i same. let b = left_views k c at x h in let d = left_views k c at z i in
                  m.one k b.0 b.1 x z b.2 (subst (λ (c : CoordState). Has z c.views) (found_one plan calls asked S start before w log m order inv n s there d.0 b.0 (sym d.1 ∙ b.1)) d.2) same;
            }
          where
            later_submitted : (t : TxnId) → WasSubmitted w.history t → WasSubmitted (w.history ++ Answered v.id reply ∷ []) t
            later_submitted t k = (k.0, k.1, has_left (Submitted t k.0 k.1) w.history (Answered v.id reply ∷ []) k.2)

            t_submitted : (t : TxnId) → WasSubmitted (w.history ++ Answered v.id reply ∷ []) t → WasSubmitted w.history t
            t_submitted t h = elim (has_append (Submitted t h.0 h.1) w.history (Answered v.id reply ∷ []) h.2) [ inl k ↦ (h.0, h.1, k) | inr k ↦ absurd (not_submitted t h.0 h.1 k) ]

            given_left : (t : TxnId) → WasSubmitted w.history t → (n ≡ t.coord) ⊎ (n ≢ t.coord)
                → (c : CoordState) × (slice_get (slice_set w.coords n (without_view s v.id)) t.coord ≡ Some c) × (c.number ≡ t.coord) × (t.seq < c.next)
            given_left t h (inl e) =
                let g = m.given t h in
                let same : g.0 ≡ s = found_one plan calls asked S start before w log m order inv n s there g.0 s (sym (subst (λ k. slice_get w.coords k ≡ Some g.0) (sym e) g.1) ∙ there) in
                (without_view s v.id, subst (λ k. slice_get (slice_set w.coords n (without_view s v.id)) k ≡ Some (without_view s v.id)) e (get-set_here w.coords n s (without_view s v.id) there), number plan calls asked S start before w log m order inv n s there ∙ e, subst (λ (c : CoordState). t.seq < c.next) same g.3)
            given_left t h (inr o) = let g = m.given t h in (g.0, get-set_other w.coords n t.coord (without_view s v.id) o ∙ g.1, g.2, g.3)
