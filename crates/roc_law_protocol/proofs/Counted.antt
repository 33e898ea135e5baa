-- What a coordinator keeps is what the history tells of it
use Rattle.std.proofs.Common.{◌≡◌, ◌≢◌, ℕ, ℤ, ◌+◌, ◌-◌, ◌<◌, ◌≤◌, ◌==◌, Bool, false, not, List, [], ◌∷◌, ◌++◌, Option, Some, None, length, refl, sym, ap, subst, ◌∙◌, inl, inr, arith, append-nil}
use Rattle.std.proofs.lemmas.Bool.{eq-eqb, eqb-true, false_from_ne_true}
use Rattle.std.proofs.lemmas.List.{map-append}
use Rattle.std.specs.Prelude.{slice_get, slice_set, if◌then◌else◌}
use Rattle.std.specs.List.{list_any}
use Rattle.roc_sequence.specs.Lists.{Has}
use Rattle.roc_sequence.proofs.Members.{has_append, has_at, has_one, has_map, from_has_filter}
use Rattle.roc_base.specs.declared.id.TxnId.{TxnId}
use Rattle.roc_base.specs.declared.node.Node.{Node}
use Rattle.roc_base.specs.declared.node.Node.TheVariants.{Server, Coord}
use Rattle.roc_base.specs.TxnId.{is_txn}
use Rattle.roc_base.specs.Equalities.{is_txn-true}
use Rattle.roc_msg.specs.declared.outbox.Outgoing.{Outgoing}
use Rattle.roc_plan.specs.Groups.{Plan}
use Rattle.roc_coord.specs.declared.handled.Handled.{Handled}
use Rattle.roc_coord.specs.declared.handled.Handled.TheVariants as answer
use Rattle.roc_coord.specs.declared.transaction.Transaction.{Transaction}
use Rattle.roc_coord.specs.Ids.{ids_of}
use Rattle.roc_coord.specs.State.{CoordState}
use Rattle.roc_coord.specs.Starts.{with_starts}
use Rattle.roc_coord.specs.Step.{after_message}
use Rattle.roc_coord.specs.Submit.{Submission, next_id, new_transaction, accepted, most_transactions, most_pending}
use Rattle.roc_audit.specs.declared.entry.Entry.{Entry}
use Rattle.roc_audit.specs.declared.entry.Entry.TheVariants.{Submitted, Answered}
use Rattle.roc_audit.specs.History.{WasSubmitted, WasAnswered}
use Rattle.roc_audit.proofs.Histories.{submitted_front}
use Rattle.roc_law_protocol.specs.declared.event.Event.{Event}
use Rattle.roc_law_protocol.specs.declared.event.Event.TheVariants.{Submit, Deliver, Tick, Stop}
use Rattle.roc_law_protocol.specs.Beginnings.{Beginning, IsBeginning, begun_coord, begun_world}
use Rattle.roc_law_protocol.specs.Aside.{after_transaction}
use Rattle.roc_law_protocol.specs.World.{World, mark_delivered, at_coord}
use Rattle.roc_law_protocol.specs.Happens.{Outcome, IsSubmissionOf, IsReceived, answer_entries}
use Rattle.roc_law_protocol.specs.Run.{Stepped}
use Rattle.roc_law_protocol.specs.Beside.{Moves, IsRunBeside, beside_begins, beside_goes_on}
use Rattle.roc_law_protocol.specs.Unanswered.{submitted_at, answers, unanswered_at}
use Rattle.roc_law_protocol.proofs.AskedFor.{run_asked}
use Rattle.roc_law_protocol.proofs.Changed.{get-set_cases}
use Rattle.roc_law_protocol.proofs.Fetches.{fetched_none, IsAskedFor, HasAsked}
use Rattle.roc_law_protocol.proofs.Firsts.{found_at}
use Rattle.roc_law_protocol.proofs.KeptAside.{IsKeptAside, kept_aside}
use Rattle.roc_law_protocol.proofs.SubmissionEnds as ends
use Rattle.roc_law_protocol.proofs.Submissions.{AreSubmissions, keeps_number, unused}
use Rattle.roc_law_protocol.proofs.AcceptedSubmissions.{submissions_from}
use Rattle.roc_law_protocol.proofs.Once.{OfPending, of_pending}
use Rattle.roc_law_protocol.proofs.Tells.{all_kept, fewer, told_more, was_told, answer_out, submission_in, answered_has, left_by, ids_left, unanswered_left}
use Rattle.roc_law_protocol.proofs.Thinned.{IsThinned, nothing, thinned_length, thinned_both, thinned_filter}
use Rattle.roc_law_protocol.proofs.Stops.{stop_keeps}

-- ---- the ids that coordinators keep, of whatever kind, and the history of these

-- what each keeps is what the history leaves unanswered
pub record AreTold (kept : CoordState → List TxnId) (coords : List CoordState) (h : List Entry) : Type 0 where
  pub each : (n : ℕ) (c : CoordState) → slice_get coords n ≡ Some c → kept c ≡ unanswered_at n h
  pub answered : (t : TxnId) (reply : List ℤ) → WasAnswered h t reply → WasSubmitted h t

-- only what is kept is answered
abbrev pub OfKept : List TxnId → Handled → Type 0
OfKept ids (answer.Answered id reply) = Has id ids
OfKept ids answer.Done = Unit {0}
OfKept ids (answer.Ignored why) = Unit {0}

-- an answer submits nothing
pub same_told : (h : List Entry) (a : Handled) (m : ℕ) → submitted_at m (h ++ answer_entries a) ≡ submitted_at m h
same_told h (answer.Answered id reply) m = told_more m h (Answered id reply ∷ []) ∙ append-nil (submitted_at m h)
same_told h answer.Done m = told_more m h [] ∙ append-nil (submitted_at m h)
same_told h (answer.Ignored why) m = told_more m h [] ∙ append-nil (submitted_at m h)

-- and a submission one
pub one_told : (h : List Entry) (t : TxnId) (proc : ℕ) (args : List ℤ) (m : ℕ) → t.coord ≡ m → submitted_at m (h ++ Submitted t proc args ∷ []) ≡ submitted_at m h ++ t ∷ []
one_told h t proc args m same = told_more m h (Submitted t proc args ∷ []) ∙ ap (λ (b : Bool). submitted_at m h ++ (if b then t ∷ [] else [])) (eq-eqb t.coord m same)

pub none_told : (h : List Entry) (t : TxnId) (proc : ℕ) (args : List ℤ) (m : ℕ) → t.coord ≢ m → submitted_at m (h ++ Submitted t proc args ∷ []) ≡ submitted_at m h
none_told h t proc args m apart =
    told_more m h (Submitted t proc args ∷ [])
    ∙ (ap (λ (b : Bool). submitted_at m h ++ (if b then t ∷ [] else [])) (false_from_ne_true (t.coord == m) (λ e. apart (eqb-true t.coord m e))) ∙ append-nil (submitted_at m h))

module _ (kept : CoordState → List TxnId) (coords : List CoordState) (h : List Entry) (k : AreTold kept coords h) (n : ℕ) (s : CoordState) (there : slice_get coords n ≡ Some s) where
  -- what is kept here was submitted here
  of_here : (t : TxnId) → Has t (kept s) → WasSubmitted h t × (t.coord ≡ n)
  of_here t m = was_told n h t (from_has_filter (λ u. not (list_any (answers u) h)) t (submitted_at n h) (subst (Has t) (k.each n s there) m)).0

  -- ---- a message is answered

  left_after : (a : Handled) (m : ℕ) → unanswered_at m (h ++ answer_entries a) ≡ left_by a (unanswered_at m h)
  left_after (answer.Answered id reply) m = answer_out h id reply m
  left_after answer.Done m = ap (unanswered_at m) (append-nil h)
  left_after (answer.Ignored why) m = ap (unanswered_at m) (append-nil h)

  -- of another coordinator's ids none is answered
  others_left : (a : Handled) → OfKept (kept s) a → (m : ℕ) → n ≢ m → left_by a (unanswered_at m h) ≡ unanswered_at m h
  others_left (answer.Answered id reply) has m apart =
      let mine : id.coord ≡ n = (of_here id has).1 in
      all_kept (λ t. not (is_txn t id)) (unanswered_at m h)
      (λ u l. ap not (false_from_ne_true (is_txn u id) (λ same.
      let theirs = (was_told m h u (from_has_filter (λ u. not (list_any (answers u) h)) u (submitted_at m h) l).0).1 in
      apart (sym mine ∙ (ap (λ (t : TxnId). t.coord) (sym (is_txn-true u id same)) ∙ theirs)))))
  others_left answer.Done o m apart = refl
  others_left (answer.Ignored why) o m apart = refl

  told_before : (a : Handled) → OfKept (kept s) a → (t : TxnId) (reply : List ℤ) → Has (Answered t reply) (answer_entries a) → WasSubmitted h t
  told_before (answer.Answered id reply) has t r l =
      let e = has_one (Answered t r) (Answered id reply) l in
      let same : t ≡ id = cc in
      subst (WasSubmitted h) (sym same) (of_here id has).0
  told_before answer.Done o t r l = absurd l
  told_before (answer.Ignored why) o t r l = absurd l

  pub told_by_answer : (after : CoordState) (a : Handled) → kept after ≡ left_by a (kept s) → OfKept (kept s) a → AreTold kept (slice_set coords n after) (h ++ answer_entries a)
  told_by_answer after a left of =
      record {
        each = λ m c e. elim (get-set_cases coords n m s after c there e) [
          | inl x ↦ ap kept x.1 ∙ (left ∙ (ap (left_by a) (k.each n s there ∙ ap (λ n. unanswered_at n h) x.0) ∙ sym (left_after a m)))
          | inr x ↦ k.each m c x.1 ∙ (sym (others_left a of m x.0) ∙ sym (left_after a m))
        ];
        answered = λ t reply m. elim (has_append (Answered t reply) h (answer_entries a) m) [
          | inl x ↦ submitted_front h (answer_entries a) t (k.answered t reply x)
          | inr x ↦ submitted_front h (answer_entries a) t (told_before a of t reply x)
        ];
      }

  -- ---- a submission is accepted

  pub told_by_submission : (after : CoordState) (proc : ℕ) (args : List ℤ) → kept after ≡ kept s ++ next_id s ∷ [] → s.number ≡ n → ¬ WasSubmitted h (next_id s)
      → AreTold kept (slice_set coords n after) (h ++ Submitted (next_id s) proc args ∷ [])
  told_by_submission after proc args more number new =
      record {
        each = λ m c e. elim (get-set_cases coords n m s after c there e) [
          | inl x ↦
              ap kept x.1
              ∙ (more
              ∙ (ap (λ l. l ++ next_id s ∷ []) (k.each n s there ∙ ap (λ n. unanswered_at n h) x.0)
              ∙ sym (submission_in h (next_id s) proc args m unheard ∙ ap (λ (b : Bool). unanswered_at m h ++ (if b then next_id s ∷ [] else [])) (eq-eqb s.number m (number ∙ x.0)))))
          | inr x ↦
              k.each m c x.1
              ∙ sym
              (submission_in h (next_id s) proc args m unheard
              ∙ (ap (λ (b : Bool). unanswered_at m h ++ (if b then next_id s ∷ [] else [])) (false_from_ne_true (s.number == m) (λ e. x.0 (sym number ∙ eqb-true s.number m e))) ∙ append-nil (unanswered_at m h)))
        ];
        answered = λ t reply m. elim (has_append (Answered t reply) h (Submitted (next_id s) proc args ∷ []) m) [
          | inl x ↦ submitted_front h (Submitted (next_id s) proc args ∷ []) t (k.answered t reply x)
          | inr x ↦ (let e = has_one (Answered t reply) (Submitted (next_id s) proc args) x in absurd (cc))
        ];
      }
    where
      unheard : list_any (answers (next_id s)) h ≡ false
      unheard = false_from_ne_true (list_any (answers (next_id s)) h) (λ e. let a = answered_has h (next_id s) e in new (k.answered (next_id s) a.0 a.1))

-- ---- the transactions of each world

abbrev pub pending_ids : CoordState → List TxnId
pending_ids c = ids_of c.pending

-- what was used before the run began, and what the history tells; aside of it more may be used
pub record IsCounted (nexts : ℕ → ℕ) (w : World) : Type 0 where
  pub told : AreTold pending_ids w.coords w.history
  pub next : (n : ℕ) (c : CoordState) → slice_get w.coords n ≡ Some c → nexts n + length (submitted_at n w.history) ≤ c.next
  pub thinned : (n : ℕ) (c : CoordState) → slice_get w.coords n ≡ Some c → IsThinned (pending_ids c) c.unanswered
  pub few : (n : ℕ) (c : CoordState) → slice_get w.coords n ≡ Some c → (c.next ≤ most_transactions) × (length (pending_ids c) ≤ most_pending)

of_kept : (s : CoordState) (a : Handled) → OfPending s a → OfKept (pending_ids s) a
of_kept s (answer.Answered id reply) (x, has, same) = subst (λ id. Has id (pending_ids s)) same (has_map (λ (x : Transaction). x.id) x s.pending has)
of_kept s answer.Done o = tt
of_kept s (answer.Ignored why) o = tt

thinned_answer : (a : Handled) {xs ys : List TxnId} → IsThinned xs ys → IsThinned (left_by a xs) (left_by a ys)
thinned_answer (answer.Answered id reply) t = thinned_filter (λ u. not (is_txn u id)) t
thinned_answer answer.Done t = t
thinned_answer (answer.Ignored why) t = t

module _ (nexts : ℕ → ℕ) (w : World) (k : IsCounted nexts w) (n : ℕ) (s : CoordState) (there : slice_get w.coords n ≡ Some s) where
  -- where nothing is submitted
  by_answer : (after : CoordState) (outs : List Outgoing) (a : Handled) → s.next ≤ after.next → after.next ≤ most_transactions → pending_ids after ≡ left_by a (pending_ids s) → IsThinned (pending_ids after) after.unanswered
      → OfKept (pending_ids s) a → IsCounted nexts (at_coord w n after outs (answer_entries a))
  by_answer after outs a onward few left thin of =
      record {
        told = told_by_answer pending_ids w.coords w.history k.told n s there after a left of;
        next = λ m c e. subst (λ l. nexts m + length l ≤ c.next) (sym (same_told w.history a m)) (elim (get-set_cases w.coords n m s after c there e) [
          | inl x ↦ subst (λ m. nexts m + length (submitted_at m w.history) ≤ c.next) x.0 (subst (λ (c : CoordState). nexts n + length (submitted_at n w.history) ≤ c.next) (sym x.1) (let l = k.next n s there in omega (arith, l, onward)))
          | inr x ↦ k.next m c x.1
        ]);
        thinned = λ m c e. elim (get-set_cases w.coords n m s after c there e) [ inl x ↦ subst (λ (c : CoordState). IsThinned (pending_ids c) c.unanswered) (sym x.1) thin | inr x ↦ k.thinned m c x.1 ];
        few = λ m c e. elim (get-set_cases w.coords n m s after c there e) [
          | inl x ↦
              subst (λ (c : CoordState). (c.next ≤ most_transactions) × (length (pending_ids c) ≤ most_pending)) (sym x.1)
              (few, subst (λ l. length l ≤ most_pending) (sym left) (less (length (left_by a (pending_ids s))) (length (pending_ids s)) (fewer_left a (pending_ids s)) (k.few n s there).1))
          | inr x ↦ k.few m c x.1
        ];
      }
    where
      less : (x y : ℕ) → x ≤ y → y ≤ most_pending → x ≤ most_pending
      less x y h l = omega (arith, h, l)

      fewer_left : (a : Handled) (ids : List TxnId) → length (left_by a ids) ≤ length ids
      fewer_left (answer.Answered id reply) ids = fewer (λ t. not (is_txn t id)) ids
      fewer_left answer.Done ids = omega arith
      fewer_left (answer.Ignored why) ids = omega arith

  by_submission : (plan : Plan) → AreSubmissions plan w.history w.coords → (proc : ℕ) (args : List ℤ) (outs : List Outgoing) → s.next < most_transactions → length s.unanswered < most_pending
      → IsCounted nexts (at_coord w n (accepted plan s (new_transaction s proc args)).state outs (Submitted (next_id s) proc args ∷ []))
  by_submission plan subs proc args outs some free =
      let after = (accepted plan s (new_transaction s proc args)).state in
      let number = subs.numbers n s there in
      record {
        told = told_by_submission pending_ids w.coords w.history k.told n s there after proc args
            more number (λ q. unused plan w.history w.coords subs n s there q.0 q.1 q.2);
        next = λ m c e. elim (get-set_cases w.coords n m s after c there e) [
          | inl x ↦
              subst (λ l. nexts m + length l ≤ c.next) (sym (one_told w.history (next_id s) proc args m (number ∙ x.0)))
              (subst (λ m. nexts m + length (submitted_at m w.history ++ next_id s ∷ []) ≤ c.next) x.0
              (subst (λ (c : CoordState). nexts n + length (submitted_at n w.history ++ next_id s ∷ []) ≤ c.next) (sym x.1) (one_more (nexts n) (submitted_at n w.history) s.next (k.next n s there))))
          | inr x ↦ subst (λ l. nexts m + length l ≤ c.next) (sym (none_told w.history (next_id s) proc args m (λ e. x.0 (sym number ∙ e)))) (k.next m c x.1)
        ];
        thinned = λ m c e. elim (get-set_cases w.coords n m s after c there e) [
          | inl x ↦ subst (λ (c : CoordState). IsThinned (pending_ids c) c.unanswered) (sym x.1) (subst (λ l. IsThinned l (s.unanswered ++ next_id s ∷ [])) (sym more) (thinned_both (next_id s) (k.thinned n s there)))
          | inr x ↦ k.thinned m c x.1
        ];
        few = λ m c e. elim (get-set_cases w.coords n m s after c there e) [
          | inl x ↦
              subst (λ (c : CoordState). (c.next ≤ most_transactions) × (length (pending_ids c) ≤ most_pending)) (sym x.1)
              (below s.next some, subst (λ l. length l ≤ most_pending) (sym more) (room (pending_ids s) (length s.unanswered) (thinned_length (k.thinned n s there)) free))
          | inr x ↦ k.few m c x.1
        ];
      }
    where
      more : pending_ids (accepted plan s (new_transaction s proc args)).state ≡ pending_ids s ++ next_id s ∷ []
      more = map-append (λ (x : Transaction). x.id) s.pending (with_starts plan (new_transaction s proc args) ∷ [])

      below : (x : ℕ) → x < most_transactions → x + 1 ≤ most_transactions
      below x h = omega (arith, h)

      longer : (xs : List TxnId) → length (xs ++ next_id s ∷ []) ≡ length xs + 1
      longer [] = refl
      longer (x ∷ xs) = let ih = longer xs in omega (arith, ih)

      room : (xs : List TxnId) (n : ℕ) → length xs ≤ n → n < most_pending → length (xs ++ next_id s ∷ []) ≤ most_pending
      room xs n h l = let m = longer xs in omega (arith, h, l, m)

      one_more : (a : ℕ) (xs : List TxnId) (b : ℕ) → a + length xs ≤ b → a + length (xs ++ next_id s ∷ []) ≤ b + 1
      one_more a xs b h = let l = longer xs in omega (arith, h, l)

-- ---- each run

-- a submission leaves the world, or its coordinator had room
data Comes (plan : Plan) (w : World) (n proc : ℕ) (args : List ℤ) (s : CoordState) (o : Outcome) : Type 0 where
  stays : o.world ≡ w → Comes plan w n proc args s o
  goes : s.next < most_transactions → length s.unanswered < most_pending
      → o.world ≡ at_coord w n (accepted plan s (new_transaction s proc args)).state (accepted plan s (new_transaction s proc args)).sends (Submitted (next_id s) proc args ∷ []) → Comes plan w n proc args s o

comes : (plan : Plan) (w : World) (n proc : ℕ) (args : List ℤ) (s : CoordState) (o : Outcome) → IsSubmissionOf w n proc args (after_transaction plan s proc args) o → Comes plan w n proc args s o
comes plan w n proc args s o h = go (after_transaction plan s proc args) (ends.submission_is plan s proc args) h
  where
    go : (r : Submission) → ends.IsTransactionSubmission plan s proc args r → IsSubmissionOf w n proc args r o → Comes plan w n proc args s o
    go r (ends.unknown e) h = absurd h
    go r (ends.miscounted e) h = absurd h
    go r (ends.spent known counted l) h = stays (ap (λ (o : Outcome). o.world) h)
    go r (ends.busy known counted l m) h = stays (ap (λ (o : Outcome). o.world) h)
    go r (ends.taken known counted l m) h = goes l m (ap (λ (o : Outcome). o.world) h)

-- only coordinators and the history count
same_count : (nexts : ℕ → ℕ) (w v : World) → v.coords ≡ w.coords → v.history ≡ w.history → IsCounted nexts w → IsCounted nexts v
same_count nexts w v coords history k =
    record {
      told = subst (λ c. AreTold pending_ids c v.history) (sym coords) (subst (AreTold pending_ids w.coords) (sym history) k.told);
      next = λ n c e. subst (λ h. nexts n + length (submitted_at n h) ≤ c.next) (sym history) (k.next n c (subst (λ l. slice_get l n ≡ Some c) coords e));
      thinned = λ n c e. k.thinned n c (subst (λ l. slice_get l n ≡ Some c) coords e);
      few = λ n c e. k.few n c (subst (λ l. slice_get l n ≡ Some c) coords e);
    }

step_counted : (nexts : ℕ → ℕ) (plan : Plan) (w : World) → AreSubmissions plan w.history w.coords → HasAsked w → IsCounted nexts w → (e : Option Event) (o : Outcome) → Moves plan w e o → IsCounted nexts o.world
step_counted nexts plan w subs ha k None o (inl h) = subst (λ (o : Outcome). IsCounted nexts o.world) (sym h) k
step_counted nexts plan w subs ha k None o (inr x) =
    let a = kept_aside plan x.before x.after x.sends x.does in
    let few = (k.few x.number x.before x.there).0 in
    let thin = subst (λ l. IsThinned (ids_of l) x.after.unanswered) (sym a.pending) (a.thinned (k.thinned x.number x.before x.there)) in
    subst (λ (o : Outcome). IsCounted nexts o.world) (sym x.is)
    (by_answer nexts w k x.number x.before x.there x.after x.sends answer.Done (onward a) (room a few) (ap ids_of a.pending) thin tt)
  where
    onward : IsKeptAside plan x.before x.after x.sends → x.before.next ≤ x.after.next
    onward a = elim a.next [ inl e ↦ omega (arith, e) | inr u ↦ (let e = u.is in omega (arith, e)) ]

    room : IsKeptAside plan x.before x.after x.sends → x.before.next ≤ most_transactions → x.after.next ≤ most_transactions
    room a few = elim a.next [ inl e ↦ subst (λ n. n ≤ most_transactions) (sym e) few | inr u ↦ used u.is u.some ]
      where
        used : x.after.next ≡ x.before.next + 1 → x.before.next < most_transactions → x.after.next ≤ most_transactions
        used e l = omega (arith, e, l)
step_counted nexts plan w subs ha k (Some (Submit n proc args)) o (s, there, h) = go (comes plan w n proc args s o h)
  where
    go : Comes plan w n proc args s o → IsCounted nexts o.world
    go (stays e) = subst (IsCounted nexts) (sym e) k
    go (goes some free e) = subst (IsCounted nexts) (sym e) (by_submission nexts w k n s there plan subs proc args (accepted plan s (new_transaction s proc args)).sends some free)
step_counted nexts plan w subs ha k (Some (Deliver j)) o (m, some, there, h) = go m.to h
  where
    go : (to : Node) → IsReceived plan (mark_delivered w j) m.msg to o → IsCounted nexts o.world
    go (Server shard) (s, r, at, step, e) = same_count nexts w o.world (ap (λ (o : Outcome). o.world.coords) e) (ap (λ (o : Outcome). o.world.history) e) k
    go (Coord n) (s, at, e) =
        let r = after_message plan s m.msg in
        let no_read = fetched_none (IsAskedFor w.servers) m.msg m.to (ha.sent m (has_at w.sent (j - 1) m there)) in
        let next = (keeps_number plan s m.msg).next in
        let left = ids_left plan s m.msg no_read in
        let thin = subst (λ l. IsThinned l r.state.unanswered) (sym left) (subst (IsThinned (left_by r.answer (pending_ids s))) (sym (unanswered_left plan s m.msg)) (thinned_answer r.answer (k.thinned n s at))) in
        subst (λ (o : Outcome). IsCounted nexts o.world) (sym e)
        (by_answer nexts (mark_delivered w j) (same_count nexts w (mark_delivered w j) refl refl k) n s at r.state r.sends r.answer (omega (arith, next)) (subst (λ n. n ≤ most_transactions) (sym next) (k.few n s at).0) left thin
        (of_kept s r.answer (of_pending plan s m.msg no_read)))
step_counted nexts plan w subs ha k (Some (Tick (Server shard))) o (s, there, e) = same_count nexts w o.world (ap (λ (o : Outcome). o.world.coords) e) (ap (λ (o : Outcome). o.world.history) e) k
step_counted nexts plan w subs ha k (Some (Tick (Coord n))) o (s, there, e) = subst (λ (o : Outcome). IsCounted nexts o.world) (sym e) (by_answer nexts w k n s there s _ answer.Done (omega arith) (k.few n s there).0 refl (k.thinned n s there) tt)
step_counted nexts plan w subs ha k (Some (Stop shard during)) o x = let q = stop_keeps plan w shard.0 during o x in same_count nexts w o.world q.1 q.0 k

pub run_counted : (plan : Plan) (start : Beginning) → IsBeginning plan start → (coords : ℕ) (steps : List Stepped) (w : World) → IsRunBeside plan start coords steps w → IsCounted start.nexts w
run_counted plan start begins coords steps w beside_begins =
    record {
      told = record { each = λ n c h. ap (λ (c : CoordState). ids_of c.pending) (first n c h); answered = λ t reply h. absurd h };
      next = λ n c h. (let e = ap (λ (c : CoordState). c.next) (first n c h) in no_more (start.nexts n) c.next e);
      thinned = λ n c h. subst (λ (c : CoordState). IsThinned (pending_ids c) c.unanswered) (sym (first n c h)) nothing;
      few = λ n c h. subst (λ (c : CoordState). (c.next ≤ most_transactions) × (length (pending_ids c) ≤ most_pending)) (sym (first n c h)) (begins.few n, omega arith);
    }
  where
    no_more : (a b : ℕ) → b ≡ a → a + 0 ≤ b
    no_more a b e = omega (arith, e)

    first : (n : ℕ) (c : CoordState) → slice_get (begun_world plan start coords).coords n ≡ Some c → c ≡ begun_coord start n
    first n c h = let same : 0 + n ≡ n = omega arith in found_at (begun_coord start) 0 coords n c h ∙ ap (begun_coord start) same
run_counted plan start begins coords steps w (beside_goes_on {steps = front} {w = v} e o r h) =
    step_counted start.nexts plan v (submissions_from plan start coords front v r) (run_asked plan start coords front v r) (run_counted plan start begins coords front v r) e o h
