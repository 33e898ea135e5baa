-- A coordinator's log that folds tells each id once
use Rattle.std.proofs.Common.{◌≡◌, ◌≢◌, ℕ, ◌+◌, ◌<◌, ℤ, Bool, true, false, cond, List, [], ◌∷◌, ◌++◌, Option, Some, None, Ok, refl, sym, ap, subst, ◌∙◌, inl, inr, ◌⊎◌, append-nil, append_assoc, arith}
use Rattle.roc_sequence.specs.Lists.{Has}
use Rattle.roc_sequence.proofs.Members.{has_more, has_right}
use Rattle.roc_base.specs.declared.id.TxnId.{TxnId}
use Rattle.roc_base.specs.declared.node.Node.{Node}
use Rattle.roc_base.specs.declared.node.Node.TheVariants.{Server, Coord}
use Rattle.roc_plan.specs.Groups.{Plan, is_view_of}
use Rattle.roc_wire.specs.declared.header.Header.{Header}
use Rattle.roc_readonly.specs.declared.view.View.{View}
use Rattle.roc_readonly.specs.Round.{first_round}
use Rattle.roc_coord.specs.declared.handled.Handled.{Handled}
use Rattle.roc_coord.specs.declared.handled.Handled.TheVariants as handled
use Rattle.roc_coord.specs.declared.handled.SubmitFault.{SubmitFault}
use Rattle.roc_coord.specs.declared.transaction.Transaction.{Transaction}
use Rattle.roc_coord.specs.State.{CoordState, first_coord}
use Rattle.roc_coord.specs.Step.{after_message}
use Rattle.roc_coord.specs.Starts.{with_starts}
use Rattle.roc_coord.specs.Submit.{after_submit, refused_or_accepted, refusal_of, accepted, accepted_view, new_transaction, next_id}
use Rattle.roc_coord.specs.Tick as tick
use Rattle.roc_log.specs.Sent.{outs_logged}
use Rattle.roc_log.specs.declared.line.LogLine.{LogLine}
use Rattle.roc_log.specs.declared.line.LogLine.TheVariants.{Submit, In, Tick, Out, Answer}
use Rattle.roc_audit.specs.declared.entry.Entry.{Entry}
use Rattle.roc_audit.specs.declared.entry.Entry.TheVariants.{Submitted, Answered}
use Rattle.roc_audit.specs.History.{WasSubmitted, WasAnswered, IsToldOnce}
use Rattle.roc_audit.proofs.Histories.{submitted_front}
use Rattle.roc_audit.proofs.Once.{told_nothing, told_more}
use Rattle.roc_judge.specs.declared.folded.Folded.{Folded}
use Rattle.roc_fold.specs.Sent.{answer_logged}
use Rattle.roc_fold.specs.Told.{told_from, told_by, submissions}
use Rattle.roc_fold.specs.Fold.{Core, serving, coordinating, GivenByEvent, Gives, Folding, TakesLine, takes_event, takes_due, FoldsTo, begins, goes_on}
use Rattle.roc_fold.specs.Folded.{IsFoldOfLines}
use Rattle.roc_fold.proofs.Counted.{counted, Counts, CountsCore}
use Rattle.roc_fold.proofs.ToldLines.{told_append, outs_tell, outs_alone, answers_told, answer_tells, all_own}
use Rattle.roc_fold.proofs.Answering.{Keeps, Apart, IsOver, Answers, message_answers}

-- ---- what was told, and what is open

abbrev IsOpen : List Entry → TxnId → Type 0
IsOpen es t = WasSubmitted es t × ((reply : List ℤ) → ¬ WasAnswered es t reply)

pub record Tells (es : List Entry) (c : CoordState) : Type 0 where
  once : IsToldOnce es
  submitted : (t : TxnId) → WasSubmitted es t → t.seq < c.next
  answered : (t : TxnId) (reply : List ℤ) → WasAnswered es t reply → t.seq < c.next
  pending : (x : Transaction) → Has x c.pending → IsOpen es x.id
  views : (v : View) → Has v c.views → IsOpen es v.id
  apart : Apart c

tells_first : (number : ℕ) → Tells [] (first_coord number)
tells_first number =
    record {
      once = told_nothing;
      submitted = λ t h. absurd h.2;
      answered = λ t reply h. absurd h;
      pending = λ x h. absurd h;
      views = λ v h. absurd h;
      apart = λ x v h k. absurd h;
    }

module _ (es : List Entry) (c d : CoordState) (was : Tells es c) (keeps : Keeps c d) where
  left_apart : Apart d
  left_apart x v h k e =
      let y = keeps.pending x h in
      let w = keeps.views v k in
      was.apart y.0 w.0 y.1 w.1 (y.2 ∙ e ∙ sym w.2)

  tells_kept : Tells es d
  tells_kept =
      record {
        once = was.once;
        submitted = λ t h. subst (λ (n : ℕ). t.seq < n) (sym keeps.next) (was.submitted t h);
        answered = λ t reply h. subst (λ (n : ℕ). t.seq < n) (sym keeps.next) (was.answered t reply h);
        pending = λ x h. (let y = keeps.pending x h in subst (IsOpen es) y.2 (was.pending y.0 y.1));
        views = λ v h. (let w = keeps.views v h in subst (IsOpen es) w.2 (was.views w.0 w.1));
        apart = left_apart;
      }

  module _ (id : TxnId) (reply : List ℤ) (over : IsOver c d id) where
    abbrev more : List Entry
    more = es ++ Answered id reply ∷ []

    was_open : IsOpen es id
    was_open = elim over.was [ inl k ↦ subst (IsOpen es) k.2 (was.pending k.0 k.1) | inr k ↦ subst (IsOpen es) k.2 (was.views k.0 k.1) ]

    still_submitted : (t : TxnId) → WasSubmitted more t → WasSubmitted es t
    still_submitted t (proc, args, h) = (proc, args, elim (has_more (Submitted t proc args) (Answered id reply) es h) [ inl k ↦ k | inr e ↦ absurd (cc) ])

    now_answered : (t : TxnId) (other : List ℤ) → WasAnswered more t other → WasAnswered es t other ⊎ (t ≡ id)
    now_answered t other h = elim (has_more (Answered t other) (Answered id reply) es h) [ inl k ↦ inl k | inr e ↦ inr (let same : t ≡ id = cc in same) ]

    stays_open : (t : TxnId) → IsOpen es t → t ≢ id → IsOpen more t
    stays_open t o n = (submitted_front es (Answered id reply ∷ []) t o.0, λ other h. elim (now_answered t other h) [ inl k ↦ o.1 other k | inr e ↦ n e ])

    tells_answer : Tells more d
    tells_answer =
        record {
          once = told_more es (Answered id reply) was.once was_open;
          submitted = λ t h. tells_kept.submitted t (still_submitted t h);
          answered = λ t other h. elim (now_answered t other h) [
            | inl k ↦ tells_kept.answered t other k
            | inr e ↦ subst (λ (u : TxnId). u.seq < d.next) (sym e) (tells_kept.submitted id was_open.0)
          ];
          pending = λ x h. stays_open x.id (tells_kept.pending x h) (over.pending x h);
          views = λ v h. stays_open v.id (tells_kept.views v h) (over.views v h);
          apart = left_apart;
        }

tells_message : (es : List Entry) (c d : CoordState) (a : Handled) → Tells es c → Answers c d a → Tells (es ++ answers_told a) d
tells_message es c d (handled.Answered id reply) was k = tells_answer es c d was k.0 id reply k.1
tells_message es c d handled.Done was k = subst (λ (fs : List Entry). Tells fs d) (sym (append-nil es)) (tells_kept es c d was k)
tells_message es c d (handled.Ignored reason) was k = subst (λ (fs : List Entry). Tells fs d) (sym (append-nil es)) (tells_kept es c d was k)

-- ---- a submission

module _ (plan : Plan) (es : List Entry) (c : CoordState) (was : Tells es c) (proc : ℕ) (args : List ℤ) where
  abbrev longer : List Entry
  longer = es ++ Submitted (next_id c) proc args ∷ []

  is_new : ¬ WasSubmitted es (next_id c)
  is_new h = let l = was.submitted (next_id c) h in absurd (omega arith)

  old_or_next : (t : TxnId) → WasSubmitted longer t → WasSubmitted es t ⊎ (t ≡ next_id c)
  old_or_next t (p, a, h) = elim (has_more (Submitted t p a) (Submitted (next_id c) proc args) es h) [ inl k ↦ inl (p, a, k) | inr e ↦ inr (let same : t ≡ next_id c = cc in same) ]

  old_answer : (t : TxnId) (reply : List ℤ) → WasAnswered longer t reply → WasAnswered es t reply
  old_answer t reply h = elim (has_more (Answered t reply) (Submitted (next_id c) proc args) es h) [ inl k ↦ k | inr e ↦ absurd (cc) ]

  stays_open_here : (t : TxnId) → IsOpen es t → IsOpen longer t
  stays_open_here t o = (submitted_front es (Submitted (next_id c) proc args ∷ []) t o.0, λ reply h. o.1 reply (old_answer t reply h))

  opens : IsOpen longer (next_id c)
  opens = (
    (proc, args, has_right (Submitted (next_id c) proc args) es (Submitted (next_id c) proc args ∷ []) (inl refl)),
    λ reply h.
        (let l = was.answered (next_id c) reply (old_answer (next_id c) reply h) in absurd (omega arith)),
  )

  -- an open id is none that comes
  is_old : (t : TxnId) → IsOpen es t → t ≢ next_id c
  is_old t o e = is_new (subst (WasSubmitted es) e o.0)

  later : (t : TxnId) → WasSubmitted longer t → t.seq < c.next + 1
  later t h = elim (old_or_next t h) [
    | inl k ↦ (let l = was.submitted t k in omega arith)
    | inr e ↦ (let same : t.seq ≡ c.next = ap (λ (u : TxnId). u.seq) e in omega arith)
  ]

  later_answer : (t : TxnId) (reply : List ℤ) → WasAnswered longer t reply → t.seq < c.next + 1
  later_answer t reply h = let l = was.answered t reply (old_answer t reply h) in omega arith

  tells_transaction : (x : Transaction) → x.id ≡ next_id c → Tells longer (accepted plan c x).state
  tells_transaction x is =
      record {
        once = told_more es (Submitted (next_id c) proc args) was.once is_new;
        submitted = later;
        answered = later_answer;
        pending = λ y h. elim (has_more y (with_starts plan x) c.pending h) [
          | inl k ↦ stays_open_here y.id (was.pending y k)
          | inr e ↦ subst (IsOpen longer) (sym (ap (λ (z : Transaction). z.id) e ∙ is)) opens
        ];
        views = λ v h. stays_open_here v.id (was.views v h);
        apart = λ y v h k e. elim (has_more y (with_starts plan x) c.pending h) [
          | inl j ↦ was.apart y v j k e
          | inr s ↦ is_old v.id (was.views v k) (sym e ∙ ap (λ (z : Transaction). z.id) s ∙ is)
        ];
      }

  tells_view : (x : View) → x.id ≡ next_id c → Tells longer (accepted_view plan c x).state
  tells_view x is =
      record {
        once = told_more es (Submitted (next_id c) proc args) was.once is_new;
        submitted = later;
        answered = later_answer;
        pending = λ y h. stays_open_here y.id (was.pending y h);
        views = λ v h. elim (has_more v x c.views h) [
          | inl k ↦ stays_open_here v.id (was.views v k)
          | inr e ↦ subst (IsOpen longer) (sym (ap (λ (z : View). z.id) e ∙ is)) opens
        ];
        apart = λ y v h k e. elim (has_more v x c.views k) [
          | inl j ↦ was.apart y v h j e
          | inr s ↦ is_old y.id (was.pending y h) (e ∙ ap (λ (z : View). z.id) s ∙ is)
        ];
      }

  tells_accepted : (b : Bool) → Tells longer (cond b (accepted_view plan c (first_round (next_id c) proc args)) (accepted plan c (new_transaction c proc args))).state
  tells_accepted true = tells_view (first_round (next_id c) proc args) refl
  tells_accepted false = tells_transaction (new_transaction c proc args) refl

  tells_submission : (id : TxnId) → (after_submit plan c proc args).answer ≡ Ok id → Tells longer (after_submit plan c proc args).state
  tells_submission id = go (refusal_of plan c proc args)
    where
      go : (o : Option SubmitFault) → (refused_or_accepted plan c proc args o).answer ≡ Ok id → Tells longer (refused_or_accepted plan c proc args o).state
      go (Some fault) e = absurd (cc)
      go None e = tells_accepted (is_view_of plan proc)

-- ---- lines

abbrev TellsAt : List Entry → Core → Type 0
TellsAt es (serving s v) = ⊥
TellsAt es (coordinating c) = Tells es c

module _ (plan : Plan) (header : Header) (number : ℕ) where
  event_tells : (n : ℕ) (es : List Entry) (core : Core) (line : LogLine) (g : GivenByEvent) → CountsCore number n core → TellsAt es core → Gives plan header core line g
      → TellsAt (es ++ told_from number n (line ∷ g.due)) g.core
  event_tells n es (serving s v) line g k was gives = elim was [ ]
  event_tells n es (coordinating c) (In bytes) g k was (msg, b, e) =
      let step = after_message plan c msg in
      let told = outs_tell header number n step.sends (answer_logged step.answer) ∙ answer_tells number n step.answer in
      subst (λ (g : GivenByEvent). TellsAt (es ++ told_from number n (In bytes ∷ g.due)) g.core) (sym e)
      (subst (λ (fs : List Entry). Tells (es ++ fs) step.state) (sym told) (tells_message es c step.state step.answer was (message_answers plan c was.apart msg)))
  event_tells n es (coordinating c) Tick g k was e =
      subst (λ (g : GivenByEvent). TellsAt (es ++ told_from number n (Tick ∷ g.due)) g.core) (sym e)
      (subst (λ (fs : List Entry). Tells fs c) (sym (ap (λ (fs : List Entry). es ++ fs) (outs_alone header number n (tick.tick_sends plan c)) ∙ append-nil es)) was)
  event_tells n es (coordinating c) (Submit proc args) g k was (id, a, e) =
      let step = after_submit plan c proc args in
      let id_told : record { coord = number; seq = n } ≡ next_id c = λ i. record { coord = sym k.0 i; seq = sym k.1 i } in
      let told : told_from number n (Submit proc args ∷ outs_logged header step.sends) ≡ Submitted (next_id c) proc args ∷ [] =
      (λ i. Submitted (id_told i) proc args ∷ outs_alone header number (n + 1) step.sends i) in
      subst (λ (g : GivenByEvent). TellsAt (es ++ told_from number n (Submit proc args ∷ g.due)) g.core) (sym e)
      (subst (λ (fs : List Entry). Tells (es ++ fs) step.state) (sym told) (tells_submission plan es c was proc args id a))
  event_tells n es (coordinating c) (Out bytes) g k was gives = elim gives [ ]
  event_tells n es (coordinating c) (Answer id reply) g k was gives = elim gives [ ]

  -- with the lines that are due
  abbrev told_with : List LogLine → Folding → List Entry
  told_with lines f = told_from number 0 (lines ++ f.due)

  line_tells : (lines : List LogLine) (f : Folding) (line : LogLine) (h : Folding) → Counts number lines f → TellsAt (told_with lines f) f.core → TakesLine plan header f line h
      → TellsAt (told_with (lines ++ line ∷ []) h) h.core
  line_tells lines f line _ k was (takes_event g d gives) =
      let es = told_from number 0 lines in
      let before : told_with lines f ≡ es = ap (λ (due : List LogLine). told_from number 0 (lines ++ due)) d ∙ ap (told_from number 0) (append-nil lines) in
      let n_is : 0 + submissions lines ≡ submissions lines = omega arith in
      let behind : told_from number 0 ((lines ++ line ∷ []) ++ g.due) ≡ es ++ told_from number (submissions lines) (line ∷ g.due) =
      ap (told_from number 0) (append_assoc lines (line ∷ []) g.due) ∙ told_append number 0 lines (line ∷ g.due) ∙ ap (λ (n : ℕ). es ++ told_from number n (line ∷ g.due)) n_is
      in
      subst (λ (fs : List Entry). TellsAt fs g.core) (sym behind) (event_tells (submissions lines) es f.core line g k.core (subst (λ (fs : List Entry). TellsAt fs f.core) before was) gives)
  line_tells lines f line _ k was (takes_due rest d) =
      let same : lines ++ f.due ≡ (lines ++ line ∷ []) ++ rest = ap (λ (due : List LogLine). lines ++ due) d ∙ sym (append_assoc lines (line ∷ []) rest) in
      subst (λ (ls : List LogLine). TellsAt (told_from number 0 ls) f.core) same was

  folds_tell : (lines : List LogLine) (f : Folding) → FoldsTo plan header (coordinating (first_coord number)) lines f → TellsAt (told_with lines f) f.core
  folds_tell _ _ begins = tells_first number
  folds_tell _ _ (goes_on {lines} {f} line h folds t) = line_tells lines f line h (counted plan header number lines f folds) (folds_tell lines f folds) t

  once_at : (es : List Entry) (core : Core) → TellsAt es core → IsToldOnce es
  once_at es (serving s v) k = elim k [ ]
  once_at es (coordinating c) k = k.once

  pub lines_told_once : (lines : List LogLine) (f : Folding) → FoldsTo plan header (coordinating (first_coord number)) lines f → f.due ≡ [] → IsToldOnce (told_from number 0 lines)
  lines_told_once lines f folds none =
      subst IsToldOnce (ap (λ (due : List LogLine). told_from number 0 (lines ++ due)) none ∙ ap (told_from number 0) (append-nil lines))
      (once_at (told_with lines f) f.core (folds_tell lines f folds))

pub fold_told_once : (plan : Plan) (header : Header) (node : Node) (lines : List LogLine) (folded : Folded) → IsFoldOfLines plan header node lines folded → IsToldOnce (told_by node lines)
fold_told_once plan header (Server shard) lines folded f = told_nothing
fold_told_once plan header (Coord number) lines folded f = lines_told_once plan header number lines f.fold f.folds f.ended

pub told_by_own : (node : Node) (lines : List LogLine) (t : TxnId) → WasSubmitted (told_by node lines) t → node ≡ Coord t.coord
told_by_own (Server shard) lines t h = absurd h.2
told_by_own (Coord number) lines t h = ap (λ (n : ℕ). Coord n) (sym (all_own number 0 lines t h))
