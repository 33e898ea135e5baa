-- Why a submission is refused
use Rattle.std.proofs.Common.{◌≡◌, ◌≢◌, ◌↔◌, ◌∙◌, ℕ, ℤ, ◌<◌, ◌≤◌, Bool, true, false, cond, List, [], Option, Some, length, refl, sym, ap, subst, arith}
use Rattle.std.proofs.lemmas.Bool.{false≢true}
use Rattle.std.specs.Prelude.{slice_get, Err}
use Rattle.roc_sequence.proofs.Members.{same_there}
use Rattle.roc_base.specs.declared.id.TxnId.{TxnId}
use Rattle.roc_plan.specs.Groups.{Plan, is_view_of}
use Rattle.roc_coord.specs.Submit.{Submission, accepted, accepted_view, new_transaction, next_id, most_pending, most_transactions, after_submit}
use Rattle.roc_readonly.specs.Round.{first_round}
use Rattle.roc_law_protocol.proofs.SubmissionEnds.{IsAnySubmission, any_submission_is, unknown, miscounted, spent, busy, taken}
use Rattle.roc_epoch.specs.declared.next.Next.{Next}
use Rattle.roc_epoch.specs.Files.{own_plan}
use Rattle.roc_grown.specs.declared.handled.GrownFault.TheVariants as fault
use Rattle.roc_grown.specs.Coord as coord
use Rattle.roc_grown.specs.Coord.{GrownCoordState, GrownSubmission, after_grown_submit}
use Rattle.roc_growth.specs.declared.event.Event.TheVariants.{Submit}
use Rattle.roc_growth.specs.declared.event.Seen.{Seen}
use Rattle.roc_growth.specs.declared.event.Seen.TheVariants as seen
use Rattle.roc_growth.specs.World.{GrownWorld}
use Rattle.roc_growth.specs.Happens.{Outcome, Submits, Happens}

-- ---- what is seen of a submission, and why

-- one of so many procedures, where the coordinator drains or not, has this next id and so many unanswered
data IsSeen (draining : Bool) (procedures proc unanswered : ℕ) (id : TxnId) (s : Seen) : Type 0 where
  as_draining : draining ≡ true → s ≡ seen.Draining → IsSeen draining procedures proc unanswered id s
  as_unknown : draining ≡ false → procedures ≤ proc → s ≡ seen.NoProc → IsSeen draining procedures proc unanswered id s
  as_spent : draining ≡ false → proc < procedures → most_transactions ≤ id.seq → s ≡ seen.Spent → IsSeen draining procedures proc unanswered id s
  as_busy : draining ≡ false → proc < procedures → id.seq < most_transactions → most_pending ≤ unanswered → s ≡ seen.Busy → IsSeen draining procedures proc unanswered id s
  as_taken : draining ≡ false → proc < procedures → id.seq < most_transactions → unanswered < most_pending → s ≡ seen.Submitted id → IsSeen draining procedures proc unanswered id s

apart : {X : Type 0} (b : Bool) → b ≡ false → b ≡ true → X
apart b e f = absurd (false≢true (sym e ∙ f))

not_both : {X : Type 0} (n k : ℕ) → n < k → k ≤ n → X
not_both n k l m = absurd (omega (arith, l, m))

-- what is seen as one of these is seen as no other
unlike : {X : Type 0} (a b s : Seen) → (a ≡ b → ⊥) → s ≡ a → s ≡ b → X
unlike a b s differ e f = absurd (differ (sym e ∙ f))

unknown_draining : seen.NoProc ≡ seen.Draining → ⊥
unknown_draining e = cc

spent_draining : seen.Spent ≡ seen.Draining → ⊥
spent_draining e = cc

busy_draining : seen.Busy ≡ seen.Draining → ⊥
busy_draining e = cc

taken_draining : (id : TxnId) → seen.Submitted id ≡ seen.Draining → ⊥
taken_draining id e = cc

spent_unknown : seen.Spent ≡ seen.NoProc → ⊥
spent_unknown e = cc

busy_unknown : seen.Busy ≡ seen.NoProc → ⊥
busy_unknown e = cc

taken_unknown : (id : TxnId) → seen.Submitted id ≡ seen.NoProc → ⊥
taken_unknown id e = cc

busy_spent : seen.Busy ≡ seen.Spent → ⊥
busy_spent e = cc

taken_spent : (id : TxnId) → seen.Submitted id ≡ seen.Spent → ⊥
taken_spent id e = cc

taken_busy : (id : TxnId) → seen.Submitted id ≡ seen.Busy → ⊥
taken_busy id e = cc

module _ (draining : Bool) (procedures proc unanswered : ℕ) (id : TxnId) (s : Seen) where
  seen_draining : IsSeen draining procedures proc unanswered id s → (s ≡ seen.Draining) ↔ (draining ≡ true)
  seen_draining (as_draining d e) = (λ f. d, λ x. e)
  seen_draining (as_unknown d l e) = (λ f. unlike seen.NoProc seen.Draining s unknown_draining e f, λ x. apart draining d x)
  seen_draining (as_spent d l m e) = (λ f. unlike seen.Spent seen.Draining s spent_draining e f, λ x. apart draining d x)
  seen_draining (as_busy d l m k e) = (λ f. unlike seen.Busy seen.Draining s busy_draining e f, λ x. apart draining d x)
  seen_draining (as_taken d l m k e) = (λ f. unlike (seen.Submitted id) seen.Draining s (taken_draining id) e f, λ x. apart draining d x)

  seen_unknown : IsSeen draining procedures proc unanswered id s → (s ≡ seen.NoProc) ↔ ((draining ≡ false) × (procedures ≤ proc))
  seen_unknown (as_draining d e) = (λ f. unlike seen.NoProc seen.Draining s unknown_draining f e, λ x. apart draining x.0 d)
  seen_unknown (as_unknown d l e) = (λ f. (d, l), λ x. e)
  seen_unknown (as_spent d l m e) = (λ f. unlike seen.Spent seen.NoProc s spent_unknown e f, λ x. not_both proc procedures l x.1)
  seen_unknown (as_busy d l m k e) = (λ f. unlike seen.Busy seen.NoProc s busy_unknown e f, λ x. not_both proc procedures l x.1)
  seen_unknown (as_taken d l m k e) = (λ f. unlike (seen.Submitted id) seen.NoProc s (taken_unknown id) e f, λ x. not_both proc procedures l x.1)

  seen_spent : IsSeen draining procedures proc unanswered id s → (s ≡ seen.Spent) ↔ ((draining ≡ false) × (proc < procedures) × (most_transactions ≤ id.seq))
  seen_spent (as_draining d e) = (λ f. unlike seen.Spent seen.Draining s spent_draining f e, λ x. apart draining x.0 d)
  seen_spent (as_unknown d l e) = (λ f. unlike seen.Spent seen.NoProc s spent_unknown f e, λ x. not_both proc procedures x.1 l)
  seen_spent (as_spent d l m e) = (λ f. (d, l, m), λ x. e)
  seen_spent (as_busy d l m k e) = (λ f. unlike seen.Busy seen.Spent s busy_spent e f, λ x. not_both id.seq most_transactions m x.2)
  seen_spent (as_taken d l m k e) = (λ f. unlike (seen.Submitted id) seen.Spent s (taken_spent id) e f, λ x. not_both id.seq most_transactions m x.2)

  seen_busy : IsSeen draining procedures proc unanswered id s → (s ≡ seen.Busy) ↔ ((draining ≡ false) × (proc < procedures) × (id.seq < most_transactions) × (most_pending ≤ unanswered))
  seen_busy (as_draining d e) = (λ f. unlike seen.Busy seen.Draining s busy_draining f e, λ x. apart draining x.0 d)
  seen_busy (as_unknown d l e) = (λ f. unlike seen.Busy seen.NoProc s busy_unknown f e, λ x. not_both proc procedures x.1 l)
  seen_busy (as_spent d l m e) = (λ f. unlike seen.Busy seen.Spent s busy_spent f e, λ x. not_both id.seq most_transactions x.2 m)
  seen_busy (as_busy d l m k e) = (λ f. (d, l, m, k), λ x. e)
  seen_busy (as_taken d l m k e) = (λ f. unlike (seen.Submitted id) seen.Busy s (taken_busy id) e f, λ x. not_both unanswered most_pending k x.3)

  seen_taken : IsSeen draining procedures proc unanswered id s → draining ≡ false → proc < procedures → id.seq < most_transactions → unanswered < most_pending → s ≡ seen.Submitted id
  seen_taken (as_draining d e) plain known unspent free = apart draining plain d
  seen_taken (as_unknown d l e) plain known unspent free = not_both proc procedures known l
  seen_taken (as_spent d l m e) plain known unspent free = not_both id.seq most_transactions unspent m
  seen_taken (as_busy d l m k e) plain known unspent free = not_both unanswered most_pending free k
  seen_taken (as_taken d l m k e) plain known unspent free = e

-- ---- what a coordinator answers

past : (n k : ℕ) → ¬ (n < k) → k ≤ n
past n k none = grind arith

abbrev IsSeenAt : Plan → Option Next → GrownCoordState → (proc : ℕ) → Seen → Type 0
IsSeenAt plan next c proc s = IsSeen c.draining (length (own_plan plan next c.switched).program.procedures) proc (length c.core.unanswered) (next_id c.core) s

-- that of its own file
core_seen : (plan : Plan) (next : Option Next) (w : GrownWorld) (n proc : ℕ) (args : List ℤ) (c : GrownCoordState) (o : Outcome) → c.draining ≡ false
    → (r : Submission) → IsAnySubmission (own_plan plan next c.switched) c.core proc args r
    → Submits w n proc args (coord.submitted_to_core c r).state (coord.submitted_to_core c r).sends (coord.submitted_to_core c r).answer o → IsSeenAt plan next c proc o.seen
core_seen plan next w n proc args c o plain r (unknown none) h = as_unknown plain (past proc (length (own_plan plan next c.switched).program.procedures) none) (ap (λ (o : Outcome). o.seen) h)
core_seen plan next w n proc args c o plain r (miscounted e) h = absurd h
core_seen plan next w n proc args c o plain r (spent there counted l) h = as_spent plain there l (ap (λ (o : Outcome). o.seen) h)
core_seen plan next w n proc args c o plain r (busy there counted l m) h = as_busy plain there l m (ap (λ (o : Outcome). o.seen) h)
core_seen plan next w n proc args c o plain r (taken there counted l m) h = as_taken plain there l m (kinds (is_view_of (own_plan plan next c.switched) proc) h)
  where
    as_view : Submission
    as_view = accepted_view (own_plan plan next c.switched) c.core (first_round (next_id c.core) proc args)

    as_transaction : Submission
    as_transaction = accepted (own_plan plan next c.switched) c.core (new_transaction c.core proc args)

    kinds : (b : Bool)
        → (let r = coord.submitted_to_core c (cond b as_view as_transaction) in Submits w n proc args r.state r.sends r.answer o) → o.seen ≡ seen.Submitted (next_id c.core)
    kinds true h = ap (λ (o : Outcome). o.seen) h
    kinds false h = ap (λ (o : Outcome). o.seen) h

submission_seen : (plan : Plan) (next : Option Next) (w : GrownWorld) (n proc : ℕ) (args : List ℤ) (c : GrownCoordState) (o : Outcome)
    → (let r = after_grown_submit plan next c proc args in Submits w n proc args r.state r.sends r.answer o) → IsSeenAt plan next c proc o.seen
submission_seen plan next w n proc args c o h = go c.draining refl h
  where
    core : Submission
    core = after_submit (own_plan plan next c.switched) c.core proc args

    refusal : GrownSubmission
    refusal = record { answer = Err fault.Draining; state = c; sends = [] }

    go : (b : Bool) → c.draining ≡ b → (let r = cond b refusal (coord.submitted_to_core c core) in Submits w n proc args r.state r.sends r.answer o) → IsSeenAt plan next c proc o.seen
    go true is h = as_draining is (ap (λ (o : Outcome). o.seen) h)
    go false is h = core_seen plan next w n proc args c o is core (any_submission_is (own_plan plan next c.switched) c.core proc args) h

-- ---- each of these, exactly

module _ (plan : Plan) (next : Option Next) (w : GrownWorld) (n proc : ℕ) (args : List ℤ) (c : GrownCoordState) (o : Outcome) (there : slice_get w.coords n ≡ Some c)
    (happens : Happens plan next w (Submit n proc args) o) where
  is_seen : IsSeenAt plan next c proc o.seen
  is_seen =
      let same = same_there w.coords n happens.1 c happens.2 there in
      submission_seen plan next w n proc args c o (subst (λ c. let r = after_grown_submit plan next c proc args in Submits w n proc args r.state r.sends r.answer o) same happens.3)

  abbrev there_are : ℕ
  there_are = length (own_plan plan next c.switched).program.procedures

  pub draining_exactly : (o.seen ≡ seen.Draining) ↔ (c.draining ≡ true)
  draining_exactly = seen_draining c.draining there_are proc (length c.core.unanswered) (next_id c.core) o.seen is_seen

  pub no_proc_exactly : (o.seen ≡ seen.NoProc) ↔ ((c.draining ≡ false) × (there_are ≤ proc))
  no_proc_exactly = seen_unknown c.draining there_are proc (length c.core.unanswered) (next_id c.core) o.seen is_seen

  pub spent_exactly : (o.seen ≡ seen.Spent) ↔ ((c.draining ≡ false) × (proc < there_are) × (most_transactions ≤ c.core.next))
  spent_exactly = seen_spent c.draining there_are proc (length c.core.unanswered) (next_id c.core) o.seen is_seen

  pub busy_exactly : (o.seen ≡ seen.Busy) ↔ ((c.draining ≡ false) × (proc < there_are) × (c.core.next < most_transactions) × (most_pending ≤ length c.core.unanswered))
  busy_exactly = seen_busy c.draining there_are proc (length c.core.unanswered) (next_id c.core) o.seen is_seen

  pub taken_else : c.draining ≡ false → proc < there_are → c.core.next < most_transactions → length c.core.unanswered < most_pending → o.seen ≡ seen.Submitted (next_id c.core)
  taken_else = seen_taken c.draining there_are proc (length c.core.unanswered) (next_id c.core) o.seen is_seen
