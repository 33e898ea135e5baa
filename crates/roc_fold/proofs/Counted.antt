-- A coordinator's sequence numbers count its submissions
use Rattle.std.proofs.Common.{◌≡◌, ℕ, ◌+◌, ◌<◌, ◌≤◌, ◌^◌, ℤ, Bool, true, false, not, cond, nat_le, nat_lt, ◌==◌, List}
use Rattle.std.proofs.Common.{[], ◌∷◌, ◌++◌, length, filter, map, Option, Some, None, Ok, refl, sym, ap, subst, ◌∙◌, arith}
use Rattle.std.proofs.lemmas.Bool.{leb-false}
use Rattle.roc_base.specs.declared.id.TxnId.{TxnId}
use Rattle.roc_base.specs.declared.node.Shard.{Shard}
use Rattle.roc_msg.specs.declared.msg.Msg.{Msg}
use Rattle.roc_msg.specs.declared.msg.Msg.TheVariants.{StartOk, CommitOk, ReadOk, Start, Commit, Fetch, Known, Stop, Ended, Settled, Read, Drained, Switched}
use Rattle.roc_msg.specs.declared.outbox.Outgoing.{Outgoing}
use Rattle.roc_msg.specs.declared.reason.Reason.{Reason}
use Rattle.roc_plan.specs.Groups.{Plan, is_view_of, procedure_of}
use Rattle.roc_readonly.specs.declared.view.View.{View}
use Rattle.roc_readonly.specs.declared.view.Round.{Round}
use Rattle.roc_readonly.specs.declared.view.Round.TheVariants.{Waits, Ends, GoesOn}
use Rattle.roc_coord.specs.declared.handled.Handled.{Handled}
use Rattle.roc_coord.specs.declared.handled.Handled.TheVariants as handled
use Rattle.roc_coord.specs.declared.handled.SubmitFault.{SubmitFault}
use Rattle.roc_coord.specs.declared.handled.SubmitFault.TheVariants.{NoProc, Args, Spent, Busy}
use Rattle.roc_coord.specs.declared.transaction.Transaction.{Transaction}
use Rattle.roc_coord.specs.declared.transaction.TakenStart.{TakenStart}
use Rattle.roc_coord.specs.declared.transaction.TakenCommit.{TakenCommit}
use Rattle.roc_readonly.specs.declared.view.TakenRead.{TakenRead}
use Rattle.roc_coord.specs.State.{CoordState, CoordStep, first_coord, find_transaction, find_view}
use Rattle.roc_coord.specs.Step.{after_message, after_startok, after_commitok, after_readok, unless_refused, commitok_taken, readok_taken}
use Rattle.roc_coord.specs.Submit.{after_submit, refused_or_accepted, refusal_of, accepted, accepted_view, new_transaction, next_id, most_transactions, most_pending}
use Rattle.roc_coord.specs.Tick as tick
use Rattle.roc_readonly.specs.Round.{first_round}
use Rattle.roc_wire.specs.Spelling.{spelling}
use Rattle.roc_log.specs.Spellable.{has_spelling}
use Rattle.roc_wire.specs.declared.header.Header.{Header}
use Rattle.roc_log.specs.declared.line.LogLine.{LogLine}
use Rattle.roc_log.specs.declared.line.LogLine.TheVariants.{Submit, In, Tick, Out, Answer}
use Rattle.roc_log.specs.Sent.{outs_logged}
use Rattle.roc_fold.specs.Sent.{answer_logged}
use Rattle.roc_fold.specs.Told.{submissions}
use Rattle.roc_fold.specs.Fold.{Core, serving, coordinating, GivenByEvent, Gives, Folding, TakesLine, takes_event, takes_due, FoldsTo, begins, goes_on}

-- ---- messages leave the sequence

pub record Stays (s t : CoordState) : Type 0 where
  pub number : t.number ≡ s.number
  pub next : t.next ≡ s.next

itself : (s : CoordState) → Stays s s
itself s = record { number = refl; next = refl }

unless_stays : (s : CoordState) (o : Option Reason) (step : CoordStep) → Stays s step.state → Stays s (unless_refused s o step).state
unless_stays s None step h = h
unless_stays s (Some reason) step h = itself s

startok_stays : (plan : Plan) (s : CoordState) (id : TxnId) (o : Option Transaction) (ok : TakenStart) (shard : Shard) → Stays s (after_startok plan s id o ok shard).state
startok_stays plan s id None ok shard = itself s
startok_stays plan s id (Some x) ok shard = unless_stays s _ _ (record { number = refl; next = refl })

commitok_taken_stays : (plan : Plan) (s : CoordState) (x : Transaction) (o : Option (List ℤ)) → Stays s (commitok_taken plan s x o).state
commitok_taken_stays plan s x None = record { number = refl; next = refl }
commitok_taken_stays plan s x (Some reply) = record { number = refl; next = refl }

commitok_stays : (plan : Plan) (s : CoordState) (id : TxnId) (o : Option Transaction) (ok : TakenCommit) → Stays s (after_commitok plan s id o ok).state
commitok_stays plan s id None ok = itself s
commitok_stays plan s id (Some x) ok = unless_stays s _ _ (commitok_taken_stays plan s _ _)

readok_taken_stays : (plan : Plan) (s : CoordState) (v : View) (r : Round) → Stays s (readok_taken plan s v r).state
readok_taken_stays plan s v Waits = record { number = refl; next = refl }
readok_taken_stays plan s v (Ends reply) = record { number = refl; next = refl }
readok_taken_stays plan s v GoesOn = record { number = refl; next = refl }

readok_stays : (plan : Plan) (s : CoordState) (id : TxnId) (o : Option View) (round : ℕ) (ok : TakenRead) (shard : Shard) → Stays s (after_readok plan s id o round ok shard).state
readok_stays plan s id None round ok shard = itself s
readok_stays plan s id (Some v) round ok shard = unless_stays s _ _ (readok_taken_stays plan s _ _)

pub message_stays : (plan : Plan) (s : CoordState) (msg : Msg) → Stays s (after_message plan s msg).state
message_stays plan s (StartOk id group shard bound outs edges facts) = startok_stays plan s id (find_transaction id s.pending) _ shard
message_stays plan s (CommitOk id shard outs) = commitok_stays plan s id (find_transaction id s.pending) _
message_stays plan s (ReadOk id round group shard versions outs) = readok_stays plan s id (find_view id s.views) round _ shard
message_stays plan s (Start id proc group args inputs) = itself s
message_stays plan s (Commit id edges facts) = itself s
message_stays plan s (Fetch id asker) = itself s
message_stays plan s (Known id edges) = itself s
message_stays plan s Stop = itself s
message_stays plan s (Ended coord below) = itself s
message_stays plan s (Settled id below) = itself s
message_stays plan s (Read id round proc group args) = itself s
message_stays plan s (Drained upto) = itself s
message_stays plan s (Switched upto shard) = itself s

-- ---- a submission that is accepted has the next one, which there is

pub record IsNext (s t : CoordState) (id : TxnId) : Type 0 where
  pub number : t.number ≡ s.number
  pub next : t.next ≡ s.next + 1
  pub bounded : s.next < most_transactions
  pub coord : id.coord ≡ s.number
  pub seq : id.seq ≡ s.next

few_left : (a b : Bool) (x y z : SubmitFault) (d : Option SubmitFault) (n : ℕ) (c : Bool) → nat_le most_transactions n ≡ c → cond a (Some x) (cond b (Some y) (cond c (Some z) d)) ≡ None
    → n < most_transactions
few_left true b x y z d n c k h = absurd (cc)
few_left false true x y z d n c k h = absurd (cc)
few_left false false x y z d n true k h = absurd (cc)
few_left false false x y z d n false k h = let l = leb-false most_transactions n k in omega arith

accepted_tells : (plan : Plan) (s : CoordState) (proc : ℕ) (args : List ℤ) (id : TxnId) (v : Bool) → s.next < most_transactions
    → (cond v (accepted_view plan s (first_round (next_id s) proc args)) (accepted plan s (new_transaction s proc args))).answer ≡ Ok id
    → IsNext s (cond v (accepted_view plan s (first_round (next_id s) proc args)) (accepted plan s (new_transaction s proc args))).state id
accepted_tells plan s proc args id true l h =
    let same : next_id s ≡ id = cc in
    record { number = refl; next = refl; bounded = l; coord = ap (λ (t : TxnId). t.coord) (sym same); seq = ap (λ (t : TxnId). t.seq) (sym same) }
accepted_tells plan s proc args id false l h =
    let same : next_id s ≡ id = cc in
    record { number = refl; next = refl; bounded = l; coord = ap (λ (t : TxnId). t.coord) (sym same); seq = ap (λ (t : TxnId). t.seq) (sym same) }

pub submission_tells : (plan : Plan) (s : CoordState) (proc : ℕ) (args : List ℤ) (id : TxnId) → (after_submit plan s proc args).answer ≡ Ok id → IsNext s (after_submit plan s proc args).state id
submission_tells plan s proc args id e = go (refusal_of plan s proc args) refl e
  where
    few : refusal_of plan s proc args ≡ None → s.next < most_transactions
    few none =
        few_left (not (nat_lt proc (length plan.program.procedures))) (not (length args == (procedure_of plan proc).arguments)) NoProc Args Spent
        (cond (nat_le most_pending (length s.unanswered)) (Some Busy) None) s.next (nat_le most_transactions s.next) refl none

    go : (o : Option SubmitFault) → refusal_of plan s proc args ≡ o → (refused_or_accepted plan s proc args o).answer ≡ Ok id → IsNext s (refused_or_accepted plan s proc args o).state id
    go (Some fault) k h = absurd (cc)
    go None k h = accepted_tells plan s proc args id (is_view_of plan proc) (few k) h

-- ---- lines

pub subs_append : (xs ys : List LogLine) → submissions (xs ++ ys) ≡ submissions xs + submissions ys
subs_append [] ys = omega arith
subs_append (Submit proc args ∷ xs) ys = let h = subs_append xs ys in omega (arith, h)
subs_append (In bytes ∷ xs) ys = subs_append xs ys
subs_append (Tick ∷ xs) ys = subs_append xs ys
subs_append (Out bytes ∷ xs) ys = subs_append xs ys
subs_append (Answer id reply ∷ xs) ys = subs_append xs ys

none_spelled : (header : Header) (outs : List Outgoing) → submissions (map (λ o. Out (spelling header o.msg)) outs) ≡ 0
none_spelled header [] = refl
none_spelled header (o ∷ outs) = none_spelled header outs

pub none_out : (header : Header) (outs : List Outgoing) → submissions (outs_logged header outs) ≡ 0
none_out header outs = none_spelled header (filter (λ o. has_spelling o.msg) outs)

pub none_answered : (h : Handled) → submissions (answer_logged h) ≡ 0
none_answered (handled.Answered id reply) = refl
none_answered handled.Done = refl
none_answered (handled.Ignored reason) = refl

-- the core has this number, and has accepted so many
abbrev pub CountsCore : (number n : ℕ) → Core → Type 0
CountsCore number n (serving s v) = ⊥
CountsCore number n (coordinating c) = (c.number ≡ number) × (c.next ≡ n) × (n ≤ most_transactions)

pub record Counts (number : ℕ) (lines : List LogLine) (f : Folding) : Type 0 where
  pub core : CountsCore number (submissions lines) f.core
  pub none : submissions f.due ≡ 0

abbrev CountsGiven : (number n : ℕ) → GivenByEvent → Type 0
CountsGiven number n g = CountsCore number n g.core × (submissions g.due ≡ 0)

event_counts : (plan : Plan) (header : Header) (number n : ℕ) (core : Core) (line : LogLine) (g : GivenByEvent) → CountsCore number n core → Gives plan header core line g
    → CountsGiven number (n + submissions (line ∷ [])) g
event_counts plan header number n (serving s v) line g k gives = elim k [ ]
event_counts plan header number n (coordinating c) (In bytes) g k (msg, b, e) =
    let stay = message_stays plan c msg in
    let a = stay.next in
    let m = k.1 in
    let z : submissions (In bytes ∷ []) ≡ 0 = refl in
    let due = subs_append (outs_logged header (after_message plan c msg).sends) (answer_logged (after_message plan c msg).answer) in
    let x = none_out header (after_message plan c msg).sends in
    let y = none_answered (after_message plan c msg).answer in
    subst (CountsGiven number (n + submissions (In bytes ∷ []))) (sym e)
    ((stay.number ∙ k.0, omega (arith, a, m, z), (let l = k.2 in omega (arith, l, z))), omega (arith, due, x, y))
event_counts plan header number n (coordinating c) Tick g k e =
    let m = k.1 in
    let l = k.2 in
    let z : submissions (Tick ∷ []) ≡ 0 = refl in
    subst (CountsGiven number (n + submissions (Tick ∷ []))) (sym e) ((k.0, omega (arith, m, z), omega (arith, l, z)), none_out header (tick.tick_sends plan c))
event_counts plan header number n (coordinating c) (Submit proc args) g k (id, a, e) =
    let next = submission_tells plan c proc args id a in
    let b = next.bounded in
    let d = next.next in
    let m = k.1 in
    let z : submissions (Submit proc args ∷ []) ≡ 1 = refl in
    subst (CountsGiven number (n + submissions (Submit proc args ∷ []))) (sym e)
    ((next.number ∙ k.0, omega (arith, d, m, z), omega (arith, b, m, z)), none_out header (after_submit plan c proc args).sends)
event_counts plan header number n (coordinating c) (Out bytes) g k gives = elim gives [ ]
event_counts plan header number n (coordinating c) (Answer id reply) g k gives = elim gives [ ]

counts_line : (plan : Plan) (header : Header) (number : ℕ) (lines : List LogLine) (f : Folding) (line : LogLine) (h : Folding) → Counts number lines f → TakesLine plan header f line h
    → Counts number (lines ++ line ∷ []) h
counts_line plan header number lines f line _ k (takes_event g d gives) =
    let r = event_counts plan header number (submissions lines) f.core line g k.core gives in
    record { core = subst (λ n. CountsCore number n g.core) (sym (subs_append lines (line ∷ []))) r.0; none = r.1 }
counts_line plan header number lines f line _ k (takes_due rest d) =
    let all : submissions (line ∷ rest) ≡ 0 = subst (λ (ls : List LogLine). submissions ls ≡ 0) d k.none in
    let parts = subs_append (line ∷ []) rest in
    let more = subs_append lines (line ∷ []) in
    let same : submissions lines ≡ submissions (lines ++ line ∷ []) = omega (arith, all, parts, more) in
    record { core = subst (λ n. CountsCore number n f.core) same k.core; none = omega (arith, all, parts) }

pub counted : (plan : Plan) (header : Header) (number : ℕ) (lines : List LogLine) (f : Folding) → FoldsTo plan header (coordinating (first_coord number)) lines f → Counts number lines f
counted plan header number _ _ begins = record { core = (refl, refl, omega arith); none = refl }
counted plan header number _ _ (goes_on {lines} {f} line h folds t) = counts_line plan header number lines f line h (counted plan header number lines f folds) t

-- so a log that folds has few submissions
pub few_submissions : (plan : Plan) (header : Header) (number : ℕ) (lines : List LogLine) (f : Folding) → FoldsTo plan header (coordinating (first_coord number)) lines f → submissions lines < 2 ^ 32
few_submissions plan header number lines f folds = go f.core (counted plan header number lines f folds).core
  where
    go : (core : Core) → CountsCore number (submissions lines) core → submissions lines < 2 ^ 32
    go (serving s v) k = elim k [ ]
    go (coordinating c) k = let l = k.2 in let e : 2 ^ 32 ≡ 4294967296 = refl in omega (arith, l, e)
