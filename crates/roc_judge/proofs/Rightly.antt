-- What is found is right
use Rattle.std.proofs.Common.{◌≡◌, ◌≢◌, ℕ, ℤ, Bool, true, false, not, cond, List, [], ◌∷◌, ◌++◌, length, filter, find, Option, Some, None, is_none, unwrap_or, refl, sym, ap, subst, ◌∙◌, ◌⊎◌}
use Rattle.std.proofs.Common.{inl, inr, arith}
use Rattle.std.proofs.lemmas.Bool.{false≢true}
use Rattle.std.proofs.lemmas.List.{length-append}
use Rattle.std.specs.List.{flat_map, filter_map}
use Rattle.std.specs.List.Sorted.{IsStrictlySortedBy}
use Rattle.roc_sequence.specs.Lists.{Has}
use Rattle.roc_sequence.specs.Places.{IsListed, is_listed}
use Rattle.roc_sequence.proofs.Found.{found_has, none_found}
use Rattle.roc_sequence.proofs.Members.{has_right, has_flat_map, from_has_flat_map}
use Rattle.roc_sequence.proofs.Places.{listed_true, listed_test, listed_false, listed_or_not}
use Rattle.roc_base.specs.declared.id.TxnId.{TxnId}
use Rattle.roc_base.specs.TxnId.{is_txn, txn_cmp, txn_lt}
use Rattle.roc_base.specs.Equalities.{is_txn-true, is_txn-same, Decides-is_nums}
use Rattle.roc_base.proofs.Ids.{txn_lt-itself, txn_lt-asym}
use Rattle.roc_depgraph.specs.Closure.{IsRisingListOf}
use Rattle.roc_depgraph.specs.Reach.{Reaches}
use Rattle.roc_depgraph.proofs.Listed.{has_listed, listed_has}
use Rattle.roc_depgraph.proofs.RisingLists.{below}
use Rattle.roc_rows.specs.Store.{Store}
use Rattle.roc_program.specs.Program.{Workload}
use Rattle.roc_whole.specs.Serial.{Call, run_of, start_store, serial_answers, serial_run}
use Rattle.roc_audit.specs.declared.entry.Entry.{Entry}
use Rattle.roc_audit.specs.declared.entry.Entry.TheVariants.{Submitted, Answered}
use Rattle.roc_audit.specs.History.{WasSubmitted, WasAnswered}
use Rattle.roc_audit.specs.Witness.{submitted_call, serial_reply_from, reply_in}
use Rattle.roc_audit.proofs.Histories.{call_of-submitted, call_of-id, call_of-from}
use Rattle.roc_component.specs.Components.{among}
use Rattle.roc_precedence.specs.declared.pair.Pair.{Pair}
use Rattle.roc_precedence.specs.Pairs.{IsPaired}
use Rattle.roc_precedence.specs.Cycles.{HasCycle, IsLeastCycle}
use Rattle.roc_precedence.specs.Orders.{IsLeastOrder, HaveSameChains}
use Rattle.roc_precedence.proofs.Orders.{orders_by_chains}
use Rattle.roc_precedence.proofs.Walks.{cycle_chain, chain_cycle}
use Rattle.roc_judge.specs.declared.folded.Folded.{Folded}
use Rattle.roc_judge.specs.declared.calls.Called.{Called}
use Rattle.roc_judge.specs.declared.judgement.Judgement.{Judgement}
use Rattle.roc_judge.specs.declared.judgement.Judgement.TheVariants.{Missing, Unsubmitted, Cycle, Reply, Yes}
use Rattle.roc_judge.specs.Before.{GoesBefore, candidates, told}
use Rattle.roc_judge.specs.Judged.{AnsweredAreDecided, DecidedAreSubmitted, RepliesAreRight, IsAnsweredUndecided, IsUnsubmitted, IsJudged, tells_answer, answers_told}
use Rattle.roc_judge.specs.Judged.{a_circle, a_wrong_reply}
use Rattle.roc_judge.specs.Judged.{explained}
use Rattle.roc_judge.specs.Inner.Sets.{answered_ids, all_answered, call_in, first_of}
use Rattle.roc_judge.specs.Inner.Replies.{IsReplied, none_wrong, one_wrong, first_wrong, wrong_of, wrong_at, is_right}
use Rattle.roc_judge.specs.Inner.Found.{AreCandidates, AreReady, IsLeastOrNone, IsCycleOf}
use Rattle.roc_judge.specs.Inner.Pairs.{fold_pairs}
use Rattle.roc_judge.specs.Inner.Whole.{whole_pairs}
use Rattle.roc_judge.proofs.Chained.{paired_chains}
use Rattle.roc_judge.proofs.Wholly.{whole_is_before, before_is_whole, least_in_part, has_in_part}

-- ---- the first of a rising list

first_rising : (test : TxnId → Bool) (xs : List TxnId) (t : TxnId) → IsStrictlySortedBy txn_cmp xs → find test xs ≡ Some t → (u : TxnId) → Has u xs → test u ≡ true → txn_lt u t ≡ false
unfolding IsStrictlySortedBy
first_rising test [] t s e u h p = elim h [ ]
first_rising test (x ∷ xs) t s e u h p = go (test x) refl e h (first_rising test xs t s.1)
  where
    go : (b : Bool) → test x ≡ b → cond b (Some x) (find test xs) ≡ Some t → Has u (x ∷ xs) → (find test xs ≡ Some t → (u : TxnId) → Has u xs → test u ≡ true → txn_lt u t ≡ false) → txn_lt u t
        ≡ false
    go true k f (inl i) ih = let same : x ≡ t = cc in subst (λ y. txn_lt u y ≡ false) same (subst (λ y. txn_lt u y ≡ false) i (txn_lt-itself u))
    go true k f (inr h) ih = let same : x ≡ t = cc in subst (λ y. txn_lt u y ≡ false) same (txn_lt-asym x u (below x u xs s.0 (has_listed xs u h)))
    go false k f (inl i) ih = absurd (false≢true (sym k ∙ (ap test (sym i) ∙ p)))
    go false k f (inr h) ih = ih f u h p

least_or_none : (P Q : TxnId → Type 0) (test : TxnId → Bool) (xs : List TxnId) → IsRisingListOf Q xs → ((t : TxnId) → P t → Q t × (test t ≡ true)) → ((t : TxnId) → Q t → test t ≡ true → P t)
    → (o : Option TxnId) → find test xs ≡ o → IsLeastOrNone P o
least_or_none P Q test xs rising from to None e = λ t p. let k = from t p in false≢true (sym (none_found test xs e t (listed_has xs t (rising.complete t k.0))) ∙ k.1)
least_or_none P Q test xs rising from to (Some t) e =
    let h = found_has test xs t e in
    record {
      holds = to t (rising.sound t (has_listed xs t h.0)) h.1;
      least = λ u p l. (let k = from u p in false≢true (sym (first_rising test xs t rising.rising e u (listed_has xs u (rising.complete u k.0)) k.1) ∙ l));
    }

-- ---- what was answered

from_answered : (es : List Entry) (t : TxnId) → Has t (answered_ids es) → (reply : List ℤ) × WasAnswered es t reply
from_answered [] t h = elim h [ ]
from_answered (Submitted u proc args ∷ es) t h = let r = from_answered es t h in (r.0, inr r.1)
from_answered (Answered u reply ∷ es) t (inl e) = (reply, inl (λ i. Answered (e i) reply))
from_answered (Answered u reply ∷ es) t (inr h) = let r = from_answered es t h in (r.0, inr r.1)

to_answered : (es : List Entry) (t : TxnId) (reply : List ℤ) → WasAnswered es t reply → Has t (answered_ids es)
to_answered [] t reply h = elim h [ ]
to_answered (Submitted u proc args ∷ es) t reply (inl e) = absurd (cc)
to_answered (Submitted u proc args ∷ es) t reply (inr h) = to_answered es t reply h
to_answered (Answered u logged ∷ es) t reply (inl e) = let same : t ≡ u = cc in inl same
to_answered (Answered u logged ∷ es) t reply (inr h) = inr (to_answered es t reply h)

from_all_answered : (folds : List Folded) (t : TxnId) → Has t (all_answered folds) → (reply : List ℤ) × WasAnswered (told folds) t reply
from_all_answered folds t h =
    let r = from_has_flat_map (λ (f : Folded). answered_ids f.told) t folds h in
    let a = from_answered (r.0).told t r.2 in
    (a.0, has_flat_map (λ (f : Folded). f.told) (Answered t a.0) r.0 folds r.1 a.1)

to_all_answered : (folds : List Folded) (t : TxnId) (reply : List ℤ) → WasAnswered (told folds) t reply → Has t (all_answered folds)
to_all_answered folds t reply h =
    let r = from_has_flat_map (λ (f : Folded). f.told) (Answered t reply) folds h in
    has_flat_map (λ (f : Folded). answered_ids f.told) t r.0 folds r.1 (to_answered (r.0).told t reply r.2)

filter_append : {A : Type 0} (test : A → Bool) (xs ys : List A) → length (filter test (xs ++ ys)) ≡ length (filter test xs ++ filter test ys)
filter_append test [] ys = refl
filter_append {A} test (x ∷ xs) ys = go (test x) (filter_append test xs ys)
  where
    go : (b : Bool) → length (filter test (xs ++ ys)) ≡ length (filter test xs ++ filter test ys) → length (cond b (x ∷ filter test (xs ++ ys)) (filter test (xs ++ ys)))
        ≡ length (cond b (x ∷ filter test xs) (filter test xs) ++ filter test ys)
    go true ih = omega (arith, ih)
    go false ih = ih

count_one : (es : List Entry) → length (answered_ids es) ≡ length (filter tells_answer es)
count_one [] = refl
count_one (Submitted u proc args ∷ es) = count_one es
count_one (Answered u reply ∷ es) = let h = count_one es in omega (arith, h)

pub counted : (folds : List Folded) → length (all_answered folds) ≡ answers_told folds
counted [] = refl
counted (f ∷ folds) =
    let a = length-append (answered_ids f.told) (all_answered folds) in
    let b = length-append (filter tells_answer f.told) (filter tells_answer (told folds)) in
    let k = filter_append tells_answer f.told (told folds) in
    let one = count_one f.told in
    let rest = counted folds in
    omega (arith, a, b, k, one, rest)

pub missing_found : (folds : List Folded) (answered met ids : List TxnId) → answered ≡ all_answered folds → IsRisingListOf (IsListed is_txn answered) met
    → IsRisingListOf (IsListed is_txn (candidates folds)) ids
    → IsLeastOrNone (IsAnsweredUndecided folds) (find (λ t. not (is_listed is_txn ids t)) met)
missing_found folds answered met ids same rising members =
    least_or_none (IsAnsweredUndecided folds) (IsListed is_txn answered) (λ t. not (is_listed is_txn ids t)) met rising from to (find (λ t. not (is_listed is_txn ids t)) met) refl
  where
    out : (t : TxnId) → ¬ IsListed is_txn (candidates folds) t → (b : Bool) → is_listed is_txn ids t ≡ b → not b ≡ true
    out t n true e = absurd (n (members.sound t (listed_true is_txn ids t e)))
    out t n false e = refl

    outside : (t : TxnId) → (b : Bool) → is_listed is_txn ids t ≡ b → not b ≡ true → ¬ IsListed is_txn (candidates folds) t
    outside t true e k = absurd (false≢true k)
    outside t false e k = λ l. listed_false is_txn ids t e (members.complete t l)

    from : (t : TxnId) → IsAnsweredUndecided folds t → IsListed is_txn answered t × (not (is_listed is_txn ids t) ≡ true)
    from t m = (has_listed answered t (subst (λ (xs : List TxnId). Has t xs) (sym same) (to_all_answered folds t m.0.0 m.0.1)), out t m.1 (is_listed is_txn ids t) refl)

    to : (t : TxnId) → IsListed is_txn answered t → not (is_listed is_txn ids t) ≡ true → IsAnsweredUndecided folds t
    to t l e = (from_all_answered folds t (subst (λ (xs : List TxnId). Has t xs) same (listed_has answered t l)), outside t (is_listed is_txn ids t) refl e)

-- who is not missing was decided
pub none_missing : (folds : List Folded) → ((t : TxnId) → ¬ IsAnsweredUndecided folds t) → AnsweredAreDecided folds
none_missing folds n t reply w =
    elim (listed_or_not is_txn (candidates folds) t) [
      | inl l ↦ l
      | inr k ↦ absurd (n t ((reply, w), k))
    ]

-- ---- what was submitted

pub unsubmitted_found : (folds : List Folded) (all ids : List TxnId) (calls : List (TxnId × Called)) → AreCandidates folds all ids → ((t : TxnId) → call_in calls t ≡ submitted_call t (told folds))
    → IsLeastOrNone (IsUnsubmitted folds) (find (λ t. is_none (call_in calls t)) ids)
unsubmitted_found folds all ids calls members called =
    least_or_none (IsUnsubmitted folds) (IsListed is_txn all) (λ t. is_none (call_in calls t)) ids members.rising from to (find (λ t. is_none (call_in calls t)) ids) refl
  where
    none_there : (t : TxnId) → ¬ WasSubmitted (told folds) t → (o : Option Call) → submitted_call t (told folds) ≡ o → is_none o ≡ true
    none_there t n None e = refl
    none_there t n (Some c) e = absurd (n (let same = call_of-id (told folds) t c e in (c.procedure, c.arguments, call_of-from is_txn-true (told folds) t c e)))

    one_there : (t : TxnId) → (o : Option Call) → submitted_call t (told folds) ≡ o → is_none o ≡ true → ¬ WasSubmitted (told folds) t
    one_there t None e k w = let c = call_of-submitted is_txn-same (told folds) t w in absurd (let f : None ≡ Some c.0 = sym e ∙ c.1 in cc)
    one_there t (Some c) e k w = false≢true k

    from : (t : TxnId) → IsUnsubmitted folds t → IsListed is_txn all t × (is_none (call_in calls t) ≡ true)
    from t u = (subst (λ (xs : List TxnId). IsListed is_txn xs t) (sym members.are) u.0, ap is_none (called t) ∙ none_there t u.1 (submitted_call t (told folds)) refl)

    to : (t : TxnId) → IsListed is_txn all t → is_none (call_in calls t) ≡ true → IsUnsubmitted folds t
    to t l e = (subst (λ (xs : List TxnId). IsListed is_txn xs t) members.are l, one_there t (submitted_call t (told folds)) refl (sym (ap is_none (called t)) ∙ e))

decide_submitted : (h : List Entry) (t : TxnId) → WasSubmitted h t ⊎ (¬ WasSubmitted h t)
decide_submitted h t = go (submitted_call t h) refl
  where
    go : (o : Option Call) → submitted_call t h ≡ o → WasSubmitted h t ⊎ (¬ WasSubmitted h t)
    go None e = inr (λ w. let c = call_of-submitted is_txn-same h t w in absurd (let f : None ≡ Some c.0 = sym e ∙ c.1 in cc))
    go (Some c) e = inl (c.procedure, c.arguments, call_of-from is_txn-true h t c e)

pub none_unsubmitted : (folds : List Folded) → ((t : TxnId) → ¬ IsUnsubmitted folds t) → DecidedAreSubmitted folds
none_unsubmitted folds n t l =
    elim (decide_submitted (told folds) t) [
      | inl w ↦ w
      | inr k ↦ absurd (n t (l, k))
    ]

-- ---- replies

not_wrong : (runs : TxnId → Option (List ℤ)) (t : TxnId) (es : List Entry) (logged : List ℤ) → first_wrong runs t es ≡ None → WasAnswered es t logged → runs t ≡ Some logged
not_wrong runs t [] logged e h = elim h [ ]
not_wrong runs t (x ∷ es) logged e (inr h) = go (wrong_of runs t x) e (λ k. not_wrong runs t es logged k h)
  where
    go : (o : Option (List ℤ)) → first_of o (first_wrong runs t es) ≡ None → (first_wrong runs t es ≡ None → runs t ≡ Some logged) → runs t ≡ Some logged
    go None k ih = ih k
    go (Some r) k ih = absurd (cc)
not_wrong runs t (x ∷ es) logged e (inl i) =
    right (is_right (runs t) logged) refl (subst (λ (y : Entry). first_of (wrong_of runs t y) (first_wrong runs t es) ≡ None) (sym i) e)
  where
    by : (o : Option (List ℤ)) → is_right o logged ≡ true → o ≡ Some logged
    by None k = absurd (false≢true k)
    by (Some r) k = ap (λ (xs : List ℤ). Some xs) ((Decides-is_nums r logged).0 k)

    right : (b : Bool) → is_right (runs t) logged ≡ b → first_of (wrong_at b t logged t) (first_wrong runs t es) ≡ None → runs t ≡ Some logged
    right true k f = by (runs t) k
    right false k f =
        let there : first_of (Some logged) (first_wrong runs t es) ≡ None = subst (λ (b : Bool). first_of (cond b (Some logged) None) (first_wrong runs t es) ≡ None) (is_txn-same t) f in
        absurd (cc)

is_wrong : (runs : TxnId → Option (List ℤ)) (t : TxnId) (es : List Entry) (logged : List ℤ) → first_wrong runs t es ≡ Some logged → WasAnswered es t logged × (is_right (runs t) logged ≡ false)
is_wrong runs t [] logged e = absurd (cc)
is_wrong runs t (Submitted u proc args ∷ es) logged e = let r = is_wrong runs t es logged e in (inr r.0, r.1)
is_wrong runs t (Answered u reply ∷ es) logged e = go (is_right (runs u) reply) refl e (is_wrong runs t es logged)
  where
    go : (b : Bool) → is_right (runs u) reply ≡ b → first_of (wrong_at b u reply t) (first_wrong runs t es) ≡ Some logged
        → (first_wrong runs t es ≡ Some logged → WasAnswered es t logged × (is_right (runs t) logged ≡ false)) → WasAnswered (Answered u reply ∷ es) t logged × (is_right (runs t) logged ≡ false)
    go true k f ih = let r = ih f in (inr r.0, r.1)
    go false k f ih = at (is_txn u t) refl f
      where
        at : (b : Bool) → is_txn u t ≡ b → first_of (cond b (Some reply) None) (first_wrong runs t es) ≡ Some logged → WasAnswered (Answered u reply ∷ es) t logged
            × (is_right (runs t) logged ≡ false)
        at true s f2 =
            let same = is_txn-true u t s in
            let logs : reply ≡ logged = cc in
            (inl (λ i. Answered (sym same i) (sym logs i)), subst (λ (r : List ℤ). is_right (runs t) r ≡ false) logs (subst (λ (y : TxnId). is_right (runs y) reply ≡ false) same k))
        at false s f2 = let r = ih f2 in (inr r.0, r.1)

has_reply : (w : Workload) (store : Store) (calls : List Call) (c : Call) (t : TxnId) → Has c calls → c.id ≡ t → (r : List ℤ) × (reply_in t (serial_answers w store calls) ≡ Some r)
has_reply w store [] c t h e = elim h [ ]
has_reply w store (d ∷ calls) c t (inl i) e = (
  (run_of w store d).reply,
  subst (λ (b : Bool). cond b (Some (run_of w store d).reply) (reply_in t (serial_answers w (run_of w store d).store calls)) ≡ Some (run_of w store d).reply)
      (sym (subst (λ (x : Call). is_txn x.id t ≡ true) i (subst (λ y. is_txn y t ≡ true) (sym e) (is_txn-same t)))) refl,
)
has_reply w store (d ∷ calls) c t (inr h) e = go (is_txn d.id t) (has_reply w (run_of w store d).store calls c t h e)
  where
    go : (b : Bool) → (r : List ℤ) × (reply_in t (serial_answers w (run_of w store d).store calls) ≡ Some r) → (r : List ℤ)
        × (cond b (Some (run_of w store d).reply) (reply_in t (serial_answers w (run_of w store d).store calls)) ≡ Some r)
    go true r = ((run_of w store d).reply, refl)
    go false r = r

has_call : (calls : TxnId → Option Call) (c : Call) (t : TxnId) (ids : List TxnId) → Has t ids → calls t ≡ Some c → Has c (filter_map calls ids)
has_call calls c t [] h e = elim h [ ]
has_call calls c t (x ∷ ids) (inl i) e = let here : calls x ≡ Some c = ap calls (sym i) ∙ e in rw here (inl refl)
has_call calls c t (x ∷ ids) (inr h) e = go (calls x) refl (has_call calls c t ids h e)
  where
    go : (o : Option Call) → calls x ≡ o → Has c (filter_map calls ids) → Has c (filter_map calls (x ∷ ids))
    go None e k = rw e k
    go (Some d) e k = rw e (inr k)

from_some : (o : Option (List ℤ)) (r run : List ℤ) → o ≡ Some r → run ≡ unwrap_or o [] → o ≡ Some run
from_some None r run e f = absurd (cc)
from_some (Some x) r run e f = ap (λ (xs : List ℤ). Some xs) (sym f)

module _ (program : Workload) (folds : List Folded) (calls : List (TxnId × Called)) (n : ℕ) (ready : AreReady folds calls n) (order : List TxnId)
    (least : IsLeastOrder (GoesBefore folds) (candidates folds) order)
    (runs wrong : TxnId → Option (List ℤ)) (ran : (t : TxnId) → runs t ≡ reply_in t (serial_run program (filter_map (call_in calls) order)))
    (found : (t : TxnId) → wrong t ≡ first_wrong runs t (told folds)) where
  run_is : (t : TxnId) → runs t ≡ serial_reply_from program (start_store program) (told folds) order t
  run_is t = ran t ∙ ap (λ (f : TxnId → Option Call). reply_in t (serial_run program (filter_map f order))) (λ i u. ready.called u i)

  right_of : (ids : List TxnId) → ((t : TxnId) → Has t ids → wrong t ≡ None) → RepliesAreRight program folds order ids
  right_of ids none t logged l w = sym (run_is t) ∙ not_wrong runs t (told folds) logged (sym (found t) ∙ none t (listed_has ids t l)) w

  replied : (t : TxnId) → Has t order → (r : List ℤ) × (runs t ≡ Some r)
  replied t h =
      let w = ready.submitted t (least.from t (has_listed order t h)) in
      let c = call_of-submitted is_txn-same (told folds) t w in
      let r = has_reply program (start_store program) (filter_map (call_in calls) order) c.0 t (has_call (call_in calls) c.0 t order h (ready.called t ∙ c.1))
      (call_of-id (told folds) t c.0 c.1) in
      (r.0, ran t ∙ r.1)

  pub replies_judged : (j : Judgement) → IsReplied runs wrong order n j → IsJudged program folds j
  replies_judged _ (none_wrong none) =
      subst (λ (m : ℕ). IsJudged program folds (Yes order m)) (sym ready.counted) (explained order ready.decided ready.submitted least (right_of order none))
  replies_judged _ (one_wrong front behind t logged run o none w r) =
      let k = is_wrong runs t (told folds) logged (sym (found t) ∙ w) in
      let own = replied t (subst (λ (xs : List TxnId). Has t xs) (sym o) (has_right t front (t ∷ behind) (inl refl))) in
      let is : runs t ≡ Some run = from_some (runs t) own.0 run own.1 r in
      a_wrong_reply order front behind t logged run ready.decided ready.submitted least o (right_of front none) k.0 (sym (run_is t) ∙ is)
      (λ e. false≢true (sym k.1 ∙ (ap (λ (x : Option (List ℤ)). is_right x logged) is ∙ (Decides-is_nums run logged).1 (sym e))))

-- ---- cycles

module _ (folds : List Folded) (all on : List TxnId) (pairs : List Pair) (same : HaveSameChains (IsPaired pairs) (GoesBefore folds) all)
    (circles : IsRisingListOf (λ x. Reaches (among all (IsPaired pairs)) x x) on) where
  abbrev whole : List Pair
  whole = flat_map (whole_pairs on) folds

  members_on : (x : TxnId) → Reaches (among all (GoesBefore folds)) x x → IsListed is_txn on x
  members_on x r = circles.complete x ((same x x).1 r)

  on_inside : (x : TxnId) → IsListed is_txn on x → IsListed is_txn all x
  on_inside x l = starts (circles.sound x l)
    where
      starts : {t : TxnId} → Reaches (among all (IsPaired pairs)) x t → IsListed is_txn all x
      starts (Rattle.roc_depgraph.specs.Reach.direct e) = e.0
      starts (Rattle.roc_depgraph.specs.Reach.through p e) = starts p

  forth : (u t : TxnId) → IsListed is_txn on u → IsListed is_txn on t → GoesBefore folds u t → IsPaired whole u t
  forth u t a b g = before_is_whole folds on u t (listed_test is_txn on u a) (listed_test is_txn on t b) g

  pub cycle_found : (c : List TxnId) → IsLeastCycle (IsPaired whole) on c → IsLeastCycle (GoesBefore folds) all c
  cycle_found c h = least_in_part (GoesBefore folds) (IsPaired whole) all on members_on on_inside forth (whole_is_before folds on) c h

  pub cycle_there : HasCycle (IsPaired pairs) all → HasCycle (IsPaired whole) on
  cycle_there c =
      let r = cycle_chain (IsPaired pairs) all c in
      has_in_part (GoesBefore folds) (IsPaired whole) all on members_on on_inside forth (whole_is_before folds on) (chain_cycle (GoesBefore folds) all r.0 ((same r.0 r.0).0 r.1))

pub circle_judged : (program : Workload) (folds : List Folded) (all : List TxnId) (j : Judgement) → all ≡ candidates folds → AnsweredAreDecided folds → DecidedAreSubmitted folds
    → IsCycleOf (GoesBefore folds) all j → IsJudged program folds j
circle_judged program folds all (Cycle c) same d s h = a_circle c d s (subst (λ (M : List TxnId). IsLeastCycle (GoesBefore folds) M c) same h)
circle_judged program folds all (Missing t) same d s h = elim h [ ]
circle_judged program folds all (Unsubmitted t) same d s h = elim h [ ]
circle_judged program folds all (Reply t logged run) same d s h = elim h [ ]
circle_judged program folds all (Yes order n) same d s h = elim h [ ]

-- ---- orders

pub candidates_rising : (folds : List Folded) (all ids : List TxnId) → AreCandidates folds all ids → IsRisingListOf (IsListed is_txn (candidates folds)) ids
candidates_rising folds all ids m = subst (λ (M : List TxnId). IsRisingListOf (IsListed is_txn M) ids) m.are m.rising

pub chains_for : (folds : List Folded) (all ids : List TxnId) (pairs : List Pair) → AreCandidates folds all ids → AnsweredAreDecided folds → pairs ≡ flat_map (fold_pairs ids) folds
    → HaveSameChains (IsPaired pairs) (GoesBefore folds) all
chains_for folds all ids pairs m d e =
    subst (λ (ps : List Pair). HaveSameChains (IsPaired ps) (GoesBefore folds) all) (sym e)
    (subst (λ (M : List TxnId). HaveSameChains (IsPaired (flat_map (fold_pairs ids) folds)) (GoesBefore folds) M) (sym m.are) (paired_chains folds ids (candidates_rising folds all ids m) d))

pub order_for : (folds : List Folded) (all ids order : List TxnId) (pairs : List Pair) → AreCandidates folds all ids → HaveSameChains (IsPaired pairs) (GoesBefore folds) all
    → IsLeastOrder (IsPaired pairs) all order → IsLeastOrder (GoesBefore folds) (candidates folds) order
order_for folds all ids order pairs m same o =
    subst (λ (M : List TxnId). IsLeastOrder (GoesBefore folds) M order) m.are (orders_by_chains (IsPaired pairs) (GoesBefore folds) all order same o)
