-- What a run has given ids waits or was answered
use Rattle.std.proofs.Common.{◌≡◌, ℕ, ◌+◌, ◌<◌, ◌≤◌, ℤ, Bool, true, false, ◌&&◌, ◌||◌, ◌==◌, nat_lt, List, [], ◌∷◌, ◌++◌, length, Some, refl, sym, ◌∙◌, ap, subst, append-nil, arith}
use Rattle.std.proofs.lemmas.Bool.{false≢true}
use Rattle.std.proofs.lemmas.Bool.Decides.{nat_tests}
use Rattle.std.proofs.lemmas.List.Elements.{filter-append}
use Rattle.std.proofs.lemmas.List.{length-append}
use Rattle.std.specs.Prelude.{filter}
use Rattle.roc_base.specs.declared.id.TxnId.{TxnId}
use Rattle.roc_base.specs.TxnId.{is_txn}
use Rattle.roc_base.specs.Equalities.{is_txn-true}
use Rattle.roc_io.specs.Cause.{one_more}
use Rattle.roc_program.specs.Program.{Workload}
use Rattle.roc_program.specs.LookUps.{procedure_named}
use Rattle.roc_report.specs.Line.{Line, Submit, Answer}
use Rattle.roc_sched.specs.declared.line.Request.{Request}
use Rattle.roc_coord.specs.declared.transaction.Transaction.{Transaction}
use Rattle.roc_readonly.specs.declared.view.View.{View}
use Rattle.roc_coord.specs.Ids.{ids_of, view_ids}
use Rattle.roc_coord.specs.State.{CoordState}
use Rattle.roc_coord.specs.Step.{without_transaction, without_view}
use Rattle.roc_coord.specs.Submit.{next_id, most_transactions}
use Rattle.roc_node_submit.specs.EachAnswered.{is_submission, is_answer, is_answer_to, AreGivenIds, one_given}
use Rattle.roc_node_submit.proofs.Counts.{one_if, passing_more, waiting, but, none_but, others_but, all_but, ids_but, AreShared, shared_but, shared_swap}

-- how often an id was given, where those below this sequence were
abbrev pub times_given : (number next : ℕ) → TxnId → ℕ
times_given number next id = one_if (number == id.coord && nat_lt id.seq next)

given_one_more : (number next : ℕ) (id : TxnId) → times_given number (next + 1) id ≡ times_given number next id + one_if (is_txn (record { coord = number; seq = next }) id)
given_one_more number next id = ap (λ d. one_if (number == id.coord && d)) below ∙ go (number == id.coord) (nat_lt id.seq next) (next == id.seq) apart
  where
    below : nat_lt id.seq (next + 1) ≡ (nat_lt id.seq next || next == id.seq)
    below = grind (arith, nat_tests)

    apart : (nat_lt id.seq next && next == id.seq) ≡ false
    apart = grind (arith, nat_tests)

    go : (a b c : Bool) → (b && c) ≡ false → one_if (a && (b || c)) ≡ one_if (a && b) + one_if (a && c)
    go false b c e = refl
    go true true true e = absurd (false≢true (sym e))
    go true true false e = refl
    go true false true e = refl
    go true false false e = refl

-- none below 0 was
pub none_below : (number : ℕ) (id : TxnId) → 0 ≡ times_given number 0 id
none_below number id = go (number == id.coord) (nat_lt id.seq 0) none
  where
    none : nat_lt id.seq 0 ≡ false
    none = grind (arith, nat_tests)

    go : (a b : Bool) → b ≡ false → 0 ≡ one_if (a && b)
    go true true e = absurd (false≢true (sym e))
    go false true e = refl
    go true false e = refl
    go false false e = refl

pub record Kept (program : Workload) (number : ℕ) (taken : List Request) (state : CoordState) (lines : List Line) (answered : ℕ) : Type 0 where
  pub numbered : state.number ≡ number
  pub next : state.next ≡ length taken
  pub bounded : state.next ≤ most_transactions
  pub given : AreGivenIds program number taken (filter is_submission lines)
  pub each : (id : TxnId) → length (filter (is_answer_to id) lines) + waiting id state.unanswered ≡ times_given number state.next id
  pub all : length (filter is_answer lines) + length state.unanswered ≡ state.next
  pub shared : AreShared (ids_of state.pending) (view_ids state.views) state.unanswered
  pub counted : answered ≡ length (filter is_answer lines)

module _ (program : Workload) (number : ℕ) (taken : List Request) where
  -- nothing was given or answered
  pub kept_same : (state : CoordState) (pending : List Transaction) (views : List View) (lines : List Line) (answered : ℕ) → ids_of pending ≡ ids_of state.pending → view_ids views ≡ view_ids state.views
      → Kept program number taken state lines answered → Kept program number taken (record state { pending = pending; views = views }) (lines ++ []) answered
  kept_same state pending views lines answered same_ids same_views k =
      let with_pending : List TxnId → Type 0 = λ ids. AreShared ids (view_ids views) state.unanswered in
      let with_views : List TxnId → Type 0 = λ ids. AreShared (ids_of state.pending) ids state.unanswered in
      let plain : Kept program number taken (record state { pending = pending; views = views }) lines answered = record {
        numbered = k.numbered;
        next = k.next;
        bounded = k.bounded;
        given = k.given;
        each = k.each;
        all = k.all;
        shared = subst with_pending (sym same_ids) (subst with_views (sym same_views) k.shared);
        counted = k.counted;
      } in
      subst (λ l. Kept program number taken (record state { pending = pending; views = views }) l answered) (sym (append-nil lines)) plain

  -- one more was given
  pub kept_given : (state : CoordState) (pending : List Transaction) (views : List View) (lines : List Line) (answered : ℕ) (request : Request) (proc : ℕ) → procedure_named program request.name ≡ Some proc
      → state.next < most_transactions → AreShared (ids_of pending) (view_ids views) (state.unanswered ++ next_id state ∷ []) → Kept program number taken state lines answered
      → Kept program number (taken ++ request ∷ []) (record state { next = state.next + 1; pending = pending; views = views; unanswered = state.unanswered ++ next_id state ∷ [] }) (lines ++ Submit (next_id state) proc request.args ∷ []) answered
  kept_given state pending views lines answered request proc named below shares k =
      let line = Submit (next_id state) proc request.args in
      let place : next_id state ≡ record { coord = number; seq = length taken } = ap (λ n. record { coord = n; seq = state.next }) k.numbered ∙ ap (λ n. record { coord = number; seq = n }) k.next in
      let none_more : length (filter is_answer (lines ++ line ∷ [])) ≡ length (filter is_answer lines) = let p = passing_more is_answer lines line in omega arith in record {
        numbered = k.numbered;
        next = ap (λ n. n + 1) k.next ∙ sym (length-append taken (request ∷ []));
        bounded = omega arith;
        given = subst (λ l. AreGivenIds program number (taken ++ request ∷ []) l)
            (ap (λ (id : TxnId). filter is_submission lines ++ Submit id proc request.args ∷ []) (sym place)
            ∙ sym (filter-append is_submission lines (line ∷ [])))
            (one_given request proc k.given named);
        each = each_more;
        all = let n = length-append state.unanswered (next_id state ∷ []) in let a = k.all in omega (arith, none_more);
        shared = shares;
        counted = k.counted ∙ sym none_more;
      }
    where
      each_more : (id : TxnId) → length (filter (is_answer_to id) (lines ++ Submit (next_id state) proc request.args ∷ [])) + waiting id (state.unanswered ++ next_id state ∷ []) ≡ times_given number (state.next + 1) id
      each_more id =
          let mine : next_id state ≡ record { coord = number; seq = state.next } = ap (λ n. record { coord = n; seq = state.next }) k.numbered in
          let none = passing_more (is_answer_to id) lines (Submit (next_id state) proc request.args) in
          let one = passing_more (λ own. is_txn own id) state.unanswered (next_id state) ∙ ap (λ (i : TxnId). waiting id state.unanswered + one_if (is_txn i id)) mine in
          let before = k.each id in
          let more = given_one_more number state.next id in
          omega arith

  module _ (state : CoordState) (lines : List Line) (answered : ℕ) (gone : TxnId) (reply : List ℤ) (k : Kept program number taken state lines answered) where
    at_most_one : (b : Bool) → one_if b ≤ 1
    at_most_one true = omega arith
    at_most_one false = omega arith

    waits_once : 1 ≤ waiting gone state.unanswered → waiting gone state.unanswered ≡ 1
    waits_once waited = let e = k.each gone in let m = at_most_one (number == gone.coord && nat_lt gone.seq state.next) in omega arith

    -- one that waited was answered
    kept_answered : (pending : List Transaction) (views : List View) → 1 ≤ waiting gone state.unanswered → AreShared (ids_of pending) (view_ids views) (but gone state.unanswered)
        → Kept program number taken (record state { pending = pending; views = views; unanswered = but gone state.unanswered }) (lines ++ Answer gone reply ∷ []) (one_more answered)
    kept_answered pending views waited shares =
        let line = Answer gone reply in
        let one_answer : length (filter is_answer (lines ++ line ∷ [])) ≡ length (filter is_answer lines) + 1 = passing_more is_answer lines line in
        let no_submission : filter is_submission (lines ++ line ∷ []) ≡ filter is_submission lines = filter-append is_submission lines (line ∷ []) ∙ append-nil (filter is_submission lines) in
        let less : length (but gone state.unanswered) + waiting gone state.unanswered ≡ length state.unanswered = all_but gone state.unanswered in
        let only : waiting gone state.unanswered ≡ 1 = waits_once waited in
        let total = k.all in let counted = k.counted in let bounded = k.bounded in record {
          numbered = k.numbered;
          next = k.next;
          bounded = k.bounded;
          given = subst (λ l. AreGivenIds program number taken l) (sym no_submission) k.given;
          each = each_then;
          all = omega arith;
          shared = shares;
          counted = counts_one (omega arith) ∙ ap (λ n. n + 1) k.counted ∙ sym one_answer;
        }
      where
        counts_one : answered + 1 ≤ 18446744073709551615 → one_more answered ≡ answered + 1
        counts_one le = omega arith

        each_then : (id : TxnId) → length (filter (is_answer_to id) (lines ++ Answer gone reply ∷ [])) + waiting id (but gone state.unanswered) ≡ times_given number state.next id
        each_then id = go (is_txn gone id) refl
          where
            go : (b : Bool) → is_txn gone id ≡ b → length (filter (is_answer_to id) (lines ++ Answer gone reply ∷ [])) + waiting id (but gone state.unanswered) ≡ times_given number state.next id
            go true e =
                let more = passing_more (is_answer_to id) lines (Answer gone reply) ∙ ap (λ b. length (filter (is_answer_to id) lines) + one_if b) e in
                let same = is_txn-true gone id e in
                let none = ap (λ i. waiting i (but gone state.unanswered)) (sym same) ∙ none_but gone state.unanswered in
                let once = ap (λ i. waiting i state.unanswered) (sym same) ∙ waits_once waited in
                let before = k.each id in
                omega arith
            go false e =
                let more = passing_more (is_answer_to id) lines (Answer gone reply) ∙ ap (λ b. length (filter (is_answer_to id) lines) + one_if b) e in
                let others = others_but gone id state.unanswered e in
                let before = k.each id in
                omega arith

    -- a transaction was, or a view
    pub kept_replied : 1 ≤ waiting gone (ids_of state.pending) → Kept program number taken (without_transaction state gone) (lines ++ Answer gone reply ∷ []) (one_more answered)
    kept_replied waited =
        let e = k.shared gone in
        let there : 1 ≤ waiting gone state.unanswered = omega arith in
        let are_shared : List TxnId → Type 0 = λ ids. AreShared ids (view_ids state.views) (but gone state.unanswered) in
        kept_answered (without_transaction state gone).pending state.views there
        (subst are_shared (sym (ids_but (λ (x : Transaction). x.id) gone state.pending)) (shared_but (ids_of state.pending) (view_ids state.views) state.unanswered gone k.shared (waits_once there) waited))

    pub kept_read : 1 ≤ waiting gone (view_ids state.views) → Kept program number taken (without_view state gone) (lines ++ Answer gone reply ∷ []) (one_more answered)
    kept_read waited =
        let e = k.shared gone in
        let there : 1 ≤ waiting gone state.unanswered = omega arith in
        let ps = ids_of state.pending in
        let vs = view_ids state.views in
        let are_shared : List TxnId → Type 0 = λ ids. AreShared ps ids (but gone state.unanswered) in
        kept_answered state.pending (without_view state gone).views there
        (subst are_shared (sym (ids_but (λ (v : View). v.id) gone state.views))
        (shared_swap (but gone vs) ps (but gone state.unanswered) (shared_but vs ps state.unanswered gone (shared_swap ps vs state.unanswered k.shared) (waits_once there) waited)))
