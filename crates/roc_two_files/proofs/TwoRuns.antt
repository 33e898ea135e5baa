-- Two runs, one behind the other, the second from where the first one stands
use Rattle.std.proofs.Common.{◌≡◌, inl, inr, ℕ, ◌<◌, ◌≤◌, Bool, List, ◌++◌, length, sym, subst, arith}
use Rattle.roc_sequence.specs.Lists.{Has}
use Rattle.roc_sequence.specs.Places.{IsListed, IsListedBefore}
use Rattle.roc_sequence.proofs.Places.{listed_by_before}
use Rattle.roc_sequence.proofs.Appended.{listed_either, from_before_front}
use Rattle.roc_sequence.proofs.Members.{has_append}
use Rattle.roc_base.specs.declared.id.TxnId.{TxnId}
use Rattle.roc_base.specs.TxnId.{is_txn}
use Rattle.roc_plan.specs.Groups.{Plan}
use Rattle.roc_whole.specs.Serial.{serial_store}
use Rattle.roc_audit.specs.History.{WasSubmitted}
use Rattle.roc_audit.specs.Witness.{submitted_calls, IsSerialWitnessFrom}
use Rattle.roc_audit.specs.Woven.{Look}
use Rattle.roc_law_protocol.specs.Beginnings as protocol
use Rattle.roc_law_world.specs.World.{World, Beginning}
use Rattle.roc_law_world.specs.Beside.{TellsViews}
use Rattle.roc_law_world.specs.Run.{Stepped, IsRunFrom, at_beginning, steps_on}
use Rattle.roc_law_world.specs.Witness.{shown, witness_of}
use Rattle.roc_law_world.proofs.AnsweringRuns.{told_in_runs}
use Rattle.roc_law_world.proofs.LooksLeave.{told_in_time}
use Rattle.roc_law_world.proofs.Numbered.{numbered}
use Rattle.roc_law_world.proofs.Runs.{beside, grows}
use Rattle.roc_law_world.proofs.Steps.{tells_before}
use Rattle.roc_law_world.proofs.TimeSteps.{adds_in_time}
use Rattle.roc_law_world.proofs.WovenOrder.{is_view, tells_them}
use Rattle.roc_audit.proofs.Histories.{submitted_front}
use Rattle.roc_epoch.specs.Grown.{IsGrownFrom}
use Rattle.roc_two_files.specs.Left.{left_behind}
use Rattle.roc_two_files.specs.Orders.{witness_of_both}
use Rattle.roc_two_files.proofs.Composed.{composed}
use Rattle.roc_two_files.proofs.GrownRuns.{witness_stays, same_store}
use Rattle.roc_two_files.proofs.Joined.{joined}
use Rattle.roc_two_files.proofs.Late.{run_late}

-- who looks was submitted
looked_by : (plan : Plan) (b : Beginning) (coords : ℕ) (is_view : TxnId → Bool) (steps : List Stepped) (w : World) → IsRunFrom plan b coords steps w → TellsViews plan is_view w.history
    → (l : Look) → Has l w.looks → WasSubmitted w.history l.id
looked_by plan b coords is_view steps w at_beginning tells l h = absurd h
looked_by plan b coords is_view steps w (steps_on {w = v} e o r x) tells l h =
    let g = grows plan v e o x in
    let before = tells_before plan is_view v.history g.more (subst (TellsViews plan is_view) g.is tells) in
    let sounds = (beside plan b coords is_view _ v r before).holds.coords in
    let kept = told_in_time is_view v (told_in_runs plan b coords is_view _ v r before) (numbered plan b coords _ v r) sounds in
    let a = adds_in_time plan is_view v kept sounds e o x tells in
    elim (has_append l v.looks a.more (subst (Has l) a.looks h)) [
      | inl k ↦ subst (λ H. WasSubmitted H l.id) (sym g.is) (submitted_front v.history g.more l.id (looked_by plan b coords is_view _ v r before l k))
      | inr k ↦ (a.view l k).1
    ]

pub looked : (plan : Plan) (b : Beginning) (coords : ℕ) (steps : List Stepped) (w : World) → IsRunFrom plan b coords steps w → (l : Look) → Has l w.looks → WasSubmitted w.history l.id
looked plan b coords steps w run = looked_by plan b coords (is_view plan b coords steps w run) steps w run (tells_them plan b coords steps w run)

module _ (plan grown : Plan) (b : Beginning) (coords : ℕ) (steps more : List Stepped) (w v : World) (run : IsRunFrom plan b coords steps w)
    (later : IsRunFrom grown (left_behind plan b w) coords more v) where
  abbrev nexts : ℕ → ℕ
  nexts n = (left_behind plan b w).of_transactions.nexts n

  -- the ids of the first are below the sequences at which the second begins
  pub ids_before : (t : TxnId) → WasSubmitted w.history t → t.seq < nexts t.coord
  ids_before t (p, a, h) =
      let g = (numbered plan b coords steps w run).given t p a h in
      subst (λ o. t.seq < protocol.next_in (b.of_transactions.nexts t.coord) o) (sym g.1) g.2

  -- and those of the second are not
  pub ids_behind : (t : TxnId) → WasSubmitted v.history t → nexts t.coord ≤ t.seq
  ids_behind t (p, a, h) = (run_late grown (left_behind plan b w) coords more v later).late t p a h

  pub ids_apart : (t : TxnId) → WasSubmitted w.history t → ¬ WasSubmitted v.history t
  ids_apart t k l = let e = ids_before t k in let f = ids_behind t l in omega (arith, e, f)

  module _ (grows : IsGrownFrom plan.program grown.program)
      (first : IsSerialWitnessFrom plan.program b.of_transactions.store w.history (witness_of w))
      (second : IsSerialWitnessFrom grown.program (left_behind plan b w).of_transactions.store v.history (witness_of v))
      (few : (l : Look) → Has l (shown w) → l.behind ≤ length w.order) where
    old : IsSerialWitnessFrom grown.program b.of_transactions.store w.history (witness_of w)
    old = witness_stays plan.program grown.program grows w.history (λ t p a h. ((run_late plan b coords steps w run).known t p a h).0) b.of_transactions.store (witness_of w) first

    store_same : (left_behind plan b w).of_transactions.store ≡ serial_store grown.program b.of_transactions.store (submitted_calls w.history (witness_of w))
    store_same = sym (same_store plan.program grown.program grows w.history (λ t p a h. ((run_late plan b coords steps w run).known t p a h).0) b.of_transactions.store (witness_of w))

    both : IsSerialWitnessFrom grown.program b.of_transactions.store (w.history ++ v.history) (witness_of w ++ witness_of v)
    both =
        composed grown.program b.of_transactions.store w.history v.history (witness_of w) (witness_of v) old
        (subst (λ s. IsSerialWitnessFrom grown.program s v.history (witness_of v)) store_same second) ids_apart

    pub order_joined : witness_of_both w v ≡ witness_of w ++ witness_of v
    order_joined =
        joined w.history v.history w.order v.order w.looks v.looks few
        (λ k l i j e. ids_apart l.id (subst (WasSubmitted w.history) e (looked plan b coords steps w run k i)) (looked grown (left_behind plan b w) coords more v later l j))
        (λ l reply i a. ids_apart l.id (looked plan b coords steps w run l i) (second.submitted l.id (second.answered l.id reply a)))
        (λ l reply i a. ids_apart l.id (first.submitted l.id (first.answered l.id reply a)) (looked grown (left_behind plan b w) coords more v later l i))

    pub serial : IsSerialWitnessFrom grown.program b.of_transactions.store (w.history ++ v.history) (witness_of_both w v)
    serial = subst (IsSerialWitnessFrom grown.program b.of_transactions.store (w.history ++ v.history)) (sym order_joined) both

    -- none of the second stands before one of the first
    pub in_turn : (u t : TxnId) → IsListed is_txn (witness_of_both w v) t
        → IsListedBefore is_txn (witness_of_both w v) u t
        → WasSubmitted v.history u → WasSubmitted v.history t
    in_turn u t there before s = go (subst (λ l. IsListed is_txn l t) order_joined there) (subst (λ l. IsListedBefore is_txn l u t) order_joined before)
      where
        go : IsListed is_txn (witness_of w ++ witness_of v) t → IsListedBefore is_txn (witness_of w ++ witness_of v) u t → WasSubmitted v.history t
        go l k = elim (listed_either is_txn (witness_of w) (witness_of v) t l) [
          | inl i ↦
              (let early = from_before_front is_txn (witness_of w) (witness_of v) u t i k in
              absurd (ids_apart u (first.submitted u (listed_by_before is_txn (witness_of w) u t early)) s))
          | inr i ↦ second.submitted t i.1
        ]
