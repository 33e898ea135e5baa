-- Which rows have lists and are not decided, as rows and marks change
use Rattle.std.proofs.Common.{◌≡◌, ◌≢◌, ◌<◌, ◌≤◌, ◌&&◌, ◌++◌, ◌∷◌, [], inl, inr, ℕ, Bool, true, false, not, List, Option, length, filter, refl, sym, ap, ◌∙◌, ◌⊎◌, subst, arith}
use Rattle.std.proofs.lemmas.Bool.{false≢true, cases_eq}
use Rattle.roc_sequence.specs.Lists.{Has}
use Rattle.roc_sequence.proofs.Members.{has_append, has_filter, has_left, has_one, has_right, from_has_filter}
use Rattle.roc_server_rows.specs.declared.rows.Link.{Link}
use Rattle.roc_server_rows.specs.declared.rows.Row.{Row}
use Rattle.roc_server_rows.specs.declared.marks.Mark.{Mark}
use Rattle.roc_server_rows.specs.Rows.{row_in, is_told, Grows, IsRowTable}
use Rattle.roc_server_rows.specs.Inner.Marks.{Drops, WaitsNewly, WakesFor}
use Rattle.roc_server_rows.specs.Marks.{mark_in, is_open, AreOpen, AreSameDecided, EachOnce, HasWaiting, IsOpen, IsOut, MayEnd, WakesAll}
use Rattle.roc_server_rows.specs.Except.{rows_but}
use Rattle.roc_server_rows.proofs.Excepted.{told_but}
use Rattle.roc_base.specs.declared.id.TxnId.{TxnId}
use Rattle.roc_server_rows.proofs.InQuestion.{once_filter}
use Rattle.roc_server_rows.proofs.Alive.{told_live}

test_open : (d t : Bool) → (not d && t) ≡ true → (d ≡ false) × (t ≡ true)
test_open true t h = absurd (false≢true h)
test_open false t h = (refl, h)

open_test : (d t : Bool) → d ≡ false → t ≡ true → (not d && t) ≡ true
open_test true t e f = absurd (false≢true (sym e))
open_test false t e f = f

once_more : (ns : List ℕ) (n : ℕ) → EachOnce ns → ¬ Has n ns → EachOnce (ns ++ n ∷ [])
once_more [] n o none = (λ h. h, tt)
once_more (x ∷ xs) n o none =
    (λ h. elim (has_append x xs (n ∷ []) h) [ inl k ↦ o.0 k | inr k ↦ none (inl (sym (has_one x n k))) ], once_more xs n o.1 (λ h. none (inr h)))

module _ (old new : List Row) (marks marks2 : List Mark) (ns : List ℕ) (o : AreOpen old marks ns) (each : length marks ≤ length marks2) where
  -- those that are so stay so
  pub open_alike : ((n : ℕ) → is_told (row_in new n) ≡ is_told (row_in old n)) → AreSameDecided marks marks2 → HasWaiting marks2 ns → AreOpen new marks2 ns
  open_alike told same waiting =
      record {
        only = λ n h. let q = o.only n h in record { within = omega (arith, q.within, each); told = told n ∙ q.told; undecided = same n ∙ q.undecided };
        all = λ n t u. o.all n (sym (told n) ∙ t) (sym (same n) ∙ u);
        once = o.once;
        waiting = waiting;
      }

  -- fewer are so
  pub open_fewer : ((n : ℕ) → is_told (row_in new n) ≡ true → is_told (row_in old n) ≡ true) → ((n : ℕ) → (mark_in marks2 n).decided ≡ false → (mark_in marks n).decided ≡ false)
      → ((n : ℕ) → 0 < (mark_in marks2 n).waits.birth → Has n ns × (is_told (row_in new n) ≡ true) × ((mark_in marks2 n).decided ≡ false))
      → AreOpen new marks2 (filter (is_open new marks2) ns)
  open_fewer told undecided waits =
      record {
        only = λ n h.
            let w = from_has_filter (is_open new marks2) n ns h in
            let q = test_open (mark_in marks2 n).decided (is_told (row_in new n)) w.1 in
            record { within = omega (arith, (o.only n w.0).within, each); told = q.1; undecided = q.0 };
        all = λ n t u. left n (o.all n (told n t) (undecided n u)) t u;
        once = once_filter (is_open new marks2) ns o.once;
        waiting = λ n p. let w = waits n p in left n w.0 w.1 w.2;
      }
    where
      left : (n : ℕ) → Has n ns → is_told (row_in new n) ≡ true → (mark_in marks2 n).decided ≡ false → Has n (filter (is_open new marks2) ns)
      left n h t u = has_filter (is_open new marks2) n ns h (open_test (mark_in marks2 n).decided (is_told (row_in new n)) u t)

  -- one more is so
  module _ (at : ℕ) (within : at < length marks2) (untold : is_told (row_in old at) ≡ false) (told : is_told (row_in new at) ≡ true) (undecided : (mark_in marks2 at).decided ≡ false)
      (others : (k : ℕ) → k ≢ at → is_told (row_in new k) ≡ is_told (row_in old k)) (same : AreSameDecided marks marks2) (waiting : HasWaiting marks2 ns) where
    absent : ¬ Has at ns
    absent h = false≢true (sym untold ∙ (o.only at h).told)

    apart : (k : ℕ) → Has k ns → k ≢ at
    apart k h e = absent (subst (λ j. Has j ns) e h)

    pub open_more : AreOpen new marks2 (ns ++ at ∷ [])
    open_more =
        record {
          only = λ k h. elim (has_append k ns (at ∷ []) h) [
            | inl i ↦ let q = o.only k i in record { within = omega (arith, q.within, each); told = others k (apart k i) ∙ q.told; undecided = same k ∙ q.undecided }
            | inr i ↦ subst (IsOpen new marks2) (sym (has_one k at i)) (record { within = within; told = told; undecided = undecided })
          ];
          all = λ k t u. elim (cases_eq k at) [
            | inl e ↦ has_right k ns (at ∷ []) (inl e)
            | inr d ↦ has_left k ns (at ∷ []) (o.all k (sym (others k d) ∙ t) (sym (same k) ∙ u))
          ];
          once = once_more ns at o.once absent;
          waiting = λ k p. has_left k ns (at ∷ []) (waiting k p);
        }

-- a row ends that is decided or has no list
pub open_out : (n : ℕ) (old new : List Row) → IsOut n old new → (marks marks2 : List Mark) (ns : List ℕ) → AreOpen old marks ns → Drops n marks marks2 → MayEnd old marks n → AreOpen new marks2 ns
open_out n old new out marks marks2 ns o d may =
    record {
      only = λ k h.
          let q = o.only k h in
          record { within = omega (arith, q.within, d.each); told = ap is_told (out.others k (apart k q)) ∙ q.told; undecided = d.decided k (apart k q) ∙ q.undecided };
      all = λ k t u. o.all k (ap is_told (sym (out.others k (here k t))) ∙ t) (sym (d.decided k (here k t)) ∙ u);
      once = o.once;
      waiting = λ k p. waits k p (d.woken k);
    }
  where
    apart : (k : ℕ) → IsOpen old marks k → k ≢ n
    apart k q e = elim may [
      | inl f ↦ false≢true (sym q.undecided ∙ (ap (λ j. (mark_in marks j).decided) e ∙ f))
      | inr u ↦ false≢true (sym u ∙ (ap (λ j. is_told (row_in old j)) (sym e) ∙ q.told))
    ]

    here : (k : ℕ) → is_told (row_in new k) ≡ true → k ≢ n
    here k t e = false≢true (sym out.own ∙ (ap (λ j. is_told (row_in new j)) (sym e) ∙ t))

    waits : (k : ℕ) → 0 < (mark_in marks2 k).waits.birth
        → ((mark_in marks2 k).waits.birth ≡ 0) ⊎ (((mark_in marks2 k).waits ≡ (mark_in marks k).waits) × ((mark_in marks k).waits.at ≢ n) × (k ≢ n)) → Has k ns
    waits k p (inl z) = absurd (omega (arith, p, z))
    waits k p (inr s) = o.waiting k (subst (λ (l : Link). 0 < l.birth) s.0 p)

-- rows were looked at
pub open_held : (rows : List Row) (marks marks2 : List Mark) (ns : List ℕ) → AreOpen rows marks ns → length marks2 ≡ length marks → AreSameDecided marks marks2 → WaitsNewly rows marks marks2
    → AreOpen rows marks2 ns
open_held rows marks marks2 ns o each same newly =
    open_alike rows rows marks marks2 ns o (omega (arith, each)) (λ n. refl) same (λ n p. elim (newly n p) [ inl q ↦ o.waiting n q | inr w ↦ o.all n w.0 w.1 ])

-- where some links are not followed
pub newly_but : (except : Option ℕ) (rows : List Row) (old new : List Mark) → WaitsNewly (rows_but except rows) old new → WaitsNewly rows old new
newly_but except rows old new f n p = elim (f n p) [ inl q ↦ inl q | inr w ↦ inr (sym (told_but except rows n) ∙ w.0, w.1) ]

-- and those that are woken
pub newly_woken : (rows : List Row) (n : ℕ) (old new : List Mark) → WakesFor rows n old new → WaitsNewly rows old new
newly_woken rows n old new w k p = go (w.woken k)
  where
    go : ((mark_in new k).waits.birth ≡ 0) ⊎ (((mark_in new k).waits ≡ (mark_in old k).waits) × ((mark_in old k).waits.at ≢ n) × (is_told (row_in rows n) ≡ false))
        → (0 < (mark_in old k).waits.birth) ⊎ ((is_told (row_in rows k) ≡ true) × ((mark_in old k).decided ≡ false))
    go (inl z) = absurd (omega (arith, p, z))
    go (inr s) = inl (subst (λ (l : Link). 0 < l.birth) s.0 p)

-- none waits any longer
pub open_awake : (old new : List Row) (marks marks2 : List Mark) (ns : List ℕ) → AreOpen old marks ns → WakesAll marks marks2
    → ((n : ℕ) → is_told (row_in new n) ≡ is_told (row_in old n)) → AreOpen new marks2 ns
open_awake old new marks marks2 ns o w told =
    open_alike old new marks marks2 ns o (omega (arith, w.each)) told w.same (λ n p. let z = w.awake n in absurd (omega (arith, p, z)))

-- lists are taken back while none waits
pub open_back : (old new : List Row) (marks : List Mark) (ns : List ℕ) → AreOpen old marks ns → ((n : ℕ) → (mark_in marks n).waits.birth ≡ 0)
    → ((n : ℕ) → is_told (row_in new n) ≡ true → is_told (row_in old n) ≡ true)
    → AreOpen new marks (filter (is_open new marks) ns)
open_back old new marks ns o awake told =
    open_fewer old new marks marks ns o (omega arith) told (λ n u. u) (λ n p. let z = awake n in absurd (omega (arith, p, z)))

-- rows come that have no lists
pub grown_told : (numbers : List (TxnId × ℕ)) (old new : List Row) (was stamp : ℕ) → IsRowTable numbers old was → Grows old new was stamp → (n : ℕ) → is_told (row_in new n) ≡ is_told (row_in old n)
grown_told numbers old new was stamp t g n = go (is_told (row_in new n)) (is_told (row_in old n)) refl refl
  where
    go : (b c : Bool) → is_told (row_in new n) ≡ b → is_told (row_in old n) ≡ c → is_told (row_in new n) ≡ is_told (row_in old n)
    go true c e f = ap is_told (g.told n e)
    go false true e f = ap is_told (g.rows n (told_live numbers old was t n f))
    go false false e f = e ∙ sym f
