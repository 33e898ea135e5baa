-- The woven order is a witness
use Rattle.std.proofs.Common.{◌≡◌, ℤ, suc, ◌<◌, ◌-◌, Bool, true, false, not, cond, List, [], ◌∷◌, ◌++◌, length, take, Some, None, refl, sym, ap, subst, ◌∙◌, arith, inl, inr}
use Rattle.std.proofs.lemmas.Bool.{cond-true, cond-false, false≢true, not-true}
use Rattle.std.specs.List.{filter, cons_option}
use Rattle.roc_sequence.specs.Lists.{Has}
use Rattle.roc_sequence.specs.Places.{place_of, IsListed, IsListedBefore, NoneTwice}
use Rattle.roc_sequence.proofs.Places.{place_of-here, place_of-there, listed_head}
use Rattle.roc_sequence.proofs.Appended.{listed_behind, before_new, before_behind}
use Rattle.roc_sequence.proofs.Filtered.{from_before_filter, listed_filter, from_listed_filter}
use Rattle.roc_sequence.proofs.Listed.{listed_has, has_listed, has_under, under_has}
use Rattle.roc_sequence.proofs.Members.{has_filter, from_has_filter}
use Rattle.roc_base.specs.declared.id.TxnId.{TxnId}
use Rattle.roc_base.specs.TxnId.{is_txn}
use Rattle.roc_base.specs.Equalities.{is_txn-true, is_txn-same}
use Rattle.roc_base.proofs.Ids.{is_txn-ne}
use Rattle.roc_rows.specs.Store.{Store}
use Rattle.roc_program.specs.Program.{Workload}
use Rattle.roc_whole.specs.Serial.{Call, run_of, serial_store, serial_answers}
use Rattle.roc_whole.proofs.SerialRuns.{serial_answers-append}
use Rattle.roc_audit.specs.declared.entry.Entry.{Entry}
use Rattle.roc_audit.specs.declared.entry.Entry.TheVariants.{Submitted, Answered}
use Rattle.roc_audit.specs.History.{WasSubmitted, WasAnswered, IsAnsweredBefore}
use Rattle.roc_audit.specs.Witness.{submitted_call, submitted_calls, reply_in, serial_reply_from, IsSerialWitnessFrom}
use Rattle.roc_audit.proofs.Histories.{call_of-id, calls_of-append, calls_of-listed, answered_by_before}
use Rattle.roc_audit.proofs.Replies.{reply_in-none, reply_in-behind}
use Rattle.roc_audit.specs.Woven.{Look, look_ids, woven, entry_id, without_views, LeaveTheStore, store_seen, AreLooks}
use Rattle.roc_audit.proofs.Weave.{is_other, kinds, Split, split, once_by_kinds}
use Rattle.roc_audit.proofs.ViewRuns.{alike}

-- a history of transactions tells of them what the whole does
module _ (is_view : TxnId → Bool) where
  abbrev T : List Entry → List Entry
  T = without_views is_view

  part_has : (x : Entry) (H : List Entry) → is_view (entry_id x) ≡ false → Has x H → Has x (T H)
  part_has x H e h = has_filter (λ e. not (is_view (entry_id e))) x H h (ap not e)

  part_from : (x : Entry) (H : List Entry) → Has x (T H) → (is_view (entry_id x) ≡ false) × Has x H
  part_from x H h = let f = from_has_filter (λ e. not (is_view (entry_id e))) x H h in (not-true (is_view (entry_id x)) f.1, f.0)

  part_before : (H : List Entry) (t u : TxnId) → is_view t ≡ false → is_view u ≡ false → IsAnsweredBefore H t u → IsAnsweredBefore (T H) t u
  part_before [] t u a b h = absurd h
  part_before (x ∷ H) t u a b h = go (is_view (entry_id x)) refl h (part_before H t u a b)
    where
      go : (c : Bool) → is_view (entry_id x) ≡ c → IsAnsweredBefore (x ∷ H) t u → (IsAnsweredBefore H t u → IsAnsweredBefore (T H) t u) → IsAnsweredBefore (cond (not c) (x ∷ T H) (T H)) t u
      go true e (inl p) ih = absurd (false≢true (sym a ∙ (ap (λ x. is_view (entry_id x)) (sym p.1) ∙ e)))
      go true e (inr k) ih = ih k
      go false e (inl p) ih = inl (p.0, p.1, (p.2.0, p.2.1, part_has (Submitted u p.2.0 p.2.1) H b p.2.2))
      go false e (inr k) ih = inr (ih k)

  -- a transaction called what it called
  same_call : (H : List Entry) (t : TxnId) → is_view t ≡ false → submitted_call t (T H) ≡ submitted_call t H
  same_call [] t e = refl
  same_call (Answered u reply ∷ H) t e = go (is_view u) (same_call H t e)
    where
      go : (b : Bool) → submitted_call t (T H) ≡ submitted_call t H → submitted_call t (cond (not b) (Answered u reply ∷ T H) (T H)) ≡ submitted_call t H
      go true ih = ih
      go false ih = ih
  same_call (Submitted u proc args ∷ H) t e = go (is_view u) refl (same_call H t e)
    where
      go : (b : Bool) → is_view u ≡ b → submitted_call t (T H) ≡ submitted_call t H
          → submitted_call t (cond (not b) (Submitted u proc args ∷ T H) (T H)) ≡ submitted_call t (Submitted u proc args ∷ H)
      go false f ih = ap (cond (is_txn u t) (Some (record { id = t; procedure = proc; arguments = args }))) ih
      go true f ih =
          ih ∙ sym (cond-false (is_txn u t) (Some (record { id = t; procedure = proc; arguments = args })) (submitted_call t H)
          (is_txn-ne u t (λ g. false≢true (sym e ∙ (ap is_view (sym g) ∙ f)))))

  same_calls : (H : List Entry) (O : List TxnId) → ((t : TxnId) → Has t O → is_view t ≡ false) → submitted_calls (T H) O ≡ submitted_calls H O
  same_calls H [] h = refl
  same_calls H (t ∷ O) h = λ j. cons_option (same_call H t (h t (inl refl)) j) (same_calls H O (λ u k. h u (inr k)) j)

module _ (program : Workload) (start : Store) (is_view : TxnId → Bool) (H : List Entry) (O : List TxnId) (L : List Look)
    (leaves : LeaveTheStore program is_view H) (base : IsSerialWitnessFrom program start (without_views is_view H) O) (looks : AreLooks program start is_view H O L) where
  abbrev W : List TxnId
  W = woven 0 O L

  abbrev txn : TxnId → Bool
  txn = is_other is_view

  has : (xs : List TxnId) (t : TxnId) → IsListed is_txn xs t → Has t xs
  has = listed_has is_txn is_txn-true is_txn-same

  listed : (xs : List TxnId) (t : TxnId) → Has t xs → IsListed is_txn xs t
  listed = has_listed is_txn is_txn-true is_txn-same

  txns : (t : TxnId) → Has t O → is_view t ≡ false
  txns t h = let s = base.submitted t (listed O t h) in (part_from is_view (Submitted t s.0 s.1) H s.2).0

  views : (l : Look) → Has l L → is_view l.id ≡ true
  views l h = (looks.views l h).0

  parts : (filter txn W ≡ O) × (filter is_view W ≡ look_ids L)
  parts = kinds is_view 0 O L txns views

  once : NoneTwice is_txn W
  once = once_by_kinds is_view W (subst (NoneTwice is_txn) (sym parts.0) base.once) (subst (NoneTwice is_txn) (sym parts.1) looks.once)

  -- where an id stands
  of_order : (t : TxnId) → IsListed is_txn O t → IsListed is_txn W t
  of_order t h = (from_listed_filter is_txn is_txn-true txn W t (subst (λ F. IsListed is_txn F t) (sym parts.0) h)).1

  of_looks : (t : TxnId) → IsListed is_txn (look_ids L) t → IsListed is_txn W t
  of_looks t h = (from_listed_filter is_txn is_txn-true is_view W t (subst (λ F. IsListed is_txn F t) (sym parts.1) h)).1

  in_order : (t : TxnId) → is_view t ≡ false → IsListed is_txn W t → IsListed is_txn O t
  in_order t e h = subst (λ F. IsListed is_txn F t) parts.0 (listed_filter is_txn is_txn-true txn W t (ap not e) h)

  in_looks : (t : TxnId) → is_view t ≡ true → IsListed is_txn W t → IsListed is_txn (look_ids L) t
  in_looks t e h = subst (λ F. IsListed is_txn F t) parts.1 (listed_filter is_txn is_txn-true is_view W t e h)

  look_of : (v : TxnId) → IsListed is_txn (look_ids L) v → (l : Look) × Has l L × (l.id ≡ v)
  look_of v h = has_under is_txn is_txn-true is_txn-same (λ l. l.id) L v h

  -- a view, and what stands before it
  stands_alone : (A B : List TxnId) (v : TxnId) → NoneTwice is_txn (A ++ v ∷ B) → (¬ IsListed is_txn A v) × (¬ IsListed is_txn B v)
  stands_alone [] B v n = (λ h. absurd (omega arith), n.0)
  stands_alone (a ∷ A) B v n =
      let r = stands_alone A B v n.1 in
      (λ h. go (is_txn v a) refl h r.0, r.1)
    where
      go : (c : Bool) → is_txn v a ≡ c → cond c 0 (suc (place_of (is_txn v) A)) < suc (length A) → ¬ IsListed is_txn A v → ⊥
      go true e h k = n.0 (subst (IsListed is_txn (A ++ v ∷ B)) (is_txn-true v a e) (listed_behind is_txn A (v ∷ B) v (listed_head is_txn v B (is_txn-same v))))
      go false e h k = k (omega arith)

  -- replies of transactions
  txn_reply : (t : TxnId) → is_view t ≡ false → serial_reply_from program start H W t ≡ serial_reply_from program start (without_views is_view H) O t
  txn_reply t e =
      (alike program is_view H leaves W start).replies t e
      ∙ (ap (λ F. reply_in t (serial_answers program start (submitted_calls H F))) parts.0
      ∙ ap (λ cs. reply_in t (serial_answers program start cs)) (sym (same_calls is_view H O txns)))

  place_in : (l : Look) → Has l L → Split is_view W l.id l.behind O
  place_in l h = let z : l.behind - 0 ≡ l.behind = omega arith in subst (λ n. Split is_view W l.id n O) z (split is_view 0 O L txns views looks.rising l h)

  -- and of views
  view_reply : (l : Look) → Has l L → (c : Call) → submitted_call l.id H ≡ Some c → serial_reply_from program start H W l.id ≡ Some (run_of program (store_seen program start H O l) c).reply
  view_reply l h c e =
      let v = l.id in
      let s = place_in l h in
      let n = stands_alone s.front s.back v (subst (NoneTwice is_txn) s.is once) in
      let A = submitted_calls H s.front in
      let B = submitted_calls H s.back in
      let X = serial_store program start A in
      let cs : submitted_calls H W ≡ A ++ c ∷ B = ap (submitted_calls H) s.is ∙ (calls_of-append H s.front (v ∷ s.back) ∙ ap (λ o. A ++ cons_option o B) e) in
      let none : reply_in v (serial_answers program start A) ≡ None =
      reply_in-none program v start A (λ d i. is_txn-ne d.id v (λ f. n.0 (subst (IsListed is_txn s.front) f (calls_of-listed H s.front d i)))) in
      let at : X ≡ store_seen program start H O l = (alike program is_view H leaves s.front start).store ∙ ap (λ F. serial_store program start (submitted_calls H F)) s.txns in
      let own : is_txn c.id v ≡ true = subst (λ u. is_txn u v ≡ true) (sym (call_of-id H v c e)) (is_txn-same v) in
      ap (λ cs. reply_in v (serial_answers program start cs)) cs
      ∙ (ap (reply_in v) (serial_answers-append program start A (c ∷ B))
      ∙ (reply_in-behind v (serial_answers program start A) (serial_answers program X (c ∷ B)) none
      ∙ (cond-true (is_txn c.id v) (Some (run_of program X c).reply) (reply_in v (serial_answers program (run_of program X c).store B)) own
      ∙ ap (λ z. Some (run_of program z c).reply) at)))

  -- real time
  stands_behind : (t : TxnId) (l : Look) → Has l L → is_view t ≡ false → IsListed is_txn (take l.behind O) t → IsListedBefore is_txn W t l.id
  stands_behind t l h e k =
      let s = place_in l h in
      let n = stands_alone s.front s.back l.id (subst (NoneTwice is_txn) s.is once) in
      let j = (from_listed_filter is_txn is_txn-true txn s.front t (subst (λ F. IsListed is_txn F t) (sym s.txns) k)).1 in
      subst (λ F. IsListedBefore is_txn F t l.id) (sym s.is) (before_new is_txn s.front (l.id ∷ s.back) t l.id j n.0)

  first_before : (v u : TxnId) (B : List TxnId) → ¬ (u ≡ v) → IsListedBefore is_txn (v ∷ B) v u
  first_before v u B n =
      let e = place_of-here (is_txn v) v B (is_txn-same v) in
      let f = place_of-there (is_txn u) v B (is_txn-ne u v n) in
      omega arith

  stands_before : (u : TxnId) (l : Look) → Has l L → is_view u ≡ false → ¬ IsListed is_txn (take l.behind O) u → IsListedBefore is_txn W l.id u
  stands_before u l h e k =
      let s = place_in l h in
      let n = stands_alone s.front s.back l.id (subst (NoneTwice is_txn) s.is once) in
      let j : ¬ IsListed is_txn s.front u = λ i. k (subst (λ F. IsListed is_txn F u) s.txns (listed_filter is_txn is_txn-true txn s.front u (ap not e) i)) in
      subst (λ F. IsListedBefore is_txn F l.id u) (sym s.is)
      (before_behind is_txn s.front (l.id ∷ s.back) l.id u n.0 j (first_before l.id u s.back (λ f. false≢true (sym e ∙ (ap is_view f ∙ views l h)))))

  real_time : (t u : TxnId) → IsAnsweredBefore H t u → IsListed is_txn W u → (b c : Bool) → is_view t ≡ b → is_view u ≡ c → IsListedBefore is_txn W t u
  real_time t u h k false false e f =
      from_before_filter is_txn is_txn-true txn W t u (ap not e) (ap not f)
      (subst (λ F. IsListedBefore is_txn F t u) (sym parts.0) (base.real_time t u (part_before is_view H t u e f h) (in_order u f k)))
  real_time t u h k true true e f =
      from_before_filter is_txn is_txn-true is_view W t u e f (subst (λ F. IsListedBefore is_txn F t u) (sym parts.1) (looks.in_time t u e f h (in_looks u f k)))
  real_time t u h k false true e f =
      let l = look_of u (in_looks u f k) in
      subst (IsListedBefore is_txn W t) l.2 (stands_behind t l.0 l.1 e (looks.after t l.0 l.1 e (subst (IsAnsweredBefore H t) (sym l.2) h)))
  real_time t u h k true false e f =
      let a = answered_by_before H t u h in
      let l = looks.replies t a.0 e a.1 in
      subst (λ v. IsListedBefore is_txn W v u) l.2 (stands_before u l.0 l.1 f (looks.before u l.0 l.1 f (subst (λ v. IsAnsweredBefore H v u) (sym l.2) h)))

  pub is_witness : IsSerialWitnessFrom program start H W
  is_witness =
      record {
        once = once;
        submitted = λ t h. submitted t h (is_view t) refl;
        answered = λ t reply h. answered t reply h (is_view t) refl;
        replies = λ t reply h. replies t reply h (is_view t) refl;
        real_time = λ t u h k. real_time t u h k (is_view t) (is_view u) refl refl;
      }
    where
      submitted : (t : TxnId) → IsListed is_txn W t → (b : Bool) → is_view t ≡ b → WasSubmitted H t
      submitted t h false e = let s = base.submitted t (in_order t e h) in (s.0, s.1, (part_from is_view (Submitted t s.0 s.1) H s.2).1)
      submitted t h true e = let l = look_of t (in_looks t e h) in subst (WasSubmitted H) l.2 (looks.views l.0 l.1).1

      answered : (t : TxnId) (reply : List ℤ) → WasAnswered H t reply → (b : Bool) → is_view t ≡ b → IsListed is_txn W t
      answered t reply h false e = of_order t (base.answered t reply (part_has is_view (Answered t reply) H e h))
      answered t reply h true e = let l = looks.replies t reply e h in of_looks t (subst (IsListed is_txn (look_ids L)) l.2 (under_has is_txn is_txn-true is_txn-same (λ (l : Look). l.id) L l.0 l.1))

      replies : (t : TxnId) (reply : List ℤ) → WasAnswered H t reply → (b : Bool) → is_view t ≡ b → serial_reply_from program start H W t ≡ Some reply
      replies t reply h false e = txn_reply t e ∙ base.replies t reply (part_has is_view (Answered t reply) H e h)
      replies t reply h true e =
          let l = looks.replies t reply e h in
          subst (λ v. submitted_call v H ≡ Some l.3 → serial_reply_from program start H W v ≡ Some reply) l.2 (λ f. view_reply l.0 l.1 l.3 f ∙ ap Some (sym l.5)) l.4
