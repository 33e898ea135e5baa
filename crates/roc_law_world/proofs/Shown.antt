-- The last looks of the answered views fit the history and the order
use Rattle.std.proofs.Common.{◌≡◌, ◌≢◌, ◌∙◌, inl, inr, ℕ, ℤ, Bool, true, false, not, ◌&&◌, cond, List, [], ◌∷◌, ◌++◌, Some, take, refl, sym, ap, subst}
use Rattle.std.proofs.lemmas.Bool.{false≢true, and_parts, and_from, or_left, or_right, not-true, not_from_false}
use Rattle.std.proofs.lemmas.List.{map-append}
use Rattle.roc_sequence.specs.Lists.{Has}
use Rattle.roc_sequence.specs.Places.{IsListed, IsListedBefore, NoneTwice}
use Rattle.roc_sequence.specs.Rising.{IsRising}
use Rattle.roc_sequence.proofs.Appended.{listed_either, before_new}
use Rattle.roc_sequence.proofs.Holds.{all_has, has_all, has_any, none_has}
use Rattle.roc_sequence.proofs.Listed.{has_under, under_has}
use Rattle.roc_base.specs.declared.id.TxnId.{TxnId}
use Rattle.roc_base.specs.TxnId.{is_txn}
use Rattle.roc_base.specs.Equalities.{is_txn-true, is_txn-same}
use Rattle.roc_base.proofs.Ids.{is_txn-eq, is_txn-ne}
use Rattle.roc_rows.specs.Store.{Store}
use Rattle.roc_program.specs.Program.{Workload}
use Rattle.roc_whole.specs.Serial.{Call, run_of, serial_store}
use Rattle.roc_audit.specs.declared.entry.Entry.{Entry}
use Rattle.roc_audit.specs.declared.entry.Entry.TheVariants.{Submitted, Answered}
use Rattle.roc_audit.specs.History.{WasAnswered}
use Rattle.roc_audit.specs.Witness.{submitted_call, submitted_calls}
use Rattle.roc_audit.specs.Woven.{Look, look_ids, is_no_later, AreLooks}
use Rattle.roc_audit.proofs.Histories.{answered_by_before}
use Rattle.roc_law_world.specs.World.{World}
use Rattle.roc_law_world.specs.Witness.{was_answered, looks_again, last_looks, shown}
use Rattle.roc_law_world.proofs.ViewMeans.{IsLastLook}
use Rattle.roc_law_world.proofs.InTime.{AreApart, AreInTime}

-- the test tells what the history does
pub answered_test : (history : List Entry) (t : TxnId) (reply : List ℤ) → WasAnswered history t reply → was_answered history t ≡ true
answered_test [] t reply h = absurd h
answered_test (Submitted u proc args ∷ es) t reply (inl e) = absurd (cc)
answered_test (Submitted u proc args ∷ es) t reply (inr h) = answered_test es t reply h
answered_test (Answered u other ∷ es) t reply (inl e) = let same : u ≡ t = cc in or_left (is_txn u t) (was_answered es t) (is_txn-eq u t same)
answered_test (Answered u other ∷ es) t reply (inr h) = or_right (is_txn u t) (was_answered es t) (answered_test es t reply h)

module _ (passes : TxnId → Bool) where
  abbrev keeps : Look → List Look → Bool
  keeps l ls = passes l.id && not (looks_again l ls)

  abbrev part : List Look → List Look
  part ls = last_looks passes ls

  -- they are among the looks
  pub last_from : (ls : List Look) (l : Look) → Has l (part ls) → Has l ls
  last_from [] l h = h
  last_from (x ∷ ls) l h = go (keeps x ls) h (last_from ls l)
    where
      go : (b : Bool) → Has l (cond b (x ∷ part ls) (part ls)) → (Has l (part ls) → Has l ls) → Has l (x ∷ ls)
      go true (inl f) ih = inl f
      go true (inr j) ih = inr (ih j)
      go false j ih = inr (ih j)

  -- each last look of a view that passes is among them
  last_here : (xs : List Look) (l : Look) (ys : List Look) → passes l.id ≡ true → ((k : Look) → Has k ys → k.id ≢ l.id) → Has l (part (xs ++ l ∷ ys))
  last_here [] l ys e n = go (keeps l ys) refl
    where
      go : (b : Bool) → keeps l ys ≡ b → Has l (cond b (l ∷ part ys) (part ys))
      go true f = inl refl
      go false f =
          let none = none_has (λ (k : Look). is_txn k.id l.id) ys (λ k j. is_txn-ne k.id l.id (n k j)) in
          absurd (false≢true (sym f ∙ and_from (passes l.id) (not (looks_again l ys)) e (not_from_false (looks_again l ys) none)))
  last_here (x ∷ xs) l ys e n = go (keeps x (xs ++ l ∷ ys)) (last_here xs l ys e n)
    where
      go : (b : Bool) → Has l (part (xs ++ l ∷ ys)) → Has l (cond b (x ∷ part (xs ++ l ∷ ys)) (part (xs ++ l ∷ ys)))
      go true h = inr h
      go false h = h

  pub last_has : (ls : List Look) (id : TxnId) (behind : ℕ) → IsLastLook ls id behind → passes id ≡ true → Has (record { id = id; behind = behind }) (part ls)
  last_has ls id behind p e = subst (λ ls. Has (record { id = id; behind = behind }) (part ls)) (sym p.is) (last_here p.front (record { id = id; behind = behind }) p.back e p.none)

  pub last_once : (ls : List Look) → NoneTwice is_txn (look_ids (part ls))
  last_once [] = tt
  last_once (x ∷ ls) = go (keeps x ls) refl (last_once ls)
    where
      go : (b : Bool) → keeps x ls ≡ b → NoneTwice is_txn (look_ids (part ls)) → NoneTwice is_txn (look_ids (cond b (x ∷ part ls) (part ls)))
      go false e ih = ih
      go true e ih = (
        λ h. let q = has_under is_txn is_txn-true is_txn-same (λ (l : Look). l.id) (part ls) x.id h in
            false≢true (sym (not-true (looks_again x ls) (and_parts (passes x.id) (not (looks_again x ls)) e).1)
            ∙ has_any (λ (k : Look). is_txn k.id x.id) ls q.0 (last_from ls q.0 q.1) (is_txn-eq q.0.id x.id q.2)),
        ih,
      )

  pub last_rising : (ls : List Look) → IsRising is_no_later ls → IsRising is_no_later (part ls)
  last_rising [] r = tt
  last_rising (x ∷ ls) r = go (keeps x ls) (last_rising ls r.1)
    where
      go : (b : Bool) → IsRising is_no_later (part ls) → IsRising is_no_later (cond b (x ∷ part ls) (part ls))
      go true ih = (has_all (λ y. is_no_later x y ≡ true) (part ls) (λ y j. all_has (λ y. is_no_later x y ≡ true) y ls r.0 (last_from ls y j)), ih)
      go false ih = ih

  -- those of a front, and those of what is behind it
  record Front (xs ys : List Look) : Type 0 where
    front : List Look
    is : part (xs ++ ys) ≡ front ++ part ys
    from : (l : Look) → Has l front → Has l xs

  last_append : (xs ys : List Look) → Front xs ys
  last_append [] ys = record { front = []; is = refl; from = λ l h. h }
  last_append (x ∷ xs) ys = go (keeps x (xs ++ ys)) refl (last_append xs ys)
    where
      go : (b : Bool) → keeps x (xs ++ ys) ≡ b → Front xs ys → Front (x ∷ xs) ys
      go true e f =
          record {
            front = x ∷ f.front;
            is = ap (λ b. cond b (x ∷ part (xs ++ ys)) (part (xs ++ ys))) e ∙ ap (λ ls. x ∷ ls) f.is;
            from = λ l h. elim h [ inl z ↦ inl z | inr j ↦ inr (f.from l j) ];
          }
      go false e f =
          record {
            front = f.front;
            is = ap (λ b. cond b (x ∷ part (xs ++ ys)) (part (xs ++ ys))) e ∙ f.is;
            from = λ l h. inr (f.from l h);
          }

  pub last_apart : (v u : TxnId) (ls : List Look) → AreApart v u ls → IsListed is_txn (look_ids (part ls)) v → IsListedBefore is_txn (look_ids (part ls)) v u
  last_apart v u ls p h =
      let f = last_append p.front p.back in
      let e : look_ids (part ls) ≡ look_ids f.front ++ look_ids (part p.back) =
      ap (λ ls. look_ids (part ls)) p.is ∙ (ap look_ids f.is ∙ map-append (λ (l : Look). l.id) f.front (part p.back)) in
      let look_of : (ks : List Look) (x : TxnId) → IsListed is_txn (look_ids ks) x → (l : Look) × Has l ks × (l.id ≡ x) = λ ks x i. has_under is_txn is_txn-true is_txn-same (λ (l : Look). l.id) ks x i in
      let no_u : ¬ IsListed is_txn (look_ids f.front) u = λ k. (let q = look_of f.front u k in p.none_front q.0 (f.from q.0 q.1) q.2) in
      let no_v : ¬ IsListed is_txn (look_ids (part p.back)) v = λ k. (let q = look_of (part p.back) v k in p.none_back q.0 (last_from p.back q.0 q.1) q.2) in
      subst (λ ids. IsListedBefore is_txn ids v u) (sym e)
      (before_new is_txn (look_ids f.front) (look_ids (part p.back)) v u
      (elim (listed_either is_txn (look_ids f.front) (look_ids (part p.back)) v (subst (λ ids. IsListed is_txn ids v) e h)) [ inl k ↦ k | inr k ↦ absurd (no_v k.1) ])
      no_u)

-- an answered view has a last look, and its reply is that of its whole run there
abbrev pub IsReplyBehind : Workload → Store → World → TxnId → List ℤ → Type 0
IsReplyBehind program start w v reply =
    (behind : ℕ) × IsLastLook w.looks v behind × (c : Call) × (submitted_call v w.history ≡ Some c)
    × (reply ≡ (run_of program (serial_store program start (submitted_calls w.history (take behind w.order))) c).reply)

module _ (program : Workload) (start : Store) (is_view : TxnId → Bool) (w : World) (h : AreInTime is_view w)
    (replies : (v : TxnId) (reply : List ℤ) → is_view v ≡ true → WasAnswered w.history v reply → IsReplyBehind program start w v reply) where
  abbrev passes : TxnId → Bool
  passes t = was_answered w.history t

  -- the look that is shown of an answered view
  look_of : (v : TxnId) (reply : List ℤ) (e : is_view v ≡ true) (a : WasAnswered w.history v reply) → Has (record { id = v; behind = (replies v reply e a).0 }) (shown w)
  look_of v reply e a = let r = replies v reply e a in last_has passes w.looks v r.0 r.1 (answered_test w.history v reply a)

  pub shown_are_looks : AreLooks program start is_view w.history w.order (shown w)
  shown_are_looks =
      record {
        once = last_once passes w.looks;
        rising = last_rising passes w.looks h.rising;
        views = λ l j. h.looked l (last_from passes w.looks l j);
        replies = λ v reply e a. let r = replies v reply e a in (record { id = v; behind = r.0 }, look_of v reply e a, refl, r.2, r.3, r.4);
        after = λ t l j. h.after t l (last_from passes w.looks l j);
        before = λ u l j. h.before u l (last_from passes w.looks l j);
        in_time = λ v u e f b i.
            let a = answered_by_before w.history v u b in
            let l = look_of v a.0 e a.1 in
            let look : Look = record { id = v; behind = (replies v a.0 e a.1).0 } in
            last_apart passes v u w.looks (h.views v u e f b) (under_has is_txn is_txn-true is_txn-same (λ (l : Look). l.id) (shown w) look l);
      }
