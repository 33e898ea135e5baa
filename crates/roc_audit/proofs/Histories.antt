-- Histories that grow at their end
use Rattle.std.proofs.Common.{◌≡◌, ℕ, ℤ, Bool, true, false, cond, List, [], ◌∷◌, ◌++◌, Option, Some, None, refl, sym, ap, subst, ◌∙◌, ◌⊎◌, inl, inr}
use Rattle.roc_sequence.specs.Lists.{Has}
use Rattle.roc_sequence.proofs.Members.{has_left, has_append}
use Rattle.roc_sequence.specs.Places.{IsListed}
use Rattle.roc_sequence.proofs.Places.{listed_head, listed_tail}
use Rattle.std.specs.List.{cons_option}
use Rattle.roc_base.specs.declared.id.TxnId.{TxnId}
use Rattle.roc_base.specs.TxnId.{is_txn}
use Rattle.roc_base.proofs.Ids.{is_txn-eq}
use Rattle.roc_base.specs.Equalities.{is_txn-true, is_txn-same}
use Rattle.roc_whole.specs.Serial.{Call}
use Rattle.roc_audit.specs.declared.entry.Entry.{Entry}
use Rattle.roc_audit.specs.declared.entry.Entry.TheVariants.{Submitted, Answered}
use Rattle.roc_audit.specs.History.{WasSubmitted, WasAnswered, IsAnsweredBefore}
use Rattle.roc_audit.specs.Witness.{submitted_call, submitted_calls}

pub submitted_front : (h more : List Entry) (t : TxnId) → WasSubmitted h t → WasSubmitted (h ++ more) t
submitted_front h more t s = (s.0, s.1, has_left _ h more s.2)

-- a call that is found stays the one
pub call_of-append : (h more : List Entry) (t : TxnId) (c : Call) → submitted_call t h ≡ Some c → submitted_call t (h ++ more) ≡ Some c
call_of-append [] more t c e = absurd (cc)
call_of-append (Submitted u proc args ∷ h) more t c e = go (is_txn u t) e (call_of-append h more t c)
  where
    go : (b : Bool) → cond b (Some (record { id = t; procedure = proc; arguments = args })) (submitted_call t h) ≡ Some c → (submitted_call t h ≡ Some c → submitted_call t (h ++ more) ≡ Some c) → cond b (Some (record { id = t; procedure = proc; arguments = args })) (submitted_call t (h ++ more)) ≡ Some c
    go true k ih = k
    go false k ih = ih k
call_of-append (Answered u reply ∷ h) more t c e = call_of-append h more t c e

-- what was submitted has a call
pub call_of-submitted : (own : (a : TxnId) → is_txn a a ≡ true) (h : List Entry) (t : TxnId) → WasSubmitted h t → (c : Call) × (submitted_call t h ≡ Some c)
call_of-submitted own [] t s = elim s.2 [ ]
call_of-submitted own (Answered u reply ∷ h) t (proc, args, i) = elim i [ inl e ↦ absurd (cc) | inr j ↦ call_of-submitted own h t (proc, args, j) ]
call_of-submitted own (Submitted u p a ∷ h) t (proc, args, i) = go (is_txn u t) refl i (λ j. call_of-submitted own h t (proc, args, j))
  where
    go : (b : Bool) → is_txn u t ≡ b → Has (Submitted t proc args) (Submitted u p a ∷ h) → (Has (Submitted t proc args) h → (c : Call) × (submitted_call t h ≡ Some c)) → (c : Call) × (cond b (Some (record { id = t; procedure = p; arguments = a })) (submitted_call t h) ≡ Some c)
    go true e j ih = (record { id = t; procedure = p; arguments = a }, refl)
    go false e (inl j) ih = let same : t ≡ u = cc in absurd (let f : is_txn u t ≡ true = subst (λ x. is_txn u x ≡ true) (sym same) (own u) in cc)
    go false e (inr j) ih = ih j

-- a call is of its transaction
pub call_of-id : (h : List Entry) (t : TxnId) (c : Call) → submitted_call t h ≡ Some c → c.id ≡ t
call_of-id [] t c e = absurd (cc)
call_of-id (Answered u reply ∷ h) t c e = call_of-id h t c e
call_of-id (Submitted u p a ∷ h) t c e = go (is_txn u t) e (call_of-id h t c)
  where
    go : (b : Bool) → cond b (Some (record { id = t; procedure = p; arguments = a })) (submitted_call t h) ≡ Some c → (submitted_call t h ≡ Some c → c.id ≡ t) → c.id ≡ t
    go true k ih = let call : record { id = t; procedure = p; arguments = a } ≡ c = cc in sym (ap (λ (x : Call). x.id) call)
    go false k ih = ih k

-- a call is one of the history's submissions
pub call_of-from : (exact : (a b : TxnId) → is_txn a b ≡ true → a ≡ b) (h : List Entry) (t : TxnId) (c : Call) → submitted_call t h ≡ Some c → Has (Submitted t c.procedure c.arguments) h
call_of-from exact [] t c e = absurd (cc)
call_of-from exact (Answered u reply ∷ h) t c e = inr (call_of-from exact h t c e)
call_of-from exact (Submitted u p a ∷ h) t c e = go (is_txn u t) refl e (call_of-from exact h t c)
  where
    go : (b : Bool) → is_txn u t ≡ b → cond b (Some (record { id = t; procedure = p; arguments = a })) (submitted_call t h) ≡ Some c → (submitted_call t h ≡ Some c → Has (Submitted t c.procedure c.arguments) h) → Has (Submitted t c.procedure c.arguments) (Submitted u p a ∷ h)
    go true f k ih =
        let same = exact u t f in
        let call : record { id = t; procedure = p; arguments = a } ≡ c = cc in
        inl (λ i. Submitted (sym same i) ((sym call i).procedure) ((sym call i).arguments))
    go false f k ih = inr (ih k)

-- whose answer stands before a submission in the longer history: it did before, or the submission is a later one
pub before_cases : (h more : List Entry) (t u : TxnId) → IsAnsweredBefore (h ++ more) t u → IsAnsweredBefore h t u ⊎ (((reply : List ℤ) × WasAnswered h t reply × WasSubmitted more u) ⊎ IsAnsweredBefore more t u)
before_cases [] more t u b = inr (inr b)
before_cases (e ∷ h) more t u (inl (reply, is, s)) =
    elim (has_append _ h more s.2) [
      | inl k ↦ inl (inl (reply, is, (s.0, s.1, k)))
      | inr k ↦ inr (inl (reply, inl (sym is), (s.0, s.1, k)))
    ]
before_cases (e ∷ h) more t u (inr b) =
    elim (before_cases h more t u b) [
      | inl k ↦ inl (inr k)
      | inr k ↦ elim k [ inl j ↦ inr (inl (j.0, inr j.1, j.2)) | inr j ↦ inr (inr j) ]
    ]

-- who is answered before some submission was answered
pub answered_by_before : (h : List Entry) (t u : TxnId) → IsAnsweredBefore h t u → (reply : List ℤ) × WasAnswered h t reply
answered_by_before [] t u b = elim b [ ]
answered_by_before (e ∷ h) t u (inl (reply, is, s)) = (reply, inl (sym is))
answered_by_before (e ∷ h) t u (inr b) = let r = answered_by_before h t u b in (r.0, inr r.1)

-- and who is submitted after some answer was submitted
pub submitted_by_before : (h : List Entry) (t u : TxnId) → IsAnsweredBefore h t u → WasSubmitted h u
submitted_by_before [] t u b = elim b [ ]
submitted_by_before (e ∷ h) t u (inl (reply, is, s)) = (s.0, s.1, inr s.2)
submitted_by_before (e ∷ h) t u (inr b) = let r = submitted_by_before h t u b in (r.0, r.1, inr r.2)

-- what was submitted once is the call
pub call_of-is : (h : List Entry) (t : TxnId) (proc : ℕ) (args : List ℤ) → ((q : ℕ) (b : List ℤ) → Has (Submitted t q b) h → (q ≡ proc) × (b ≡ args)) → Has (Submitted t proc args) h → submitted_call t h ≡ Some (record { id = t; procedure = proc; arguments = args })
call_of-is [] t proc args one i = elim i [ ]
call_of-is (Answered u reply ∷ h) t proc args one (inl e) = absurd (cc)
call_of-is (Answered u reply ∷ h) t proc args one (inr i) = call_of-is h t proc args (λ q b j. one q b (inr j)) i
call_of-is (Submitted u p a ∷ h) t proc args one i = go (is_txn u t) refl i (λ j. call_of-is h t proc args (λ q b k. one q b (inr k)) j)
  where
    go : (b : Bool) → is_txn u t ≡ b → Has (Submitted t proc args) (Submitted u p a ∷ h) → (Has (Submitted t proc args) h → submitted_call t h ≡ Some (record { id = t; procedure = proc; arguments = args }))
        → cond b (Some (record { id = t; procedure = p; arguments = a })) (submitted_call t h) ≡ Some (record { id = t; procedure = proc; arguments = args })
    go true e j ih =
        let same = is_txn-true u t e in
        let r = one p a (inl (λ k. Submitted (sym same k) p a)) in
        λ k. Some (record { id = t; procedure = r.0 k; arguments = r.1 k })
    go false e (inl j) ih = let same : t ≡ u = cc in absurd (let f : is_txn u t ≡ true = is_txn-eq u t (sym same) in cc)
    go false e (inr j) ih = ih j

-- ---- the calls of an order

pub calls_of-append : (h : List Entry) (xs ys : List TxnId) → submitted_calls h (xs ++ ys) ≡ submitted_calls h xs ++ submitted_calls h ys
calls_of-append h [] ys = refl
calls_of-append h (x ∷ xs) ys = go (submitted_call x h) (calls_of-append h xs ys)
  where
    go : (c : Option Call) → submitted_calls h (xs ++ ys) ≡ submitted_calls h xs ++ submitted_calls h ys → cons_option c (submitted_calls h (xs ++ ys)) ≡ cons_option c (submitted_calls h xs) ++ submitted_calls h ys
    go None e = e
    go (Some c) e = ap (λ cs. c ∷ cs) e

-- each is of a transaction of the order
pub calls_of-listed : (h : List Entry) (order : List TxnId) (c : Call) → Has c (submitted_calls h order) → IsListed is_txn order c.id
calls_of-listed h [] c i = elim i [ ]
calls_of-listed h (t ∷ order) c i = go (submitted_call t h) refl i (calls_of-listed h order c)
  where
    go : (o : Option Call) → submitted_call t h ≡ o → Has c (cons_option o (submitted_calls h order)) → (Has c (submitted_calls h order) → IsListed is_txn order c.id) → IsListed is_txn (t ∷ order) c.id
    go None e j ih = listed_tail is_txn t order c.id (ih j)
    go (Some d) e (inl j) ih =
        let is : d.id ≡ t = call_of-id h t d e in
        subst (λ (u : TxnId). IsListed is_txn (t ∷ order) u) (sym (ap (λ (x : Call). x.id) j ∙ is)) (listed_head is_txn t order (is_txn-same t))
    go (Some d) e (inr j) ih = listed_tail is_txn t order c.id (ih j)
