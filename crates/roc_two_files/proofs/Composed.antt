-- Two serial witnesses, one behind the other, are one
use Rattle.std.proofs.Common.{◌≡◌, ◌∙◌, ℤ, Bool, true, false, cond, List, [], ◌∷◌, ◌++◌, Some, refl, sym, ap, subst, inl, inr}
use Rattle.std.specs.List.{cons_option}
use Rattle.roc_sequence.specs.Lists.{Has}
use Rattle.roc_sequence.specs.Places.{IsListed, IsListedBefore}
use Rattle.roc_sequence.proofs.Appended.{listed_front, listed_behind, listed_either, before_front, before_behind, before_new, NoneTwice-append}
use Rattle.roc_sequence.proofs.Members.{has_append, has_right}
use Rattle.roc_base.specs.declared.id.TxnId.{TxnId}
use Rattle.roc_base.specs.TxnId.{is_txn}
use Rattle.roc_base.specs.Equalities.{is_txn-true, is_txn-same}
use Rattle.roc_base.proofs.Ids.{is_txn-ne}
use Rattle.roc_rows.specs.Store.{Store}
use Rattle.roc_program.specs.Program.{Workload}
use Rattle.roc_whole.specs.Serial.{serial_store, serial_answers}
use Rattle.roc_whole.proofs.SerialRuns.{serial_answers-append}
use Rattle.roc_audit.specs.declared.entry.Entry.{Entry}
use Rattle.roc_audit.specs.declared.entry.Entry.TheVariants.{Submitted, Answered}
use Rattle.roc_audit.specs.History.{WasSubmitted, WasAnswered, IsAnsweredBefore}
use Rattle.roc_audit.specs.Witness.{submitted_call, submitted_calls, reply_in, serial_reply_from, IsSerialWitnessFrom}
use Rattle.roc_audit.proofs.Histories.{submitted_front, call_of-append, call_of-submitted, calls_of-append, calls_of-listed, before_cases, answered_by_before, submitted_by_before}
use Rattle.roc_audit.proofs.Replies.{reply_in-front, reply_in-behind, reply_in-none}
use Rattle.roc_depgraph.proofs.Listed.{has_listed}

-- ---- calls in two histories, one behind the other

-- what was submitted in the first is the first one's call
pub call_front : (h more : List Entry) (t : TxnId) → WasSubmitted h t → submitted_call t (h ++ more) ≡ submitted_call t h
call_front h more t s = let c = call_of-submitted is_txn-same h t s in call_of-append h more t c.0 c.1 ∙ sym c.1

-- what was not is the second one's
pub call_behind : (h more : List Entry) (t : TxnId) → ¬ WasSubmitted h t → submitted_call t (h ++ more) ≡ submitted_call t more
call_behind [] more t n = refl
call_behind (Answered u reply ∷ h) more t n = call_behind h more t (λ s. n (s.0, s.1, inr s.2))
call_behind (Submitted u p a ∷ h) more t n = go (is_txn u t) refl (call_behind h more t (λ s. n (s.0, s.1, inr s.2)))
  where
    go : (b : Bool) → is_txn u t ≡ b → submitted_call t (h ++ more) ≡ submitted_call t more
        → cond b (Some (record { id = t; procedure = p; arguments = a })) (submitted_call t (h ++ more)) ≡ submitted_call t more
    go true e ih = absurd (n (p, a, inl (ap (λ (x : TxnId). Submitted x p a) (sym (is_txn-true u t e)))))
    go false e ih = ih

pub calls_front : (h more : List Entry) (xs : List TxnId) → ((t : TxnId) → Has t xs → WasSubmitted h t) → submitted_calls (h ++ more) xs ≡ submitted_calls h xs
calls_front h more [] s = refl
calls_front h more (x ∷ xs) s =
    let first = call_front h more x (s x (inl refl)) in
    let rest = calls_front h more xs (λ t i. s t (inr i)) in
    λ i. cons_option (first i) (rest i)

pub calls_behind : (h more : List Entry) (xs : List TxnId) → ((t : TxnId) → Has t xs → ¬ WasSubmitted h t) → submitted_calls (h ++ more) xs ≡ submitted_calls more xs
calls_behind h more [] s = refl
calls_behind h more (x ∷ xs) s =
    let first = call_behind h more x (s x (inl refl)) in
    let rest = calls_behind h more xs (λ t i. s t (inr i)) in
    λ i. cons_option (first i) (rest i)

-- ---- two witnesses

module _ (program : Workload) (s : Store) (h1 h2 : List Entry) (o1 o2 : List TxnId)
    (first : IsSerialWitnessFrom program s h1 o1) (second : IsSerialWitnessFrom program (serial_store program s (submitted_calls h1 o1)) h2 o2)
    (apart : (t : TxnId) → WasSubmitted h1 t → ¬ WasSubmitted h2 t) where
  abbrev left : Store
  left = serial_store program s (submitted_calls h1 o1)

  pub calls : submitted_calls (h1 ++ h2) (o1 ++ o2) ≡ submitted_calls h1 o1 ++ submitted_calls h2 o2
  calls =
      let one = calls_front h1 h2 o1 (λ t i. first.submitted t (has_listed o1 t i)) in
      let two = calls_behind h1 h2 o2 (λ t i h. apart t h (second.submitted t (has_listed o2 t i))) in
      calls_of-append (h1 ++ h2) o1 o2 ∙ (λ i. one i ++ two i)

  answers : serial_answers program s (submitted_calls (h1 ++ h2) (o1 ++ o2)) ≡ serial_answers program s (submitted_calls h1 o1) ++ serial_answers program left (submitted_calls h2 o2)
  answers = ap (serial_answers program s) calls ∙ serial_answers-append program s (submitted_calls h1 o1) (submitted_calls h2 o2)

  later_submitted : (t : TxnId) → WasSubmitted h2 t → WasSubmitted (h1 ++ h2) t
  later_submitted t k = (k.0, k.1, has_right (Submitted t k.0 k.1) h1 h2 k.2)

  -- who is submitted in the second is not of the first order
  not_first : (t : TxnId) → WasSubmitted h2 t → ¬ IsListed is_txn o1 t
  not_first t k i = apart t (first.submitted t i) k

  -- who answers in the second stands in its order
  replies_behind : (t : TxnId) (reply : List ℤ) → WasAnswered h2 t reply → serial_reply_from program s (h1 ++ h2) (o1 ++ o2) t ≡ Some reply
  replies_behind t reply k =
      let there = second.answered t reply k in
      let none = reply_in-none program t s (submitted_calls h1 o1)
      (λ c i. is_txn-ne c.id t (λ e. not_first t (second.submitted t there) (subst (IsListed is_txn o1) e (calls_of-listed h1 o1 c i)))) in
      ap (reply_in t) answers ∙ (reply_in-behind t (serial_answers program s (submitted_calls h1 o1)) (serial_answers program left (submitted_calls h2 o2)) none ∙ second.replies t reply k)

  replies_front : (t : TxnId) (reply : List ℤ) → WasAnswered h1 t reply → serial_reply_from program s (h1 ++ h2) (o1 ++ o2) t ≡ Some reply
  replies_front t reply k =
      ap (reply_in t) answers ∙ reply_in-front t (serial_answers program s (submitted_calls h1 o1)) (serial_answers program left (submitted_calls h2 o2)) reply (first.replies t reply k)

  in_time : (t u : TxnId) → IsAnsweredBefore (h1 ++ h2) t u → IsListed is_txn (o1 ++ o2) u → IsListedBefore is_txn (o1 ++ o2) t u
  in_time t u b i = elim (listed_either is_txn o1 o2 u i) [
    | inl l ↦ early l
    | inr l ↦ late l.0 l.1
  ]
    where
      early : IsListed is_txn o1 u → IsListedBefore is_txn (o1 ++ o2) t u
      early l = elim (before_cases h1 h2 t u b) [
        | inl k ↦ before_front is_txn o1 o2 t u (first.real_time t u k l)
        | inr k ↦ elim k [
          | inl j ↦ absurd (apart u (first.submitted u l) j.2)
          | inr j ↦ absurd (apart u (first.submitted u l) (submitted_by_before h2 t u j))
        ]
      ]

      late : ¬ IsListed is_txn o1 u → IsListed is_txn o2 u → IsListedBefore is_txn (o1 ++ o2) t u
      late n l = elim (before_cases h1 h2 t u b) [
        | inl k ↦ absurd (apart u (submitted_by_before h1 t u k) (second.submitted u l))
        | inr k ↦ elim k [
          | inl j ↦ before_new is_txn o1 o2 t u (first.answered t j.0 j.1) n
          | inr j ↦
              (let r = answered_by_before h2 t u j in
              before_behind is_txn o1 o2 t u (not_first t (second.submitted t (second.answered t r.0 r.1))) n (second.real_time t u j l))
        ]
      ]

  pub composed : IsSerialWitnessFrom program s (h1 ++ h2) (o1 ++ o2)
  composed =
      record {
        once = NoneTwice-append is_txn is_txn-same o1 o2 first.once second.once (λ t i. not_first t (second.submitted t i));
        submitted = λ t i. elim (listed_either is_txn o1 o2 t i) [
          | inl l ↦ submitted_front h1 h2 t (first.submitted t l)
          | inr l ↦ later_submitted t (second.submitted t l.1)
        ];
        answered = λ t reply a. elim (has_append (Answered t reply) h1 h2 a) [
          | inl k ↦ listed_front is_txn o1 o2 t (first.answered t reply k)
          | inr k ↦ listed_behind is_txn o1 o2 t (second.answered t reply k)
        ];
        replies = λ t reply a. elim (has_append (Answered t reply) h1 h2 a) [
          | inl k ↦ replies_front t reply k
          | inr k ↦ replies_behind t reply k
        ];
        real_time = in_time;
      }
