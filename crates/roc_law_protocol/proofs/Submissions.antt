-- What was submitted, and by whom
use Rattle.std.proofs.Common.{◌≡◌, ℕ, ℤ, ◌+◌, ◌<◌, ◌≤◌, List, [], ◌∷◌, ◌++◌, Option, Some, None, length, refl, sym, ap, subst, ◌∙◌, ◌⊎◌, inl, inr, arith, true}
use Rattle.std.proofs.lemmas.Bool.{cases_eq}
use Rattle.std.specs.Prelude.{slice_get, slice_set}
use Rattle.roc_sequence.specs.Lists.{Has}
use Rattle.roc_sequence.proofs.Members.{has_append, has_one}
use Rattle.roc_base.specs.declared.id.TxnId.{TxnId}
use Rattle.roc_base.specs.declared.node.Shard.{Shard}
use Rattle.roc_msg.specs.declared.msg.Msg.{Msg}
use Rattle.roc_msg.specs.declared.msg.Msg.TheVariants.{StartOk, CommitOk, ReadOk}
use Rattle.roc_msg.specs.declared.reason.Reason.{Reason}
use Rattle.roc_plan.specs.Groups.{Plan, procedure_of, is_transaction}
use Rattle.roc_coord.specs.declared.handled.Handled.{Handled}
use Rattle.roc_coord.specs.declared.handled.Handled.TheVariants as answer
use Rattle.roc_coord.specs.declared.transaction.Transaction.{Transaction}
use Rattle.roc_coord.specs.State.{find_transaction, find_view, CoordState}
use Rattle.roc_coord.specs.Step.{unless_refused, with_startok, startok_taken, startok_refusal, after_startok, with_commitok, reply_now, commitok_taken, commitok_refusal, after_commitok, readok_taken, after_readok, after_message}
use Rattle.roc_coord.specs.Submit.{next_id}
use Rattle.roc_readonly.specs.Round.{with_readok, readok_refusal, round_of}
use Rattle.roc_readonly.specs.declared.view.Round.{Round}
use Rattle.roc_readonly.specs.declared.view.Round.TheVariants.{Waits, Ends, GoesOn}
use Rattle.roc_readonly.specs.declared.view.TakenRead.{TakenRead}
use Rattle.roc_readonly.specs.declared.view.View.{View}
use Rattle.roc_audit.specs.declared.entry.Entry.{Entry}
use Rattle.roc_audit.specs.declared.entry.Entry.TheVariants.{Submitted}
use Rattle.roc_law_protocol.specs.Happens.{answer_entries}
use Rattle.roc_law_protocol.proofs.Changed.{get-set_here, get-set_other, get-set_cases}

-- the coordinator's numbers are below its next one
pub record IsNumbered (coords : List CoordState) (t : TxnId) : Type 0 where
  pub coord : CoordState
  pub there : slice_get coords t.coord ≡ Some coord
  pub below : t.seq < coord.next

pub record AreSubmissions (plan : Plan) (h : List Entry) (coords : List CoordState) : Type 0 where
  pub numbers : (n : ℕ) (c : CoordState) → slice_get coords n ≡ Some c → c.number ≡ n
  pub procedure : (t : TxnId) (p : ℕ) (a : List ℤ) → Has (Submitted t p a) h → is_transaction plan p ≡ true
  pub arguments : (t : TxnId) (p : ℕ) (a : List ℤ) → Has (Submitted t p a) h → length a ≡ (procedure_of plan p).arguments
  pub numbered : (t : TxnId) (p : ℕ) (a : List ℤ) → Has (Submitted t p a) h → IsNumbered coords t
  -- an id is used once
  pub one : (t : TxnId) (p q : ℕ) (a b : List ℤ) → Has (Submitted t p a) h → Has (Submitted t q b) h → (p ≡ q) × (a ≡ b)

-- ---- a step that submits nothing

pub record KeepsNumber (s after : CoordState) : Type 0 where
  pub number : after.number ≡ s.number
  pub next : after.next ≡ s.next

pub keeps_number : (plan : Plan) (s : CoordState) (msg : Msg) → KeepsNumber s (after_message plan s msg).state
keeps_number plan s (StartOk id group shard bound outs edges facts) = go (find_transaction id s.pending)
  where
    go : (x : Option Transaction) → KeepsNumber s (after_startok plan s id x (record { group = group; bound = bound; outs = outs; edges = edges; facts = facts }) shard).state
    go None = record { number = refl; next = refl }
    go (Some x) = refused (startok_refusal plan x (record { group = group; bound = bound; outs = outs; edges = edges; facts = facts }) shard)
      where
        refused : (o : Option Reason) → KeepsNumber s (unless_refused s o (startok_taken plan s (with_startok x (record { group = group; bound = bound; outs = outs; edges = edges; facts = facts })))).state
        refused (Some why) = record { number = refl; next = refl }
        refused None = record { number = refl; next = refl }
keeps_number plan s (CommitOk id shard outs) = go (find_transaction id s.pending)
  where
    go : (x : Option Transaction) → KeepsNumber s (after_commitok plan s id x (record { shard = shard; outs = outs })).state
    go None = record { number = refl; next = refl }
    go (Some x) = refused (commitok_refusal plan x (record { shard = shard; outs = outs })) (reply_now plan (with_commitok x (record { shard = shard; outs = outs })))
      where
        refused : (o : Option Reason) (reply : Option (List ℤ)) → KeepsNumber s (unless_refused s o (commitok_taken plan s (with_commitok x (record { shard = shard; outs = outs })) reply)).state
        refused (Some why) reply = record { number = refl; next = refl }
        refused None (Some reply) = record { number = refl; next = refl }
        refused None None = record { number = refl; next = refl }
keeps_number plan s (ReadOk id round group shard versions outs) = go (find_view id s.views)
  where
    go : (v : Option View) → KeepsNumber s (after_readok plan s id v round (record { group = group; versions = versions; outs = outs }) shard).state
    go None = record { number = refl; next = refl }
    go (Some v) = refused (readok_refusal plan v round (record { group = group; versions = versions; outs = outs }) shard) (round_of plan (with_readok v (record { group = group; versions = versions; outs = outs })))
      where
        refused : (o : Option Reason) (round_is : Round) → KeepsNumber s (unless_refused s o (readok_taken plan s (with_readok v (record { group = group; versions = versions; outs = outs })) round_is)).state
        refused (Some why) round_is = record { number = refl; next = refl }
        refused None Waits = record { number = refl; next = refl }
        refused None (Ends reply) = record { number = refl; next = refl }
        refused None GoesOn = record { number = refl; next = refl }
keeps_number plan s msg = record { number = refl; next = refl }

-- it answers no read
abbrev pub IsNoReadOk : Msg → Type 0
IsNoReadOk (ReadOk id round group shard versions outs) = ⊥
IsNoReadOk msg = Unit {0}

-- an answer to a read changes nothing of transactions
pub readok_pending : (plan : Plan) (s : CoordState) (id : TxnId) (round group : ℕ) (shard : Shard) (versions : List ℕ) (outs : List ℤ) → (after_message plan s (ReadOk id round group shard versions outs)).state.pending ≡ s.pending
readok_pending plan s id round group shard versions outs = go (find_view id s.views)
  where
    ok : TakenRead
    ok = record { group = group; versions = versions; outs = outs }

    go : (v : Option View) → (after_readok plan s id v round ok shard).state.pending ≡ s.pending
    go None = refl
    go (Some v) = refused (readok_refusal plan v round ok shard) (round_of plan (with_readok v ok))
      where
        refused : (o : Option Reason) (round_is : Round) → (unless_refused s o (readok_taken plan s (with_readok v ok) round_is)).state.pending ≡ s.pending
        refused (Some why) round_is = refl
        refused None Waits = refl
        refused None (Ends reply) = refl
        refused None GoesOn = refl

pub no_submission : (a : Handled) (t : TxnId) (p : ℕ) (args : List ℤ) → ¬ Has (Submitted t p args) (answer_entries a)
no_submission (answer.Answered id reply) t p args (inl e) = absurd (cc)
no_submission (answer.Answered id reply) t p args (inr h) = h
no_submission answer.Done t p args h = h
no_submission (answer.Ignored why) t p args h = h

module _ (plan : Plan) (h : List Entry) (coords : List CoordState) (a : AreSubmissions plan h coords) (n : ℕ) (s : CoordState) (there : slice_get coords n ≡ Some s) where
  module _ (after : CoordState) (number : after.number ≡ s.number) (next : s.next ≤ after.next) where
    numbers_after : (m : ℕ) (c : CoordState) → slice_get (slice_set coords n after) m ≡ Some c → c.number ≡ m
    numbers_after m c e = elim (get-set_cases coords n m s after c there e) [
      | inl k ↦ ap (λ (c : CoordState). c.number) k.1 ∙ (number ∙ (a.numbers n s there ∙ k.0))
      | inr k ↦ a.numbers m c k.1
    ]

    numbered_after : (t : TxnId) → IsNumbered coords t → IsNumbered (slice_set coords n after) t
    numbered_after t k = elim (cases_eq n t.coord) [
      | inl e ↦
          (let same : k.coord ≡ s = (let x = subst (λ m. slice_get coords m ≡ Some k.coord) (sym e) k.there in let y = there in cc) in
          let b : t.seq < s.next = subst (λ (c : CoordState). t.seq < c.next) same k.below in
          record { coord = after; there = subst (λ m. slice_get (slice_set coords n after) m ≡ Some after) e (get-set_here coords n s after there); below = omega arith })
      | inr e ↦ record { coord = k.coord; there = get-set_other coords n t.coord after e ∙ k.there; below = k.below }
    ]

  pub submissions_kept : (after : CoordState) → after.number ≡ s.number → s.next ≤ after.next → (told : List Entry) → ((t : TxnId) (p : ℕ) (args : List ℤ) → ¬ Has (Submitted t p args) told) → AreSubmissions plan (h ++ told) (slice_set coords n after)
  submissions_kept after number next told none =
      record {
        numbers = numbers_after after number next;
        procedure = λ t p args k. a.procedure t p args (old t p args k);
        arguments = λ t p args k. a.arguments t p args (old t p args k);
        numbered = λ t p args k. numbered_after after number next t (a.numbered t p args (old t p args k));
        one = λ t p q x y k l. a.one t p q x y (old t p x k) (old t q y l);
      }
    where
      old : (t : TxnId) (p : ℕ) (args : List ℤ) → Has (Submitted t p args) (h ++ told) → Has (Submitted t p args) h
      old t p args k = elim (has_append (Submitted t p args) h told k) [ inl j ↦ j | inr j ↦ absurd (none t p args j) ]

  pub submissions_message : (msg : Msg) → AreSubmissions plan (h ++ answer_entries (after_message plan s msg).answer) (slice_set coords n (after_message plan s msg).state)
  submissions_message msg =
      let k = keeps_number plan s msg in
      submissions_kept (after_message plan s msg).state k.number (let e = k.next in omega arith) (answer_entries (after_message plan s msg).answer) (no_submission (after_message plan s msg).answer)

  -- ---- a submission

  its_id : (next_id s).coord ≡ n
  its_id = a.numbers n s there

  -- its id is new
  pub unused : (p : ℕ) (args : List ℤ) → ¬ Has (Submitted (next_id s) p args) h
  unused p args k =
      let q = a.numbered (next_id s) p args k in
      let same : q.coord ≡ s = (let x = subst (λ m. slice_get coords m ≡ Some q.coord) its_id q.there in let y = there in cc) in
      let b : s.next < s.next = subst (λ (c : CoordState). s.next < c.next) same q.below in
      absurd (omega arith)

  pub submissions_more : (after : CoordState) → after.number ≡ s.number → after.next ≡ s.next + 1 → (proc : ℕ) (args : List ℤ) → is_transaction plan proc ≡ true → length args ≡ (procedure_of plan proc).arguments → AreSubmissions plan (h ++ Submitted (next_id s) proc args ∷ []) (slice_set coords n after)
  submissions_more after number next proc args known counted =
      record {
        numbers = numbers_after after number (omega arith);
        procedure = λ t p x k. elim (cases t p x k) [ inl j ↦ a.procedure t p x j | inr j ↦ subst (λ p. is_transaction plan p ≡ true) (sym j.1) known ];
        arguments = λ t p x k. elim (cases t p x k) [ inl j ↦ a.arguments t p x j | inr j ↦ ap length j.2 ∙ (counted ∙ ap (λ p. (procedure_of plan p).arguments) (sym j.1)) ];
        numbered = λ t p x k. elim (cases t p x k) [
          | inl j ↦ numbered_after after number (omega arith) t (a.numbered t p x j)
          | inr j ↦ subst (IsNumbered (slice_set coords n after)) (sym j.0) (record { coord = after; there = subst (λ m. slice_get (slice_set coords n after) m ≡ Some after) (sym its_id) (get-set_here coords n s after there); below = omega arith })
        ];
        one = λ t p q x y k l. elim (cases t p x k) [
          | inl j ↦ elim (cases t q y l) [ inl i ↦ a.one t p q x y j i | inr i ↦ absurd (unused p x (subst (λ t. Has (Submitted t p x) h) i.0 j)) ]
          | inr j ↦ elim (cases t q y l) [ inl i ↦ absurd (unused q y (subst (λ t. Has (Submitted t q y) h) j.0 i)) | inr i ↦ (j.1 ∙ sym i.1, j.2 ∙ sym i.2) ]
        ];
      }
    where
      cases : (t : TxnId) (p : ℕ) (x : List ℤ) → Has (Submitted t p x) (h ++ Submitted (next_id s) proc args ∷ []) → Has (Submitted t p x) h ⊎ ((t ≡ next_id s) × (p ≡ proc) × (x ≡ args))
      cases t p x k = elim (has_append (Submitted t p x) h (Submitted (next_id s) proc args ∷ []) k) [ inl j ↦ inl j | inr j ↦ (let e = has_one (Submitted t p x) (Submitted (next_id s) proc args) j in inr (cc, cc, cc)) ]
