-- The tests together are the definition
use Rattle.std.proofs.Common.{◌≡◌, ℤ, true, List, [], map, find, option_map, Option, Some, None, refl, sym, ap, subst, ◌∙◌, inl, inr}
use Rattle.std.proofs.lemmas.Bool.{false≢true}
use Rattle.std.specs.List.{list_any, list_all}
use Rattle.roc_sequence.specs.Lists.{Has}
use Rattle.roc_sequence.specs.Places.{IsListed}
use Rattle.roc_sequence.proofs.Holds.{every_has, has_every}
use Rattle.roc_sequence.proofs.Places.{listed_or_not}
use Rattle.roc_base.specs.declared.id.TxnId.{TxnId}
use Rattle.roc_base.specs.TxnId.{is_txn}
use Rattle.roc_base.specs.Equalities.{Decides-is_nums}
use Rattle.roc_base.proofs.Ids.{is_txn-ne}
use Rattle.roc_program.specs.Program.{Workload}
use Rattle.roc_whole.specs.Serial.{Answer, start_store, serial_run}
use Rattle.roc_audit.specs.declared.entry.Entry.{Entry}
use Rattle.roc_audit.specs.declared.entry.Entry.TheVariants.{Submitted, Answered}
use Rattle.roc_audit.specs.History.{WasAnswered}
use Rattle.roc_audit.specs.Witness.{submitted_calls, reply_in, serial_reply_from, IsSerialWitness}
use Rattle.roc_audit.proofs.Histories.{calls_of-listed}
use Rattle.roc_audit.proofs.Replies.{reply_in-none}
use Rattle.roc_audit_witness.specs.Inner.Tests.{repeats_none, submits, stands_behind, answer_of, is_answer_right, is_reply}
use Rattle.roc_audit_witness.specs.declared.runs.Replied.{Replied}
use Rattle.roc_audit_witness.proofs.Steps.{reply_found}
use Rattle.roc_audit_witness.proofs.Words.{once_from_test, all_submitted_from_test, time_from_test}

reply_from : (reply : List ℤ) (o : Option Replied) → is_reply reply o ≡ true → option_map (λ r. r.reply) o ≡ Some reply
reply_from reply None e = absurd (false≢true e)
reply_from reply (Some found) e = ap (λ (r : List ℤ). Some r) ((Decides-is_nums found.reply reply).0 e)

reply_to : (reply : List ℤ) (o : Option Replied) → option_map (λ r. r.reply) o ≡ Some reply → is_reply reply o ≡ true
reply_to reply None e = absurd (cc)
reply_to reply (Some found) e = (Decides-is_nums found.reply reply).1 (let same : found.reply ≡ reply = cc in same)

module _ (program : Workload) (history : List Entry) (order : List TxnId) (replies : List Replied) (ran : map answer_of replies ≡ serial_run program (submitted_calls history order)) where
  abbrev answers : List Answer
  answers = serial_run program (submitted_calls history order)

  abbrev AreReplies : Type 0
  AreReplies = (t : TxnId) (reply : List ℤ) → WasAnswered history t reply → serial_reply_from program (start_store program) history order t ≡ Some reply

  reply_is : (t : TxnId) → reply_in t answers ≡ option_map (λ r. r.reply) (find (λ r. is_txn r.id t) replies)
  reply_is t = ap (reply_in t) (sym ran) ∙ reply_found t replies

  replies_from_test : list_all (is_answer_right replies) history ≡ true → AreReplies
  replies_from_test e t reply has = reply_is t ∙ reply_from reply (find (λ r. is_txn r.id t) replies) (every_has (is_answer_right replies) history e (Answered t reply) has)

  test_from_replies : AreReplies → list_all (is_answer_right replies) history ≡ true
  test_from_replies are = has_every (is_answer_right replies) history one
    where
      one : (x : Entry) → Has x history → is_answer_right replies x ≡ true
      one (Submitted t proc args) has = refl
      one (Answered t reply) has = reply_to reply (find (λ r. is_txn r.id t) replies) (sym (reply_is t) ∙ are t reply has)

  -- what has a reply is in the order
  replied_is_listed : (t : TxnId) (reply : List ℤ) → reply_in t answers ≡ Some reply → IsListed is_txn order t
  replied_is_listed t reply e =
      elim (listed_or_not is_txn order t) [
        | inl l ↦ l
        | inr n ↦ absurd (
            let none : reply_in t answers ≡ None =
            reply_in-none program t (start_store program) (submitted_calls history order)
            (λ c has. is_txn-ne c.id t (λ same. n (subst (IsListed is_txn order) same (calls_of-listed history order c has)))) in
            cc)
      ]

  pub witness_from_tests : repeats_none [] order ≡ true → list_all (λ t. list_any (submits t) history) order ≡ true → stands_behind order 0 history ≡ true → list_all (is_answer_right replies) history ≡ true → IsSerialWitness program history order
  witness_from_tests once submitted time right =
      let are = replies_from_test right in
      record {
        once = once_from_test order once;
        submitted = all_submitted_from_test history order submitted;
        answered = λ t reply has. replied_is_listed t reply (are t reply has);
        replies = are;
        real_time = (time_from_test order 0 history time).real_time;
      }

  module _ (is : IsSerialWitness program history order) where
    pub test_replies : list_all (is_answer_right replies) history ≡ true
    test_replies = test_from_replies is.replies
