-- What the lines of a run show of its submissions and answers
use Rattle.std.proofs.Common.{◌≡◌, ℕ, ℤ, List, refl, sym, subst, inl, inr}
use Rattle.roc_sequence.specs.Lists.{Has}
use Rattle.roc_sequence.proofs.Members.{has_flat_map, from_has_flat_map}
use Rattle.roc_base.specs.declared.id.TxnId.{TxnId}
use Rattle.roc_audit.specs.declared.entry.Entry.TheVariants as entry
use Rattle.roc_growth.specs.World.{GrownWorld}
use Rattle.roc_growth.specs.Run.{Stepped}
use Rattle.roc_report.specs.Line.{Line, Submit, Answer}
use Rattle.roc_replay.specs.Report.{report}
use Rattle.roc_replay.specs.Readback.{entries_in, history_in}

answer_of : (line : Line) (t : TxnId) (reply : List ℤ) → Has (entry.Answered t reply) (entries_in line) → line ≡ Answer t reply
answer_of (Answer id values) t reply (inl e) = cc
answer_of (Answer id values) t reply (inr h) = absurd h
answer_of (Submit id proc args) t reply (inl e) = absurd (cc)
answer_of (Submit id proc args) t reply (inr h) = absurd h
answer_of _ t reply h = absurd h

-- the lines show the history
module _ (steps : List Stepped) (w : GrownWorld) (history : history_in (report steps w) ≡ w.history) (t : TxnId) where
  pub submission_shown : (proc : ℕ) (args : List ℤ) → Has (Submit t proc args) (report steps w) → Has (entry.Submitted t proc args) w.history
  submission_shown proc args h = subst (Has (entry.Submitted t proc args)) history (has_flat_map entries_in (entry.Submitted t proc args) (Submit t proc args) (report steps w) h (inl refl))

  pub answer_shown : (reply : List ℤ) × Has (entry.Answered t reply) w.history → (reply : List ℤ) × Has (Answer t reply) (report steps w)
  answer_shown answer =
      let found = from_has_flat_map entries_in (entry.Answered t answer.0) (report steps w) (subst (Has (entry.Answered t answer.0)) (sym history) answer.1) in
      (answer.0, subst (λ (line : Line). Has line (report steps w)) (answer_of found.0 t answer.0 found.2) found.1)
