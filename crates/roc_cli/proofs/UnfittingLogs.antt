-- Why an audit is not done whose logs are none, or lack that of a server
use Rattle.std.proofs.Common.{◌≡◌, inl, inr, ℕ, ◌≤◌, List, [], ◌∷◌, ◌++◌, length, Option, Ok, refl, sym, subst}
use Rattle.std.proofs.lemmas.List.{append-nil, append_assoc}
use Rattle.roc_base.specs.declared.node.Node.{Node}
use Rattle.roc_program.specs.Program.{Workload}
use Rattle.roc_plan.specs.Groups.{Plan}
use Rattle.roc_log.specs.declared.line.Log.{Log}
use Rattle.roc_log.specs.Logs.{IsLog}
use Rattle.roc_auditor.specs.Verdict.{nodes_of, HaveNoGap}
use Rattle.roc_cli_files.specs.Held.{HoldLogs, HoldLogsBehind, HoldsLog, most_log_bytes}
use Rattle.roc_cli_files.specs.NodeNames.{tag_of_bytes}
use Rattle.roc_cli_words.specs.Commands.{check, print, replay, gen}
use Rattle.roc_cli_nodes.specs.Call.{WholeCall}
use Rattle.roc_cli_nodes.proofs.Named.{nodes_named, child_named}
use Rattle.roc_cli.specs.Audited.{IsAuditOf}
use Rattle.roc_cli.specs.Fit.{TellLogs, AuditAsked}
use Rattle.roc_cli.specs.Unfit as unfit
use Rattle.roc_cli.specs.Unfit.{LacksLogs}
use Rattle.roc_cli.specs.Stopped.{CutsOutput, in_report, in_text, in_check, in_rejection, in_generated, in_verdict}
use Rattle.roc_cli.specs.Inner.Ends.{Ends}
use Rattle.roc_cli.specs.Inner.Faultless.{IsUnwritten}
use Rattle.roc_cli.specs.Inner.Texts.{TextLaws}
use Rattle.roc_cli.proofs.Commands.{not_audit}
use Rattle.roc_cli.proofs.Fitting.{told}
use Rattle.roc_cli.proofs.FittingLogs.{same_log, same_logs, no_gap, same_names, same_plan_asked, held_asked, alone, asked_taken, asked_unrejected, asked_acceptable}

-- a file that is no log behind those that are told is none of those that are held
module _ (laws : TextLaws) (content : List ℕ → Option (List ℕ)) (program : Workload) (tag : List ℕ) where
  pub held_behind : (seen : List Node) (before : List (List ℕ)) (name : List ℕ) (behind : List (List ℕ)) (logs held : List Log) → TellLogs content program tag seen before logs
      → HoldLogsBehind content program tag seen (before ++ name ∷ behind) held → (log : Log) × HoldsLog content name program tag (seen ++ nodes_of logs) log
  held_behind seen [] name behind [] [] h is = absurd is
  held_behind seen [] name behind [] (l ∷ ls) h is = (l, subst (λ s. HoldsLog content name program tag s l) (sym (append-nil seen)) is.0)
  held_behind seen [] name behind (log ∷ logs) held h is = absurd h
  held_behind seen (other ∷ before) name behind [] held h is = absurd h
  held_behind seen (other ∷ before) name behind (log ∷ logs) [] h is = absurd is
  held_behind seen (other ∷ before) name behind (log ∷ logs) (l ∷ ls) h is =
      let e : l ≡ log = same_log laws content program tag other seen log l h.0 is.0 in
      let later = subst (λ (n : Log). HoldLogsBehind content program tag (seen ++ n.node ∷ []) (before ++ name ∷ behind) ls) e is.1 in
      let found = held_behind (seen ++ log.node ∷ []) before name behind logs ls h.1 later in
      (found.0, subst (λ s. HoldsLog content name program tag s found.0) (append_assoc seen (log.node ∷ []) (nodes_of logs)) found.1)

-- where no logs are held of which none is missing, nothing was judged
module _ (laws : TextLaws) (call : WholeCall) (names : List (List ℕ)) (fit : AuditAsked call.run names) (none : (plan : Plan) (logs : List Log) → IsAuditOf call.run plan logs → ⊥) where
  undone : Ends call.run (Ok tt) → ⊥
  undone (inl done) = not_audit ⊥ call.run.words (replay done.asked.under.workload done.asked.under.schedule done.asked.under.growth) done.asked.under.given refl (fit.workload, names, fit.given)
  undone (inr (inl done)) = not_audit ⊥ call.run.words (print done.workload) done.given refl (fit.workload, names, fit.given)
  undone (inr (inr (inl done))) = not_audit ⊥ call.run.words (check done.workload) done.given refl (fit.workload, names, fit.given)
  undone (inr (inr (inr (inl done)))) = not_audit ⊥ call.run.words (gen done.seed done.shards done.txns done.part) done.given refl (fit.workload, names, fit.given)
  undone (inr (inr (inr (inr done)))) = none done.plan done.logs done.asked

  uncut : CutsOutput call.run → ⊥
  uncut (in_report plan next bytes asked h) =
      not_audit ⊥ call.run.words (replay asked.under.workload asked.under.schedule asked.under.growth) asked.under.given refl (fit.workload, names, fit.given)
  uncut (in_text workload tree given held front) = not_audit ⊥ call.run.words (print workload) given refl (fit.workload, names, fit.given)
  uncut (in_check workload plan given held front) = not_audit ⊥ call.run.words (check workload) given refl (fit.workload, names, fit.given)
  uncut (in_rejection workload program said comes held front) = asked_unrejected laws call.run names fit workload program said comes held
  uncut (in_generated seed shards txns part text given generated front) = not_audit ⊥ call.run.words (gen seed shards txns part) given refl (fit.workload, names, fit.given)
  uncut (in_verdict plan logs asked verdict is front) = none plan logs asked

  unwritten_logs : IsUnwritten call
  unwritten_logs = record {
    is = record {
      taken = asked_taken laws call.run names fit;
      unrun = λ end h. alone laws call.run names fit (nodes_named call end h);
      no_child = λ shard status h. alone laws call.run names fit (child_named call shard status h);
      undone = undone;
      unrefuted = λ h. none h.plan h.logs h.asked;
    };
    acceptable = asked_acceptable laws call.run names fit;
    uncut = uncut;
  }

module _ (laws : TextLaws) (call : WholeCall) where
  -- what an audit holds under the names and the plan of the words
  module _ (names : List (List ℕ)) (fit : AuditAsked call.run names) (plan : Plan) (logs : List Log) (asked : IsAuditOf call.run plan logs) where
    held_here : HoldLogs call.run.files.content names fit.plan (tag_of_bytes fit.bytes) logs
    held_here =
        subst (λ (ns : List (List ℕ)). HoldLogs call.run.files.content ns fit.plan (tag_of_bytes fit.bytes) logs) (same_names laws call.run names fit plan asked.names asked.asked)
        (held_asked laws call.run names fit plan asked.names asked.asked asked.names logs asked.held)

    whole_here : HaveNoGap fit.plan logs
    whole_here = subst (λ (p : Plan). HaveNoGap p logs) (same_plan_asked laws call.run names fit plan asked.names asked.asked) asked.whole

  pub unjudged : LacksLogs call.run → IsUnwritten call
  unjudged (unfit.no_log before name behind fit logs text tells held unread) =
      unwritten_logs laws call (before ++ name ∷ behind) fit
      (λ plan others asked.
      (let found = held_behind laws call.run.files.content fit.plan.program (tag_of_bytes fit.bytes) [] before name behind logs others tells (held_here (before ++ name ∷ behind) fit plan others asked) in
      let log = found.1 in
      let e : text ≡ log.bytes = told call.run.files.content name name text log.bytes held refl log.held in
      unread found.0 (subst (λ b. length b ≤ most_log_bytes) (sym e) log.size)
      (subst (λ b. IsLog fit.plan.program (tag_of_bytes fit.bytes) (nodes_of logs) b found.0) (sym e) log.is)))
  unjudged (unfit.no_server names fit logs shard tells gap) =
      unwritten_logs laws call names fit
      (λ plan others asked.
      (let e : others ≡ logs = same_logs laws call.run.files.content fit.plan.program (tag_of_bytes fit.bytes) [] names logs others tells (held_here names fit plan others asked) in
      no_gap fit.plan logs shard (subst (λ (ls : List Log). HaveNoGap fit.plan ls) e (whole_here names fit plan others asked)) gap))
