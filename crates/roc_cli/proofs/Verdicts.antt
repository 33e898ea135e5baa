-- What each step of an audit tells of its end
use Rattle.std.proofs.Common.{◌≡◌, inl, inr, ℕ, Bool, false, List, ◌∷◌, ◌++◌, map, Option, IfSome, Result, Ok, Err, refl, sym, subst}
use Rattle.std.proofs.lemmas.Bool.{false≢true}
use Rattle.roc_base.specs.declared.id.TxnId.{TxnId}
use Rattle.roc_io.specs.Cause.{HasCause}
use Rattle.roc_plan.specs.Groups.{Plan}
use Rattle.roc_log.specs.declared.line.Log.{Log as NodeLog}
use Rattle.roc_log.specs.FaultText.{what_text as log_text}
use Rattle.roc_judge.specs.declared.judgement.Judgement.TheVariants.{Missing, Unsubmitted, Cycle, Reply, Yes}
use Rattle.roc_judge.specs.Vouched.{IsVouched}
use Rattle.roc_fold.specs.Told.{told_of}
use Rattle.roc_auditor.specs.declared.verdict.Verdict.{Verdict}
use Rattle.roc_auditor.specs.declared.verdict.Verdict.TheVariants.{Mismatch, Judged}
use Rattle.roc_auditor.specs.declared.verdict.AuditFault.{AuditFault}
use Rattle.roc_auditor.specs.declared.verdict.AuditFault.TheVariants as audit_fault
use Rattle.roc_auditor.specs.Verdict.{IsAuditedAs, IsAuditFault, IsVerdict}
use Rattle.roc_cli_files.specs.declared.fault.Fault.{Fault}
use Rattle.roc_cli_files.specs.declared.fault.Fault.TheVariants.{TooLong, Log, Gap, Memory, File, Sink, Refuted}
use Rattle.roc_cli_files.specs.Fault.{Blames, ReadsBut, fails_by, blames_file}
use Rattle.roc_cli_files.specs.Held.{HoldsPlan, HoldLogs}
use Rattle.roc_cli_files.specs.Listed.{LogFails, LogsFail}
use Rattle.roc_cli_files.specs.NodeNames.{tag_of_bytes, HoldsTagged}
use Rattle.roc_cli_files.specs.Says.{long_line, fault_line}
use Rattle.roc_cli_nodes.specs.Call.{RunCall, TakesNothing}
use Rattle.roc_cli_nodes.specs.Words.{IsAudit}
use Rattle.roc_auditor.specs.Verdict.{nodes_of}
use Rattle.roc_cli.specs.Audited.{ComesToLog, IsAuditUnder}
use Rattle.roc_cli.specs.Refused.{AreRefusedLogs, long_log, bad_log, no_server, bad_logs}
use Rattle.roc_cli.specs.Stopped.{IsInput, the_log, with_nothing, in_verdict}
use Rattle.roc_cli.specs.Inner.Auditing.{VerdictEnds, LogsEnd, fault_of_audit}
use Rattle.roc_cli.specs.Inner.Ends.{AuditEnds, Ends, Fails}

-- ---- a verdict

-- what was written of the right verdict
pub verdict_ends : (plan : Plan) (logs : List NodeLog) (names : List (List ℕ)) (verdict : Verdict) (old new : Option (List ℕ)) (result : Result Unit Fault)
    → IsAuditedAs plan logs verdict → VerdictEnds names verdict old new result → AuditEnds plan logs names old new result
verdict_ends plan logs names (Judged (Yes order answered)) old new (Ok done) is (right, adds) = (is.whole, order, answered, is.is, adds)
verdict_ends plan logs names (Judged (Missing id)) old new (Ok done) is (right, adds) = absurd (false≢true right)
verdict_ends plan logs names (Judged (Unsubmitted id)) old new (Ok done) is (right, adds) = absurd (false≢true right)
verdict_ends plan logs names (Judged (Cycle ids)) old new (Ok done) is (right, adds) = absurd (false≢true right)
verdict_ends plan logs names (Judged (Reply id logged run)) old new (Ok done) is (right, adds) = absurd (false≢true right)
verdict_ends plan logs names (Mismatch place line) old new (Ok done) is (right, adds) = absurd (false≢true right)
verdict_ends plan logs names verdict old new (Err Refuted) is (wrong, adds) = (is.whole, verdict, is.is, wrong, adds)
verdict_ends plan logs names verdict old new (Err Sink) is front = (is.whole, verdict, is.is, front)
verdict_ends plan logs names verdict old new (Err Memory) is same = same
verdict_ends plan logs names verdict old new (Err _) is h = absurd h

-- where no file is to blame, no read failed
pub still_read : (before after : Option (List (List ℕ))) (result : Result Unit Fault) → fails_by blames_file result ≡ false → after ≡ before → ReadsBut before after result
still_read before after (Ok done) none same = same
still_read before after (Err (File file)) none same = absurd (false≢true (sym none))
still_read before after (Err _) none same = same

pub still_counted : (test : Bool) (before after : ℕ) → test ≡ false → HasCause false before after → HasCause test before after
still_counted test before after none same = subst (λ b. HasCause b before after) (sym none) same

-- no verdict, and why
pub unaudited_ends : (plan : Plan) (logs : List NodeLog) (names : List (List ℕ)) (found : AuditFault) (fault : Fault) (old : Option (List ℕ)) → IsAuditFault plan logs found → fault ≡ fault_of_audit found
    → AuditEnds plan logs names old old (Err fault)
unaudited_ends plan logs names (audit_fault.Gap shard) fault old gap e = subst (λ f. AuditEnds plan logs names old old (Err f)) (sym e) (gap, refl)
unaudited_ends plan logs names audit_fault.NoMemory fault old h e = subst (λ f. AuditEnds plan logs names old old (Err f)) (sym e) refl

-- a plan and a tag behind a step that left all as it was
pub tagged_later : (later content : List ℕ → Option (List ℕ)) (name : List ℕ) (plan : Plan) (tag : List ℕ) → later name ≡ content name → HoldsTagged content name plan tag
    → HoldsTagged later name plan tag
tagged_later later content name plan tag e (h, tagged) =
    (record { bytes = h.bytes; held = subst (λ o. IfSome o (λ held. held ≡ h.bytes)) (sym e) h.held; is = h.is }, tagged)

-- ---- an audit of words

module _ (call : RunCall) (workload : List ℕ) (names : List (List ℕ)) (plan : Plan) (given : IsAudit call.words workload names) (planned : HoldsPlan call.files.content workload plan) where
  abbrev under : IsAuditUnder call plan names
  under = record { workload = workload; given = given; of_workload = planned }

  -- the logs are held
  module _ (logs : List NodeLog) (held : HoldLogs call.files.content names plan (tag_of_bytes planned.bytes) logs)
      (vouches : (order : List TxnId) (n : ℕ) → IsVerdict plan logs (Judged (Yes order n)) → IsVouched plan.program (map told_of logs) order) where
    held_end : (result : Result Unit Fault) → AuditEnds plan logs names call.out.old call.out.new result → Ends call result
    held_end (Ok done) (whole, order, answered, is, adds) =
        inr (inr (inr (inr (record {
          plan = plan;
          logs = logs;
          asked = record { names = names; asked = under; held = held; whole = whole };
          order = order;
          answered = answered;
          verdict = is;
          taken = adds;
          vouched = vouches order answered is;
        }))))
    held_end (Err Refuted) (whole, verdict, is, wrong, adds) = record {
      plan = plan;
      logs = logs;
      asked = record { names = names; asked = under; held = held; whole = whole };
      verdict = verdict;
      is = is;
      refuted = wrong;
      taken = adds;
    }
    held_end (Err Sink) (whole, verdict, is, front) = in_verdict plan logs (record { names = names; asked = under; held = held; whole = whole }) verdict is front
    held_end (Err (Gap shard)) (gap, same) = bad_logs _ (no_server names plan logs shard under held gap) same
    held_end (Err Memory) same = with_nothing same
    held_end (Err _) h = absurd h

  -- they are not
  module _ (same : TakesNothing call) (before : List (List ℕ)) (name : List ℕ) (behind : List (List ℕ)) (logs : List NodeLog) (parts : names ≡ before ++ name ∷ behind)
      (held : HoldLogs call.files.content before plan (tag_of_bytes planned.bytes) logs) where
    abbrev comes : ComesToLog call name plan logs
    comes = record {
      before = before;
      behind = behind;
      asked = record { workload = workload; given = subst (IsAudit call.words workload) parts given; of_workload = planned };
      held = held;
    }

    log_fails : (fault : Fault) → Blames call.files.failed_old call.files.failed_new fault → LogFails call.files.content name plan.program (tag_of_bytes planned.bytes) (nodes_of logs) fault
        → Fails call fault
    log_fails (Log file line what) blames (e, not) =
        bad_logs _ (subst (λ n. AreRefusedLogs call (fault_line n line (log_text what))) (sym e) (bad_log name plan logs line what comes not)) same
    log_fails (TooLong file) blames (e, more) = bad_logs _ (subst (λ n. AreRefusedLogs call (long_line n)) (sym e) (long_log name plan logs comes more)) same
    log_fails (File file) blames e = record { input = subst (IsInput call) (sym e) (the_log plan logs comes); only = blames; untouched = same }
    log_fails Memory blames h = with_nothing same
    log_fails _ blames h = absurd h

  -- either
  module _ (tag : List ℕ) (tagged : tag ≡ tag_of_bytes planned.bytes)
      (vouches : (logs : List NodeLog) (order : List TxnId) (n : ℕ) → IsVerdict plan logs (Judged (Yes order n)) → IsVouched plan.program (map told_of logs) order) where
    pub logs_end : (result : Result Unit Fault) → ReadsBut call.files.failed_old call.files.failed_new result
        → LogsEnd call.files.content names plan tag call.out.old call.out.new result → Ends call result
    logs_end result reads (inl (logs, held, ends)) =
        held_end logs (subst (λ (t : List ℕ). HoldLogs call.files.content names plan t logs) tagged held) (vouches logs) result ends
    logs_end (Ok done) reads (inr h) = absurd h
    logs_end (Err fault) reads (inr (fails, same)) =
        let own : LogsFail call.files.content names plan (tag_of_bytes planned.bytes) fault = subst (λ (t : List ℕ). LogsFail call.files.content names plan t fault) tagged fails in
        log_fails same own.before own.name own.behind own.logs own.parts own.held fault reads own.fails
