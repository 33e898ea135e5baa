-- Why nothing is wrong with an audit whose words and files fit
use Rattle.std.proofs.Common.{◌≡◌, ℕ, List, [], ◌∷◌, ◌++◌, Option, refl, sym, ap, ap₂, subst, ◌∙◌, arith}
use Rattle.std.proofs.lemmas.Bool.{false≢true}
use Rattle.std.proofs.lemmas.List.{append-nil, append_assoc}
use Rattle.roc_base.specs.declared.node.Node.{Node}
use Rattle.roc_base.specs.declared.node.Shard.{Shard}
use Rattle.roc_program.specs.Program.{Workload}
use Rattle.roc_plan.specs.Groups.{Plan}
use Rattle.roc_report.specs.Checked.{CheckedLine}
use Rattle.roc_log.specs.declared.fault.What.{What}
use Rattle.roc_log.specs.declared.line.Log.{Log}
use Rattle.roc_log.specs.Logs.{IsLog, IsLogFault}
use Rattle.roc_auditor.specs.Verdict.{nodes_of, IsGap, HaveNoGap}
use Rattle.roc_cli_files.specs.Held.{HoldsMore, HoldsRejected, HoldsNoLog, HoldLogs, HoldLogsBehind, HoldsLog, most_log_bytes}
use Rattle.roc_cli_files.specs.NodeNames.{tag_of_bytes}
use Rattle.roc_cli_words.specs.Commands.{Command, replay, audit}
use Rattle.roc_cli_nodes.specs.Call.{RunCall}
use Rattle.roc_cli_nodes.specs.Words.{workload_of, NamesNodes, NamesProgram, NamesWorkload}
use Rattle.roc_cli.specs.Audited.{ComesToLog, IsAuditUnder, tag_under}
use Rattle.roc_cli.specs.Done.{ComesToWorkload, Rejects}
use Rattle.roc_cli.specs.Refused.{AreRefusedWords, AreRefusedLogs, long_log, bad_log, no_server, IsRefused, long_workload, no_text, out_of_scope, long_schedule, bad_next, bad_schedule}
use Rattle.roc_cli.specs.Refused.{long_cluster, bad_cluster, long_requests, bad_requests, bad_logs}
use Rattle.roc_cli.specs.Fit.{TellsLog, TellLogs, AuditAsked, AuditFits}
use Rattle.roc_cli.specs.Inner.Faultless.{IsAuditable}
use Rattle.roc_cli.specs.Inner.Texts.{TextLaws}
use Rattle.roc_cli_nodes.proofs.Naming.{one_command, same_name, as_workload}
use Rattle.roc_cli.proofs.Commands.{not_audit, audit_alone, not_next, judged_alone}
use Rattle.roc_cli.proofs.Fitting.{told, told_more, not_long, not_faulty, in_scope, same_plan, not_rejected, words_taken}

-- ---- logs that are told

module _ (laws : TextLaws) (content : List ℕ → Option (List ℕ)) (program : Workload) (tag : List ℕ) where
  pub same_log : (name : List ℕ) (seen : List Node) (log other : Log) → TellsLog content name program tag seen log → HoldsLog content name program tag seen other → other ≡ log
  same_log name seen log other h held =
      laws.one_log program tag seen h.text other log (subst (λ b. IsLog program tag seen b other) (sym (told content name name h.text held.bytes h.told refl held.held)) held.is) h.is

  -- they are those that are held
  pub same_logs : (seen : List Node) (names : List (List ℕ)) (logs others : List Log) → TellLogs content program tag seen names logs → HoldLogsBehind content program tag seen names others
      → others ≡ logs
  same_logs seen [] [] [] h held = refl
  same_logs seen [] [] (other ∷ others) h held = absurd held
  same_logs seen [] (log ∷ logs) others h held = absurd h
  same_logs seen (name ∷ names) [] others h held = absurd h
  same_logs seen (name ∷ names) (log ∷ logs) [] h held = absurd held
  same_logs seen (name ∷ names) (log ∷ logs) (other ∷ others) h held =
      let e : other ≡ log = same_log name seen log other h.0 held.0 in
      let rest = subst (λ (l : Log). HoldLogsBehind content program tag (seen ++ l.node ∷ []) names others) e held.1 in
      ap₂ (λ (l : Log) (ls : List Log). l ∷ ls) e (same_logs (seen ++ log.node ∷ []) names logs others h.1 rest)

  -- the file behind such logs is told too, where all are
  pub told_behind : (seen : List Node) (before : List (List ℕ)) (name : List ℕ) (behind : List (List ℕ)) (logs held : List Log) → TellLogs content program tag seen (before ++ name ∷ behind) logs
      → HoldLogsBehind content program tag seen before held → (log : Log) × TellsLog content name program tag (seen ++ nodes_of held) log
  told_behind seen [] name behind [] held h is = absurd h
  told_behind seen [] name behind (log ∷ logs) [] h is = (log, subst (λ s. TellsLog content name program tag s log) (sym (append-nil seen)) h.0)
  told_behind seen [] name behind (log ∷ logs) (l ∷ ls) h is = absurd is
  told_behind seen (other ∷ before) name behind [] held h is = absurd h
  told_behind seen (other ∷ before) name behind (log ∷ logs) [] h is = absurd is
  told_behind seen (other ∷ before) name behind (log ∷ logs) (l ∷ ls) h is =
      let e : l ≡ log = same_log other seen log l h.0 is.0 in
      let later = subst (λ (n : Log). TellLogs content program tag (seen ++ n.node ∷ []) (before ++ name ∷ behind) logs) (sym e) h.1 in
      let found = told_behind (seen ++ l.node ∷ []) before name behind logs ls later is.1 in
      (found.0, subst (λ s. TellsLog content name program tag s found.0) (append_assoc seen (l.node ∷ []) (nodes_of ls)) found.1)

  -- a log that is told is not too long, and has no fault
  module _ (name : List ℕ) (seen : List Node) (log : Log) (tells : TellsLog content name program tag seen log) where
    pub not_long_log : HoldsMore content name most_log_bytes → ⊥
    not_long_log more = let past = told_more content name name tells.text most_log_bytes tells.told refl more in let few = tells.few in absurd (omega arith)

    pub not_bad_log : (line : ℕ) (what : What) → HoldsNoLog content name program tag seen line what → ⊥
    not_bad_log line what h =
        laws.no_log_fault program tag seen tells.text log line what tells.is
        (subst (λ b. IsLogFault program tag seen b line what) (sym (told content name name tells.text h.bytes tells.told refl h.held)) h.fault)

-- a shard whose server has a log is no gap
pub no_gap : (plan : Plan) (logs : List Log) (shard : Shard) → HaveNoGap plan logs → IsGap plan logs shard → ⊥
no_gap plan logs shard whole gap = false≢true (sym gap.none ∙ whole shard.0 gap.there)

-- ---- words of an audit

-- the names of logs
names_in : Command → List (List ℕ)
names_in (audit workload logs) = logs
names_in _ = []

module _ (laws : TextLaws) (call : RunCall) (names : List (List ℕ)) (fit : AuditAsked call names) where
  audited_workload : (name : List ℕ) → NamesWorkload call.words name → name ≡ fit.workload
  audited_workload name named = same_name workload_of call.words name fit.workload named (audit fit.workload names, fit.given, refl)

  audited_program : (name : List ℕ) → NamesProgram call.words name → name ≡ fit.workload
  audited_program name named = audited_workload name (as_workload call.words name named)

  pub alone : NamesNodes call.words → ⊥
  alone named = audit_alone call.words (fit.workload, names, fit.given) named

  -- an audit of these words is of these names, under this plan and with this tag
  module _ (plan : Plan) (others : List (List ℕ)) (asked : IsAuditUnder call plan others) where
    pub same_names : others ≡ names
    unfolding names_in
    same_names = ap names_in (one_command call.words (audit asked.workload others) (audit fit.workload names) asked.given fit.given)

    of_this : asked.workload ≡ fit.workload
    of_this = audited_workload asked.workload (audit asked.workload others, asked.given, refl)

    pub same_plan_asked : plan ≡ fit.plan
    same_plan_asked = same_plan laws call.files.content fit.workload fit.bytes fit.held fit.plan fit.planned asked.workload plan of_this asked.of_workload

    pub same_tag : tag_under asked ≡ tag_of_bytes fit.bytes
    same_tag = ap tag_of_bytes (sym (told call.files.content fit.workload asked.workload fit.bytes asked.of_workload.bytes fit.held of_this asked.of_workload.held))

    -- what it holds under these
    pub held_asked : (some : List (List ℕ)) (logs : List Log) → HoldLogs call.files.content some plan (tag_under asked) logs
        → HoldLogs call.files.content some fit.plan (tag_of_bytes fit.bytes) logs
    held_asked some logs held =
        subst (λ (t : List ℕ). HoldLogs call.files.content some fit.plan t logs) same_tag
        (subst (λ (p : Plan). HoldLogs call.files.content some p (tag_under asked) logs) same_plan_asked held)

  pub asked_taken : (line : List ℕ) → AreRefusedWords call line → ⊥
  asked_taken = words_taken call (audit fit.workload names) fit.given (λ files named. alone (files, named))

  pub asked_unrejected : (workload : List ℕ) (program : Workload) (said : CheckedLine) → ComesToWorkload call workload → HoldsRejected call.files.content workload program said → ⊥
  asked_unrejected workload program said comes held =
      not_rejected laws call.files.content fit.workload fit.bytes fit.held fit.plan fit.planned workload program said
      (audited_program workload (judged_alone call (audit fit.workload names) fit.given refl workload comes)) held

  pub asked_acceptable : Rejects call → ⊥
  asked_acceptable h = asked_unrejected h.workload h.program h.said h.named h.held

  -- no file but a log is refused
  pub asked_right : (line : List ℕ) → (AreRefusedLogs call line → ⊥) → IsRefused call line → ⊥
  asked_right _ none (long_workload workload named more same) =
      not_long laws call.files.content fit.workload fit.bytes fit.held fit.planned.text.tree fit.planned.text.text workload (audited_workload workload named) more
  asked_right _ none (no_text workload line what named held same) =
      not_faulty laws call.files.content fit.workload fit.bytes fit.held fit.planned.text.tree fit.planned.text.text workload line what (audited_workload workload named) held
  asked_right _ none (out_of_scope workload fault named held same) =
      in_scope laws call.files.content fit.workload fit.bytes fit.held fit.plan.program fit.planned.text workload fault (audited_program workload named) held
  asked_right _ none (long_schedule workload schedule growth plan given planned more same) = not_audit ⊥ call.words (replay workload schedule growth) given refl (fit.workload, names, fit.given)
  asked_right _ none (bad_next line refused same) = not_next call ⊥ (audit fit.workload names) fit.given refl refl line refused
  asked_right _ none (bad_schedule plan next bytes asked number what h) =
      not_audit ⊥ call.words (replay asked.under.workload asked.under.schedule asked.under.growth) asked.under.given refl (fit.workload, names, fit.given)
  asked_right _ none (long_cluster files plan named planned more same) = alone (files, named)
  asked_right _ none (bad_cluster files plan fault named planned held same) = alone (files, named)
  asked_right _ none (long_requests files plan addrs name named planned held is more same) = alone (files, named)
  asked_right _ none (bad_requests files plan addrs name number what named planned held is not same) = alone (files, named)
  asked_right _ none (bad_logs line refused same) = none refused

-- ---- an audit that fits

module _ (laws : TextLaws) (call : RunCall) (fit : AuditFits call) where
  abbrev content : List ℕ → Option (List ℕ)
  content = call.files.content

  -- the logs of an audit of these words are those that are told
  pub same_held : (plan : Plan) (names : List (List ℕ)) (logs : List Log) (asked : IsAuditUnder call plan names) → HoldLogs content names plan (tag_under asked) logs → logs ≡ fit.logs
  same_held plan names logs asked held =
      same_logs laws content fit.asked.plan.program (tag_of_bytes fit.asked.bytes) [] fit.names fit.logs logs fit.told
      (subst (λ (ns : List (List ℕ)). HoldLogs content ns fit.asked.plan (tag_of_bytes fit.asked.bytes) logs) (same_names laws call fit.names fit.asked plan names asked)
      (held_asked laws call fit.names fit.asked plan names asked names logs held))

  -- a log to which it comes is told
  comes_told : (name : List ℕ) (plan : Plan) (logs : List Log) (comes : ComesToLog call name plan logs)
      → (log : Log) × TellsLog content name fit.asked.plan.program (tag_of_bytes fit.asked.bytes) (nodes_of logs) log
  comes_told name plan logs comes =
      let asked = comes.asked in
      told_behind laws content fit.asked.plan.program (tag_of_bytes fit.asked.bytes) [] comes.before name comes.behind fit.logs logs
      (subst (λ (ns : List (List ℕ)). TellLogs content fit.asked.plan.program (tag_of_bytes fit.asked.bytes) [] ns fit.logs) (sym (same_names laws call fit.names fit.asked plan _ asked)) fit.told)
      (held_asked laws call fit.names fit.asked plan _ asked comes.before logs comes.held)

  logs_right : (line : List ℕ) → AreRefusedLogs call line → ⊥
  logs_right _ (long_log name plan logs comes more) =
      let found = comes_told name plan logs comes in
      not_long_log laws content fit.asked.plan.program (tag_of_bytes fit.asked.bytes) name (nodes_of logs) found.0 found.1 more
  logs_right _ (bad_log name plan logs number what comes not) =
      let found = comes_told name plan logs comes in
      let asked = comes.asked in
      not_bad_log laws content fit.asked.plan.program (tag_of_bytes fit.asked.bytes) name (nodes_of logs) found.0 found.1 number what
      (subst (λ (t : List ℕ). HoldsNoLog content name fit.asked.plan.program t (nodes_of logs) number what) (same_tag laws call fit.names fit.asked plan _ asked)
      (subst (λ (p : Plan). HoldsNoLog content name p.program (tag_under asked) (nodes_of logs) number what) (same_plan_asked laws call fit.names fit.asked plan _ asked) not))
  logs_right _ (no_server names plan logs shard asked held gap) =
      no_gap fit.asked.plan fit.logs shard fit.whole
      (subst (λ (ls : List Log). IsGap fit.asked.plan ls shard) (same_held plan names logs asked held)
      (subst (λ (p : Plan). IsGap p logs shard) (same_plan_asked laws call fit.names fit.asked plan names asked) gap))

  pub auditable : IsAuditable call
  auditable = record {
    is = record {
      taken = asked_taken laws call fit.names fit.asked;
      acceptable = asked_acceptable laws call fit.names fit.asked;
      right = λ line. asked_right laws call fit.names fit.asked line (logs_right line);
    };
    alone = alone laws call fit.names fit.asked;
  }
