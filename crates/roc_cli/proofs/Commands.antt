-- Of which words each end is
use Rattle.std.proofs.Common.{◌≡◌, ◌⊎◌, inl, inr, ℕ, ◌==◌, false, List, Option, None, refl, ap}
use Rattle.std.specs.Prelude.{option_map}
use Rattle.roc_cli_words.specs.Commands.{Command, check, print, replay, gen, audit}
use Rattle.roc_cli_nodes.specs.Call.{RunCall}
use Rattle.roc_cli_nodes.specs.Words.{AreAuditWords, AreCommandWords, NamesProgram, NamesNext, NamesNodes, node_files, next_of}
use Rattle.roc_cli.specs.Stopped.{IsInput, the_workload, the_schedule, the_next, the_later, the_cluster, the_requests, the_log, CutsOutput, in_report, in_text, in_check, in_rejection}
use Rattle.roc_cli.specs.Stopped.{in_generated, in_verdict}
use Rattle.roc_cli.specs.Done.{ComesToNext, in_replay, in_nodes, ComesToLater, ComesToWorkload}
use Rattle.roc_cli.specs.Refused.{IsRefusedNext, long_next, no_next_text, next_out_of_scope, no_growth, same_tag, long_later, bad_later}
use Rattle.roc_cli.specs.Refused.{AreRefusedLogs, long_log, bad_log, no_server, IsRefused, long_workload, no_text, out_of_scope, long_schedule, bad_next, bad_schedule, long_cluster}
use Rattle.roc_cli.specs.Refused.{bad_cluster, long_requests, bad_requests, bad_logs}
use Rattle.roc_cli.specs.Audited.{Audits, Refutes}
use Rattle.roc_cli.specs.Fit.{IsFit}
use Rattle.roc_cli_words.specs.Answer.{AreWordsOf}
use Rattle.roc_plan.specs.Groups.{Plan}
use Rattle.roc_epoch.specs.declared.next.Next.{Next}
use Rattle.roc_cli_files.specs.Held.{HoldsPlan}
use Rattle.roc_cli_nodes.proofs.Naming.{kind, unlike, no_name, as_next, as_program}

-- words of an audit are those of no other command
pub not_audit : (A : Type 0) (words : List (List ℕ)) (c : Command) → AreWordsOf words c → (kind c == 8) ≡ false → AreAuditWords words → A
not_audit A words c is differ (workload, logs, given) = unlike A words c (audit workload logs) is given differ

pub audit_words : (words : List (List ℕ)) → AreAuditWords words → AreCommandWords words
audit_words words (workload, logs, given) = (audit workload logs, given)

-- ..and ask for no nodes
pub audit_alone : (words : List (List ℕ)) → AreAuditWords words → NamesNodes words → ⊥
audit_alone words (workload, logs, given) (files, names) = no_name node_files words (audit workload logs) given refl files names

module _ (call : RunCall) where
  -- each end of an audit is of words of an audit
  pub refused_logs : (line : List ℕ) → AreRefusedLogs call line → AreAuditWords call.words
  refused_logs _ (long_log name plan logs comes more) = (comes.asked.workload, _, comes.asked.given)
  refused_logs _ (bad_log name plan logs number what comes not) = (comes.asked.workload, _, comes.asked.given)
  refused_logs _ (no_server names plan logs shard asked held gap) = (asked.workload, _, asked.given)

  -- and of a workload with a plan
  pub logs_planned : (line : List ℕ) → AreRefusedLogs call line → (workload : List ℕ) × (plan : Plan) × NamesProgram call.words workload × HoldsPlan call.files.content workload plan
  logs_planned _ (long_log name plan logs comes more) = (comes.asked.workload, plan, (audit _ _, comes.asked.given, refl), comes.asked.of_workload)
  logs_planned _ (bad_log name plan logs number what comes not) = (comes.asked.workload, plan, (audit _ _, comes.asked.given, refl), comes.asked.of_workload)
  logs_planned _ (no_server names plan logs shard asked held gap) = (asked.workload, plan, (audit _ _, asked.given, refl), asked.of_workload)

  pub refuted_words : Refutes call → AreAuditWords call.words
  refuted_words h = (h.asked.asked.workload, _, h.asked.asked.given)

  pub audited_words : Audits call → AreAuditWords call.words
  audited_words h = (h.asked.asked.workload, _, h.asked.asked.given)

  -- what grows is of words that name it
  pub coming_named : (name : List ℕ) (plan : Plan) → ComesToNext call name plan → NamesNext call.words name
  coming_named name plan (in_replay bytes coords under is) = (replay under.workload under.schedule under.growth, under.given, ap (λ (g : Option (List ℕ × ℕ)). option_map (λ p. p.0) g) is)
  coming_named name plan (in_nodes files tag addrs requests coords named held is) = as_next call.words files name coords named is

  pub coming_words : (name : List ℕ) (plan : Plan) → ComesToNext call name plan → AreCommandWords call.words
  coming_words name plan comes = let named = coming_named name plan comes in (named.0, named.1)

  -- what is refused of it, or behind it
  abbrev pub Comes : Type 0
  Comes = ((name : List ℕ) × (plan : Plan) × ComesToNext call name plan) ⊎ ((name : List ℕ) × (plan : Plan) × (next : Option Next) × ComesToLater call name plan next)

  pub refused_next : (line : List ℕ) → IsRefusedNext call line → Comes
  refused_next _ (long_next name plan comes more) = inl (name, plan, comes)
  refused_next _ (no_next_text name plan line what comes not) = inl (name, plan, comes)
  refused_next _ (next_out_of_scope name plan fault comes not) = inl (name, plan, comes)
  refused_next _ (no_growth name plan fault comes not) = inl (name, plan, comes)
  refused_next _ (same_tag files plan tag addrs requests name coords next named held is follows same) = inl (name, plan, in_nodes files tag addrs requests coords named held is)
  refused_next _ (long_later name plan next comes more) = inr (name, plan, next, comes)
  refused_next _ (bad_later name plan next number what comes not) = inr (name, plan, next, comes)

  pub comes_words : Comes → AreCommandWords call.words
  comes_words (inl (name, plan, comes)) = coming_words name plan comes
  comes_words (inr (name, plan, next, comes)) = (comes.named.0, comes.named.1)

  -- ..and of a workload with a plan
  pub coming_planned : (name : List ℕ) (plan : Plan) → ComesToNext call name plan → (workload : List ℕ) × NamesProgram call.words workload × HoldsPlan call.files.content workload plan
  coming_planned name plan (in_replay bytes coords under is) = (under.workload, (replay under.workload under.schedule under.growth, under.given, refl), under.of_workload)
  coming_planned name plan (in_nodes files tag addrs requests coords named held is) = (files.workload, as_program call.words files named, held.of_workload.0)

  pub comes_planned : Comes → (workload : List ℕ) × (plan : Plan) × NamesProgram call.words workload × HoldsPlan call.files.content workload plan
  comes_planned (inl (name, plan, comes)) = let first = coming_planned name plan comes in (first.0, plan, first.1, first.2)
  comes_planned (inr (name, plan, next, comes)) = (comes.files.workload, plan, as_program call.words comes.files comes.named, comes.held.of_workload.0)

  -- where they name none, a workload that is judged is the first
  pub judged_alone : (c : Command) → AreWordsOf call.words c → next_of c ≡ None → (name : List ℕ) → ComesToWorkload call name → NamesProgram call.words name
  judged_alone c is none name (inl names) = names
  judged_alone c is none name (inr (plan, comes)) = absurd (no_name next_of call.words c is none name (coming_named name plan comes))

  -- ..and none is refused that is to come next
  pub not_next : (A : Type 0) (c : Command) → AreWordsOf call.words c → next_of c ≡ None → node_files c ≡ None → (line : List ℕ) → IsRefusedNext call line → A
  not_next A c is none alone line refused = go (refused_next line refused)
    where
      go : Comes → A
      go (inl (name, plan, comes)) = absurd (no_name next_of call.words c is none name (coming_named name plan comes))
      go (inr (name, plan, next, comes)) = absurd (no_name node_files call.words c is alone comes.files comes.named)

  pub judged_words : (workload : List ℕ) → ComesToWorkload call workload → AreCommandWords call.words
  judged_words workload (inl names) = (names.0, names.1)
  judged_words workload (inr (plan, comes)) = coming_words workload plan comes

  pub refused_words : (line : List ℕ) → IsRefused call line → AreCommandWords call.words
  refused_words _ (long_workload workload names more same) = (names.0, names.1)
  refused_words _ (no_text workload line what names held same) = (names.0, names.1)
  refused_words _ (out_of_scope workload fault names held same) = (names.0, names.1)
  refused_words _ (long_schedule workload schedule growth plan given planned more same) = (replay workload schedule growth, given)
  refused_words _ (bad_next line refused same) = comes_words (refused_next line refused)
  refused_words _ (bad_schedule plan next bytes asked number what h) = (replay asked.under.workload asked.under.schedule asked.under.growth, asked.under.given)
  refused_words _ (long_cluster files plan names planned more same) = (names.0, names.1)
  refused_words _ (bad_cluster files plan fault names planned held same) = (names.0, names.1)
  refused_words _ (long_requests files plan addrs name names planned held is more same) = (names.0, names.1)
  refused_words _ (bad_requests files plan addrs name number what names planned held is not same) = (names.0, names.1)
  refused_words _ (bad_logs line refused same) = audit_words call.words (refused_logs line refused)

  pub input_words : (name : List ℕ) → IsInput call name → AreCommandWords call.words
  input_words name (the_workload names) = (names.0, names.1)
  input_words name (the_schedule workload growth plan given planned) = (replay workload name growth, given)
  input_words name (the_next plan comes) = coming_words name plan comes
  input_words name (the_later plan next comes) = (comes.named.0, comes.named.1)
  input_words name (the_cluster files plan names planned is) = (names.0, names.1)
  input_words name (the_requests files plan addrs names planned held is) = (names.0, names.1)
  input_words name (the_log plan logs comes) = (audit _ _, comes.asked.given)

  pub cut_words : CutsOutput call → AreCommandWords call.words
  cut_words (in_report plan next bytes asked h) = (replay asked.under.workload asked.under.schedule asked.under.growth, asked.under.given)
  cut_words (in_text workload tree given held front) = (print workload, given)
  cut_words (in_check workload plan given held front) = (check workload, given)
  cut_words (in_rejection workload program said comes held front) = judged_words workload comes
  cut_words (in_generated seed shards txns part text given generated front) = (gen seed shards txns part, given)
  cut_words (in_verdict plan logs asked verdict is front) = (audit _ _, asked.asked.given)

  -- words for one or two files ask for no nodes
  pub fit_names_no_nodes : IsFit call → NamesNodes call.words → ⊥
  fit_names_no_nodes (inl fit) (files, names) = no_name node_files call.words (replay fit.asked.workload fit.asked.schedule fit.asked.growth) fit.asked.given refl files names
  fit_names_no_nodes (inr (inl fit)) (files, names) = no_name node_files call.words (print fit.workload) fit.given refl files names
  fit_names_no_nodes (inr (inr (inl fit))) (files, names) = no_name node_files call.words (check fit.workload) fit.given refl files names
  fit_names_no_nodes (inr (inr (inr (seed, shards, txns, part, given)))) (files, names) = no_name node_files call.words (gen seed shards txns part) given refl files names

  -- ..and for no audit
  pub fit_names_no_logs : IsFit call → AreAuditWords call.words → ⊥
  fit_names_no_logs (inl fit) are = not_audit ⊥ call.words (replay fit.asked.workload fit.asked.schedule fit.asked.growth) fit.asked.given refl are
  fit_names_no_logs (inr (inl fit)) are = not_audit ⊥ call.words (print fit.workload) fit.given refl are
  fit_names_no_logs (inr (inr (inl fit))) are = not_audit ⊥ call.words (check fit.workload) fit.given refl are
  fit_names_no_logs (inr (inr (inr (seed, shards, txns, part, given)))) are = not_audit ⊥ call.words (gen seed shards txns part) given refl are
