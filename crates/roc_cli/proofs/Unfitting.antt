-- Why a call is not done whose workload is none
use Rattle.std.proofs.Common.{◌≡◌, inl, inr, ℕ, List, Option, Some, Ok, refl, sym, ap, subst, ◌∙◌}
use Rattle.roc_base.specs.declared.node.Shard.{Shard}
use Rattle.roc_lang.specs.Syntax.{Tree}
use Rattle.roc_lang_parse.specs.Fault.{IsWorkloadText}
use Rattle.roc_program.specs.Program.{Workload}
use Rattle.roc_lang_resolve.specs.Resolve.{resolved}
use Rattle.roc_plan.specs.Groups.{Plan}
use Rattle.roc_report.specs.Checked.{CheckedLine}
use Rattle.roc_check.specs.Checked.{IsTextOf, IsPlanOf, IsPlanOfText}
use Rattle.roc_cli_words.specs.declared.value.Part.{Part}
use Rattle.roc_cli_words.specs.Commands.{Command, check, print, replay, stop, local, gen, audit}
use Rattle.roc_cli_words.specs.Answer.{AreWordsOf}
use Rattle.roc_cli_nodes.specs.Call.{RunCall, WholeCall}
use Rattle.roc_cli_nodes.specs.Words.{IsPrint, IsGen, program_of, workload_of, NamesProgram, NamesWorkload}
use Rattle.roc_cli_nodes.specs.NodeEnds.{NodesEnd}
use Rattle.roc_cli_nodes.specs.Nodes.{AreNodesEnded, IsChildBlamed}
use Rattle.roc_cli_files.specs.Held.{Holds, HoldsPlan, HoldsText, HoldsRejected}
use Rattle.roc_cli.specs.Done.{IsReplayUnder, ComesToNext, ComesToWorkload}
use Rattle.roc_cli.specs.Stopped.{CutsOutput, in_report, in_text, in_check, in_rejection, in_generated, in_verdict}
use Rattle.roc_cli.specs.Refused.{AreRefusedWords, by_clap, no_value, no_shard, IsRefused, long_workload, no_text, out_of_scope, long_schedule, bad_next, bad_schedule, long_cluster}
use Rattle.roc_cli.specs.Refused.{bad_cluster, long_requests, bad_requests, bad_logs}
use Rattle.roc_cli.specs.Unfit.{TellsNoPlan}
use Rattle.roc_cli.specs.Inner.Ends.{Ends}
use Rattle.roc_cli.specs.Inner.Faultless.{IsUndone, IsUnplanned, IsUnwritten}
use Rattle.roc_cli.proofs.Commands.{logs_planned, coming_planned, comes_planned, refused_next}
use Rattle.roc_cli_nodes.proofs.Naming.{same_name, no_name, as_workload, as_program}
use Rattle.roc_cli_nodes.proofs.Named.{plain_serve, grown_serve, plain_submit, grown_submit}
use Rattle.roc_cli.specs.Inner.Texts.{TextLaws}
use Rattle.roc_cli.proofs.Fitting.{told, not_long, not_faulty, in_scope, no_such_value}

-- ---- no plan of the named workload

-- the words are taken; no plan of a named workload is held; and neither is one printed, nor anything generated
record HoldsNoPlan (call : RunCall) : Type 0 where
  command : Command
  given : AreWordsOf call.words command
  planless : (name : List ℕ) (plan : Plan) → NamesProgram call.words name → HoldsPlan call.files.content name plan → ⊥
  unprinted : (name : List ℕ) (tree : Tree) → IsPrint call.words name → HoldsText call.files.content name tree → ⊥
  ungenerated : (seed shards txns : ℕ) (part : Part) → IsGen call.words seed shards txns part → ⊥

module _ (call : WholeCall) (no : HoldsNoPlan call.run) where
  planless_taken : (line : List ℕ) → AreRefusedWords call.run line → ⊥
  planless_taken _ (by_clap text not) = not no.given.taken
  planless_taken _ (no_value value none) = no_such_value call.run.words no.command value no.given none
  planless_taken _ (no_shard files names lacks) = no.planless files.workload lacks.plan (as_program call.run.words files names) lacks.of_workload

  of_nodes : (workload bytes : List ℕ) (plan : Plan) → NamesProgram call.run.words workload → Holds call.run.files.content workload bytes → IsPlanOfText bytes plan → ⊥
  of_nodes workload bytes plan named held planned = no.planless workload plan named (record { bytes = bytes; held = held; is = planned })

  planless_unrun : (end : NodesEnd) → AreNodesEnded call end → ⊥
  planless_unrun end (inl (inl (own, h, e))) = of_nodes h.workload h.bytes h.plan (plain_serve call own h, h.given, refl) h.held.of_workload h.held.planned
  planless_unrun end (inl (inr (own, e, h))) = of_nodes h.workload h.bytes h.plan (grown_serve call own h, h.given, refl) h.held.of_workload h.held.planned
  planless_unrun end (inr (inl (inl (own, h, e)))) = of_nodes h.workload h.bytes h.plan (plain_submit call own h, h.given, refl) h.held.of_workload h.held.planned
  planless_unrun end (inr (inl (inr (own, e, h)))) = of_nodes h.workload h.bytes h.plan (grown_submit call own h, h.given, refl) h.held.of_workload h.held.planned
  planless_unrun end (inr (inr (inl (own, e, h)))) = of_nodes h.workload h.bytes h.plan (stop h.workload h.cluster, h.given, refl) h.held.of_workload h.held.planned
  planless_unrun end (inr (inr (inr (own, e, h)))) = of_nodes h.workload h.bytes h.plan (local h.workload h.cluster h.listed h.turns, h.given, refl) h.held.of_workload h.held.planned

  planless_child : (shard : Shard) (status : Option ℕ) → IsChildBlamed call shard status → ⊥
  planless_child shard status h =
      let end = h.ended in
      of_nodes end.workload end.bytes end.plan (local end.workload end.cluster end.listed end.turns, end.given, refl) end.held.of_workload end.held.planned

  no_replay : (plan : Plan) (bytes : List ℕ) → IsReplayUnder call.run plan bytes → ⊥
  no_replay plan bytes under = no.planless under.workload plan (replay under.workload under.schedule under.growth, under.given, refl) under.of_workload

  planless_undone : Ends call.run (Ok tt) → ⊥
  planless_undone (inl done) = no_replay done.plan done.bytes done.asked.under
  planless_undone (inr (inl done)) = no.unprinted done.workload done.tree done.given done.held
  planless_undone (inr (inr (inl done))) = no.planless done.workload done.plan (check done.workload, done.given, refl) done.held
  planless_undone (inr (inr (inr (inl done)))) = no.ungenerated done.seed done.shards done.txns done.part done.given
  planless_undone (inr (inr (inr (inr done)))) = no.planless _ done.plan (audit _ _, done.asked.asked.given, refl) done.asked.asked.of_workload

  without_plan : IsUndone call
  without_plan = record {
    taken = planless_taken;
    unrun = planless_unrun;
    no_child = planless_child;
    undone = planless_undone;
    unrefuted = λ h. no.planless _ h.plan (audit _ _, h.asked.asked.given, refl) h.asked.asked.of_workload;
  }

  -- nothing is to come next behind it
  nothing_comes : (name : List ℕ) (plan : Plan) → ComesToNext call.run name plan → ⊥
  nothing_comes name plan comes = let first = coming_planned call.run name plan comes in no.planless first.0 plan first.1 first.2

  only_first : (name : List ℕ) → ComesToWorkload call.run name → NamesProgram call.run.words name
  only_first name (inl names) = names
  only_first name (inr (plan, comes)) = absurd (nothing_comes name plan comes)

  -- where nothing is rejected either, nothing was due to be written
  without_text : ((name : List ℕ) (program : Workload) (said : CheckedLine) → NamesProgram call.run.words name → HoldsRejected call.run.files.content name program said → ⊥) → IsUnwritten call
  without_text unrejected = record { is = without_plan; acceptable = λ h. unrejected h.workload h.program h.said (only_first h.workload h.named) h.held; uncut = uncut }
    where
      uncut : CutsOutput call.run → ⊥
      uncut (in_report plan next bytes asked h) = no_replay plan bytes asked.under
      uncut (in_text workload tree given held front) = no.unprinted workload tree given held
      uncut (in_check workload plan given held front) = no.planless workload plan (check workload, given, refl) held
      uncut (in_rejection workload program said comes held front) = unrejected workload program said (only_first workload comes) held
      uncut (in_generated seed shards txns part text given generated front) = no.ungenerated seed shards txns part given
      uncut (in_verdict plan logs asked verdict is front) = no.planless _ plan (audit _ _, asked.asked.given, refl) asked.asked.of_workload

-- ---- a workload that is not acceptable

-- a file that has no plan gives none
pub unplanned_held : (laws : TextLaws) (content : List ℕ → Option (List ℕ)) (name other : List ℕ) (plan : Plan) → TellsNoPlan content name → other ≡ name → HoldsPlan content other plan → ⊥
unplanned_held laws content name other plan lacks same h =
    let planned : IsPlanOfText lacks.bytes plan = subst (λ b. IsPlanOfText b plan) (sym (told content name other lacks.bytes h.bytes lacks.held same h.held)) h.is in
    let e : plan.program ≡ lacks.program =
    planned.text.is ∙ ap resolved (laws.one_tree lacks.bytes planned.text.tree lacks.text.tree planned.text.text lacks.text.text) ∙ sym lacks.text.is in
    lacks.planless plan (subst (λ p. IsPlanOf p plan) e planned.has)

module _ (laws : TextLaws) (call : WholeCall) (first : List ℕ) (named : NamesProgram call.run.words first) (lacks : TellsNoPlan call.run.files.content first) where
  that_program : (name : List ℕ) → NamesProgram call.run.words name → name ≡ first
  that_program name names = same_name program_of call.run.words name first names named

  that_workload : (name : List ℕ) → NamesWorkload call.run.words name → name ≡ first
  that_workload name names = same_name workload_of call.run.words name first names (as_workload call.run.words first named)

  no_plan_held : (name : List ℕ) (plan : Plan) → NamesProgram call.run.words name → HoldsPlan call.run.files.content name plan → ⊥
  no_plan_held name plan names h = unplanned_held laws call.run.files.content first name plan lacks (that_program name names) h

  no_plan : HoldsNoPlan call.run
  no_plan = record {
    command = named.0;
    given = named.1;
    planless = no_plan_held;
    unprinted = λ name tree is held. no_name program_of call.run.words (print name) is refl first named;
    ungenerated = λ seed shards txns part is. no_name program_of call.run.words (gen seed shards txns part) is refl first named;
  }

  unrefused : (line : List ℕ) → IsRefused call.run line → ⊥
  unrefused _ (long_workload workload names more same) = not_long laws call.run.files.content first lacks.bytes lacks.held lacks.text.tree lacks.text.text workload (that_workload workload names) more
  unrefused _ (no_text workload line what names held same) =
      not_faulty laws call.run.files.content first lacks.bytes lacks.held lacks.text.tree lacks.text.text workload line what (that_workload workload names) held
  unrefused _ (out_of_scope workload fault names held same) = in_scope laws call.run.files.content first lacks.bytes lacks.held lacks.program lacks.text workload fault (that_program workload names) held
  unrefused _ (long_schedule workload schedule growth plan given planned more same) = no_plan_held workload plan (replay workload schedule growth, given, refl) planned
  unrefused _ (bad_next line refused same) = let first = comes_planned call.run (refused_next call.run line refused) in no_plan_held first.0 first.1 first.2 first.3
  unrefused _ (bad_schedule plan next bytes asked number what h) = no_replay call no_plan plan bytes asked.under
  unrefused _ (long_cluster files plan names planned more same) = no_plan_held files.workload plan (as_program call.run.words files names) planned
  unrefused _ (bad_cluster files plan fault names planned held same) = no_plan_held files.workload plan (as_program call.run.words files names) planned
  unrefused _ (long_requests files plan addrs name names planned held is more same) = no_plan_held files.workload plan (as_program call.run.words files names) planned
  unrefused _ (bad_requests files plan addrs name number what names planned held is not same) = no_plan_held files.workload plan (as_program call.run.words files names) planned
  unrefused _ (bad_logs line refused same) = let of = logs_planned call.run line refused in no_plan_held of.0 of.1 of.2 of.3

  pub first_unplanned : IsUnplanned call
  first_unplanned = record { is = without_plan call no_plan; right = unrefused }

-- ---- bytes that are no workload

module _ (call : WholeCall) (workload bytes : List ℕ) (held : call.run.files.content workload ≡ Some bytes) where
  -- no text
  module _ (named : NamesWorkload call.run.words workload) (none : (tree : Tree) → IsWorkloadText bytes tree → ⊥) where
    textless : (name other : List ℕ) (tree : Tree) → NamesWorkload call.run.words name → Holds call.run.files.content name other → IsWorkloadText other tree → ⊥
    textless name other tree names h is =
        let same = same_name workload_of call.run.words name workload names named in
        none tree (subst (λ b. IsWorkloadText b tree) (sym (told call.run.files.content workload name bytes other held same h)) is)

    pub without_words : IsUnwritten call
    without_words =
        without_text call
        (record {
          command = named.0;
          given = named.1;
          planless = λ name plan names h. textless name h.bytes h.is.text.tree (as_workload call.run.words name names) h.held h.is.text.text;
          unprinted = λ name tree is h. textless name h.bytes tree (print name, is, refl) h.held h.is;
          ungenerated = λ seed shards txns part is. no_name workload_of call.run.words (gen seed shards txns part) is refl workload named;
        })
        (λ name program said names h. textless name h.bytes h.is.text.tree (as_workload call.run.words name names) h.held h.is.text.text)

  -- none in scope
  module _ (named : NamesProgram call.run.words workload) (none : (program : Workload) → IsTextOf bytes program → ⊥) where
    programless : (name other : List ℕ) (program : Workload) → NamesProgram call.run.words name → Holds call.run.files.content name other → IsTextOf other program → ⊥
    programless name other program names h is =
        let same = same_name program_of call.run.words name workload names named in
        none program (subst (λ b. IsTextOf b program) (sym (told call.run.files.content workload name bytes other held same h)) is)

    pub without_scope : IsUnwritten call
    without_scope =
        without_text call
        (record {
          command = named.0;
          given = named.1;
          planless = λ name plan names h. programless name h.bytes plan.program names h.held h.is.text;
          unprinted = λ name tree is h. no_name program_of call.run.words (print name) is refl workload named;
          ungenerated = λ seed shards txns part is. no_name program_of call.run.words (gen seed shards txns part) is refl workload named;
        })
        (λ name program said names h. programless name h.bytes program names h.held h.is.text)
