-- Where files of a command with nodes are named, nothing is done unless nodes run
use Rattle.std.proofs.Common.{inl, inr, ℕ, List, Option, Ok, refl}
use Rattle.roc_base.specs.declared.node.Shard.{Shard}
use Rattle.roc_program.specs.Program.{Workload}
use Rattle.roc_report.specs.Checked.{CheckedLine}
use Rattle.roc_cli_words.specs.Commands.{check, print, replay, gen}
use Rattle.roc_cli_files.specs.Held.{NodeFiles, HoldsRejected}
use Rattle.roc_cli_files.specs.NodeNames.{LacksShard}
use Rattle.roc_cli_nodes.specs.Call.{WholeCall}
use Rattle.roc_cli_nodes.specs.NodeEnds.{NodesEnd}
use Rattle.roc_cli_nodes.specs.Nodes.{AreNodesEnded, IsChildBlamed}
use Rattle.roc_cli_nodes.specs.Words.{IsReplay, node_files, NamesNodeFiles}
use Rattle.roc_cli_nodes.proofs.Naming.{no_name}
use Rattle.roc_cli.specs.Done.{ComesToWorkload}
use Rattle.roc_cli.specs.Stopped.{CutsOutput, in_report, in_text, in_check, in_rejection, in_generated, in_verdict}
use Rattle.roc_cli.specs.Refused.{AreRefusedWords, by_clap, no_value, no_shard}
use Rattle.roc_cli.specs.Inner.Ends.{Ends}
use Rattle.roc_cli.specs.Inner.Faultless.{IsUnwritten}
use Rattle.roc_cli.specs.Inner.Texts.{TextLaws}
use Rattle.roc_cli.proofs.Commands.{audit_alone, audited_words, refuted_words}
use Rattle.roc_cli.proofs.Fitting.{no_such_value}

-- files of a command with nodes are named
module _ (laws : TextLaws) (call : WholeCall) (files : NodeFiles) (given : NamesNodeFiles call.run.words files) where
  pub no_replay : (workload schedule : List ℕ) (growth : Option (List ℕ × ℕ)) → IsReplay call.run.words workload schedule growth → ⊥
  no_replay workload schedule growth is = no_name node_files call.run.words (replay workload schedule growth) is refl files given

  -- and no node runs, none is lacking, and no workload is rejected
  module _ (unrun : (end : NodesEnd) → AreNodesEnded call end → ⊥) (unspawned : (shard : Shard) (status : Option ℕ) → IsChildBlamed call shard status → ⊥)
      (there : (other : NodeFiles) → NamesNodeFiles call.run.words other → LacksShard call.run.files.content other → ⊥)
      (unrejected : (workload : List ℕ) (program : Workload) (said : CheckedLine) → ComesToWorkload call.run workload → HoldsRejected call.run.files.content workload program said → ⊥) where
    taken : (line : List ℕ) → AreRefusedWords call.run line → ⊥
    taken _ (by_clap text not) = not given.1.taken
    taken _ (no_value value bad) = no_such_value call.run.words given.0 value given.1 bad
    taken _ (no_shard other names lacks) = there other names lacks

    undone : Ends call.run (Ok tt) → ⊥
    undone (inl done) = no_replay done.asked.under.workload done.asked.under.schedule done.asked.under.growth done.asked.under.given
    undone (inr (inl done)) = no_name node_files call.run.words (print done.workload) done.given refl files given
    undone (inr (inr (inl done))) = no_name node_files call.run.words (check done.workload) done.given refl files given
    undone (inr (inr (inr (inl done)))) = no_name node_files call.run.words (gen done.seed done.shards done.txns done.part) done.given refl files given
    undone (inr (inr (inr (inr done)))) = audit_alone call.run.words (audited_words call.run done) (files, given)

    uncut : CutsOutput call.run → ⊥
    uncut (in_report plan next bytes of h) = no_replay of.under.workload of.under.schedule of.under.growth of.under.given
    uncut (in_text workload tree is held front) = no_name node_files call.run.words (print workload) is refl files given
    uncut (in_check workload plan is held front) = no_name node_files call.run.words (check workload) is refl files given
    uncut (in_rejection workload program said comes held front) = unrejected workload program said comes held
    uncut (in_generated seed shards txns part text is generated front) = no_name node_files call.run.words (gen seed shards txns part) is refl files given
    uncut (in_verdict plan logs of verdict right front) = audit_alone call.run.words (of.asked.workload, _, of.asked.given) (files, given)

    pub nodes_unwritten : IsUnwritten call
    nodes_unwritten = record {
      is = record {
        taken = taken;
        unrun = unrun;
        no_child = unspawned;
        undone = undone;
        unrefuted = λ h. audit_alone call.run.words (refuted_words call.run h) (files, given);
      };
      acceptable = λ h. unrejected h.workload h.program h.said h.named h.held;
      uncut = uncut;
    }
