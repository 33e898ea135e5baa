-- Why a command whose words and files fit is done, and one whose files are none is not
use Rattle.roc_cli_nodes.specs.Call.{WholeCall}
use Rattle.roc_cli.specs.Inner.Faultless.{AreFitting}
use Rattle.roc_cli.specs.Inner.Texts.{TextLaws}
use Rattle.roc_cli.proofs.FittingReplays.{faultless}
use Rattle.roc_cli.proofs.FittingNodes.{nodes_faultless, shardless}
use Rattle.roc_cli.proofs.FittingLogs.{auditable}
use Rattle.roc_cli.proofs.HonestLogs.{explicable}
use Rattle.roc_cli.proofs.UnfittingLists.{unclustered, unlisted, said_by}
use Rattle.roc_cli.proofs.UnfittingLogs.{unjudged}
use Rattle.roc_cli.proofs.UnfittingReplays.{unplayed}
use Rattle.roc_cli.proofs.UnfittingNodes.{unplanned, unwritten}

pub fitting : TextLaws → (call : WholeCall) → AreFitting call
fitting laws call = record {
  files = faultless laws call.run;
  nodes = nodes_faultless laws call.run;
  shardless = shardless laws call;
  planless = unplanned laws call;
  workloadless = unwritten laws call;
  scheduleless = unplayed laws call;
  audits = auditable laws call.run;
  honest = explicable laws call.run;
  clusterless = unclustered laws call;
  listless = unlisted laws call;
  faulty = said_by laws call;
  logless = unjudged laws call;
}
