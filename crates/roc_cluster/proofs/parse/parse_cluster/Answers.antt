use Rattle.toml.specs.View.{table_view}
use Rattle.roc_cluster.proofs.Whole.{only_of_document}
use Rattle.roc_cluster.proofs.parse.parse_cluster.Goals as goal

pub returns-clause-only : goal.returns-clause-only
returns-clause-only c =
    only_of_document c.args.shards c.args.text.now (table_view c.in_ok-document.document) c.cluster_in.result c.in_ok-document.ensures.ok c.cluster_in.ensures.ok c.cluster_in.ensures.err
