use Rattle.std.proofs.Common.{refl}
use Rattle.roc_cli_files.specs.NodeNames.{by_requests}
use Rattle.roc_cli_files.proofs.nodes.first_of_cluster.Goals as goal

-- the requests were read, or none were named
pub returns-in-Ok-clause-held : goal.returns-in-Ok-clause-held
returns-in-Ok-clause-held g c bytes held planned tagged clustered = record {
  of_workload = (record { bytes = bytes; held = held; is = planned }, tagged);
  of_cluster = clustered;
  of_requests = c.in-Ok.ensures.ends;
}

-- they were not
pub returns-clause-fails : goal.returns-clause-fails
returns-clause-fails g c bytes out held planned clustered =
    by_requests c.args.plan c.args.cluster c.in-Err.ensures.ends.0 c.in-Err.fault (record { bytes = bytes; held = held; is = planned })
    clustered c.in-Err.ensures.ends.1 c.in-Err.ensures.ends.2 refl
