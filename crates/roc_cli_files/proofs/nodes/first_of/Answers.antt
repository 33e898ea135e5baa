use Rattle.std.proofs.Common.{refl}
use Rattle.roc_cli_files.specs.NodeNames.{by_workload}
use Rattle.roc_cli_files.proofs.Reading.{no_bytes}
use Rattle.roc_cli_files.proofs.Loading.{fails_behind, first_behind, within_taken}
use Rattle.roc_cli_files.proofs.nodes.first_of.Goals as goal

-- the workload was read
pub returns-in-Ok-clause-held : goal.returns-in-Ok-clause-held
returns-in-Ok-clause-held g c =
    first_behind _ _ _ _ c.in-Ok.ensures.unchanged
    (c.first_of_bytes.ensures.held (within_taken _ _ _ _ _ _ (c.in-Ok.ensures.unchanged _) c.deref.ensures.value c.in-Ok.ensures.held))

pub returns-in-Ok-clause-fails : goal.returns-in-Ok-clause-fails
returns-in-Ok-clause-fails g c =
    fails_behind _ _ _ _ _ _ _ c.in-Ok.ensures.unchanged refl
    (c.first_of_bytes.ensures.fails (within_taken _ _ _ _ _ _ (c.in-Ok.ensures.unchanged _) c.deref.ensures.value c.in-Ok.ensures.held))

-- it was not
pub returns-in-Err-clause-fails : goal.returns-in-Err-clause-fails
returns-in-Err-clause-fails g c = by_workload c.in-Err.fault (no_bytes (g.F.Files.content c.args.files.now) c.args.names.workload.now _ c.in-Err.fault c.in-Err.ensures.fault)
