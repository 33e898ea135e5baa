use Rattle.roc_cli_files.proofs.Reading.{check_ends, unchecked}
use Rattle.roc_cli_files.proofs.check.check_file.Goals as goal

-- the check
pub returns-in-Ok-clause-ends : goal.returns-in-Ok-clause-ends
returns-in-Ok-clause-ends g c = check_ends _ _ _ _ _ _ _ c.in-Ok.ensures.ends.0 c.in-Ok.ensures.ends.1 c.write_check.ensures.ends

-- the workload
pub returns-in-Err-clause-ends : goal.returns-in-Err-clause-ends
returns-in-Err-clause-ends g c = unchecked (g.F.Files.content c.args.files.now) c.args.name.now _ _ c.in-Err.fault c.in-Err.ensures.ends
