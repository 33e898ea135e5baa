use Rattle.std.proofs.Common.{◌∙◌}
use Rattle.roc_cli_files.proofs.Logging.{taken_further, fails_further}
use Rattle.roc_cli_files.proofs.logs.take_all.Goals as goal

pub returns-in-Err-clause-fails : goal.returns-in-Err-clause-fails
returns-in-Err-clause-fails g c =
    fails_further (g.F.Files.content c.loop-name.files) (g.F.Files.content c.args.files.now) c.args.names.now c.loop-name.name-index _ c.args.plan.now c.args.tag.now
    c.loop-name.auditor c.take_one.new.auditor c.loop-name.invariant.content c.loop-name-test.true c.loop-name.invariant.taken c.in-Err.fault c.in-Err.ensures.takes

pub loop-name-preserved : goal.loop-name-preserved
loop-name-preserved g c = record {
  taken = taken_further (g.F.Files.content c.loop-name.files) (g.F.Files.content c.args.files.now) c.args.names.now c.loop-name.name-index _ c.args.plan.now c.args.tag.now
      c.loop-name.auditor c.take_one.new.auditor c.loop-name.invariant.content c.loop-name-test.true c.loop-name.invariant.taken c.in-Ok.ensures.takes;
  content = λ other. c.take_one.ensures.unchanged other ∙ c.loop-name.invariant.content other;
  failed = c.in-Ok.ensures.failed ∙ c.loop-name.invariant.failed;
  faults = c.in-Ok.ensures.file_faults ∙ c.loop-name.invariant.faults;
}
