-- The line of usage is in no rule
use Rattle.std.proofs.Common.{◌∙◌, Result, IfOk, ap, subst}
use Rattle.std.specs.declared.alloc.AllocError.{AllocError}
use Rattle.clap.specs.declared.builder.command.Command.{Command}
use Rattle.clap.specs.declared.builder.command.Command.TheOpen.{Command-F}
use Rattle.clap.specs.Simple.{app_of_fields}
use Rattle.roc_cli_words.specs.Inner.Building.{IsSoFar}
use Rattle.roc_cli_words.proofs.program.used_as.Goals as goal

pub returns-in-Ok : goal.returns-in-Ok
returns-in-Ok c app before =
    let so_far : IsSoFar c.in-Ok.command app = subst (λ (r : Result Command AllocError). IfOk r (λ m. IsSoFar m app)) c.in-Ok.is before in
    record {
      shape = ap app_of_fields c.override_usage.ensures ∙ so_far.shape;
      local = ap (λ (f : Command-F Command). f.has_globals) c.override_usage.ensures ∙ so_far.local;
    }
