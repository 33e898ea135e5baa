-- A command with one more argument
use Rattle.std.proofs.Common.{◌≡◌, ◌∙◌, Bool, false, ◌||◌, ap₂}
use Rattle.clap.specs.Words.{App, Rule, AddsArg, rule_of, with_rule}
use Rattle.clap.specs.declared.Arg.{Arg}
use Rattle.clap.specs.declared.Command.{Command}
use Rattle.roc_cli_words.specs.Inner.Building.{IsSoFar}

pub added : (old new : Command) (a : Arg) (app : App) (rule : Rule) → IsSoFar old app → rule_of a ≡ rule → a.global ≡ false → AddsArg old a new → IsSoFar new (with_rule app rule)
added old new a app rule before is local adds =
    record {
      shape = adds.shape local ∙ ap₂ with_rule before.shape is;
      local = adds.globals ∙ ap₂ (λ (x y : Bool). x || y) before.local local;
    }
