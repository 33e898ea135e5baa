-- A command as it is built
use Rattle.std.specs.Prelude.{◌≡◌, false}
use Rattle.clap.specs.Words.{App, app_of}
use Rattle.clap.specs.declared.Command.{Command}
use Rattle.clap.specs.declared.Command.TheViews.{out-Command}

-- it is this so far, and no argument of it is global
pub record IsSoFar (c : Command) (app : App) : Type 0 where
  pub shape : app_of c ≡ app
  pub local : (out-Command c).has_globals ≡ false
