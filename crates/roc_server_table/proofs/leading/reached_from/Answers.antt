use Rattle.std.proofs.Common.{◌∙◌, ℕ, List, subst}
use Rattle.std.specs.Prelude.{IfOk, Vec}
use Rattle.std.specs.declared.alloc.Global.{Global}
use Rattle.roc_server_reach.specs.Bits.{AreReached}
use Rattle.roc_server_table.proofs.leading.reached_from.Goals as goal

pub returns : goal.returns
returns c =
    subst (λ (starts : List ℕ). IfOk c.reached.result (λ (found : Vec ℕ Global). AreReached c.args.bits.now starts found.items)) (c.deref.ensures.value ∙ c.in_ok-starts.ensures) c.reached.ensures
