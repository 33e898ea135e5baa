use Rattle.std.proofs.Common.{◌≡◌, Bool, true, false, refl, arith}
use Rattle.roc_plan.specs.Groups.{is_view_of}
use Rattle.roc_program.proofs.Views.{view_there}
use Rattle.roc_server_reads.proofs.refusals.is_view.Goals as goal

pub returns-then-proc-procedures-clause-is : goal.returns-then-proc-procedures-clause-is
returns-then-proc-procedures-clause-is c = go (is_view_of c.args.plan.now c.args.proc) refl
  where
    go : (b : Bool) → is_view_of c.args.plan.now c.args.proc ≡ b → false ≡ b
    go true viewed = let there = view_there c.args.plan.now.program c.args.proc viewed in absurd (omega arith)
    go false e = refl
