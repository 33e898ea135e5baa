use Rattle.std.proofs.Common.{◌+◌, set}
use Rattle.std.proofs.Common.{ℕ, ◌<◌, length, sym, subst, arith}
use Rattle.roc_conflict.specs.Classes.{is_immediate}
use Rattle.roc_program.specs.Pieces.{pieces_in}
use Rattle.roc_merge_groups.specs.Core.{InCore}
use Rattle.roc_merge.proofs.Rows.{IsHeld, held_all, held_more}
use Rattle.roc_merge.proofs.Flows.{core_by, core_there}
use Rattle.roc_merge.proofs.group.core_of.Goals as goal

pub loop-piece-preserved : goal.loop-piece-preserved
loop-piece-preserved c =
    let within : c.loop-piece.piece < length (pieces_in c.args.workload.now c.args.proc) = omega arith in
    let exact = core_by c.args.workload.now (is_immediate c.args.classes.now) c.args.proc c.contended_in-contended.result c.flow_in-flow.result c.contended_in-contended.ensures c.flow_in-flow.ensures c.loop-piece.piece within in
    let P : ℕ → Type 0 = λ n. IsHeld (InCore c.args.workload.now (is_immediate c.args.classes.now) c.args.proc) (set c.loop-piece.core n c.is_core.result) (c.loop-piece.piece + 1) in
    subst P (sym c.from.ensures)
    (held_more (InCore c.args.workload.now (is_immediate c.args.classes.now) c.args.proc) c.loop-piece.core c.loop-piece.piece c.is_core.result c.loop-piece.invariant (omega arith)
    (λ h. exact.0 (c.is_core.ensures.0 h), λ i. c.is_core.ensures.1 (exact.1 i)))

pub returns : goal.returns
returns c =
    held_all (InCore c.args.workload.now (is_immediate c.args.classes.now) c.args.proc) c.loop-piece.core c.loop-piece.piece c.loop-piece.invariant
    (λ x h. let l = core_there c.args.workload.now (is_immediate c.args.classes.now) c.args.proc x h in omega arith)
