use Rattle.std.proofs.Common.{IsTrue, arith}
use Rattle.roc_conflict.specs.Classes.{is_immediate}
use Rattle.roc_conflict.specs.Contended.{is_contended}
use Rattle.roc_merge_groups.specs.Groups.{piece_numbered}
use Rattle.roc_merge.proofs.Rows.{held_all}
use Rattle.roc_merge_accept.proofs.Tested.{contended_there}
use Rattle.roc_merge.proofs.tables.contended_in.Goals as goal

pub returns : goal.returns
returns c =
    held_all (λ x. IsTrue (is_contended c.args.workload.now (is_immediate c.args.classes.now) (piece_numbered c.args.proc x))) c.loop-piece.row c.loop-piece.piece c.loop-piece.invariant
    (λ x h. let l = (contended_there c.args.workload.now (is_immediate c.args.classes.now) c.args.proc x h).piece in omega arith)
