use Rattle.std.proofs.Common.{◌≡◌, ◌↔◌, map, length, IsTrue}
use Rattle.std.proofs.lemmas.Result.{IfOk-weaker}
use Rattle.roc_program.specs.declared.piece_id.PieceId.{PieceId}
use Rattle.roc_conflict.specs.Classes.{is_immediate}
use Rattle.roc_conflict.specs.Immediate.{IsImmediate}
use Rattle.roc_conflict.proofs.Rows.{rows_of, shape, exact}
use Rattle.roc_conflict.proofs.promotion.promote.Goals as goal

pub returns-clause-shape : goal.returns-clause-shape
returns-clause-shape c =
    IfOk-weaker c.where_marked.result (λ classes. classes ≡ rows_of c.args.workload.now (is_immediate c.immediate_pieces-immediate.result))
    (λ classes. map (λ row. length row) classes ≡ map (λ p. length p.pieces) c.args.workload.now.procedures)
    (shape c.args.workload.now (is_immediate c.immediate_pieces-immediate.result)) c.where_marked.ensures

pub returns-clause-exact : goal.returns-clause-exact
returns-clause-exact c =
    IfOk-weaker c.where_marked.result (λ classes. classes ≡ rows_of c.args.workload.now (is_immediate c.immediate_pieces-immediate.result))
    (λ classes. (id : PieceId) → IsTrue (is_immediate classes id) ↔ IsImmediate c.args.workload.now id)
    (λ classes e. exact c.args.workload.now (is_immediate c.immediate_pieces-immediate.result) classes e c.immediate_pieces-immediate.ensures) c.where_marked.ensures
