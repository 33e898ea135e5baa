use Rattle.std.proofs.Common.{◌≡◌, ◌+◌, ◌∙◌, ap, sym, rules, drop, get_or, min}
use Rattle.roc_base.specs.declared.id.TxnId.{TxnId}
use Rattle.roc_sequence.proofs.Fronts.{rest_at}
use Rattle.roc_coord.specs.Marks.{least_seq}
use Rattle.roc_coord.proofs.Least.{least-more}
use Rattle.roc_coord.proofs.marks.least_seq.Goals as goal

pub loop-id-preserved : goal.loop-id-preserved
loop-id-preserved c =
    let ids = c.args.ids.now in
    let rest = drop (c.loop-id.id-index + 1) ids in
    let id : TxnId = get_or ids c.loop-id.id-index (record { coord = 0; seq = 0 }) in
    let least : c.min-least.result ≡ min c.loop-id.least id.seq = search rules in
    ap (least_seq rest) least ∙ least-more rest c.loop-id.least id.seq
    ∙ sym (ap (λ l. least_seq l c.loop-id.least) (rest_at ids c.loop-id.id-index (record { coord = 0; seq = 0 }) c.loop-id-test.true)) ∙ c.loop-id.invariant
