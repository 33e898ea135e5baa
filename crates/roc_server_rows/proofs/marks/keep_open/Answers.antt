use Rattle.std.proofs.Common.{rules}
use Rattle.std.proofs.lemmas.Fn.{filter_same}
use Rattle.roc_server_rows.specs.Marks.{is_open}
use Rattle.roc_server_rows.proofs.marks.keep_open.Goals as goal

pub returns : goal.returns
returns c = filter_same _ (is_open c.args.rows.now c.args.marks.now) _ (λ x b f k. search rules) _ _ c.retain.ensures.filtered
