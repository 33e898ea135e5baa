use Rattle.roc_server_lists.proofs.NoneOver.{no_ids, nothing_forgotten, nothing_over}
use Rattle.roc_server_lists.proofs.keeping.forget_if_over.Goals as goal

pub returns-then-is_empty : goal.returns-then-is_empty
returns-then-is_empty c =
    let none = no_ids c.args.over.now c.is_empty.result c.is_empty.ensures c.if-is_empty.true in
    record { kept = nothing_forgotten c.args.parts.now c.args.over.now none c.requires; sound = nothing_over c.args.parts.now c.args.over.now none c.requires }
