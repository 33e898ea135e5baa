use Rattle.std.proofs.lemmas.Result.{IfOk-weaker}
use Rattle.roc_component.proofs.SearchPath.{united_front, united_behind}
use Rattle.roc_component.proofs.search.united.Goals as goal

pub returns-then-len : goal.returns-then-len
returns-then-len c = IfOk-weaker c.appended.result _ _ (λ all h. united_behind c.args.some.items c.args.others.items all.items h) c.appended.ensures

pub returns : goal.returns
returns c = IfOk-weaker c.appended-2.result _ _ (λ all h. united_front c.args.some.items c.args.others.items all.items h) c.appended-2.ensures
