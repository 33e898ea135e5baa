use Rattle.roc_server_lists.proofs.ForgetSteps.{forgets, over_decided}
use Rattle.roc_server_lists.proofs.keeping.forget.Goals as goal

pub drop_asked-requires : goal.drop_asked-requires
drop_asked-requires c = c.requires.over.rising

pub forget-requires-2 : goal.forget-requires-2
forget-requires-2 c = over_decided c.args.parts.now c.args.over.now c.requires

pub returns : goal.returns
returns c =
    forgets c.args.parts.now c.args.over.now c.requires c.forget-2.new.self c.drop_asked.new.self c.forget.new.self
    c.forget-2.ensures.known c.forget-2.ensures.links c.forget-2.ensures.decided c.drop_asked.ensures.waiting c.drop_asked.ensures.fetches
    c.forget.ensures
