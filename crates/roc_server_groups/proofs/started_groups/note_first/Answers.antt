use Rattle.std.proofs.Common.{◌∙◌, sym}
use Rattle.roc_server_groups.proofs.FirstGroups.{firsts_more, firsts_same}
use Rattle.roc_server_groups.proofs.started_groups.note_first.Goals as goal

pub returns-then-contains_key : goal.returns-then-contains_key
returns-then-contains_key c = λ es f. firsts_same c.args.firsts.now.entries es c.args.group.now f (sym c.contains_key.ensures ∙ c.if-contains_key.true)

pub returns : goal.returns
returns c = λ es f.
    firsts_more c.args.firsts.now.entries es c.args.group.now f c.insert-noted.new.self.entries (sym c.contains_key.ensures ∙ c.if-contains_key.false)
    (rw c.unwrap.ensures at c.insert-noted.ensures.updates).0
