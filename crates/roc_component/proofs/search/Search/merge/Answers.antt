use Rattle.roc_component.specs.declared.search.Part.{Part}
use Rattle.roc_component.proofs.SearchSteps.{joined_less}
use Rattle.roc_component.proofs.search.Search.merge.Goals as goal

pub returns-clause-less : goal.returns-clause-less
returns-clause-less c =
    let both : Part = record { start = c.in-Some.last.start; members = c.in_ok-members.members; todo = c.in_ok-todo.todo } in
    joined_less c.args.self.now.path.items c.pop.new.self.items c.push.new.self.items c.in-Some.last c.args.part both c.in-Some.ensures.items c.in_ok-push.ensures.items c.in_ok-todo.ensures
