use Rattle.roc_server_taken.proofs.taken.Taken.forget.Goals as goal

pub invariant_of-self : goal.invariant_of-self
invariant_of-self c = c.forget.ensures.before c.self.inside.turn c.self.invariant
