use Rattle.roc_coord.proofs.coord.Coord.take.Goals as goal

pub invariant_of-self : goal.invariant_of-self
invariant_of-self c = c.startok.ensures.kept c.self.inside.ids c.self.inside.views.items c.self.invariant

pub invariant_of-self-in-CommitOk : goal.invariant_of-self-in-CommitOk
invariant_of-self-in-CommitOk c = c.commitok.ensures.kept c.self.inside.views.items c.self.invariant

pub invariant_of-self-in-ReadOk : goal.invariant_of-self-in-ReadOk
invariant_of-self-in-ReadOk c = c.readok.ensures.kept c.self.inside.pending.items c.self.invariant
