use Rattle.roc_law_world.proofs.AnyWorld.{spent_exactly, busy_exactly, taken_exactly}
use Rattle.roc_law_world.proofs.worlds.submissions_are_taken.Goals as goal

pub returns-clause-spent : goal.returns-clause-spent
returns-clause-spent c plan w coord proc args s o there h = spent_exactly plan w coord proc args s o there h

pub returns-clause-busy : goal.returns-clause-busy
returns-clause-busy c plan w coord proc args s o there h = busy_exactly plan w coord proc args s o there h

pub returns-clause-taken : goal.returns-clause-taken
returns-clause-taken c plan w coord proc args s o there h = taken_exactly plan w coord proc args s o there h
