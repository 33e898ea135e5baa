use Rattle.roc_growth.proofs.Refusing.{draining_exactly, no_proc_exactly, spent_exactly, busy_exactly, taken_else}
use Rattle.roc_growth.proofs.refusals.submissions_are_refused.Goals as goal

pub returns-clause-draining : goal.returns-clause-draining
returns-clause-draining c plan next w n proc args s o there h = draining_exactly plan next w n proc args s o there h

pub returns-clause-no_proc : goal.returns-clause-no_proc
returns-clause-no_proc c plan next w n proc args s o there h = no_proc_exactly plan next w n proc args s o there h

pub returns-clause-spent : goal.returns-clause-spent
returns-clause-spent c plan next w n proc args s o there h = spent_exactly plan next w n proc args s o there h

pub returns-clause-busy : goal.returns-clause-busy
returns-clause-busy c plan next w n proc args s o there h = busy_exactly plan next w n proc args s o there h

pub returns-clause-taken : goal.returns-clause-taken
returns-clause-taken c plan next w n proc args s o there h = taken_else plan next w n proc args s o there h
