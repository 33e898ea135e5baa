use Rattle.roc_await.specs.Lacks.{AreLacks}
use Rattle.roc_test_lists.proofs.waiting.a_ring_is_decided_by_its_last_list.Given as goal

abbrev pub invariant-loop-case : goal.invariant-loop-case
invariant-loop-case g l = AreLacks l.deps l.lacks
