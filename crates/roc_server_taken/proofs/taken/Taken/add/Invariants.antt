use Rattle.std.proofs.Common.{◌≡◌, ◌≢◌, ◌≤◌, ◌++◌, [], length}
use Rattle.std.specs.List.{AllByRecursion}
use Rattle.std.specs.Vec.Iter.{into_iter_items, into_iter_len}
use Rattle.roc_server_taken.proofs.taken.Taken.add.Given as goal

-- what is left, behind what is there, is all of it behind what was
abbrev pub invariant-loop-members : goal.invariant-loop-members
invariant-loop-members l = record {
  left : into_iter_len l.members-iterator ≡ length (into_iter_items l.members-iterator);
  room : length (into_iter_items l.members-iterator) ≤ l.self.spare;
  some : AllByRecursion (λ m. m ≢ []) (into_iter_items l.members-iterator);
  all : l.self.components ++ into_iter_items l.members-iterator ≡ l.initial.self.components ++ into_iter_items l.initial.members-iterator;
}
