-- what is left, sent from here on, leaves what all of it leaves from the start
use Rattle.std.proofs.Common.{◌≡◌, ◌+◌, ◌++◌, length, map}
use Rattle.std.specs.List.{range_with_len}
use Rattle.std.specs.Vec.Iter.{into_iter_items, into_iter_len}
use Rattle.roc_two_files.specs.Sealed.{sealed_by}
use Rattle.roc_world.specs.Inner.Messages.{sealed_all, AreSealed}
use Rattle.roc_world.proofs.network.add_all.Given as goal

abbrev pub invariant-loop-message : goal.invariant-loop-message
invariant-loop-message l = record {
  sealed : AreSealed l.files.items l.sent.items l.undelivered.items;
  left : into_iter_len l.message-iterator ≡ length (into_iter_items l.message-iterator);
  sent :
      sealed_all l.files.items l.sent.items ++ map (sealed_by l.switched l.from) (into_iter_items l.message-iterator)
      ≡ sealed_all l.initial.files.items l.initial.sent.items ++ map (sealed_by l.switched l.from) (into_iter_items l.initial.message-iterator);
  undelivered :
      l.undelivered.items ++ range_with_len (length l.sent.items + 1) (length (into_iter_items l.message-iterator))
      ≡ l.initial.undelivered.items ++ range_with_len (length l.initial.sent.items + 1) (length (into_iter_items l.initial.message-iterator));
}
