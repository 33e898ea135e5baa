use Rattle.std.proofs.Common.{◌≡◌, ◌++◌, take, length}
use Rattle.std.specs.Int.{w16, to_be_bytes}
use Rattle.std.specs.List.{flat_map}
use Rattle.roc_wire.specs.Spelling.{num_bytes}
use Rattle.roc_wire.proofs.writing.put_nums.Given as goal

abbrev pub invariant-loop-num : goal.invariant-loop-num
invariant-loop-num l = l.out.items ≡ l.fn.out.items ++ to_be_bytes w16 (length l.nums) ++ flat_map num_bytes (take l.num-index l.nums)
