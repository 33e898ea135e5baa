use Rattle.std.proofs.Common.{◌≡◌, ◌++◌, drop}
use Rattle.roc_server_reads.specs.Inner.Parts.{if_held, if_unheld, of_each, who_holds}
use Rattle.roc_server_reads.proofs.free_reads.part.Given as goal

-- with what comes of those that are left, it is all of it
abbrev pub invariant-loop-at : goal.invariant-loop-at
invariant-loop-at l = record {
  free : l.parted.free.items ++ of_each if_unheld (drop l.at l.holders) (drop l.at l.reads) ≡ of_each if_unheld l.holders l.reads;
  stays : l.parted.stays.reads.items ++ of_each if_held (drop l.at l.holders) (drop l.at l.reads) ≡ of_each if_held l.holders l.reads;
  holders : l.parted.stays.holders.items ++ of_each who_holds (drop l.at l.holders) (drop l.at l.reads) ≡ of_each who_holds l.holders l.reads;
}
