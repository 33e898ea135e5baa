use Rattle.std.proofs.Common.{◌≡◌, ◌++◌, take, length}
use Rattle.std.specs.Int.{w16, to_be_bytes}
use Rattle.std.specs.List.{flat_map}
use Rattle.roc_wire.specs.Spelling.{fact_bytes}
use Rattle.roc_wire.proofs.writing.put_facts.Given as goal

abbrev pub invariant-loop-fact : goal.invariant-loop-fact
invariant-loop-fact l = l.out.items ≡ l.fn.out.items ++ to_be_bytes w16 (length l.facts) ++ flat_map fact_bytes (take l.fact-index l.facts)
