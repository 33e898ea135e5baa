use Rattle.std.proofs.Common.{◌≡◌, ◌-◌, IsTrue}
use Rattle.std.specs.Prelude.{None}
use Rattle.roc_base.specs.declared.id.TxnId.{TxnId}
use Rattle.roc_msg.specs.Facts.{is_behind_facts, most_fact_edges}
use Rattle.roc_wire.specs.Fits.{rises, room_behind}
use Rattle.roc_wire.specs.Reading.{several_read, fact_read}
use Rattle.roc_wire.proofs.Loop.{with_front}
use Rattle.roc_wire.proofs.lists.several_facts.Given as goal

-- what rises comes behind all that are here
abbrev pub invariant-loop : goal.invariant-loop
invariant-loop l =
    record {
      read : with_front l.facts (several_read fact_read room_behind (l.count - l.counter) (l.last, l.left) l.rest) ≡ several_read fact_read room_behind l.count (None, most_fact_edges) l.bytes;
      behind : (id : TxnId) → IsTrue (rises l.last id) → IsTrue (is_behind_facts l.facts id);
    }
