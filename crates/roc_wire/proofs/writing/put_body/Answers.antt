use Rattle.std.specs.Int.{w16, w32, to_be_bytes}
use Rattle.roc_wire.specs.Spelling.{id_bytes, shard_bytes, nums_bytes, versions_bytes, edges_bytes, facts_bytes}
use Rattle.roc_wire.proofs.Parts.{start_ok_parts, read_ok_parts}
use Rattle.roc_wire.proofs.writing.put_body.Goals as goal

pub returns-in_ok-put_lists-in-StartOk : goal.returns-in_ok-put_lists-in-StartOk
returns-in_ok-put_lists-in-StartOk c =
    let s = c.in-StartOk in
    rw s.is (start_ok_parts c.args.out.now.items c.put_id.new.out.items (id_bytes s.id) c.put_given.new.out.items c.put_lists.new.out.items
    (to_be_bytes w16 s.group) (shard_bytes s.shard) (nums_bytes s.bound) (nums_bytes s.outs) (edges_bytes s.edges) (facts_bytes s.facts)
    c.in_ok-put_id-in-StartOk.ensures c.in_ok-put_given-in-StartOk.ensures c.in_ok-put_lists-in-StartOk.ensures)

pub returns-in_ok-put_found-in-ReadOk : goal.returns-in_ok-put_found-in-ReadOk
returns-in_ok-put_found-in-ReadOk c =
    let s = c.in-ReadOk in
    rw s.is (read_ok_parts c.args.out.now.items c.put_of_round.new.out.items c.put_found.new.out.items
    (id_bytes s.id) (to_be_bytes w32 s.round) (to_be_bytes w16 s.group) (shard_bytes s.shard) (versions_bytes s.versions) (nums_bytes s.outs)
    c.in_ok-put_of_round-in-ReadOk.ensures c.in_ok-put_found-in-ReadOk.ensures)
