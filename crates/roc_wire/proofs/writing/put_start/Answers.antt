use Rattle.std.specs.Int.{w16, to_be_bytes}
use Rattle.roc_wire.specs.Spelling.{id_bytes, nums_bytes}
use Rattle.roc_wire.proofs.Parts.{start_parts}
use Rattle.roc_wire.proofs.writing.put_start.Goals as goal

pub returns : goal.returns
returns c =
    start_parts c.args.out.now.items c.put_id.new.out.items (id_bytes c.args.id) c.put_asked.new.out.items
    (to_be_bytes w16 c.args.proc) (to_be_bytes w16 c.args.group) (nums_bytes c.args.args.now) (nums_bytes c.args.inputs.now) c.in_ok-put_id.ensures c.in_ok-put_asked.ensures
