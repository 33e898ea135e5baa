use Rattle.std.proofs.Common.{◌≡◌, ℤ, List, ◌++◌, subst}
use Rattle.std.specs.Int.{w16, w32, to_be_bytes}
use Rattle.roc_wire.specs.Spelling.{id_bytes, nums_bytes}
use Rattle.roc_wire.proofs.Parts.{read_parts}
use Rattle.roc_wire.proofs.writing.put_read.Goals as goal

pub returns : goal.returns
returns c =
    read_parts c.args.out.now.items c.put_of_round.new.out.items c.put_u16.new.out.items c.put_nums.new.out.items
    (id_bytes c.args.id) (to_be_bytes w32 c.args.round) (to_be_bytes w16 c.args.proc) (to_be_bytes w16 c.args.group) (nums_bytes c.args.args.now)
    c.in_ok-put_of_round.ensures c.in_ok-put_u16.ensures
    (subst (λ (l : List ℤ). c.put_nums.new.out.items ≡ c.put_u16.new.out.items ++ nums_bytes l) c.as_slice.ensures c.in_ok-put_nums.ensures)
