use Rattle.std.proofs.Common.{ℕ, List, sym, subst}
use Rattle.roc_server_rows.specs.Marks.{HasWaiting}
use Rattle.roc_server_rows.proofs.marking.open_row.Goals as goal

pub wake-requires : goal.wake-requires
wake-requires c = subst (λ (ns : List ℕ). HasWaiting c.args.marks.now ns) (sym c.as_slice.ensures.value) c.requires.waiting
