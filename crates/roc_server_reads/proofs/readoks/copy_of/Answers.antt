use Rattle.std.proofs.Common.{◌≡◌, ◌∙◌, ◌+◌, ap, sym, subst, take, arith, SFits, w64}
use Rattle.std.proofs.lemmas.Int.{to_z-of_z}
use Rattle.std.specs.List.{AllByRecursion}
use Rattle.roc_rows.specs.Store.{read, write}
use Rattle.roc_sequence.proofs.Fronts.{front_more}
use Rattle.roc_server_reads.proofs.CopiedCells.{one_copied}
use Rattle.roc_server_reads.proofs.readoks.copy_of.Goals as goal

pub loop-access-preserved : goal.loop-access-preserved
loop-access-preserved c =
    let rows = c.args.rows.now.store in
    let at = c.loop-access.access-index in
    let fits : SFits w64 c.get.result = record { sfits = c.get.type_inv } in
    let front = front_more c.args.cells.now at c.access-item.result (omega arith) c.access-item.is in
    let set = c.in_ok-set.ensures.ok ∙ ap (write c.loop-access.copy.store c.access-item.result.cell) (to_z-of_z w64 c.get.result fits ∙ c.get.ensures) in
    subst (λ t. AllByRecursion (λ a. read t a.cell ≡ read rows a.cell) (take (at + 1) c.args.cells.now)) (sym set)
    (subst (AllByRecursion (λ a. read (write c.loop-access.copy.store c.access-item.result.cell (read rows c.access-item.result.cell)) a.cell ≡ read rows a.cell)) front
    (one_copied rows c.loop-access.copy.store c.access-item.result (take at c.args.cells.now) c.loop-access.invariant))
