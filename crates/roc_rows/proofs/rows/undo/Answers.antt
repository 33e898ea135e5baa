use Rattle.std.proofs.Common.{◌≡◌, ◌++◌, ◌∷◌, [], ◌∙◌, ap, sym, rules}
use Rattle.roc_rows.specs.Store.{write}
use Rattle.roc_rows.specs.Inner.Kept.{undone}
use Rattle.roc_rows.proofs.Undone.{undone-none, undone-last}
use Rattle.roc_rows.proofs.rows.undo.Goals as goal

pub loop-cell-preserved : goal.loop-cell-preserved
loop-cell-preserved c =
    let written : c.set.new.self.store ≡ write c.loop-cell.numbers.store c.in-Some.cell c.in-Some.number = search rules in
    let items : c.loop-cell.notes.items ≡ c.pop.new.self.items ++ (c.in-Some.cell, c.in-Some.number) ∷ [] = search rules in (
      search rules,
      ap (undone c.pop.new.self.items) written ∙ sym (undone-last c.pop.new.self.items c.in-Some.cell c.in-Some.number c.loop-cell.numbers.store)
          ∙ ap (λ l. undone l c.loop-cell.numbers.store) (sym items) ∙ c.loop-cell.invariant.1,
    )

pub returns : goal.returns
returns c =
    let items : c.loop-cell.notes.items ≡ [] = search rules in
    sym (undone-none _ _ items) ∙ c.loop-cell.invariant.1
