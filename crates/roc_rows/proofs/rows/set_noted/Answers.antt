use Rattle.std.proofs.Common.{◌≡◌, ◌++◌, ◌∷◌, [], ◌∙◌, ap, rules}
use Rattle.roc_rows.specs.Store.{read, write}
use Rattle.roc_rows.specs.Inner.Kept.{undone}
use Rattle.roc_rows.proofs.Undone.{undone-noted}
use Rattle.roc_rows.proofs.rows.set_noted.Goals as goal

pub returns-clause-undone : goal.returns-clause-undone
returns-clause-undone c =
    let store = c.args.numbers.now.store in
    let stored : c.set.new.self.store ≡ write store c.args.cell c.args.number = search rules in
    let noted : c.push.new.self.items ≡ c.args.notes.now.items ++ (c.args.cell, read store c.args.cell) ∷ [] = search rules in
    ap (λ ws. undone ws c.set.new.self.store) noted ∙ ap (undone (c.args.notes.now.items ++ (c.args.cell, read store c.args.cell) ∷ [])) stored
    ∙ undone-noted c.args.notes.now.items store c.args.cell c.args.number
