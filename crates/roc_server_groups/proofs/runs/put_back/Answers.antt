use Rattle.std.proofs.Common.{◌≡◌, ◌++◌, ◌∷◌, [], ◌∙◌, ap, sym, rules}
use Rattle.roc_server_groups.specs.Inner.Restored.{restored}
use Rattle.roc_server_groups.proofs.Restored.{restored-none, restored-last}
use Rattle.roc_server_groups.proofs.runs.put_back.Goals as goal

pub loop-at-preserved : goal.loop-at-preserved
loop-at-preserved c =
    let items : c.loop-at.earlier.items ≡ c.pop.new.self.items ++ (record { at = c.in-Some.field-0.at; later = c.in-Some.field-0.later }) ∷ [] = search rules in
    ap (restored c.pop.new.self.items) c.put_later.ensures
    ∙ sym (restored-last c.pop.new.self.items (record { at = c.in-Some.field-0.at; later = c.in-Some.field-0.later }) c.loop-at.started.groups)
    ∙ ap (λ l. restored l c.loop-at.started.groups) (sym items)
    ∙ c.loop-at.invariant

pub returns : goal.returns
returns c =
    let items : c.loop-at.earlier.items ≡ [] = search rules in
    sym (restored-none _ _ items) ∙ c.loop-at.invariant
