use Rattle.std.proofs.Common.{◌∙◌, sym, rules}
use Rattle.roc_msg.specs.Equalities.{Decides-are_lists}
use Rattle.roc_msg.proofs.facts.FactsPartialEq.eq.Goals as goal

pub returns-clause-test : goal.returns-clause-test
returns-clause-test c = search rules

pub returns-clause-equal : goal.returns-clause-equal
returns-clause-equal c =
    let decides = Decides-are_lists c.args.self.now c.args.other.now in
    (λ h. decides.0 (sym (returns-clause-test c) ∙ h), λ e. returns-clause-test c ∙ decides.1 e)
