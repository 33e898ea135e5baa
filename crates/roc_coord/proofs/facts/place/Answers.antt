use Rattle.std.proofs.Common.{ℕ, Bool, Option, length, not, unwrap_or, ap, ◌∙◌}
use Rattle.roc_program.proofs.Firsts.{position-or_len}
use Rattle.roc_base.specs.TxnId.{txn_lt}
use Rattle.roc_depgraph.specs.declared.known.KnownList.{KnownList}
use Rattle.roc_coord.proofs.Gathering.{place_is}
use Rattle.roc_coord.proofs.facts.place.Goals as goal

pub returns : goal.returns
returns c =
    let is_behind : KnownList → Bool = λ fact. not (txn_lt fact.of c.args.id) in
    let or_end : Option ℕ → ℕ = λ o. unwrap_or o (length c.args.facts.now) in
    c.unwrap_or.ensures ∙ ap or_end c.first_behind.ensures ∙ position-or_len is_behind c.args.facts.now ∙ place_is c.args.id c.args.facts.now
