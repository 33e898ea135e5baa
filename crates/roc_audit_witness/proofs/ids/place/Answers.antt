use Rattle.std.proofs.Common.{ℕ, ◌≤◌, Option, length, unwrap_or, sym, subst, ap, ◌∙◌}
use Rattle.roc_sequence.proofs.Places.{place_of-le}
use Rattle.roc_base.specs.TxnId.{is_txn}
use Rattle.roc_audit_witness.proofs.Words.{place_is}
use Rattle.roc_audit_witness.proofs.ids.place.Goals as goal

pub returns-clause-place : goal.returns-clause-place
returns-clause-place c =
    let or_end : Option ℕ → ℕ = λ o. unwrap_or o (length c.args.ids.now) in
    c.unwrap_or.ensures ∙ ap or_end c.first.ensures ∙ place_is c.args.id c.args.ids.now

pub returns-clause-within : goal.returns-clause-within
returns-clause-within c =
    let or_end : Option ℕ → ℕ = λ o. unwrap_or o (length c.args.ids.now) in
    subst (λ n. n ≤ length c.args.ids.now) (sym (c.unwrap_or.ensures ∙ ap or_end c.first.ensures ∙ place_is c.args.id c.args.ids.now)) (place_of-le (is_txn c.args.id) c.args.ids.now)
