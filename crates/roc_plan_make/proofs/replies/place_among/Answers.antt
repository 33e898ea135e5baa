use Rattle.std.proofs.Common.{◌∙◌, ◌==◌, length, unwrap_or, ap, arith}
use Rattle.std.proofs.lemmas.List.Sums.{prefix_len-le-length}
use Rattle.std.proofs.Common.{not}
use Rattle.roc_program.proofs.Firsts.{position-or_len}
use Rattle.roc_plan_make.proofs.replies.place_among.Goals as goal

pub returns-clause-place : goal.returns-clause-place
returns-clause-place c = c.unwrap_or.ensures ∙ ap (λ o. unwrap_or o (length c.args.names.now)) c.find_name.ensures ∙ position-or_len (λ m. m == c.args.name) c.args.names.now

pub returns-clause-few : goal.returns-clause-few
returns-clause-few c =
    let place = c.unwrap_or.ensures ∙ ap (λ o. unwrap_or o (length c.args.names.now)) c.find_name.ensures ∙ position-or_len (λ m. m == c.args.name) c.args.names.now in
    omega (arith, place, prefix_len-le-length (λ m. not (m == c.args.name)) c.args.names.now)
