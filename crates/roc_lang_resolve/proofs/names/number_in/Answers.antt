use Rattle.std.proofs.Common.{◌∙◌, length, unwrap_or, sym, ap}
use Rattle.std.specs.Str.{bytes_eq}
use Rattle.roc_program.proofs.Firsts.{position-or_len, position_or_len-map}
use Rattle.roc_lang_resolve.proofs.names.number_in.Goals as goal

pub returns-clause-number : goal.returns-clause-number
returns-clause-number c =
    c.unwrap_or.ensures
    ∙ ap (λ o. unwrap_or o (length c.args.names.now)) c.find_in.ensures
    ∙ position-or_len (λ n. bytes_eq n.now c.args.name.now) c.args.names.now
    ∙ sym (position_or_len-map (λ t. bytes_eq t c.args.name.now) (λ n. n.now) c.args.names.now)
