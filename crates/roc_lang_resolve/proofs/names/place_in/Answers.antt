use Rattle.std.proofs.Common.{◌∙◌, length, map, unwrap_or, sym, ap}
use Rattle.std.specs.List.{position}
use Rattle.std.specs.Str.{bytes_eq}
use Rattle.std.specs.String.{string_bytes}
use Rattle.roc_lang.specs.Tree.{name_tree}
use Rattle.roc_program.proofs.Firsts.{position-or_len, position_or_len-map}
use Rattle.roc_lang_resolve.proofs.names.place_in.Goals as goal

pub returns-clause-number : goal.returns-clause-number
returns-clause-number c =
    let name = string_bytes c.args.name.now.text in
    c.unwrap_or.ensures
    ∙ ap (λ o. unwrap_or o (length c.args.columns.now)) c.find_column.ensures
    ∙ ap (λ text. unwrap_or (position (λ n. bytes_eq (string_bytes n.text) text) c.args.columns.now) (length c.args.columns.now)) c.as_str.ensures.value
    ∙ position-or_len (λ n. bytes_eq (string_bytes n.text) name) c.args.columns.now
    ∙ sym (position_or_len-map (λ n. bytes_eq n.text name) name_tree c.args.columns.now)
    ∙ sym (position_or_len-map (λ t. bytes_eq t name) (λ n. n.text) (map name_tree c.args.columns.now))
