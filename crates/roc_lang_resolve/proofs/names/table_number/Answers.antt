use Rattle.std.proofs.Common.{◌∙◌, length, map, unwrap_or, sym, ap}
use Rattle.std.specs.List.{position}
use Rattle.std.specs.Str.{bytes_eq}
use Rattle.std.specs.String.{string_bytes}
use Rattle.roc_lang.specs.Tree.{table_tree}
use Rattle.roc_program.proofs.Firsts.{position-or_len, position_or_len-map}
use Rattle.roc_lang_resolve.proofs.names.table_number.Goals as goal

pub returns-clause-number : goal.returns-clause-number
returns-clause-number c =
    let name = string_bytes c.args.name.now.text in
    c.unwrap_or.ensures
    ∙ ap (λ o. unwrap_or o (length c.args.tables.now)) c.find_table.ensures
    ∙ ap (λ text. unwrap_or (position (λ t. bytes_eq (string_bytes t.name.text) text) c.args.tables.now) (length c.args.tables.now)) c.as_str.ensures.value
    ∙ position-or_len (λ t. bytes_eq (string_bytes t.name.text) name) c.args.tables.now
    ∙ sym (position_or_len-map (λ t. bytes_eq t.name.text name) table_tree c.args.tables.now)
    ∙ sym (position_or_len-map (λ t. bytes_eq t name) (λ t. t.name.text) (map table_tree c.args.tables.now))
