use Rattle.std.proofs.Common.{◌∙◌, Some, ap, arith, get_or, length}
use Rattle.std.proofs.lemmas.List.{get_or_default, length-set}
use Rattle.std.proofs.lemmas.List.Edits.{map_over_more}
use Rattle.roc_server_rows.specs.Except.{link_but, no_link}
use Rattle.roc_server_rows.proofs.Excepted.{all_over}
use Rattle.roc_server_rows.proofs.marking.cut_names.Goals as goal

pub loop-place-preserved : goal.loop-place-preserved
loop-place-preserved c =
    let names = c.loop-place.names in
    let i = c.loop-place.place in
    let x = get_or names i no_link in
    record {
      each = ap length c.cut_name.ensures ∙ (length-set names i (link_but (Some c.args.at) x) ∙ c.loop-place.invariant.each);
      cut = c.cut_name.ensures
          ∙ map_over_more (link_but (Some c.args.at)) c.args.names.now names i x (omega arith) c.loop-place.invariant.cut (get_or_default names i no_link x (omega arith));
    }

pub returns : goal.returns
returns c = all_over (link_but (Some c.args.at)) c.args.names.now c.loop-place.names c.loop-place.place c.loop-place.invariant.cut (omega arith)
