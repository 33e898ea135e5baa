use Rattle.std.proofs.Common.{◌∙◌, Some, ap, arith, set}
use Rattle.std.proofs.lemmas.List.{length-set}
use Rattle.std.proofs.lemmas.List.Edits.{map_over_more}
use Rattle.roc_server_rows.specs.declared.rows.Row.{Row}
use Rattle.roc_server_rows.specs.Except.{row_but}
use Rattle.roc_server_rows.proofs.Excepted.{all_over}
use Rattle.roc_server_rows.proofs.marking.cut_rows.Goals as goal

pub index_mut-requires : goal.index_mut-requires
index_mut-requires c = omega (arith, c.loop-place-test.true, c.loop-place.invariant.each, c.loop-place.rows.ok.0, c.args.rows.now.ok.0)

pub loop-place-preserved : goal.loop-place-preserved
loop-place-preserved c =
    let rows = c.loop-place.rows.items in
    let i = c.loop-place.place in
    record {
      each = length-set rows i c.cut_row.new.row ∙ c.loop-place.invariant.each;
      cut = ap (λ (r : Row). set rows i r) c.cut_row.ensures
          ∙ map_over_more (row_but (Some c.args.at)) c.args.rows.now.items rows i c.index_mut.result.now (omega (arith, c.loop-place-test.true, c.args.rows.now.ok.0))
          c.loop-place.invariant.cut c.index_mut.ensures.value;
    }

pub returns : goal.returns
returns c =
    all_over (row_but (Some c.args.at)) c.args.rows.now.items c.loop-place.rows.items c.loop-place.place c.loop-place.invariant.cut
    (omega (arith, c.loop-place-test.false, c.args.rows.now.ok.0))
