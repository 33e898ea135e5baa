use Rattle.std.proofs.Common.{◌≡◌, ◌+◌, ◌∙◌, length, ap, arith}
use Rattle.std.proofs.lemmas.List.{length_push}
use Rattle.roc_server_rows.specs.Marks.{no_mark, mark_in}
use Rattle.roc_server_table.proofs.FilledMarks.{mark_more}
use Rattle.roc_server_table.proofs.changes.fill.Goals as goal

pub rows-preserved : goal.rows-preserved
rows-preserved c =
    let marks = c.rows.marks in
    let items = c.push_none.ensures.items in
    let more : length c.push_none.new.marks.items ≡ length marks.items + 1 = ap length items ∙ length_push marks.items no_mark in
    record {
      same = λ n. ap (λ ms. mark_in ms n) items ∙ (mark_more marks.items n ∙ c.rows.invariant.same n);
      fewer = omega arith;
      room = omega arith;
    }

pub rows-smaller : goal.rows-smaller
rows-smaller c =
    let more : length c.push_none.new.marks.items ≡ length c.rows.marks.items + 1 = ap length c.push_none.ensures.items ∙ length_push c.rows.marks.items no_mark in
    omega arith

pub returns : goal.returns
returns c = record { each = omega arith; same = c.rows.invariant.same }
