use Rattle.std.proofs.Common.{◌+◌, inl, inr, arith}
use Rattle.std.proofs.lemmas.Bool.{cases_lt}
use Rattle.roc_group.proofs.Read.{counts_one, fits_one}
use Rattle.roc_group.proofs.run.count_statements.Goals as goal

pub returns-in_default-clause-err : goal.returns-in_default-clause-err
returns-in_default-clause-err c =
    let fits = fits_one c.args.procedure.now c.args.pieces.now c.loop-number.number-index c.from.result c.requires c.loop-number-test.true c.from.ensures c.index.result.now c.index.ensures in
    elim (cases_lt (c.loop-number.count + c.len-more.result) 18446744073709551616) [
      | inl few ↦ absurd (c.in_default.ensures few)
      | inr many ↦ omega (arith, many, fits, c.loop-number.invariant, c.len-more.ensures, c.index.result.now.body.ok)
    ]

pub loop-number-preserved : goal.loop-number-preserved
loop-number-preserved c =
    let count = counts_one c.args.procedure.now c.args.pieces.now c.loop-number.number-index c.from.result c.requires c.loop-number-test.true c.from.ensures c.index.result.now c.index.ensures in
    omega (arith, count, c.loop-number.invariant, c.in-Some.ensures.1, c.len-more.ensures, c.index.result.now.body.ok)
