use Rattle.std.proofs.Common.{sym, ap, ◌∙◌, arith}
use Rattle.roc_cli_words.specs.Values.{is_plain_number}
use Rattle.roc_cli_words.proofs.Numbers.{unplain, read, unread, inside, above, below}
use Rattle.roc_cli_words.proofs.value.number_within.Goals.{else-least-number-via-then-least-number+else-number-most, else-least-number-via-else-least-number}
use Rattle.roc_cli_words.proofs.value.number_within.Goals as goal

pub returns-then-not-is_plain_number-clause-value : goal.returns-then-not-is_plain_number-clause-value
returns-then-not-is_plain_number-clause-value c = unplain c.args.least c.args.most c.args.text.now (ap is_plain_number (sym c.as_bytes.ensures.value) ∙ sym c.if-not-is_plain_number.ensures)

pub returns-then-number-most-clause-value : goal.returns-then-number-most-clause-value
returns-then-number-most-clause-value c =
    inside c.args.least c.args.most c.in-Ok.number c.if-least-number.true c.if-number-most.true
    ∙ read c.args.least c.args.most c.args.text.now c.parse.result c.in-Ok.number c.parse.ensures.value.0 c.in-Ok.is (ap is_plain_number (sym c.as_bytes.ensures.value) ∙ sym c.if-not-is_plain_number.ensures)

pub returns-else-least-number-clause-value : goal.returns-else-least-number-clause-value
returns-else-least-number-clause-value c =
    let is = read c.args.least c.args.most c.args.text.now c.parse.result c.in-Ok.number c.parse.ensures.value.0 c.in-Ok.is (ap is_plain_number (sym c.as_bytes.ensures.value) ∙ sym c.if-not-is_plain_number.ensures) in
    elim c.else-least-number.branch [
      | else-least-number-via-then-least-number+else-number-most w ↦ above c.args.least c.args.most c.in-Ok.number (omega (arith, w.if-number-most.false)) ∙ is
      | else-least-number-via-else-least-number w ↦ below c.args.least c.args.most c.in-Ok.number (omega (arith, w.if-least-number.false)) ∙ is
    ]

pub returns-in-Err-clause-value : goal.returns-in-Err-clause-value
returns-in-Err-clause-value c =
    unread c.args.least c.args.most c.args.text.now c.parse.result _ c.parse.ensures.value.0 c.in-Err.is (ap is_plain_number (sym c.as_bytes.ensures.value) ∙ sym c.if-not-is_plain_number.ensures) (omega (arith, c.ranges.most))
