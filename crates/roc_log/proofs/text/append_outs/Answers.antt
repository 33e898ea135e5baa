use Rattle.std.proofs.Common.{ℕ, List, ◌++◌, ap, ◌∙◌, arith}
use Rattle.std.specs.String.{string_bytes}
use Rattle.roc_log.proofs.Appended.{gathered}
use Rattle.roc_log.proofs.text.append_outs.Goals as goal

pub returns-clause-ok : goal.returns-clause-ok
returns-clause-ok c = λ program.
    gathered program c.args.header.now c.args.outs.now c.loop-out.out-index (string_bytes c.loop-out.lines) c.args.into.now.items c.extend_from_slice.new.self.items
    c.loop-out.invariant (omega (arith, c.loop-out-test.false))
    (c.in_ok-extend_from_slice.ensures.items ∙ ap (λ (l : List ℕ). c.args.into.now.items ++ l) c.as_bytes.ensures.value)
