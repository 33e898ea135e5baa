-- Each turn but the last takes a datagram, and the last one says why the drain ends.
use Rattle.std.proofs.Common.{refl, sym, ◌∙◌, subst, arith}
use Rattle.std.specs.Prelude.{◌≡◌, [], IfSome}
use Rattle.roc_io_memory.specs.declared.callers.Drained.TheVariants.{Quiet, NoMemory, Failed, Turns}
use Rattle.roc_io_memory.proofs.Drains.{Drains-stop, Drains-next}
use Rattle.roc_io_memory.proofs.callers.drain.Goals as goal

pub returns-then-is_err-clause-taken : goal.returns-then-is_err-clause-taken
returns-then-is_err-clause-taken g c =
    Drains-stop NoMemory c.loop.counter c.args.turns _ _ _ _ _ _ c.loop.invariant.0 refl c.reserve.ensures.items (λ n e. omega (arith, c.loop-test.true))

pub returns-in-Quiet-clause-taken : goal.returns-in-Quiet-clause-taken
returns-in-Quiet-clause-taken g c =
    let same = c.in-Quiet.ensures.arrivals.0 in
    Drains-stop Quiet c.loop.counter c.args.turns _ _ _ _ _ _ c.loop.invariant.0 same c.reserve.ensures.items
    (λ n e. (omega (arith, c.loop-test.true), subst (λ o. IfSome o (λ left. left ≡ [])) (sym same) c.in-Quiet.ensures.arrivals.1))

pub returns-in-NoMemory-clause-taken : goal.returns-in-NoMemory-clause-taken
returns-in-NoMemory-clause-taken g c =
    Drains-stop NoMemory c.loop.counter c.args.turns _ _ _ _ _ _ c.loop.invariant.0 c.in-NoMemory.ensures.arrivals.0 c.reserve.ensures.items (λ n e. omega (arith, c.loop-test.true))

pub returns-in-Failed-clause-taken : goal.returns-in-Failed-clause-taken
returns-in-Failed-clause-taken g c =
    Drains-stop Failed c.loop.counter c.args.turns _ _ _ _ _ _ c.loop.invariant.0 c.in-Failed.ensures.arrivals.0 c.reserve.ensures.items (λ n e. omega (arith, c.loop-test.true))

pub returns-clause-taken : goal.returns-clause-taken
returns-clause-taken g c =
    Drains-stop Turns c.loop.counter c.args.turns _ _ _ _ _ _ c.loop.invariant.0 refl refl (λ n e. omega (arith, c.loop-test.false, c.loop.auto.counter-end))

pub loop-preserved : goal.loop-preserved
loop-preserved g c = (
  Drains-next c.loop.counter _ _ _ _ _ _ c.new.result c.loop.invariant.0
      (rw (← c.new.ensures) at c.in-Datagram.ensures.arrivals)
      (rw (c.unwrap.ensures, c.reserve.ensures.items) at c.push.ensures.items),
  c.in-Datagram.ensures.cause ∙ c.loop.invariant.1,
  c.in-Datagram.ensures.lost ∙ c.loop.invariant.2,
  c.in-Datagram.ensures.bound ∙ c.loop.invariant.3,
  c.in-Datagram.ensures.sent ∙ c.loop.invariant.4,
)
