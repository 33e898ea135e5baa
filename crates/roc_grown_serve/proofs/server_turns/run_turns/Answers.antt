use Rattle.std.proofs.Common.{refl, ◌∙◌}
use Rattle.roc_grown_serve.proofs.Turning.{ran_none, ran_more, ends_wanted, ends_cut_off, ends_stopped, ends_turns}
use Rattle.roc_grown_serve.proofs.server_turns.run_turns.Goals as goal

pub loop-init : goal.loop-init
loop-init g c = (ran_none _ _ _, refl, refl, c.requires.ready)

pub loop-preserved : goal.loop-preserved
loop-preserved g c =
    let t = c.in-Goes.ensures.takes in (
      ran_more _ _ _ _ _ _ _ _ _ t.last c.loop.invariant.0 t.turns,
      c.in-Goes.ensures.cause ∙ c.loop.invariant.1,
      c.in-Goes.ensures.bound ∙ c.loop.invariant.2,
      c.in-Goes.ensures.ready,
    )

pub returns-in-Stopped-clause-runs : goal.returns-in-Stopped-clause-runs
returns-in-Stopped-clause-runs g c = ends_stopped _ _ _ _ _ _ _ _ _ c.loop-test.true c.loop.invariant.0 c.in-Stopped.ensures.takes

pub returns-in-NoMemory-clause-runs : goal.returns-in-NoMemory-clause-runs
returns-in-NoMemory-clause-runs g c = ends_wanted _ _ _ _ _ _ _ _ _ c.loop-test.true c.loop.invariant.0 c.in-NoMemory.ensures.takes

pub returns-in-LinkFault-clause-runs : goal.returns-in-LinkFault-clause-runs
returns-in-LinkFault-clause-runs g c = ends_cut_off _ _ _ _ _ _ _ _ _ c.loop-test.true c.loop.invariant.0 c.in-LinkFault.ensures.takes

pub returns-clause-runs : goal.returns-clause-runs
returns-clause-runs g c = ends_turns _ _ _ _ _ _ _ c.loop-test.false c.loop.auto.counter-end c.loop.invariant.0
