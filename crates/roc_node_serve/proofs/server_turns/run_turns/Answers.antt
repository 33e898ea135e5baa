use Rattle.std.proofs.Common.{[], refl, ◌∙◌}
use Rattle.roc_node.proofs.Moving.{Moves-given}
use Rattle.roc_node_serve.proofs.Turning.{ran_none, ran_more}
use Rattle.roc_node_serve.proofs.Ending.{calls_on, calls_failed, calls_filled, calls_none, ends_wanted, ends_cut_off, ends_filled, ends_broken, ends_unlogged, ends_stopped, ends_turns}
use Rattle.roc_node_serve.proofs.server_turns.run_turns.Goals as goal

pub loop-init : goal.loop-init
loop-init g c =
    let given = c.send_all.ensures in (
      λ messages logged.
          ran_none _ (λ now name image tells left. g.met.D.Disk.only_now now name image tells left) _ _ _ messages _ logged _ _ _ _ c.requires.ready
          (Moves-given _ _ _ given.arrivals given.lost given.taken given.events),
      given.faults,
      given.bound,
      refl,
    )

pub loop-preserved : goal.loop-preserved
loop-preserved g c =
    let t = c.in-Goes.ensures.takes in (
      λ messages logged. ran_more _ _ _ _ _ _ _ _ _ _ _ _ _ _ _ _ _ _ t.last (c.loop.invariant.0 messages logged) t.turns t.keeps,
      c.in-Goes.ensures.cause ∙ c.loop.invariant.1,
      c.in-Goes.ensures.bound ∙ c.loop.invariant.2,
      c.in-Goes.ensures.book_cause ∙ c.loop.invariant.3,
    )

pub returns-in-Stopped-clause-calls : goal.returns-in-Stopped-clause-calls
returns-in-Stopped-clause-calls g c = calls_on _ _ _ _ _ _ _ _ _ _ (c.loop.invariant.0 [] []).keeps _ _ c.in-Stopped.ensures.takes.keeps

pub returns-in-NoMemory-clause-calls : goal.returns-in-NoMemory-clause-calls
returns-in-NoMemory-clause-calls g c = calls_on _ _ _ _ _ _ _ _ _ _ (c.loop.invariant.0 [] []).keeps _ _ c.in-NoMemory.ensures.takes.keeps

pub returns-in-LinkFault-clause-calls : goal.returns-in-LinkFault-clause-calls
returns-in-LinkFault-clause-calls g c = calls_on _ _ _ _ _ _ _ _ _ _ (c.loop.invariant.0 [] []).keeps _ _ c.in-LinkFault.ensures.takes.keeps

pub returns-in-Full-clause-calls : goal.returns-in-Full-clause-calls
returns-in-Full-clause-calls g c = calls_filled _ _ _ _ _ _ _ _ _ _ (c.loop.invariant.0 [] []).keeps _ _ _ _ c.in-Full.ensures.takes.turns.0 c.in-Full.ensures.takes.keeps

pub returns-in-Disk-clause-calls : goal.returns-in-Disk-clause-calls
returns-in-Disk-clause-calls g c = calls_failed _ _ _ _ _ _ _ _ _ _ (c.loop.invariant.0 [] []).keeps _ _ c.in-Disk.ensures.takes.keeps

pub returns-in-BookFault-clause-calls : goal.returns-in-BookFault-clause-calls
returns-in-BookFault-clause-calls g c = calls_on _ _ _ _ _ _ _ _ _ _ (c.loop.invariant.0 [] []).keeps _ _ c.in-BookFault.ensures.takes.keeps

pub returns-clause-calls : goal.returns-clause-calls
returns-clause-calls g c = calls_none _ _ _ _ _ _ _ _ (c.loop.invariant.0 [] []).keeps

pub returns-in-Stopped-clause-runs : goal.returns-in-Stopped-clause-runs
returns-in-Stopped-clause-runs g c = λ messages logged.
    ends_stopped _ (λ now name t image tells le left. g.met.D.Disk.counts_now now name t image tells le left) _ _ _ _ _ _ _ _ _ _ _ _ _ _ _ _ _ c.loop-test.true
    (c.loop.invariant.0 messages logged) c.in-Stopped.ensures.takes

pub returns-in-NoMemory-clause-runs : goal.returns-in-NoMemory-clause-runs
returns-in-NoMemory-clause-runs g c = λ messages logged.
    ends_wanted _ (λ now name t image tells le left. g.met.D.Disk.counts_now now name t image tells le left) _ _ _ _ _ _ _ _ _ _ _ _ _ _ _ _ _ c.loop-test.true
    (c.loop.invariant.0 messages logged) c.in-NoMemory.ensures.takes

pub returns-in-LinkFault-clause-runs : goal.returns-in-LinkFault-clause-runs
returns-in-LinkFault-clause-runs g c = λ messages logged.
    ends_cut_off _ (λ now name t image tells le left. g.met.D.Disk.counts_now now name t image tells le left) _ _ _ _ _ _ _ _ _ _ _ _ _ _ _ _ _ c.loop-test.true
    (c.loop.invariant.0 messages logged) c.in-LinkFault.ensures.takes

pub returns-in-Full-clause-runs : goal.returns-in-Full-clause-runs
returns-in-Full-clause-runs g c = λ messages logged.
    ends_filled _ (λ now name t image tells le left. g.met.D.Disk.counts_now now name t image tells le left) _ _ _ _ _ _ _ _ _ _ _ _ _ _ _ _ _ c.loop-test.true
    (c.loop.invariant.0 messages logged) c.in-Full.ensures.takes

pub returns-in-Disk-clause-runs : goal.returns-in-Disk-clause-runs
returns-in-Disk-clause-runs g c = λ messages logged.
    ends_broken _ (λ now name t image tells le left. g.met.D.Disk.counts_now now name t image tells le left) _ _ _ _ _ _ _ _ _ _ _ _ _ _ _ _ _ c.loop-test.true
    (c.loop.invariant.0 messages logged) c.in-Disk.ensures.takes

pub returns-in-BookFault-clause-runs : goal.returns-in-BookFault-clause-runs
returns-in-BookFault-clause-runs g c = λ messages logged.
    ends_unlogged _ (λ now name t image tells le left. g.met.D.Disk.counts_now now name t image tells le left) _ _ _ _ _ _ _ _ _ _ _ _ _ _ _ _ _ c.loop-test.true
    (c.loop.invariant.0 messages logged) c.in-BookFault.ensures.takes

pub returns-clause-runs : goal.returns-clause-runs
returns-clause-runs g c = λ messages logged. ends_turns _ _ _ _ _ _ _ _ _ _ _ _ _ _ c.loop-test.false c.loop.auto.counter-end (c.loop.invariant.0 messages logged)

pub take_turn-requires-clause-ready : goal.take_turn-requires-clause-ready
take_turn-requires-clause-ready g c = (c.loop.invariant.0 [] []).keeps.ready
