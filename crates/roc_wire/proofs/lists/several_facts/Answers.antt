use Rattle.std.proofs.Common.{rules, ◌≡◌, ◌++◌, ◌∷◌, []}
use Rattle.std.specs.Prelude.{None}
use Rattle.std.proofs.lemmas.Result.{err_from_is_err_and}
use Rattle.roc_msg.specs.Facts.{most_fact_edges}
use Rattle.roc_wire.specs.Fits.{room_behind}
use Rattle.roc_wire.specs.Reading.{several_read, fact_read}
use Rattle.roc_wire.proofs.Loop.{goes_on, ends, is_done}
use Rattle.roc_wire.proofs.Rises.{behind_more}
use Rattle.roc_wire.proofs.lists.several_facts.Goals as goal

pub returns-in_err-fact : goal.returns-in_err-fact
returns-in_err-fact c =
    let p = err_from_is_err_and c.from_residual.result c.from_residual.ensures.1 in
    rw (p.1, p.2) (ends fact_read room_behind c.in_err-fact.field-0.0 c.loop.facts c.args.count c.loop.counter (c.loop.last, c.loop.left) c.loop.rest.now (several_read fact_read room_behind c.args.count (None, most_fact_edges) c.args.bytes.now) c.loop-test.true c.in_err-fact.ensures.given c.loop.invariant.read)

pub loop-preserved : goal.loop-preserved
loop-preserved c =
    let e : c.push.new.self ≡ c.loop.facts ++ c.in_ok-fact.fact ∷ [] = search rules in
    record {
      read = rw (e, c.len.ensures) (goes_on fact_read room_behind c.loop.facts c.args.count c.loop.counter (c.loop.last, c.loop.left) c.loop.rest.now c.in_ok-fact.fact c.in_ok-fact.after.now (several_read fact_read room_behind c.args.count (None, most_fact_edges) c.args.bytes.now) c.loop-test.true c.in_ok-fact.ensures.given c.loop.invariant.read);
      behind = rw e (behind_more c.loop.last c.loop.facts c.in_ok-fact.fact c.loop.invariant.behind c.in_ok-fact.ensures.fits.1);
    }

pub returns : goal.returns
returns c = is_done fact_read room_behind c.loop.facts c.args.count c.loop.counter (c.loop.last, c.loop.left) c.loop.rest.now (several_read fact_read room_behind c.args.count (None, most_fact_edges) c.args.bytes.now) c.loop-test.false c.loop.invariant.read
