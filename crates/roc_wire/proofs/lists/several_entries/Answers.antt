use Rattle.std.proofs.Common.{rules, ◌≡◌, ◌++◌, ◌∷◌, []}
use Rattle.std.specs.Prelude.{None}
use Rattle.std.proofs.lemmas.Result.{err_from_is_err_and}
use Rattle.roc_base.specs.Edge.{Dependency}
use Rattle.roc_wire.specs.Fits.{last_from}
use Rattle.roc_wire.specs.Reading.{several_read, edge_read}
use Rattle.roc_wire.proofs.Loop.{goes_on, ends, is_done}
use Rattle.roc_wire.proofs.lists.several_entries.Goals as goal

pub returns-in_err-from : goal.returns-in_err-from
returns-in_err-from c =
    let p = err_from_is_err_and c.from_residual.result c.from_residual.ensures.1 in
    rw (p.1, p.2) (ends edge_read last_from c.in_err-from.field-0.0 c.loop.entries.items c.args.count c.loop.counter c.loop.last c.loop.rest.now (several_read edge_read last_from c.args.count None c.args.bytes.now) c.loop-test.true c.in_err-from.ensures.given c.loop.invariant)

pub loop-preserved : goal.loop-preserved
loop-preserved c =
    let edge : Dependency = record { from = c.in_ok-from.from; imm = c.in_ok-from.imm; def = c.in_ok-from.def; at = c.in_ok-from.at } in
    let e : c.push.new.self.items ≡ c.loop.entries.items ++ edge ∷ [] = search rules in
    rw e (goes_on edge_read last_from c.loop.entries.items c.args.count c.loop.counter c.loop.last c.loop.rest.now edge c.in_ok-from.after.now (several_read edge_read last_from c.args.count None c.args.bytes.now) c.loop-test.true c.in_ok-from.ensures.given c.loop.invariant)

pub returns : goal.returns
returns c = is_done edge_read last_from c.loop.entries.items c.args.count c.loop.counter c.loop.last c.loop.rest.now (several_read edge_read last_from c.args.count None c.args.bytes.now) c.loop-test.false c.loop.invariant
