use Rattle.std.proofs.Common.{rules, ◌≡◌, ◌++◌, ◌∷◌, []}
use Rattle.std.specs.Int.{w64}
use Rattle.std.proofs.lemmas.Result.{err_from_is_err_and}
use Rattle.roc_wire.specs.Reading.{several_read, number_read}
use Rattle.roc_wire.proofs.Loop.{goes_on, ends, is_done}
use Rattle.roc_wire.proofs.lists.several_versions.Goals as goal

pub returns-in_err-version : goal.returns-in_err-version
returns-in_err-version c =
    let p = err_from_is_err_and c.from_residual.result c.from_residual.ensures.1 in
    rw (p.1, p.2) (ends (λ (s : Unit {0}). number_read w64) (λ s n. s) c.in_err-version.field-0.0 c.loop.versions c.args.count c.loop.counter tt c.loop.rest.now (several_read (λ (s : Unit {0}). number_read w64) (λ s n. s) c.args.count tt c.args.bytes.now) c.loop-test.true c.in_err-version.ensures c.loop.invariant)

pub loop-preserved : goal.loop-preserved
loop-preserved c =
    let e : c.push.new.self ≡ c.loop.versions ++ c.in_ok-version.version ∷ [] = search rules in
    rw e (goes_on (λ (s : Unit {0}). number_read w64) (λ s n. s) c.loop.versions c.args.count c.loop.counter tt c.loop.rest.now c.in_ok-version.version c.in_ok-version.after.now (several_read (λ (s : Unit {0}). number_read w64) (λ s n. s) c.args.count tt c.args.bytes.now) c.loop-test.true c.in_ok-version.ensures c.loop.invariant)

pub returns : goal.returns
returns c = is_done (λ (s : Unit {0}). number_read w64) (λ s n. s) c.loop.versions c.args.count c.loop.counter tt c.loop.rest.now (several_read (λ (s : Unit {0}). number_read w64) (λ s n. s) c.args.count tt c.args.bytes.now) c.loop-test.false c.loop.invariant
