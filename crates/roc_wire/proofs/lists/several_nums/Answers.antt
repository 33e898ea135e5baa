use Rattle.std.proofs.Common.{rules, ◌≡◌, ◌++◌, ◌∷◌, []}
use Rattle.std.proofs.lemmas.Result.{err_from_is_err_and}
use Rattle.roc_wire.specs.Reading.{several_read, num_read}
use Rattle.roc_wire.proofs.Loop.{goes_on, ends, is_done}
use Rattle.roc_wire.proofs.lists.several_nums.Goals as goal

pub returns-in_err-num : goal.returns-in_err-num
returns-in_err-num c =
    let p = err_from_is_err_and c.from_residual.result c.from_residual.ensures.1 in
    rw (p.1, p.2) (ends num_read (λ s n. s) c.in_err-num.field-0.0 c.loop.nums c.args.count c.loop.counter tt c.loop.rest.now (several_read num_read (λ s n. s) c.args.count tt c.args.bytes.now) c.loop-test.true c.in_err-num.ensures c.loop.invariant)

pub loop-preserved : goal.loop-preserved
loop-preserved c =
    let e : c.push.new.self ≡ c.loop.nums ++ c.in_ok-num.num ∷ [] = search rules in
    rw e (goes_on num_read (λ s n. s) c.loop.nums c.args.count c.loop.counter tt c.loop.rest.now c.in_ok-num.num c.in_ok-num.after.now (several_read num_read (λ s n. s) c.args.count tt c.args.bytes.now) c.loop-test.true c.in_ok-num.ensures c.loop.invariant)

pub returns : goal.returns
returns c = is_done num_read (λ s n. s) c.loop.nums c.args.count c.loop.counter tt c.loop.rest.now (several_read num_read (λ s n. s) c.args.count tt c.args.bytes.now) c.loop-test.false c.loop.invariant
