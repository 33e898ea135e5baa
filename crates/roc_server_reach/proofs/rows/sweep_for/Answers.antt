use Rattle.std.proofs.Common.{ℕ, List, Vec, Global, get_or, subst, arith}
use Rattle.roc_server_reach.specs.Inner.Words.{IsWithout}
use Rattle.roc_server_reach.proofs.RowWords.{none_swept, more_swept, swept, swept_within}
use Rattle.roc_server_reach.proofs.StaleBits.{zeros_but}
use Rattle.roc_server_reach.proofs.rows.sweep_for.Goals as goal

pub loop-place-init : goal.loop-place-init
loop-place-init c = none_swept c.args.stale.now.items c.args.rows.now.items

pub loop-place-preserved : goal.loop-place-preserved
loop-place-preserved c =
    more_swept c.args.stale.now.items c.loop-place.place c.args.rows.now.items c.loop-place.rows.items c.index_mut.result.now c.take_out.new.set c.loop-place.invariant (omega arith)
    (subst (λ (out : List ℕ). IsWithout out (get_or c.loop-place.rows.items c.loop-place.place c.index_mut.result.now).items c.take_out.new.set.items) c.as_slice-in-loop-place.ensures.value
    (subst (λ (row : Vec ℕ Global). IsWithout c.as_slice-in-loop-place.result.now row.items c.take_out.new.set.items) c.index_mut.ensures.value c.take_out.ensures))

pub returns-clause-same : goal.returns-clause-same
returns-clause-same c =
    let was = c.args.rows.now.ok.0 in
    swept c.args.stale.now.items c.loop-place.place c.args.rows.now.items c.loop-place.rows.items c.loop-place.invariant c.clear_all.new.set.items (omega arith) c.clear_all.ensures.zeros

pub returns-clause-within : goal.returns-clause-within
returns-clause-within c = swept_within c.args.stale.now.items c.loop-place.place c.args.rows.now.items c.loop-place.rows.items c.loop-place.invariant

pub returns-clause-live : goal.returns-clause-live
returns-clause-live c = zeros_but c.args.row.now c.clear_all.new.set.items c.clear_all.ensures.zeros
