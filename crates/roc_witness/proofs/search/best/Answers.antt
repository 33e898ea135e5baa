use Rattle.std.proofs.Common.{◌≡◌, subst, arith}
use Rattle.std.specs.Option.{option_map}
use Rattle.roc_witness.specs.Inner.Candidates.{IsBest, LeavesBelow}
use Rattle.roc_witness.proofs.Best.{best_start, best_more}
use Rattle.roc_witness.proofs.search.best.Goals as goal

pub loop-piece-init : goal.loop-piece-init
loop-piece-init c = best_start c.args.vertices.now c.args.table.now c.args.p c.args.q

pub loop-piece-preserved : goal.loop-piece-preserved
loop-piece-preserved c =
    best_more c.args.vertices.now c.args.table.now c.args.p c.args.q c.loop-piece.piece (option_map (λ c. c.items) c.loop-piece.best) (option_map (λ c. c.items) c.in_ok-found.found) (option_map (λ c. c.items) c.better_of-best.result)
    c.loop-piece.invariant c.in_ok-found.ensures c.better_of-best.ensures

pub returns : goal.returns
returns c =
    let whole : c.loop-piece.piece ≡ c.args.count = omega arith in
    subst (λ n. IsBest (LeavesBelow c.args.vertices.now c.args.table.now c.args.p c.args.q n) (option_map (λ c'. c'.items) c.loop-piece.best)) whole c.loop-piece.invariant
