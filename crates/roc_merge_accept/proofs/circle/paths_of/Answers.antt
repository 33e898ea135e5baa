use Rattle.std.proofs.Common.{◌≡◌, ◌∙◌, suc, ◌+◌, Bool, ◌&&◌, ◌||◌, map, sym, ap, arith}
use Rattle.roc_merge_groups.specs.Accepted.{group_feeds}
use Rattle.roc_merge_groups.specs.Paths.{leads_below}
use Rattle.roc_merge_accept.specs.Inner.Paths.{entry}
use Rattle.roc_merge_groups.proofs.Paths.{below_more}
use Rattle.roc_merge_accept.proofs.circle.paths_of.Goals as goal

pub loop-by-preserved : goal.loop-by-preserved
loop-by-preserved c = λ a b l m.
    let step = group_feeds c.args.workload.now c.args.proc (map (λ g. g.items) c.args.groups.now) in
    let k = c.loop-by-test.true in
    let same : c.loop-by.by + 1 ≡ suc c.loop-by.by = omega arith in
    let each : (x x' y y' z z' : Bool) → x ≡ x' → y ≡ y' → z ≡ z' → (x || (y && z)) ≡ (x' || (y' && z')) = λ x x' y y' z z' e f g. λ i. e i || (f i && g i) in
    c.paths_by-paths.ensures a b l m
    ∙ each (entry c.loop-by.paths a b) (leads_below step c.loop-by.by a b) (entry c.loop-by.paths a c.loop-by.by) (leads_below step c.loop-by.by a c.loop-by.by) (entry c.loop-by.paths c.loop-by.by b) (leads_below step c.loop-by.by c.loop-by.by b)
    (c.loop-by.invariant a b l m) (c.loop-by.invariant a c.loop-by.by l k) (c.loop-by.invariant c.loop-by.by b k m)
    ∙ sym (below_more step c.loop-by.by a b) ∙ ap (λ n. leads_below step n a b) (sym same)
