use Rattle.std.proofs.Common.{◌∙◌, length, map, refl, sym, arith}
use Rattle.std.proofs.lemmas.Bool.{false≢true}
use Rattle.std.proofs.lemmas.List.{length-map}
use Rattle.roc_merge_groups.specs.Accepted.{group_feeds}
use Rattle.roc_merge_groups.proofs.Paths.{feeds_inside}
use Rattle.roc_merge_accept.proofs.Circling.{no_circle_exactly}
use Rattle.roc_merge_accept.proofs.circle.has_no_circle.Goals as goal

pub returns-then-is_on_circle : goal.returns-then-is_on_circle
returns-then-is_on_circle c =
    let groups = map (λ g. g.items) c.args.groups.now in
    let exact = no_circle_exactly (group_feeds c.args.workload.now c.args.proc groups) (length c.args.groups.now) (feeds_inside c.args.workload.now c.args.proc groups (length c.args.groups.now) (length-map c.args.groups.now (λ g. g.items))) in (
      λ t. absurd (false≢true t),
      λ none. absurd (false≢true (sym (c.is_on_circle.ensures.1 (λ other m apart e f.
          exact.1 none c.loop-one.one other c.loop-one-test.true m apart
          (sym (c.paths_of-paths.ensures c.loop-one.one other c.loop-one-test.true m) ∙ e) (sym (c.paths_of-paths.ensures other c.loop-one.one m c.loop-one-test.true) ∙ f))) ∙ c.if-is_on_circle.true)),
    )

pub returns : goal.returns
returns c =
    let groups = map (λ g. g.items) c.args.groups.now in
    let exact = no_circle_exactly (group_feeds c.args.workload.now c.args.proc groups) (length c.args.groups.now) (feeds_inside c.args.workload.now c.args.proc groups (length c.args.groups.now) (length-map c.args.groups.now (λ g. g.items))) in (
      λ t. exact.0 (λ g h l m apart e f. c.loop-one.invariant g h (omega arith) m apart (c.paths_of-paths.ensures g h l m ∙ e) (c.paths_of-paths.ensures h g m l ∙ f)),
      λ none. refl,
    )
