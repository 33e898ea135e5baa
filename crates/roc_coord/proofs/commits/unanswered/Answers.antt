-- One more shard is kept where its commitok is not here
use Rattle.std.proofs.Common.{◌<◌, ◌≤◌, Bool, List, [], ◌∷◌, ◌++◌, length, not, get_or, ap, subst, sym, ◌∙◌}
use Rattle.std.proofs.lemmas.List.{take_all}
use Rattle.std.specs.List.{filter}
use Rattle.roc_base.specs.declared.node.Shard.{Shard}
use Rattle.roc_coord.specs.State.{has_commitok}
use Rattle.roc_coord.specs.declared.transaction.TakenCommit.{TakenCommit}
use Rattle.roc_coord.proofs.Sends.{filter_kept, filter_left}
use Rattle.roc_coord.proofs.commits.unanswered.Goals as goal
use Rattle.roc_coord.proofs.commits.unanswered.Goals.{then-not-has_commitok+in_ok-push, else-not-has_commitok}

pub loop-shard-init : goal.loop-shard-init
loop-shard-init c = c.new-shards.ensures

pub loop-shard-preserved : goal.loop-shard-preserved
loop-shard-preserved c =
    let awaited : Shard → Bool = λ shard. not (has_commitok shard c.args.x.now.commitoks) in
    let all = c.args.x.now.asked in
    let i = c.loop-shard.shard-index in
    let none : Shard = record { 0 = 0 } in
    let at_place : List Shard → Shard = λ shards. get_or shards i none in
    let item = ap at_place c.as_slice-shard-items.ensures in
    let within = subst (λ shards. i < length shards) c.as_slice-shard-items.ensures c.loop-shard-test.true in
    let has_in : List TakenCommit → Bool = λ oks. has_commitok (at_place c.as_slice-shard-items.result.now) oks in
    let has = ap not (c.has_commitok.ensures ∙ ap has_in c.as_slice.ensures) ∙ ap awaited item in
    let next : Shard → List Shard = λ shard. c.loop-shard.shards ++ shard ∷ [] in
    elim c.if-not-has_commitok.branch [
      | then-not-has_commitok+in_ok-push w ↦ filter_kept awaited all i none c.loop-shard.shards c.if-not-has_commitok.shards within c.loop-shard.invariant (sym has ∙ ap not w.if-not-has_commitok.true) (w.shards-is ∙ w.in_ok-push.ensures.ok ∙ ap next item)
      | else-not-has_commitok w ↦ filter_left awaited all i none c.loop-shard.shards c.if-not-has_commitok.shards within c.loop-shard.invariant (sym has ∙ ap not w.if-not-has_commitok.false) w.shards-is
    ]

pub returns : goal.returns
returns c =
    let awaited : Shard → Bool = λ shard. not (has_commitok shard c.args.x.now.commitoks) in
    let all = c.args.x.now.asked in
    let done = subst (λ shards. length shards ≤ c.loop-shard.shard-index) c.as_slice-shard-items.ensures c.loop-shard-test.false in
    c.loop-shard.invariant ∙ ap (filter awaited) (take_all c.loop-shard.shard-index all done)
