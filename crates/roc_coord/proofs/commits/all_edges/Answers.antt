-- What one more startok was told comes behind what the startoks before it were told
use Rattle.std.proofs.Common.{List, ◌++◌, ap, ◌∙◌}
use Rattle.std.proofs.lemmas.List.{take_all}
use Rattle.std.specs.List.{flat_map}
use Rattle.roc_base.specs.Edge.{Dependency}
use Rattle.roc_base.specs.Edges.{united}
use Rattle.roc_coord.specs.declared.transaction.TakenStart.{TakenStart}
use Rattle.roc_plan.proofs.Taken.{pushed_flat}
use Rattle.roc_coord.proofs.commits.all_edges.Goals as goal

pub loop-ok-init : goal.loop-ok-init
loop-ok-init c = c.new-told.ensures.items

pub loop-ok-preserved : goal.loop-ok-preserved
loop-ok-preserved c =
    let told : TakenStart → List Dependency = λ ok. ok.edges in
    let add : List Dependency → List Dependency = λ ys. c.loop-ok.told.items ++ ys in
    pushed_flat told c.args.startoks.now c.loop-ok.ok-index c.ok-item.result c.loop-ok.told.items c.extend_from_slice.new.self.items c.loop-ok-test.true
    (c.in_ok-extend_from_slice.ensures.items ∙ ap add (c.as_slice.ensures.entries ∙ ap told c.ok-item.is)) c.loop-ok.invariant

pub returns : goal.returns
returns c =
    let told : TakenStart → List Dependency = λ ok. ok.edges in
    let united_with : List Dependency → List Dependency = λ ys. united (c.new-edges.result ++ ys) in
    let all_told : List TakenStart → List Dependency = λ oks. flat_map told oks in
    let all : List Dependency → List Dependency = λ ys. united (ys ++ flat_map told c.args.startoks.now) in
    c.in_ok-unite.ensures.united ∙ ap united_with (c.deref.ensures.value ∙ c.loop-ok.invariant ∙ ap all_told (take_all c.loop-ok.ok-index c.args.startoks.now c.loop-ok-test.false)) ∙ ap all c.new-edges.ensures
