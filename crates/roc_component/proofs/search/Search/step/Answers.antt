use Rattle.std.proofs.Common.{◌≡◌, ◌<◌, ◌∙◌, ◌++◌, ◌∷◌, [], length, refl, sym, ap, arith, length-append}
use Rattle.std.specs.BTreeMap.{btree_map_len}
use Rattle.roc_depgraph.specs.Deps.{Precedes}
use Rattle.roc_component.specs.declared.search.Part.{Part}
use Rattle.roc_component.specs.Inner.Search.{met_of, weight}
use Rattle.roc_component.proofs.SearchSteps.{step_closed, step_new, step_settled, put_back, some_earlier, step_merged, closed_less, replaced_less, same_weight}
use Rattle.roc_component.proofs.search.Search.step.Goals as goal

pub returns-in_default-clause-search : goal.returns-in_default-clause-search
returns-in_default-clause-search c known S s =
    let z : length c.args.part.todo.items ≡ 0 = omega (arith, c.args.part.todo.ok, c.in_default.ensures.cases.0) in
    step_closed (Precedes known) S (met_of c.args.met.now) (btree_map_len c.args.met.now) c.args.self.now c.close.new.self c.args.part c.deref.result.now s z c.deref.ensures.value c.in_ok-close.ensures

pub returns-in_default-clause-less : goal.returns-in_default-clause-less
returns-in_default-clause-less c = closed_less c.args.self.now c.close.new.self c.args.part c.deref.result.now c.in_ok-close.ensures

pub returns-in_default-copied-clause-search : goal.returns-in_default-copied-clause-search
returns-in_default-copied-clause-search c known S s =
    let p = c.args.part in
    let r : Part = record { start = p.start; members = p.members; todo = c.push.new.self } in
    step_new (Precedes known) S (met_of c.args.met.now) (btree_map_len c.args.met.now) c.args.self.now.path.items p r c.args.self.now.done c.args.self.now.components.items s refl refl
    c.push-in_default-copied.new.self.items c.in-Some.id c.pop.new.self.items c.in_ok-push-2.ensures.items (c.in_ok-push.ensures.items ∙ sym c.in-Some.ensures.items) c.in-Some.ensures.items
    (sym c.get.ensures.value ∙ (sym c.copied.ensures ∙ c.in_default-copied.is))

pub returns-then-is_settled-clause-search : goal.returns-then-is_settled-clause-search
returns-then-is_settled-clause-search c known S s =
    let p = c.args.part in
    let r : Part = record { start = p.start; members = p.members; todo = c.pop.new.self } in
    step_settled (Precedes known) S (met_of c.args.met.now) (btree_map_len c.args.met.now) c.args.self.now.path.items p r c.args.self.now.done c.args.self.now.components.items s refl refl
    c.push-then-is_settled.new.self.items c.in-Some.id c.in-Some-copied.number c.in_ok-push-3.ensures.items c.in-Some.ensures.items
    (sym c.get.ensures.value ∙ (sym c.copied.ensures ∙ c.in-Some-copied.is)) (sym c.is_settled.ensures ∙ c.if-is_settled.true)

pub returns-then-is_settled-clause-less : goal.returns-then-is_settled-clause-less
returns-then-is_settled-clause-less c =
    let p = c.args.part in
    let r : Part = record { start = p.start; members = p.members; todo = c.pop.new.self } in
    let a = ap length c.in-Some.ensures.items in
    let b = length-append c.pop.new.self.items (c.in-Some.id ∷ []) in
    replaced_less c.args.self.now.path.items c.push-then-is_settled.new.self.items p r c.in_ok-push-3.ensures.items (omega arith)

pub returns-clause-search : goal.returns-clause-search
returns-clause-search c known S s =
    let p = c.args.part in
    let r : Part = record { start = p.start; members = p.members; todo = c.push-2.new.self } in
    let E = Precedes known in
    let met = met_of c.args.met.now in
    let count = btree_map_len c.args.met.now in
    let z = put_back E S met count c.args.self.now.path.items p r c.args.self.now.done c.args.self.now.components.items s refl refl (c.in_ok-push-4.ensures.items ∙ sym c.in-Some.ensures.items) in
    let m = sym c.get.ensures.value ∙ (sym c.copied.ensures ∙ c.in-Some-copied.is) in
    let t = sym c.is_settled.ensures ∙ c.if-is_settled.false in
    step_merged E S met count c.args.self.now c.merge.new.self r z c.in-Some.id c.in-Some-copied.number m t c.pop.new.self.items c.in_ok-push-4.ensures.items
    (c.in_ok-merge.ensures.merged (some_earlier E S met count c.args.self.now c.merge.new.self r z c.in-Some.id c.in-Some-copied.number m t))

pub returns-clause-less : goal.returns-clause-less
returns-clause-less c =
    let p = c.args.part in
    let r : Part = record { start = p.start; members = p.members; todo = c.push-2.new.self } in
    let e = same_weight c.args.self.now.path.items p r (c.in_ok-push-4.ensures.items ∙ sym c.in-Some.ensures.items) in
    let l : weight c.merge.new.self.path.items < weight (c.args.self.now.path.items ++ r ∷ []) = c.in_ok-merge.ensures.less in
    omega arith
