use Rattle.std.proofs.Common.{◌≡◌, ℕ, ◌+◌, ◌∙◌, ap, subst, sym, Bool, List, [], ◌∷◌, length, rules}
use Rattle.roc_scgraph.specs.declared.vertex.Vertex.{Vertex}
use Rattle.std.specs.List.{list_any}
use Rattle.roc_witness.specs.Inner.Walks.{may_step, AreLevels}
use Rattle.roc_witness.proofs.Raised.{leads_out, levels_start, none_at_once, none_out, none_more}
use Rattle.roc_witness.proofs.walks.Walks.shortest.Goals as goal

pub loop-left-init : goal.loop-left-init
loop-left-init c =
    let L : Vertex → Vertex → Bool = may_step c.args.table.now c.args.self.now.start in
    let V : List Vertex = c.args.self.now.vertices in
    let goal : Vertex = c.args.self.now.goal in
    let start : c.push.new.self.items ≡ (goal ∷ []) ∷ [] = search rules in
    (ap (λ (ls : List (List Vertex)). length ls) start, subst (AreLevels L V goal) (sym start) (levels_start L V goal), none_at_once L V goal c.args.self.now.start (leads_out c.args.table.now c.args.self.now.start goal c.requires.siblings))

pub descend-requires-clause-levels : goal.descend-requires-clause-levels
descend-requires-clause-levels c =
    subst (AreLevels (may_step c.args.table.now c.args.self.now.start) c.args.self.now.vertices c.args.self.now.goal) (sym c.deref.ensures.value) c.in_ok-raise.ensures.levels

pub loop-left-preserved : goal.loop-left-preserved
loop-left-preserved c =
    let L : Vertex → Vertex → Bool = may_step c.args.table.now c.args.self.now.start in
    let V : List Vertex = c.args.self.now.vertices in (
      c.in_ok-raise.ensures.more ∙ ap (λ (n : ℕ). n + 1) c.loop-left.invariant.0,
      c.in_ok-raise.ensures.levels,
      none_more L V c.args.self.now.goal c.args.self.now.start c.loop-left.left c.loop-left.invariant.2 (c.in_ok-descend.ensures.none c.if-branch.false),
    )

pub returns-then-not-leads_to_any : goal.returns-then-not-leads_to_any
returns-then-not-leads_to_any c =
    let L : Vertex → Vertex → Bool = may_step c.args.table.now c.args.self.now.start in
    none_out L c.args.self.now.vertices c.args.self.now.goal c.args.self.now.start (leads_out c.args.table.now c.args.self.now.start c.args.self.now.goal c.requires.siblings)
    (ap (list_any (L c.args.self.now.start)) (sym c.as_slice.ensures) ∙ sym c.leads_to_any.ensures ∙ c.if-not-leads_to_any.true) 6
