use Rattle.roc_plan.specs.declared.outline.Outline.{Outline}
use Rattle.roc_plan.specs.declared.plan.Plan.TheInside.{Inside}
use Rattle.std.proofs.Common.{Some, slice_get, ◌≡◌, ◌∙◌, ℕ, ◌<◌, w64, FitsSigned, rules, List, [], ◌∷◌, length, map, get_or, sym, ap, subst, arith}
use Rattle.std.proofs.lemmas.List.{length-map}
use Rattle.std.proofs.lemmas.Int.{to_z-of_z}
use Rattle.std.specs.List.{AllByRecursion}
use Rattle.roc_sequence.proofs.Holds.{all_at, all_weaker}
use Rattle.roc_program.specs.LookUps.{no_piece}
use Rattle.roc_program.specs.Parts as view
use Rattle.roc_program.proofs.Rows.{row_length, read-map}
use Rattle.roc_merge_groups.specs.Parts.{IsPart}
use Rattle.roc_plan.specs.Groups.{Group, Plan, no_group, source_in, inputs_in, inputs_of, procedure_of, groups_of, group_of, group_place, place_in}
use Rattle.roc_plan.specs.Sized.{piece_at, IsSized}
use Rattle.roc_plan.specs.Inner.Outlines.{plan, IsOutlined}
use Rattle.roc_plan.specs.Outlines.{group}
use Rattle.roc_plan.proofs.Placed.{procedure_there, part_of, sized_of, inputs_known, first_place, placed}
use Rattle.roc_plan.proofs.Rows.{row_element}
use Rattle.roc_plan.proofs.Sized.{lent}
use Rattle.roc_plan.proofs.plan.Plan.place.Goals as goal

pub outline_at-outline-requires : goal.outline_at-outline-requires
outline_at-outline-requires c =
    omega (arith, row_length (λ row. row.items) group c.self.inside.outlines.items c.args.proc, ap (λ p. length (groups_of p c.args.proc)) c.self.view_is)

-- what is kept of the group
record IsHere (p : Inside) (proc : ℕ) (o : Outline) (pieces : List ℕ) : Type 0 where
  there : proc < length p.workload.procedures
  sized : IsSized (procedure_of (plan p) proc)
  same : pieces ≡ o.pieces.items
  names : o.names.items ≡ inputs_in (procedure_of (plan p) proc) pieces
  part : IsPart (length (procedure_of (plan p) proc).pieces) pieces

is_here : (p : Inside) (self : Plan) (proc g : ℕ) (o : Outline) → IsOutlined p → plan p ≡ self → slice_get (get_or (map (λ row. row.items) p.outlines.items) proc []) g ≡ Some o → g < length (groups_of self proc)
    → IsHere p proc o (group_of (plan p) proc g).pieces
is_here p self proc g o is e at l =
    let within : g < length (groups_of (plan p) proc) = omega (arith, l, ap (λ q. length (groups_of q proc)) e) in
    let there = procedure_there (plan p) is.accepted proc g within in
    record {
      there = there;
      sized = sized_of (plan p) is.accepted proc there;
      same = ap (λ (h : Group). h.pieces) (row_element (λ row. row.items) group p.outlines.items proc g o no_group at);
      names = (is.each proc g o at).names;
      part = part_of (plan p) is.accepted proc g within;
    }

-- its first piece, as it is read
first_read : (pieces items : List ℕ) (k at : ℕ) → pieces ≡ items → k ≡ get_or items 0 k → at ≡ k → 0 < length pieces → at ≡ get_or pieces 0 0
first_read pieces [] k at e f g l = absurd (omega (arith, l, ap length e))
first_read pieces (x ∷ xs) k at e f g l = g ∙ f ∙ ap (λ (ps : List ℕ). get_or ps 0 0) (sym e)

pub value_with-requires-clause-known : goal.value_with-requires-clause-known
value_with-requires-clause-known c =
    let here = is_here c.self.inside c.args.self.now c.args.proc c.args.group c.outline_at-outline.result.now c.self.invariant c.self.view_is c.outline_at-outline.ensures c.requires.exists in
    let p = procedure_of (plan c.self.inside) c.args.proc in
    let pieces = (group_of (plan c.self.inside) c.args.proc c.args.group).pieces in
    let P : List ℕ → Type 0 = λ ns. AllByRecursion (λ n. n < 1032) ns in
    subst P (sym (c.deref.ensures.value ∙ here.names)) (all_weaker (λ n. n < p.names) (λ n. n < 1032) (λ n l. omega (arith, l, here.sized.few_names)) (inputs_in p pieces) (inputs_known p pieces here.sized))

pub value_with-requires-clause-values : goal.value_with-requires-clause-values
value_with-requires-clause-values c =
    let here = is_here c.self.inside c.args.self.now c.args.proc c.args.group c.outline_at-outline.result.now c.self.invariant c.self.view_is c.outline_at-outline.ensures c.requires.exists in
    let p = procedure_of (plan c.self.inside) c.args.proc in
    let names = inputs_in p (group_of (plan c.self.inside) c.args.proc c.args.group).pieces in
    ap length c.as_slice-2.ensures ∙ c.requires.inputs ∙ ap (λ q. length (inputs_of q c.args.proc c.args.group)) (sym c.self.view_is)
    ∙ length-map names (source_in p (groups_of (plan c.self.inside) c.args.proc)) ∙ sym (ap length (c.deref.ensures.value ∙ here.names))

pub index-first-requires : goal.index-first-requires
index-first-requires c =
    let here = is_here c.self.inside c.args.self.now c.args.proc c.args.group c.outline_at-outline.result.now c.self.invariant c.self.view_is c.outline_at-outline.ensures c.requires.exists in
    omega (arith, here.part.some, ap length here.same)

pub index-requires : goal.index-requires
index-requires c =
    let here = is_here c.self.inside c.args.self.now c.args.proc c.args.group c.outline_at-outline.result.now c.self.invariant c.self.view_is c.outline_at-outline.ensures c.requires.exists in
    let pieces = (group_of (plan c.self.inside) c.args.proc c.args.group).pieces in
    let first = first_read pieces c.outline_at-outline.result.now.pieces.items c.index-first.result.now c.from-2.result here.same c.index-first.ensures c.from-2.ensures here.part.some in
    let below = all_at (λ x. x < length (procedure_of (plan c.self.inside) c.args.proc).pieces) pieces 0 0 here.part.below here.part.some in
    let procedure = lent c.procedures.result.now c.self.inside.workload.procedures c.args.proc c.from.result c.index-procedures-from.result c.procedures.ensures.value c.from.ensures here.there c.index-procedures-from.is in
    omega (arith, first, below, ap (λ q. length q.pieces) procedure, length-map c.index-procedures-from.result.pieces.items view.piece)

pub returns : goal.returns
returns c =
    let here = is_here c.self.inside c.args.self.now c.args.proc c.args.group c.outline_at-outline.result.now c.self.invariant c.self.view_is c.outline_at-outline.ensures c.requires.exists in
    let p = procedure_of (plan c.self.inside) c.args.proc in
    let pieces = (group_of (plan c.self.inside) c.args.proc c.args.group).pieces in
    let first = first_read pieces c.outline_at-outline.result.now.pieces.items c.index-first.result.now c.from-2.result here.same c.index-first.ensures c.from-2.ensures here.part.some in
    let below = all_at (λ x. x < length p.pieces) pieces 0 0 here.part.below here.part.some in
    let procedure = lent c.procedures.result.now c.self.inside.workload.procedures c.args.proc c.from.result c.index-procedures-from.result c.procedures.ensures.value c.from.ensures here.there c.index-procedures-from.is in
    let within : c.from-2.result < length c.index-procedures-from.result.pieces.items =
    omega (arith, first, below, ap (λ q. length q.pieces) procedure, length-map c.index-procedures-from.result.pieces.items view.piece) in
    let read : piece_at p (get_or pieces 0 0) ≡ view.piece c.index.result.now =
    ap (λ k. piece_at p k) (sym first) ∙ ap (λ q. piece_at q c.from-2.result) procedure ∙ read-map view.piece c.index-procedures-from.result.pieces.items c.from-2.result c.index.result.now no_piece within c.index.ensures in
    let fits : FitsSigned w64 c.value_with.result = search rules in
    to_z-of_z w64 c.value_with.result fits
    ∙ placed p pieces c.as_slice.result.now c.as_slice-2.result.now c.deref.result.now (view.expression c.index.result.now.place) c.value_with.result here.sized
    (ap length c.as_slice.ensures ∙ c.requires.args ∙ ap (λ q. (procedure_of q c.args.proc).arguments) (sym c.self.view_is)) (c.deref.ensures.value ∙ here.names) c.value_with.ensures
    (ap (λ q. q.place) (sym read) ∙ ap (λ q. q.place) (sym (first_place p pieces here.part.some)))
    ∙ ap (λ xs. place_in p pieces xs c.as_slice-2.result.now) c.as_slice.ensures ∙ ap (λ xs. place_in p pieces c.args.known.now.args xs) c.as_slice-2.ensures
    ∙ ap (λ q. group_place q c.args.proc c.args.group c.args.known.now.args c.args.known.now.inputs) c.self.view_is
