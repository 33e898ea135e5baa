-- What is kept of accepted groups is what the plan says of them
use Rattle.std.proofs.Common.{◌≡◌, ◌∙◌, ℕ, zero, suc, ◌<◌, ◌≤◌, Bool, true, false, ◌==◌, List, [], ◌∷◌, length, map, Some, if◌then◌else◌, get_or, slice_get, refl, sym, ap, subst, arith}
use Rattle.std.proofs.lemmas.List.{length-map, get_or-map}
use Rattle.std.proofs.lemmas.List.FromFn.{length-map-range_with_len, get_or-map-range_with_len}
use Rattle.std.specs.Prelude.{Vec}
use Rattle.std.specs.List.{AllByRecursion, list_any, position_or_len, range_with_len}
use Rattle.std.specs.declared.alloc.Global.{Global}
use Rattle.roc_lang.specs.Grammar.{standard}
use Rattle.roc_program.specs.LookUps.{no_procedure}
use Rattle.roc_program.specs.Names.{has_name}
use Rattle.roc_program.specs.Program.{Workload, Procedure}
use Rattle.roc_program.specs.WellFormed.{IsProgram}
use Rattle.roc_program.specs.declared.piece_id.PieceId.{PieceId}
use Rattle.roc_program.proofs.Firsts.{position_or_len-map}
use Rattle.roc_program.proofs.Ranges.{map_map}
use Rattle.roc_merge_groups.specs.Groups.{piece_numbered, groups_in, group_at}
use Rattle.roc_merge_groups.specs.Accepted.{IsAcceptedGrouping}
use Rattle.roc_merge_groups.proofs.Elements.{same_at_each}
use Rattle.roc_merge_accept.proofs.Tested.{few_groups_in}
use Rattle.roc_plan.specs.declared.group.Class.{Class}
use Rattle.roc_plan.specs.declared.group.Class.TheVariants.{Immediate, Deferrable}
use Rattle.roc_plan.specs.declared.group.Input.{Input}
use Rattle.roc_plan.specs.declared.outline.Outline.{Outline}
use Rattle.roc_plan.specs.Groups.{Group, Plan, no_group, bound_in, inputs_in, source_in, procedure_of, groups_of, group_of, outs_in}
use Rattle.roc_plan.specs.Accepted.{group_with, grouped_plan, IsAccepted}
use Rattle.roc_plan_make.specs.Inner.Built.{source_by, AreDrawn, AreAllDrawn}
use Rattle.roc_plan.specs.Outlines.{is_immediate_class, group, outlined_plan, IsOutline, AreOutlines}
use Rattle.roc_plan_make.proofs.Grouped.{pieces_again, row_at, plan_accepted}
use Rattle.roc_plan.proofs.Rows.{row_element, read_any}

there : {A : Type 0} (xs : List A) (k : ℕ) → k < length xs → (x : A) × (slice_get xs k ≡ Some x)
there [] k l = absurd (omega arith)
there (x ∷ xs) zero l = (x, refl)
there (x ∷ xs) (suc k) l = there xs k (omega arith)

read_at : {A B : Type 0} (f : A → B) (xs : List A) (k : ℕ) (x : A) (d : B) → slice_get xs k ≡ Some x → get_or (map f xs) k d ≡ f x
read_at f [] k x d e = cc
read_at f (y ∷ ys) zero x d e = cc
read_at f (y ∷ ys) (suc k) x d e = read_at f ys k x d e

class_again : (b : Bool) (c : Class) → c ≡ (if b then Immediate else Deferrable) → is_immediate_class c ≡ b
class_again true c e = ap is_immediate_class e
class_again false c e = ap is_immediate_class e

class_told : (c : Class) → c ≡ (if is_immediate_class c then Immediate else Deferrable)
class_told Immediate = refl
class_told Deferrable = refl

row_there : (rows : List (List Outline)) (i j : ℕ) (o : Outline) → slice_get (get_or rows i []) j ≡ Some o → i < length rows
row_there [] i j o e = cc
row_there (r ∷ rows) zero j o e = omega arith
row_there (r ∷ rows) (suc i) j o e = let l = row_there rows i j o e in omega arith

few_each : {R X : Type 0} (items : R → List X) (rows : List R) → ((i : ℕ) → i < length rows → length (get_or (map items rows) i []) ≤ 16) → AllByRecursion (λ row. length (items row) ≤ standard.pieces) rows
few_each items [] h = tt
few_each items (r ∷ rows) h = (h 0 (omega arith), few_each items rows (λ i l. h (suc i) (omega arith)))

map_same : {A B : Type 0} (f g : A → B) → ((a : A) → f a ≡ g a) → (xs : List A) → map f xs ≡ map g xs
map_same f g e [] = refl
map_same f g e (x ∷ xs) = λ i. e x i ∷ map_same f g e xs i

-- where a name comes from, by the groups or by what they bind
source_same : (procedure : Procedure) (gs : List Group) (n : ℕ) → source_by (map (λ g. bound_in procedure g.pieces) gs) n ≡ source_in procedure gs n
source_same procedure gs n =
    let names : Group → List ℕ = λ g. bound_in procedure g.pieces in
    let at : position_or_len (λ row. has_name row n) (map (λ g. bound_in procedure g.pieces) gs) ≡ position_or_len (λ g. has_name (bound_in procedure g.pieces) n) gs = position_or_len-map (λ row. has_name row n) (λ g. bound_in procedure g.pieces) gs in
    let source : ℕ → List ℕ → Input = λ k row. record { group = k; at = position_or_len (λ m. m == n) row } in
    ap (λ k. source k (get_or (map (λ g. bound_in procedure g.pieces) gs) k [])) at
    ∙ ap (source (position_or_len (λ g. has_name (bound_in procedure g.pieces) n) gs)) (read_any (λ g. bound_in procedure g.pieces) gs (position_or_len (λ g. has_name (bound_in procedure g.pieces) n) gs) no_group)

-- ---- the plan is that of the groups

row_same : (p : Procedure) (is_immediate : PieceId → Bool) (proc : ℕ) (gs : List (List ℕ)) (row : List Outline)
    → AreDrawn p (λ x. is_immediate (piece_numbered proc x)) gs row (length gs) → map group row ≡ map (group_with is_immediate proc) gs
row_same p is_immediate proc gs row drawn =
    same_at_each (map group row) (map (group_with is_immediate proc) gs) no_group (length-map row group ∙ drawn.count ∙ sym (length-map gs (group_with is_immediate proc)))
    (λ k l. let below : k < length row = subst (λ n. k < n) (length-map row group) l in
    let o = there row k below in
    let is = drawn.each k o.0 o.1 in
    let made : List ℕ → Bool → Group = λ pieces b. record { pieces = pieces; is_immediate = b } in
    let b = list_any (λ x. is_immediate (piece_numbered proc x)) (group_at gs k) in
    read_at group row k o.0 no_group o.1 ∙ ap (λ ps. made ps (is_immediate_class o.0.class)) is.is_of ∙ ap (made (group_at gs k)) (class_again b o.0.class is.is_class)
    ∙ sym (get_or-map (group_with is_immediate proc) gs k [] no_group (subst (λ n. k < n) drawn.count below)))

module _ (program : Workload) (outlines : List (Vec Outline Global)) (is_immediate : PieceId → Bool) (groups : List (List (List ℕ))) (drawn : AreAllDrawn program is_immediate groups (map (λ row. row.items) outlines)) where
  rows : List (List Outline)
  rows = map (λ row. row.items) outlines

  in_rows : map (λ row. map group row.items) outlines ≡ map (map group) (map (λ row. row.items) outlines)
  in_rows = sym (map_map (map group) (λ row. row.items) outlines)

  count : length (map (λ row. map group row.items) outlines) ≡ length program.procedures
  count = length-map outlines (λ row. map group row.items) ∙ sym (length-map outlines (λ row. row.items)) ∙ drawn.procedures

  row_is : (proc : ℕ) → proc < length program.procedures → groups_of (outlined_plan program outlines) proc ≡ map group (get_or (map (λ row. row.items) outlines) proc [])
  row_is proc l = ap (λ (gs : List (List Group)). get_or gs proc []) in_rows ∙ get_or-map (map group) (map (λ row. row.items) outlines) proc [] [] (omega (arith, l, drawn.procedures))

  pub plan_same : outlined_plan program outlines ≡ grouped_plan program is_immediate groups
  plan_same =
      let f : List (List Group) → Plan = λ gs. record { program = program; groups = gs } in
      let made : ℕ → List Group = λ proc. map (group_with is_immediate proc) (groups_in groups proc) in
      ap f (same_at_each (outlined_plan program outlines).groups (map made (range_with_len 0 (length program.procedures))) [] (count ∙ sym (length-map-range_with_len made 0 (length program.procedures)))
      (λ i l. let below : i < length program.procedures = subst (λ n. i < n) count l in
      row_is i below
      ∙ row_same (get_or program.procedures i no_procedure) is_immediate i (groups_in groups i) (get_or (map (λ row. row.items) outlines) i []) (drawn.each i below)
      ∙ sym (get_or-map-range_with_len made 0 (length program.procedures) i i [] below (omega arith))))

  -- ---- what is kept

  module _ (accepted : IsAcceptedGrouping program is_immediate groups) (well : IsProgram program) where
    few_in : (proc : ℕ) → proc < length program.procedures → length (get_or (map (λ row. row.items) outlines) proc []) ≤ 16
    few_in proc l =
        let few = few_groups_in program proc (groups_in groups proc) well l (accepted.each proc l).grouping in
        let count = (drawn.each proc l).count in
        omega arith

    few_rows : AllByRecursion (λ row. length row.items ≤ standard.pieces) outlines
    few_rows = few_each (λ row. row.items) outlines (λ proc l. few_in proc (omega (arith, l, drawn.procedures, length-map outlines (λ row. row.items))))

    same_groups : (proc : ℕ) → proc < length program.procedures → map (λ g. g.pieces) (groups_of (outlined_plan program outlines) proc) ≡ groups_in groups proc
    same_groups proc l =
        ap (map (λ g. g.pieces)) (ap (λ grouped. groups_of grouped proc) plan_same ∙ row_at program is_immediate groups proc l) ∙ pieces_again is_immediate proc (groups_in groups proc)

    kept_each : (proc g : ℕ) (o : Outline) → slice_get (get_or (map (λ row. row.items) outlines) proc []) g ≡ Some o → IsOutline (outlined_plan program outlines) proc g o
    kept_each proc g o at =
        let l : proc < length program.procedures = subst (λ n. proc < n) drawn.procedures (row_there (map (λ row. row.items) outlines) proc g o at) in
        let is = (drawn.each proc l).each g o at in
        let here : group_of (outlined_plan program outlines) proc g ≡ group o = row_element (λ row. row.items) group outlines proc g o no_group at in
        let procedure = procedure_of (outlined_plan program outlines) proc in
        let pieces : o.pieces.items ≡ (group_of (outlined_plan program outlines) proc g).pieces = ap (λ (h : Group). h.pieces) (sym here) in
        let ours : group_at (groups_in groups proc) g ≡ (group_of (outlined_plan program outlines) proc g).pieces = sym is.is_of ∙ pieces in
        let bounds : map (bound_in procedure) (groups_in groups proc) ≡ map (λ h. bound_in procedure h.pieces) (groups_of (outlined_plan program outlines) proc) =
        ap (map (bound_in procedure)) (sym (same_groups proc l)) ∙ map_map (bound_in procedure) (λ h. h.pieces) (groups_of (outlined_plan program outlines) proc) in
        record {
          class = class_told o.class ∙ ap (λ (h : Group). if h.is_immediate then Immediate else Deferrable) (sym here);
          bound = is.binds ∙ ap (λ ps. length (bound_in procedure ps)) ours;
          names = is.takes ∙ ap (inputs_in procedure) ours;
          inputs =
              is.sources ∙ ap (λ bs. map (source_by bs) (inputs_in procedure (group_at (groups_in groups proc) g))) bounds
              ∙ map_same (source_by (map (λ h. bound_in procedure h.pieces) (groups_of (outlined_plan program outlines) proc))) (source_in procedure (groups_of (outlined_plan program outlines) proc)) (source_same procedure (groups_of (outlined_plan program outlines) proc)) (inputs_in procedure (group_at (groups_in groups proc) g))
              ∙ ap (λ ps. map (source_in procedure (groups_of (outlined_plan program outlines) proc)) (inputs_in procedure ps)) ours;
          outs = is.adds ∙ ap (outs_in procedure) ours;
        }

    pub kept : AreOutlines program outlines
    kept = record {
      rows = omega (arith, drawn.procedures, length-map outlines (λ row. row.items));
      few = few_rows;
      each = kept_each;
      accepted = subst IsAccepted (sym plan_same) (plan_accepted program is_immediate groups accepted well);
    }
