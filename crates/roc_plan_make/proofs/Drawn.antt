-- What is kept of groups, one after the other
use Rattle.std.proofs.Common.{◌≡◌, ◌∙◌, ℕ, zero, suc, ◌+◌, ◌<◌, ◌≤◌, Bool, List, [], ◌∷◌, ◌++◌, length, map, Some, if◌then◌else◌, get_or, slice_get, refl, sym, ap, subst, ◌⊎◌, inl, inr, arith, length-append}
use Rattle.std.proofs.lemmas.Bool.{cases_eq}
use Rattle.std.proofs.lemmas.List.{length-map, map-append}
use Rattle.std.specs.List.{AllByRecursion, list_any}
use Rattle.roc_program.specs.LookUps.{no_procedure}
use Rattle.roc_program.specs.Program.{Procedure, Workload}
use Rattle.roc_program.specs.declared.piece_id.PieceId.{PieceId}
use Rattle.roc_merge_groups.specs.Groups.{piece_numbered, groups_in, group_at}
use Rattle.roc_merge_groups.specs.Parts.{IsPart}
use Rattle.roc_plan.specs.declared.group.Class.TheVariants.{Immediate, Deferrable}
use Rattle.roc_plan.specs.declared.outline.Outline.{Outline}
use Rattle.roc_plan.specs.Groups.{bound_in}
use Rattle.roc_plan.specs.Sized.{IsSized}
use Rattle.roc_plan_make.specs.Inner.Built.{IsDrawn, AreDrawn, AreAllDrawn}
use Rattle.roc_plan_make.proofs.Few.{few_names_of}

pushed_at : {A : Type 0} (xs : List A) (x : A) (k : ℕ) (o : A) → slice_get (xs ++ x ∷ []) k ≡ Some o → (slice_get xs k ≡ Some o) ⊎ ((k ≡ length xs) × (o ≡ x))
pushed_at [] x zero o e = inr (refl, cc)
pushed_at [] x (suc k) o e = inl e
pushed_at (y ∷ ys) x zero o e = inl e
pushed_at (y ∷ ys) x (suc k) o e = elim (pushed_at ys x k o e) [ inl h ↦ inl h | inr h ↦ inr (ap suc h.0, h.1) ]

read_front : {A : Type 0} (xs ys : List A) (i : ℕ) (d : A) → i < length xs → get_or (xs ++ ys) i d ≡ get_or xs i d
read_front [] ys i d l = absurd (omega arith)
read_front (x ∷ xs) ys zero d l = refl
read_front (x ∷ xs) ys (suc i) d l = read_front xs ys i d (omega arith)

read_last : {A : Type 0} (xs : List A) (x d : A) → get_or (xs ++ x ∷ []) (length xs) d ≡ x
read_last [] x d = refl
read_last (y ∷ ys) x d = read_last ys x d

pub drawn_more : (p : Procedure) (is_immediate : ℕ → Bool) (groups : List (List ℕ)) (row next : List Outline) (o : Outline) (n : ℕ) → AreDrawn p is_immediate groups row n → next ≡ row ++ o ∷ []
    → IsDrawn p (map (bound_in p) groups) (if list_any is_immediate (group_at groups n) then Immediate else Deferrable) (group_at groups n) o → AreDrawn p is_immediate groups next (n + 1)
drawn_more p is_immediate groups row next o n drawn e one = record {
  count = omega (arith, ap length e, length-append row (o ∷ []), drawn.count);
  each = λ k q at. elim (pushed_at row o k q (ap (λ (r : List Outline). slice_get r k) (sym e) ∙ at)) [
    | inl h ↦ drawn.each k q h
    | inr h ↦ (let P : ℕ → Outline → Type 0 = λ m u. IsDrawn p (map (bound_in p) groups) (if list_any is_immediate (group_at groups m) then Immediate else Deferrable) (group_at groups m) u in
        subst (λ u. P k u) (sym h.1) (subst (λ m. P m o) (sym (h.0 ∙ drawn.count)) one))
  ];
}

pub short_bounds : (p : Procedure) (groups : List (List ℕ)) → IsSized p → AllByRecursion (IsPart (length p.pieces)) groups → AllByRecursion (λ row. length row ≤ 1024) (map (bound_in p) groups)
short_bounds p [] is parts = tt
short_bounds p (g ∷ groups) is parts = (few_names_of p g is parts.0, short_bounds p groups is parts.1)

-- the same of procedures
module _ (program : Workload) (is_immediate : PieceId → Bool) (groups : List (List (List ℕ))) where
  abbrev pub DrawnAt : ℕ → List Outline → Type 0
  DrawnAt proc row = AreDrawn (get_or program.procedures proc no_procedure) (λ x. is_immediate (piece_numbered proc x)) (groups_in groups proc) row (length (groups_in groups proc))

  pub all_more : {R : Type 0} (items : R → List Outline) (rows next : List R) (row : R) (n : ℕ)
      → (length rows ≡ n) × ((proc : ℕ) → proc < n → DrawnAt proc (get_or (map items rows) proc [])) → next ≡ rows ++ row ∷ [] → DrawnAt n (items row)
      → (length next ≡ n + 1) × ((proc : ℕ) → proc < n + 1 → DrawnAt proc (get_or (map items next) proc []))
  all_more {R = R} items rows next row n so_far e one =
      let long : length rows ≡ n = so_far.0 in
      let same : map items next ≡ map items rows ++ items row ∷ [] = ap (map items) e ∙ map-append items rows (row ∷ []) in (
        omega (arith, ap length e, length-append rows (row ∷ []), long),
        λ proc l. elim (cases_eq proc n) [
          | inl is ↦ (let at : get_or (map items next) proc [] ≡ items row =
              ap (λ (rs : List (List Outline)). get_or rs proc []) same ∙ ap (λ k. get_or (map items rows ++ items row ∷ []) k []) (is ∙ sym long ∙ sym (length-map rows items)) ∙ read_last (map items rows) (items row) [] in
              subst (DrawnAt proc) (sym at) (subst (λ k. DrawnAt k (items row)) (sym is) one))
          | inr other ↦ (let at : get_or (map items next) proc [] ≡ get_or (map items rows) proc [] =
              ap (λ (rs : List (List Outline)). get_or rs proc []) same ∙ read_front (map items rows) (items row ∷ []) proc [] (omega (arith, l, other, long, length-map rows items)) in
              subst (DrawnAt proc) (sym at) (so_far.1 proc (omega arith)))
        ],
      )

  pub all_drawn : {R : Type 0} (items : R → List Outline) (rows : List R) (n : ℕ) → (length rows ≡ n) × ((proc : ℕ) → proc < n → DrawnAt proc (get_or (map items rows) proc [])) → n ≡ length program.procedures
      → AreAllDrawn program is_immediate groups (map items rows)
  all_drawn items rows n so_far e = record {
    procedures = length-map rows items ∙ so_far.0 ∙ e;
    each = λ proc l. so_far.1 proc (subst (λ m. proc < m) (sym e) l);
  }
