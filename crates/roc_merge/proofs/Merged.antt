-- The merged groups of procedures, one after another
use Rattle.std.proofs.Common.{◌≡◌, ℕ, ◌+◌, ◌<◌, Bool, List, [], ◌∷◌, ◌++◌, length, get_or, map, sym, ap, subst, ◌∙◌, inl, inr, arith, length-append}
use Rattle.std.proofs.lemmas.Bool.{cases_eq}
use Rattle.std.proofs.lemmas.List.{get_or_append_left, map-append}
use Rattle.std.proofs.Math.Seq.{get_or-append_seam}
use Rattle.roc_program.specs.Program.{Workload}
use Rattle.roc_program.specs.declared.piece_id.PieceId.{PieceId}
use Rattle.roc_merge_groups.specs.Grouping.{IsMergedIn, IsMerged}

-- those of the first n procedures
pub record AreMerged (program : Workload) (is_immediate : PieceId → Bool) (rows : List (List (List ℕ))) (n : ℕ) : Type 0 where
  pub count : length rows ≡ n
  pub each : (k : ℕ) → k < n → IsMergedIn program is_immediate k (get_or rows k [])

pub merged_more : (program : Workload) (is_immediate : PieceId → Bool) (rows all : List (List (List ℕ))) (row : List (List ℕ)) (n : ℕ) → AreMerged program is_immediate rows n
    → all ≡ rows ++ row ∷ [] → IsMergedIn program is_immediate n row → AreMerged program is_immediate all (n + 1)
merged_more program is_immediate rows all row n are e this =
    let counted : length rows ≡ n = are.count in
    let here : get_or all n [] ≡ row = ap (λ (xs : List (List (List ℕ))). get_or xs n []) e ∙ ap (λ k. get_or (rows ++ row ∷ []) k []) (sym counted) ∙ get_or-append_seam rows row [] [] in
    record {
      count = ap (λ (xs : List (List (List ℕ))). length xs) e ∙ omega (arith, length-append rows (row ∷ []));
      each = λ k l. elim (cases_eq k n) [
        | inl same ↦ (let is : IsMergedIn program is_immediate n (get_or all n []) = subst (IsMergedIn program is_immediate n) (sym here) this in
            subst (λ m. IsMergedIn program is_immediate m (get_or all m [])) (sym same) is)
        | inr apart ↦ (let kept : get_or all k [] ≡ get_or rows k [] = ap (λ (xs : List (List (List ℕ))). get_or xs k []) e ∙ get_or_append_left rows (row ∷ []) [] k (omega arith) in
            subst (IsMergedIn program is_immediate k) (sym kept) (are.each k (omega arith)))
      ];
    }

-- one more row was pushed
pub row_pushed : {R : Type 0} (program : Workload) (is_immediate : PieceId → Bool) (seen : R → List (List ℕ)) (rows all : List R) (row : R) (n : ℕ) → AreMerged program is_immediate (map seen rows) n
    → all ≡ rows ++ row ∷ [] → IsMergedIn program is_immediate n (seen row) → AreMerged program is_immediate (map seen all) (n + 1)
row_pushed program is_immediate seen rows all row n are e this =
    merged_more program is_immediate (map seen rows) (map seen all) (seen row) n are (ap (map seen) e ∙ map-append seen rows (row ∷ [])) this

pub all_merged : (program : Workload) (is_immediate : PieceId → Bool) (rows groups : List (List (List ℕ))) (n : ℕ) → AreMerged program is_immediate rows n → n ≡ length program.procedures
    → groups ≡ rows → IsMerged program is_immediate groups
all_merged program is_immediate rows groups n are e same =
    let P : List (List (List ℕ)) → Type 0 = IsMerged program is_immediate in
    subst P (sym same) (record { procedures = are.count ∙ e; each = λ proc below. are.each proc (subst (λ k. proc < k) (sym e) below) })
