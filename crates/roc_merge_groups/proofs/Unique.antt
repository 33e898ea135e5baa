-- One grouping at most is the merged one
use Rattle.std.proofs.Common.{◌≡◌, ℕ, ◌<◌, Bool, List, length, sym, subst, ◌∙◌, inl, inr}
use Rattle.std.proofs.lemmas.Bool.{cases_eq}
use Rattle.std.specs.Bool.{nat_lt}
use Rattle.roc_sequence.specs.Lists.{Has}
use Rattle.roc_sequence.specs.Rising.{IsRising}
use Rattle.roc_sequence.proofs.Holds.{all_has}
use Rattle.roc_program.specs.Program.{Workload}
use Rattle.roc_program.specs.Pieces.{pieces_in}
use Rattle.roc_program.specs.declared.piece_id.PieceId.{PieceId}
use Rattle.roc_merge_groups.specs.Groups.{groups_in, first_piece}
use Rattle.roc_merge_groups.specs.Grouping.{AreTogether, IsGrouping, IsMergedIn, IsMerged}
use Rattle.roc_merge_groups.proofs.Elements.{has_at_place, rising_same, numbers_one_way, same_at_each}

module _ (count : ℕ) (gs hs : List (List ℕ)) (one : IsGrouping count gs) (other : IsGrouping count hs)
    (forth : (x y : ℕ) → AreTogether gs x y → AreTogether hs x y) (back : (x y : ℕ) → AreTogether hs x y → AreTogether gs x y) where
  -- each group of the one is a group of the other
  group_of_both : (g : List ℕ) → Has g gs → Has g hs
  group_of_both g is =
      let x : ℕ = first_piece g in
      let has : Has x g = has_at_place g 0 0 (all_has (λ k. 0 < length k) g gs one.some is) in
      let t : AreTogether hs x x = forth x x (record { group = g; is = is; one = has; other = has }) in
      let same : g ≡ t.group = rising_same nat_lt numbers_one_way g t.group (all_has (IsRising nat_lt) g gs one.rising is) (all_has (IsRising nat_lt) t.group hs other.rising t.is)
      (λ y h. let u = forth x y (record { group = g; is = is; one = has; other = h }) in subst (λ k. Has y k) (other.once u.group t.group x u.is t.is u.one t.one) u.other)
      (λ y h. let u = back x y (record { group = t.group; is = t.is; one = t.one; other = h }) in subst (λ k. Has y k) (one.once u.group g x u.is is u.one has) u.other) in
      subst (λ k. Has k hs) (sym same) t.is

pub same_groups : (count : ℕ) (gs hs : List (List ℕ)) → IsGrouping count gs → IsGrouping count hs
    → ((x y : ℕ) → AreTogether gs x y → AreTogether hs x y) → ((x y : ℕ) → AreTogether hs x y → AreTogether gs x y) → gs ≡ hs
same_groups count gs hs one other forth back =
    rising_same (λ g h. nat_lt (first_piece g) (first_piece h)) (λ g h. numbers_one_way (first_piece g) (first_piece h)) gs hs one.numbered other.numbered
    (group_of_both count gs hs one other forth back) (group_of_both count hs gs other one back forth)

module _ (program : Workload) (is_immediate : PieceId → Bool) where
  also_together : (proc : ℕ) (gs hs : List (List ℕ)) → IsMergedIn program is_immediate proc gs → IsMergedIn program is_immediate proc hs
      → (x y : ℕ) → AreTogether gs x y → AreTogether hs x y
  also_together proc gs hs one other x y t =
      elim (cases_eq x y) [
        | inl e ↦ (let r : AreTogether hs x x = (other.grouping.whole x).0 ((one.grouping.whole x).1 (record { group = t.group; is = t.is; one = t.one; other = t.one })) in subst (λ z. AreTogether hs x z) e r)
        | inr n ↦ (let c = one.alone x y n t in other.together x y c.0 c.1)
      ]

  pub merged_once : (groups others : List (List (List ℕ))) → IsMerged program is_immediate groups → IsMerged program is_immediate others → groups ≡ others
  merged_once groups others one other =
      same_at_each groups others _ (one.procedures ∙ sym other.procedures)
      (λ proc l.
      let below : proc < length program.procedures = subst (λ n. proc < n) one.procedures l in
      let m = one.each proc below in
      let n = other.each proc below in
      same_groups (length (pieces_in program proc)) (groups_in groups proc) (groups_in others proc) m.grouping n.grouping
      (also_together proc (groups_in groups proc) (groups_in others proc) m n) (also_together proc (groups_in others proc) (groups_in groups proc) n m))
