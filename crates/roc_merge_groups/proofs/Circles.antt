-- Merged groups do not depend on each other in a circle
use Rattle.std.proofs.Common.{◌≡◌, ◌≢◌, ℕ, ◌≤◌, Bool, true, List, refl, sym, subst, ◌∙◌, ◌⊎◌, inl, inr, arith}
use Rattle.std.proofs.lemmas.Bool.{cases_eq}
use Rattle.std.specs.List.{list_any}
use Rattle.roc_sequence.specs.Lists.{Has}
use Rattle.roc_sequence.proofs.Holds.{any_has}
use Rattle.roc_program.specs.Program.{Workload}
use Rattle.roc_program.specs.WellFormed.{IsProgram}
use Rattle.roc_program.specs.declared.piece_id.PieceId.{PieceId}
use Rattle.roc_merge_groups.specs.Groups.{group_at}
use Rattle.roc_merge_groups.specs.Flow.{feeds, Leads, directly, onward}
use Rattle.roc_merge_groups.specs.Grouping.{AreTogether, IsMergedIn}
use Rattle.roc_merge_groups.specs.Accepted.{group_feeds}
use Rattle.roc_merge_groups.proofs.Elements.{has_row, row_of_has}
use Rattle.roc_merge_groups.proofs.Forward.{rises}
use Rattle.roc_merge_groups.proofs.Cores.{In, Path, IsAhead, IsBehind, path_through, core_from_both}
use Rattle.roc_merge_groups.proofs.FusedClasses.{numbered_once}

module _ (program : Workload) (is_immediate : PieceId → Bool) (proc : ℕ) (groups : List (List ℕ)) (well : IsProgram program) (merged : IsMergedIn program is_immediate proc groups) where
  abbrev Core : ℕ → Type 0
  Core x = In program is_immediate proc x

  abbrev Flows : ℕ → ℕ → Type 0
  Flows x y = Path program is_immediate proc x y

  abbrev Ahead : ℕ → Type 0
  Ahead x = IsAhead program is_immediate proc x

  abbrev Behind : ℕ → Type 0
  Behind x = IsBehind program is_immediate proc x

  abbrev step : ℕ → ℕ → Bool
  step g h = group_feeds program proc groups g h

  abbrev Holds : ℕ → ℕ → Type 0
  Holds g x = Has x (group_at groups g)

  -- of two pieces of a group: they are one, or both are in the core
  one_or_core : (g x y : ℕ) → Holds g x → Holds g y → (x ≡ y) ⊎ (Core x × Core y)
  one_or_core g x y h k =
      elim (cases_eq x y) [
        | inl e ↦ inl e
        | inr n ↦ inr (merged.alone x y n (record { group = group_at groups g; is = has_row x groups g h; one = h; other = k }))
      ]

  core_ahead : (x : ℕ) → Core x → Ahead x
  core_ahead x is = record { core = x; is = is; path = inl refl }

  core_behind : (x : ℕ) → Core x → Behind x
  core_behind x is = record { core = x; is = is; path = inl refl }

  flows_ahead : (x y : ℕ) → Flows x y → Ahead y → Ahead x
  flows_ahead x y f a = record { core = a.core; is = a.is; path = path_through program is_immediate proc x y a.core f a.path }

  flows_behind : (x y : ℕ) → Flows x y → Behind x → Behind y
  flows_behind x y f b = record { core = b.core; is = b.is; path = path_through program is_immediate proc b.core x y b.path f }

  -- of a group: a piece of it leads to the core, is led to by it, is in it
  record GroupAhead (g : ℕ) : Type 0 where
    pub x : ℕ
    pub has : Holds g x
    pub is : Ahead x

  record GroupBehind (g : ℕ) : Type 0 where
    pub x : ℕ
    pub has : Holds g x
    pub is : Behind x

  record GroupCore (g : ℕ) : Type 0 where
    pub x : ℕ
    pub has : Holds g x
    pub is : Core x

  -- a path over groups is a path over pieces, or goes through the core
  record Way (g h : ℕ) : Type 0 where
    pub x : ℕ
    pub y : ℕ
    pub one : Holds g x
    pub other : Holds h y
    pub way : Flows x y ⊎ (Ahead x × Behind y)

  record Step (g h : ℕ) : Type 0 where
    pub x : ℕ
    pub y : ℕ
    pub one : Holds g x
    pub other : Holds h y
    pub flows : Leads (feeds program proc) x y

  step_of : (g h : ℕ) → step g h ≡ true → Step g h
  step_of g h t =
      let z = any_has (λ z. list_any (feeds program proc z) (group_at groups h)) (group_at groups g) t in
      let y = any_has (feeds program proc z.0) (group_at groups h) z.2 in
      record { x = z.0; y = y.0; one = z.1; other = y.1; flows = directly y.2 }

  way_on : (g b h : ℕ) → Way g b → Step b h → Way g h
  way_on g b h w s = record {
    x = w.x;
    y = s.y;
    one = w.one;
    other = s.other;
    way = elim (one_or_core b w.y s.x w.other s.one) [
      | inl e ↦ same e w.way
      | inr c ↦ inr (to_core c.0 w.way, flows_behind s.x s.y (inr s.flows) (core_behind s.x c.1))
    ];
  }
    where
      same : w.y ≡ s.x → Flows w.x w.y ⊎ (Ahead w.x × Behind w.y) → Flows w.x s.y ⊎ (Ahead w.x × Behind s.y)
      same e (inl f) = inl (path_through program is_immediate proc w.x s.x s.y (subst (λ k. Flows w.x k) e f) (inr s.flows))
      same e (inr a) = inr (a.0, flows_behind s.x s.y (inr s.flows) (subst Behind e a.1))

      to_core : Core w.y → Flows w.x w.y ⊎ (Ahead w.x × Behind w.y) → Ahead w.x
      to_core c (inl f) = flows_ahead w.x w.y f (core_ahead w.y c)
      to_core c (inr a) = a.0

  way_of : (g h : ℕ) → Leads step g h → Way g h
  way_of g _ (directly {to} t) = let s = step_of g to t in record { x = s.x; y = s.y; one = s.one; other = s.other; way = inl (inr s.flows) }
  way_of g _ (onward {by} {to} l t) = way_on g by to (way_of g by l) (step_of by to t)

  -- a group that leads to the core and is led to by it has a piece of the core
  core_of_both : (g : ℕ) → GroupAhead g → GroupBehind g → GroupCore g
  core_of_both g a b =
      elim (one_or_core g a.x b.x a.has b.has) [
        | inl e ↦ record { x = a.x; has = a.has; is = core_from_both program is_immediate proc a.x a.is (subst Behind (sym e) b.is) }
        | inr c ↦ record { x = a.x; has = a.has; is = c.0 }
      ]

  behind_on : (g h x y : ℕ) → Holds g x → Holds h y → Flows x y → GroupBehind g → GroupBehind h
  behind_on g h x y one other f b =
      elim (one_or_core g b.x x b.has one) [
        | inl e ↦ record { x = y; has = other; is = flows_behind x y f (subst Behind e b.is) }
        | inr c ↦ record { x = y; has = other; is = flows_behind x y f (core_behind x c.1) }
      ]

  ahead_on : (g h x y : ℕ) → Holds g x → Holds h y → Flows x y → GroupAhead h → GroupAhead g
  ahead_on g h x y one other f a =
      elim (one_or_core h a.x y a.has other) [
        | inl e ↦ record { x = x; has = one; is = flows_ahead x y f (subst Ahead e a.is) }
        | inr c ↦ record { x = x; has = one; is = flows_ahead x y f (core_ahead y c.1) }
      ]

  -- one group holds the core
  same_number : (g h x y : ℕ) → Holds g x → Holds h y → AreTogether groups x y → g ≡ h
  same_number g h x y one other t =
      let e = merged.grouping.once (group_at groups g) t.group x (has_row x groups g one) t.is one t.one in
      let f = merged.grouping.once (group_at groups h) t.group y (has_row y groups h other) t.is other t.other in
      numbered_once groups merged.grouping.numbered g h (row_of_has x groups g one) (row_of_has y groups h other) (e ∙ sym f)

  both_core : (g h : ℕ) → g ≢ h → GroupAhead g → GroupBehind g → GroupAhead h → GroupBehind h → ⊥
  both_core g h n a b c d =
      let k = core_of_both g a b in
      let l = core_of_both h c d in
      n (same_number g h k.x l.x k.has l.has (merged.together k.x l.x k.is l.is))

  -- paths over pieces, there and back
  there_and_back : (g h : ℕ) → g ≢ h → (x y : ℕ) → Holds g x → Holds h y → Flows x y → (v w : ℕ) → Holds h v → Holds g w → Flows v w → ⊥
  there_and_back g h n x y one other f v w third fourth k =
      elim (one_or_core g w x fourth one) [
        | inr c ↦ (let b : GroupBehind g = record { x = x; has = one; is = core_behind x c.1 } in
            let a : GroupAhead g = record { x = x; has = one; is = core_ahead x c.1 } in
            both_core g h n a b (ahead_on h g v w third fourth k a) (behind_on g h x y one other f b))
        | inl e ↦ elim (one_or_core h y v other third) [
          | inr c ↦ (let b : GroupBehind h = record { x = y; has = other; is = core_behind y c.0 } in
              let a : GroupAhead h = record { x = y; has = other; is = core_ahead y c.0 } in
              both_core g h n (ahead_on g h x y one other f a) (behind_on h g v w third fourth k b) a b)
          | inl d ↦ (let l : x ≤ y = up x y f in let m : v ≤ w = up v w k in
              let same : x ≡ y = omega arith in
              n (same_number g h x y one other (record { group = group_at groups g; is = has_row x groups g one; one = one; other = subst (Holds g) same one })))
        ]
      ]
    where
      up : (x y : ℕ) → Flows x y → x ≤ y
      up x y (inl e) = omega arith
      up x y (inr l) = rises program well proc x y l

  pub no_circle : (g h : ℕ) → g ≢ h → Leads step g h → ¬ Leads step h g
  no_circle g h n l m = go (way_of g h l) (way_of h g m)
    where
      go : Way g h → Way h g → ⊥
      go w v = by w.way v.way
        where
          by : Flows w.x w.y ⊎ (Ahead w.x × Behind w.y) → Flows v.x v.y ⊎ (Ahead v.x × Behind v.y) → ⊥
          by (inl f) (inl k) = there_and_back g h n w.x w.y w.one w.other f v.x v.y v.one v.other k
          by (inl f) (inr k) =
              let a : GroupAhead h = record { x = v.x; has = v.one; is = k.0 } in
              let b : GroupBehind g = record { x = v.y; has = v.other; is = k.1 } in
              both_core g h n (ahead_on g h w.x w.y w.one w.other f a) b a (behind_on g h w.x w.y w.one w.other f b)
          by (inr f) (inl k) =
              let a : GroupAhead g = record { x = w.x; has = w.one; is = f.0 } in
              let b : GroupBehind h = record { x = w.y; has = w.other; is = f.1 } in
              both_core g h n a (behind_on h g v.x v.y v.one v.other k b) (ahead_on h g v.x v.y v.one v.other k a) b
          by (inr f) (inr k) =
              both_core g h n (record { x = w.x; has = w.one; is = f.0 }) (record { x = v.y; has = v.other; is = k.1 })
              (record { x = v.x; has = v.one; is = k.0 }) (record { x = w.y; has = w.other; is = f.1 })
