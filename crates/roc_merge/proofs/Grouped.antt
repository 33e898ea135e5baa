-- The groups that are built are the merged ones
use Rattle.std.proofs.Common.{◌≡◌, ◌≢◌, ◌↔◌, ℕ, zero, suc, ◌+◌, ◌<◌, ◌≤◌, Bool, true, false, cond, IsTrue, Result, Ok, Err, IfOk, List, [], ◌∷◌, ◌++◌, length, refl, sym, ap, subst, ◌∙◌, ◌⊎◌, inl, inr, arith}
use Rattle.std.proofs.lemmas.Bool.{cases_lt, false≢true, false_from_ne_true, or_from, ltb-true}
use Rattle.std.proofs.lemmas.Bool.Decides.{nat_tests}
use Rattle.std.proofs.lemmas.List.Folds.{list_any-append}
use Rattle.std.specs.Bool.{nat_lt}
use Rattle.std.specs.List.{AllByRecursion, filter, flat_map, list_any, range_with_len}
use Rattle.roc_sequence.specs.Lists.{Has}
use Rattle.roc_sequence.specs.Rising.{IsRising}
use Rattle.roc_sequence.proofs.Holds.{all_has, has_all, any_has, has_any}
use Rattle.roc_sequence.proofs.Members.{has_one, has_filter, from_has_filter, has_flat_map, from_has_flat_map}
use Rattle.roc_sequence.proofs.Ranges.{range_more}
use Rattle.roc_sequence.proofs.Rising.{rising_filter}
use Rattle.roc_program.specs.Program.{Workload}
use Rattle.roc_program.specs.Pieces.{pieces_in}
use Rattle.roc_program.specs.declared.piece_id.PieceId.{PieceId}
use Rattle.roc_merge_groups.specs.Groups.{first_piece}
use Rattle.roc_merge_groups.specs.Core.{InCore}
use Rattle.roc_merge_groups.specs.Grouping.{AreTogether, IsGrouping, IsMergedIn}
use Rattle.roc_merge_groups.proofs.Elements.{range_rising, has_range, from_has_range}
use Rattle.roc_merge.specs.Grouped.{group_from, grouped}
use Rattle.roc_merge.proofs.Flows.{core_there}

-- ---- numbers in a row

-- a test of the numbers below a bound
pub any_below : (p : ℕ → Bool) (n m : ℕ) → n < m → p n ≡ true → list_any p (range_with_len 0 m) ≡ true
any_below p n m l h = has_any p (range_with_len 0 m) n (has_range 0 m n (omega arith) (omega arith)) h

pub none_more : (p : ℕ → Bool) (n : ℕ) → list_any p (range_with_len 0 n) ≡ false → p n ≡ false → list_any p (range_with_len 0 (n + 1)) ≡ false
none_more p n h k =
    ap (list_any p) (range_more 0 n n (omega arith)) ∙ list_any-append p (range_with_len 0 n) (n ∷ [])
    ∙ or_from (list_any p (range_with_len 0 n)) (list_any p (n ∷ [])) h (or_from (p n) false k refl)

-- the first of rising numbers is the least
first_least : (xs : List ℕ) (x : ℕ) → IsRising nat_lt xs → Has x xs → first_piece xs ≤ x
first_least [] x r h = absurd h
first_least (y ∷ ys) x r (inl e) = omega arith
first_least (y ∷ ys) x r (inr h) = let l = ltb-true y x (all_has (λ z. nat_lt y z ≡ true) x ys r.0 h) in omega arith

first_has : (xs : List ℕ) (x : ℕ) → Has x xs → Has (first_piece xs) xs
first_has [] x h = absurd h
first_has (y ∷ ys) x h = inl refl

some_has : (xs : List ℕ) (x : ℕ) → Has x xs → 0 < length xs
some_has [] x h = absurd h
some_has (y ∷ ys) x h = omega arith

-- ---- the groups

module _ (core : ℕ → Bool) (count : ℕ) where
  abbrev cores : List ℕ
  cores = filter core (range_with_len 0 count)

  cores_rising : IsRising nat_lt cores
  cores_rising = rising_filter nat_lt core (range_with_len 0 count) (range_rising 0 count)

  in_cores : (x : ℕ) → x < count → core x ≡ true → Has x cores
  in_cores x l h = has_filter core x (range_with_len 0 count) (has_range 0 count x (omega arith) (omega arith)) h

  from_cores : (x : ℕ) → Has x cores → (x < count) × (core x ≡ true)
  from_cores x h =
      let r = from_has_filter core x (range_with_len 0 count) h in
      let l = (from_has_range 0 count x r.0).1 in
      (omega arith, r.1)

  -- the core's least piece is the one before which there is none
  first_core : (x : ℕ) → x < count → core x ≡ true → list_any core (range_with_len 0 x) ≡ false → first_piece cores ≡ x
  first_core x l h none =
      let has = in_cores x l h in
      let f = from_cores (first_piece cores) (first_has cores x has) in
      let up = first_least cores x cores_rising has in
      elim (cases_lt (first_piece cores) x) [
        | inl less ↦ absurd (false≢true (sym none ∙ has_any core (range_with_len 0 x) (first_piece cores) (has_range 0 x (first_piece cores) (omega arith) (omega arith)) f.1))
        | inr more ↦ omega arith
      ]

  none_before : (x : ℕ) → Has x cores → list_any core (range_with_len 0 (first_piece cores)) ≡ false
  none_before x has = false_from_ne_true (list_any core (range_with_len 0 (first_piece cores))) (λ h.
      let r = any_has core (range_with_len 0 (first_piece cores)) h in
      let l = (from_has_range 0 (first_piece cores) r.0 r.1).1 in
      let f = from_cores (first_piece cores) (first_has cores x has) in
      let m = f.0 in
      let up = first_least cores r.0 cores_rising (in_cores r.0 (omega arith) r.2) in
      absurd (omega arith))

  -- what a piece adds
  record IsAlone (x : ℕ) (g : List ℕ) : Type 0 where
    pub outside : core x ≡ false
    pub is : g ≡ x ∷ []

  record IsFirst (x : ℕ) (g : List ℕ) : Type 0 where
    pub inside : core x ≡ true
    pub none : list_any core (range_with_len 0 x) ≡ false
    pub is : g ≡ cores

  abbrev added : (b c : Bool) (x : ℕ) → List (List ℕ)
  added b c x = cond b (cond c [] (cores ∷ [])) ((x ∷ []) ∷ [])

  from_added : (b c : Bool) (x : ℕ) (g : List ℕ) → core x ≡ b → list_any core (range_with_len 0 x) ≡ c → Has g (added b c x) → IsAlone x g ⊎ IsFirst x g
  from_added true true x g e f h = absurd h
  from_added true false x g e f h = inr (record { inside = e; none = f; is = has_one g cores h })
  from_added false c x g e f h = inl (record { outside = e; is = has_one g (x ∷ []) h })

  from_group : (x : ℕ) (g : List ℕ) → Has g (group_from core count x) → IsAlone x g ⊎ IsFirst x g
  from_group x g h = from_added (core x) (list_any core (range_with_len 0 x)) x g refl refl h

  alone_in : (x : ℕ) → core x ≡ false → Has (x ∷ []) (group_from core count x)
  alone_in x e = subst (λ b. Has (x ∷ []) (added b (list_any core (range_with_len 0 x)) x)) (sym e) (inl refl)

  first_in : (x : ℕ) → core x ≡ true → list_any core (range_with_len 0 x) ≡ false → Has cores (group_from core count x)
  first_in x e f =
      subst (λ b. Has cores (added b (list_any core (range_with_len 0 x)) x)) (sym e) (subst (λ c. Has cores (added true c x)) (sym f) (inl refl))

  first_of_group : (x : ℕ) (g : List ℕ) → x < count → Has g (group_from core count x) → first_piece g ≡ x
  first_of_group x g l h = elim (from_group x g h) [
    | inl a ↦ ap first_piece a.is
    | inr f ↦ ap first_piece f.is ∙ first_core x l f.inside f.none
  ]

  -- ---- all of them

  in_grouped : (x : ℕ) (g : List ℕ) → x < count → Has g (group_from core count x) → Has g (grouped core count)
  in_grouped x g l h = has_flat_map (group_from core count) g x (range_with_len 0 count) (has_range 0 count x (omega arith) (omega arith)) h

  from_grouped : (g : List ℕ) → Has g (grouped core count) → (x : ℕ) × (x < count) × (IsAlone x g ⊎ IsFirst x g)
  from_grouped g h =
      let r = from_has_flat_map (group_from core count) g (range_with_len 0 count) h in
      let l = (from_has_range 0 count r.0 r.1).1 in
      (r.0, omega arith, from_group r.0 g r.2)

  core_group : (x : ℕ) → x < count → core x ≡ true → Has cores (grouped core count)
  core_group x l h =
      let has = in_cores x l h in
      let f = from_cores (first_piece cores) (first_has cores x has) in
      in_grouped (first_piece cores) cores f.0 (first_in (first_piece cores) f.1 (none_before x has))

  abbrev before : List ℕ → List ℕ → Bool
  before g h = nat_lt (first_piece g) (first_piece h)

  above : (a n b : ℕ) → b < a → a + n ≡ count → AllByRecursion (λ h. nat_lt b (first_piece h) ≡ true) (flat_map (group_from core count) (range_with_len a n))
  above a n b l e = has_all (λ h. nat_lt b (first_piece h) ≡ true) (flat_map (group_from core count) (range_with_len a n)) (λ h has.
      let r = from_has_flat_map (group_from core count) h (range_with_len a n) has in
      let m = from_has_range a n r.0 r.1 in
      let k = m.0 in
      let o = m.1 in
      let f = first_of_group r.0 h (omega arith) r.2 in
      less b (first_piece h) (omega arith))
    where
      less : (m n : ℕ) → m < n → nat_lt m n ≡ true
      less m n l = grind (arith, nat_tests)

  numbered_from : (a n : ℕ) → a + n ≡ count → IsRising before (flat_map (group_from core count) (range_with_len a n))
  numbered_from a zero e = tt
  numbered_from a (suc n) e =
      go (core a) (list_any core (range_with_len 0 a)) refl refl (numbered_from (a + 1) n (omega arith)) (above (a + 1) n a (omega arith) (omega arith)) (λ g h. first_of_group a g (omega arith) h)
    where
      go : (b c : Bool) → core a ≡ b → list_any core (range_with_len 0 a) ≡ c → IsRising before (flat_map (group_from core count) (range_with_len (a + 1) n))
          → AllByRecursion (λ h. nat_lt a (first_piece h) ≡ true) (flat_map (group_from core count) (range_with_len (a + 1) n))
          → ((g : List ℕ) → Has g (added b c a) → first_piece g ≡ a) → IsRising before (added b c a ++ flat_map (group_from core count) (range_with_len (a + 1) n))
      go true true e f r all first = r
      go true false e f r all first = (subst (λ k. AllByRecursion (λ h. nat_lt k (first_piece h) ≡ true) (flat_map (group_from core count) (range_with_len (a + 1) n))) (sym (first cores (inl refl))) all, r)
      go false c e f r all first = (all, r)

  pub is_grouping : IsGrouping count (grouped core count)
  is_grouping = record {
    some = has_all (λ g. 0 < length g) (grouped core count) (λ g h. let r = from_grouped g h in elim r.2 [
      | inl a ↦ subst (λ k. 0 < length k) (sym a.is) (some_has (r.0 ∷ []) r.0 (inl refl))
      | inr f ↦ subst (λ k. 0 < length k) (sym f.is) (some_has cores r.0 (in_cores r.0 r.1 f.inside))
    ]);
    rising = has_all (IsRising nat_lt) (grouped core count) (λ g h. let r = from_grouped g h in elim r.2 [
      | inl a ↦ subst (IsRising nat_lt) (sym a.is) (tt, tt)
      | inr f ↦ subst (IsRising nat_lt) (sym f.is) cores_rising
    ]);
    numbered = numbered_from 0 count (omega arith);
    whole = λ x. (λ l. forth x l (core x) refl, λ t. back x t.group t.is t.one);
    once = λ g h x i j k l. same g h x (from_grouped g i).0 (from_grouped h j).0 (from_grouped g i).2 (from_grouped h j).2 k l;
  }
    where
      forth : (x : ℕ) → x < count → (b : Bool) → core x ≡ b → AreTogether (grouped core count) x x
      forth x l true e = record { group = cores; is = core_group x l e; one = in_cores x l e; other = in_cores x l e }
      forth x l false e = record { group = x ∷ []; is = in_grouped x (x ∷ []) l (alone_in x e); one = inl refl; other = inl refl }

      back : (x : ℕ) (g : List ℕ) → Has g (grouped core count) → Has x g → x < count
      back x g h k = let r = from_grouped g h in elim r.2 [
        | inl a ↦ (let e : x ≡ r.0 = has_one x r.0 (subst (λ m. Has x m) a.is k) in let l = r.1 in omega arith)
        | inr f ↦ (from_cores x (subst (λ m. Has x m) f.is k)).0
      ]

      same : (g h : List ℕ) (x y z : ℕ) → IsAlone y g ⊎ IsFirst y g → IsAlone z h ⊎ IsFirst z h → Has x g → Has x h → g ≡ h
      same g h x y z (inl a) (inl b) k l =
          let e : x ≡ y = has_one x y (subst (λ m. Has x m) a.is k) in
          let f : x ≡ z = has_one x z (subst (λ m. Has x m) b.is l) in
          a.is ∙ ap (λ n. n ∷ []) (sym e ∙ f) ∙ sym b.is
      same g h x y z (inl a) (inr f) k l =
          let e : x ≡ y = has_one x y (subst (λ m. Has x m) a.is k) in
          absurd (false≢true (sym a.outside ∙ ap core (sym e) ∙ (from_cores x (subst (λ m. Has x m) f.is l)).1))
      same g h x y z (inr f) (inl a) k l =
          let e : x ≡ z = has_one x z (subst (λ m. Has x m) a.is l) in
          absurd (false≢true (sym a.outside ∙ ap core (sym e) ∙ (from_cores x (subst (λ m. Has x m) f.is k)).1))
      same g h x y z (inr f) (inr i) k l = f.is ∙ sym i.is

  pub together_in : (x y : ℕ) → x < count → core x ≡ true → y < count → core y ≡ true → AreTogether (grouped core count) x y
  together_in x y l h m k = record { group = cores; is = core_group x l h; one = in_cores x l h; other = in_cores y m k }

  pub alone_out : (x y : ℕ) → x ≢ y → AreTogether (grouped core count) x y → (core x ≡ true) × (core y ≡ true)
  alone_out x y apart t = let r = from_grouped t.group t.is in elim r.2 [
    | inl a ↦ absurd (apart (has_one x r.0 (subst (λ m. Has x m) a.is t.one) ∙ sym (has_one y r.0 (subst (λ m. Has y m) a.is t.other))))
    | inr f ↦ ((from_cores x (subst (λ m. Has x m) f.is t.one)).1, (from_cores y (subst (λ m. Has y m) f.is t.other)).1)
  ]

pub grouped_merged : (program : Workload) (is_immediate : PieceId → Bool) (proc : ℕ) (core : ℕ → Bool)
    → ((x : ℕ) → IsTrue (core x) ↔ InCore program is_immediate proc x) → ((x : ℕ) → InCore program is_immediate proc x → x < length (pieces_in program proc))
    → IsMergedIn program is_immediate proc (grouped core (length (pieces_in program proc)))
grouped_merged program is_immediate proc core exact there =
    let count : ℕ = length (pieces_in program proc) in
    record {
      grouping = is_grouping core count;
      together = λ x y i j. together_in core count x y (there x i) ((exact x).1 i) (there y j) ((exact y).1 j);
      alone = λ x y apart t. let r = alone_out core count x y apart t in ((exact x).0 r.0, (exact y).0 r.1);
    }

-- of what was built, if anything was
pub merged_by : {V E : Type 0} (program : Workload) (is_immediate : PieceId → Bool) (proc : ℕ) (core : ℕ → Bool) (count : ℕ) (seen : V → List (List ℕ)) (r : Result V E)
    → ((x : ℕ) → IsTrue (core x) ↔ InCore program is_immediate proc x) → count ≡ length (pieces_in program proc)
    → IfOk r (λ v. seen v ≡ grouped core count) → IfOk r (λ v. IsMergedIn program is_immediate proc (seen v))
merged_by program is_immediate proc core count seen (Ok v) exact known built =
    let P : List (List ℕ) → Type 0 = IsMergedIn program is_immediate proc in
    subst P (sym (built ∙ ap (grouped core) known)) (grouped_merged program is_immediate proc core exact (core_there program is_immediate proc))
merged_by program is_immediate proc core count seen (Err e) exact known built = tt
