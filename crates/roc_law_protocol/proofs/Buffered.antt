-- The buffered groups of a transaction on its shard, as the server finds them and as the log has them
use Rattle.std.proofs.Common.{◌≡◌, ◌≢◌, ℕ, ℤ, ◌<◌, ◌==◌, Bool, true, false, not, cond, ◌&&◌, List, [], ◌∷◌, ◌++◌, Option, Some, None, length, map, refl, sym, ap, subst, ◌∙◌, arith, inl, inr}
use Rattle.std.proofs.lemmas.Bool.{false≢true, and_parts, and_from, eq-eqb, eqb-true, cond-true, cond-false, false_from_ne_true}
use Rattle.std.specs.Prelude.{filter, find, unwrap_or, filter_map, flat_map}
use Rattle.std.specs.List.{range_with_len, cons_option}
use Rattle.roc_sequence.specs.Lists.{Has}
use Rattle.roc_sequence.specs.Places.{IsListed}
use Rattle.roc_sequence.proofs.Holds.{all_has}
use Rattle.roc_sequence.proofs.Found.{found_has, none_found}
use Rattle.roc_sequence.proofs.Ranges.{range_below}
use Rattle.roc_base.specs.declared.id.TxnId.{TxnId}
use Rattle.roc_base.specs.TxnId.{is_txn}
use Rattle.roc_base.specs.Equalities.{is_txn-true}
use Rattle.roc_plan.specs.Groups.{Plan, groups_of, is_immediate_of}
use Rattle.roc_whole.specs.Serial as whole
use Rattle.roc_law_orders.specs.Orders.{all_groups}
use Rattle.roc_law_log.specs.Scheme.{Scheme}
use Rattle.roc_law_log.specs.Log.{Log, IsWhole}
use Rattle.roc_law_log.specs.Steps.{waits_here}
use Rattle.roc_law_log.specs.Invariants.{LogInvariants}
use Rattle.roc_step.specs.declared.started.StartedGroup.{StartedGroup}
use Rattle.roc_step.specs.State.{is_group, find_group, ServerState}
use Rattle.roc_step.specs.Runs.{count_of_groups, groups_here, buffered_here, outs_here}
use Rattle.roc_law_protocol.specs.Beginnings.{Beginning}
use Rattle.roc_law_protocol.specs.PlanAssumptions.{IsSchemeOf}
use Rattle.roc_law_protocol.proofs.Means.{run_of, entry_run, place, Ran, Began, stage, waits_at, DoneMeans, AreGroupsHere, ServerMeans}
use Rattle.roc_law_protocol.proofs.Gone.{IsGone}
use Rattle.roc_law_protocol.proofs.Grows.{filter_same}

pub filter_and : {A : Type 0} (p q : A → Bool) (xs : List A) → filter (λ x. p x && q x) xs ≡ filter q (filter p xs)
filter_and p q [] = refl
filter_and p q (x ∷ xs) = go (p x) (q x) refl (filter_and p q xs)
  where
    go : (a b : Bool) → q x ≡ b → filter (λ x. p x && q x) xs ≡ filter q (filter p xs) → cond (a && b) (x ∷ filter (λ x. p x && q x) xs) (filter (λ x. p x && q x) xs) ≡ filter q (cond a (x ∷ filter p xs) (filter p xs))
    go true true e ih = ap (λ l. x ∷ l) ih ∙ sym (cond-true (q x) (x ∷ filter q (filter p xs)) (filter q (filter p xs)) e)
    go true false e ih = ih ∙ sym (cond-false (q x) (x ∷ filter q (filter p xs)) (filter q (filter p xs)) e)
    go false b e ih = ih

pub filter_map_under : {A B : Type 0} (f : A → B) (p : B → Bool) (xs : List A) → filter p (map f xs) ≡ map f (filter (λ x. p (f x)) xs)
filter_map_under f p [] = refl
filter_map_under f p (x ∷ xs) = go (p (f x)) (filter_map_under f p xs)
  where
    go : (b : Bool) → filter p (map f xs) ≡ map f (filter (λ x. p (f x)) xs) → cond b (f x ∷ filter p (map f xs)) (filter p (map f xs)) ≡ map f (cond b (x ∷ filter (λ x. p (f x)) xs) (filter (λ x. p (f x)) xs))
    go true ih = ap (λ l. f x ∷ l) ih
    go false ih = ih

none_kept : {A B : Type 0} (f : A → Option B) (xs : List A) → ((x : A) → f x ≡ None) → filter_map f xs ≡ []
none_kept f [] h = refl
none_kept f (x ∷ xs) h = ap (λ o. cons_option o (filter_map f xs)) (h x) ∙ none_kept f xs h

module _ (plan : Plan) (asked : TxnId → whole.Call) (S : Scheme) (start : Beginning) (is : IsSchemeOf plan asked S) (c : Log) (n : ℕ) (Gone : TxnId → Type 0) (started : List StartedGroup) (here : AreGroupsHere plan asked S start c n Gone started) (t : TxnId) (is_whole : IsWhole S c.past.started t) (kept : ¬ Gone t) where
  abbrev below : List ℕ
  below = range_with_len 0 (length (groups_of plan (asked t).procedure))

  pub is_below : (g : ℕ) → Has g below → g < length (groups_of plan (asked t).procedure)
  is_below g h = all_has (λ g. g < length (groups_of plan (asked t).procedure)) g below (range_below 0 (length (groups_of plan (asked t).procedure)) (length (groups_of plan (asked t).procedure)) (omega arith)) h

  pub all_began : (g : ℕ) → Has g below → Began plan asked S start c (run_of t g)
  all_began g h = is_whole g ((is.groups t g).1 (is_below g h))

  -- what is found of a group
  data Found (g : ℕ) (o : Option StartedGroup) : Type 0 where
    there : (e : StartedGroup) → Has e started → o ≡ Some e → entry_run e ≡ run_of t g → place plan asked S start c (run_of t g) ≡ n → is_immediate_of plan e.proc e.group ≡ S.is_immediate (run_of t g) → Found g o
    away : o ≡ None → place plan asked S start c (run_of t g) ≢ n → Found g o

  found : (g : ℕ) → Has g below → Found g (find_group t g started)
  found g h = go (find_group t g started) refl
    where
      go : (o : Option StartedGroup) → find_group t g started ≡ o → Found g o
      go None e = away refl (λ p. elim (here.finds (run_of t g) (all_began g h) p) [ inl f ↦ clash f | inr gone ↦ kept gone ])
        where
          clash : (f : StartedGroup) × (find_group t g started ≡ Some f) → ⊥
          clash f = let a = f.1 in let b = e in cc
      go (Some f) e =
          let k = found_has (is_group t g) started f e in
          let p = and_parts (is_txn f.id t) (f.group == g) k.1 in
          let a = is_txn-true f.id t p.0 in
          let b = eqb-true f.group g p.1 in
          let same : entry_run f ≡ run_of t g = λ i. record { txn = a i; group = b i } in
          let m = here.entries f k.0 in
          there f k.0 refl same (ap (place plan asked S start c) (sym same) ∙ m.on) (ap (λ p. is_immediate_of plan p f.group) m.proc ∙ (sym (is.immediate (entry_run f)) ∙ ap S.is_immediate same))

  abbrev P : ℕ → Bool
  P g = waits_at plan asked S start c n t g

  abbrev waits : StartedGroup → Bool
  waits e = not (is_immediate_of plan e.proc e.group)

  pub found_runs : (gs : List ℕ) → ((g : ℕ) → Has g gs → Has g below) → map entry_run (filter waits (filter_map (λ g. find_group t g started) gs)) ≡ map (run_of t) (filter P gs)
  found_runs [] h = refl
  found_runs (g ∷ gs) h = go (find_group t g started) (found g (h g (inl refl))) (found_runs gs (λ k m. h k (inr m)))
    where
      go : (o : Option StartedGroup) → Found g o → map entry_run (filter waits (filter_map (λ g. find_group t g started) gs)) ≡ map (run_of t) (filter P gs)
          → map entry_run (filter waits (cons_option o (filter_map (λ g. find_group t g started) gs))) ≡ map (run_of t) (cond (P g) (g ∷ filter P gs) (filter P gs))
      go o (away e apart) ih =
          let f : P g ≡ false = false_from_ne_true (P g) (λ t2. apart (eqb-true (place plan asked S start c (run_of t g)) n (and_parts (not (S.is_immediate (run_of t g))) (place plan asked S start c (run_of t g) == n) t2).1)) in
          ap (λ o. map entry_run (filter waits (cons_option o (filter_map (λ g. find_group t g started) gs)))) e ∙ (ih ∙ sym (ap (map (run_of t)) (cond-false (P g) (g ∷ filter P gs) (filter P gs) f)))
      go o (there e has f same on imm) ih = ap (λ o. map entry_run (filter waits (cons_option o (filter_map (λ g. find_group t g started) gs)))) f ∙ two (S.is_immediate (run_of t g)) refl
        where
          two : (b : Bool) → S.is_immediate (run_of t g) ≡ b → map entry_run (cond (waits e) (e ∷ filter waits (filter_map (λ g. find_group t g started) gs)) (filter waits (filter_map (λ g. find_group t g started) gs))) ≡ map (run_of t) (cond (P g) (g ∷ filter P gs) (filter P gs))
          two true b =
              ap (map entry_run) (cond-false (waits e) (e ∷ filter waits (filter_map (λ g. find_group t g started) gs)) (filter waits (filter_map (λ g. find_group t g started) gs)) (ap not (imm ∙ b)))
              ∙ (ih ∙ sym (ap (map (run_of t)) (cond-false (P g) (g ∷ filter P gs) (filter P gs) (ap (λ x. not x && (place plan asked S start c (run_of t g) == n)) b))))
          two false b =
              ap (map entry_run) (cond-true (waits e) (e ∷ filter waits (filter_map (λ g. find_group t g started) gs)) (filter waits (filter_map (λ g. find_group t g started) gs)) (ap not (imm ∙ b)))
              ∙ ((λ i. same i ∷ ih i) ∙ sym (ap (map (run_of t)) (cond-true (P g) (g ∷ filter P gs) (filter P gs) (and_from (not (S.is_immediate (run_of t g))) (place plan asked S start c (run_of t g) == n) (ap not b) (eq-eqb (place plan asked S start c (run_of t g)) n on)))))

  -- the groups here are those found by number
  pub here_are : groups_here plan t started ≡ filter_map (λ g. find_group t g started) below
  here_are = go (find (λ e. is_txn e.id t) started) refl
    where
      go : (o : Option StartedGroup) → find (λ e. is_txn e.id t) started ≡ o → filter_map (λ g. find_group t g started) (range_with_len 0 (count_of_groups plan o)) ≡ filter_map (λ g. find_group t g started) below
      go (Some e) f =
          let k = found_has (λ e. is_txn e.id t) started e f in
          let same : e.proc ≡ (asked t).procedure = (here.entries e k.0).proc ∙ ap (λ t. (asked t).procedure) (is_txn-true e.id t k.1) in
          ap (λ p. filter_map (λ g. find_group t g started) (range_with_len 0 (length (groups_of plan p)))) same
      go None f = sym (none_kept (λ g. find_group t g started) below (λ g. nothing g (find_group t g started) refl))
        where
          nothing : (g : ℕ) (o : Option StartedGroup) → find_group t g started ≡ o → o ≡ None
          nothing g None e = refl
          nothing g (Some e) k =
              let h = found_has (is_group t g) started e k in
              absurd (false≢true (sym (none_found (λ e. is_txn e.id t) started f e h.0) ∙ (and_parts (is_txn e.id t) (e.group == g) h.1).0))

  pub buffered_runs : map entry_run (buffered_here plan t started) ≡ filter (waits_here S start.store c.past.ran n) (all_groups S.behaviour t)
  buffered_runs =
      ap (λ l. map entry_run (filter waits l)) here_are
      ∙ found_runs below (λ g h. h)
      ∙ ap (map (run_of t)) (filter_and (λ g. not (S.is_immediate (run_of t g))) (λ g. place plan asked S start c (run_of t g) == n) below ∙ (ap (filter (λ g. place plan asked S start c (run_of t g) == n)) numbered ∙ sym (filter_and (λ g. not (S.is_immediate (run_of t g))) (λ g. place plan asked S start c (run_of t g) == n) (S.behaviour.groups t))))
      ∙ sym (filter_map_under (run_of t) (waits_here S start.store c.past.ran n) (S.behaviour.groups t))
    where
      numbered : filter (λ g. not (S.is_immediate (run_of t g))) below ≡ filter (λ g. not (S.is_immediate (run_of t g))) (S.behaviour.groups t)
      numbered =
          filter_same (λ g. not (S.is_immediate (run_of t g))) (λ g. not (is_immediate_of plan (asked t).procedure g)) below (λ g h. ap not (is.immediate (run_of t g)))
          ∙ (sym (is.later t) ∙ filter_same (λ g. not (is_immediate_of plan (asked t).procedure g)) (λ g. not (S.is_immediate (run_of t g))) (S.behaviour.groups t) (λ g h. ap not (sym (is.immediate (run_of t g)))))

-- what the coordinator is told of a decided transaction
module _ (plan : Plan) (asked : TxnId → whole.Call) (S : Scheme) (start : Beginning) (is : IsSchemeOf plan asked S) (c : Log) (i : LogInvariants S start.store c) (n : ℕ) (s : ServerState) (o : ServerMeans plan asked S start c n s) (t : TxnId) (decided : IsListed is_txn (c.decided n) t) (kept : ¬ IsGone s t) where
  is_whole : IsWhole S c.past.started t
  is_whole = i.whole t (i.in_order n t decided)

  abbrev later_outs : StartedGroup → List ℤ
  later_outs e = unwrap_or e.later []

  abbrev W : ℕ → Bool
  W g = waits_at plan asked S start c n t g

  abbrev given : List ℕ → List ℤ
  given gs = flat_map (λ g. ((stage plan asked S start c).yielded (run_of t g)).outs) gs

  outs_found : (gs : List ℕ) → ((g : ℕ) → Has g gs → Has g (below plan asked S start is c n (IsGone s) s.started o.groups t is_whole kept))
      → flat_map later_outs (filter_map (λ g. find_group t g s.started) gs) ≡ flat_map (λ g. ((stage plan asked S start c).yielded (run_of t g)).outs) (filter (waits_at plan asked S start c n t) gs)
  outs_found [] h = refl
  outs_found (g ∷ gs) h = go (find_group t g s.started) (found plan asked S start is c n (IsGone s) s.started o.groups t is_whole kept g (h g (inl refl))) (outs_found gs (λ k m. h k (inr m)))
    where
      go : (x : Option StartedGroup) → Found plan asked S start is c n (IsGone s) s.started o.groups t is_whole kept g x
          → flat_map later_outs (filter_map (λ g. find_group t g s.started) gs) ≡ flat_map (λ g. ((stage plan asked S start c).yielded (run_of t g)).outs) (filter (waits_at plan asked S start c n t) gs)
          → flat_map later_outs (cons_option x (filter_map (λ g. find_group t g s.started) gs))
          ≡ flat_map (λ g. ((stage plan asked S start c).yielded (run_of t g)).outs) (cond (waits_at plan asked S start c n t g) (g ∷ filter (waits_at plan asked S start c n t) gs) (filter (waits_at plan asked S start c n t) gs))
      go x (away e apart) ih =
          let f : W g ≡ false = false_from_ne_true (W g) (λ k. apart (eqb-true (place plan asked S start c (run_of t g)) n (and_parts (not (S.is_immediate (run_of t g))) (place plan asked S start c (run_of t g) == n) k).1)) in
          ap (λ x. flat_map later_outs (cons_option x (filter_map (λ g. find_group t g s.started) gs))) e ∙ (ih ∙ sym (ap given (cond-false (W g) (g ∷ filter W gs) (filter W gs) f)))
      go x (there e has f same on imm) ih = ap (λ x. flat_map later_outs (cons_option x (filter_map (λ g. find_group t g s.started) gs))) f ∙ two (S.is_immediate (run_of t g)) refl
        where
          two : (b : Bool) → S.is_immediate (run_of t g) ≡ b → later_outs e ++ flat_map later_outs (filter_map (λ g. find_group t g s.started) gs) ≡ given (cond (W g) (g ∷ filter W gs) (filter W gs))
          two true b =
              ap (λ (x : Option (List ℤ)). unwrap_or x [] ++ flat_map later_outs (filter_map (λ g. find_group t g s.started) gs)) (o.part.at_once e has (ap S.is_immediate same ∙ b))
              ∙ (ih ∙ sym (ap given (cond-false (W g) (g ∷ filter W gs) (filter W gs) (ap (λ x. not x && (place plan asked S start c (run_of t g) == n)) b))))
          two false b =
              let began = all_began plan asked S start is c n (IsGone s) s.started o.groups t is_whole kept g (h g (inl refl)) in
              let ran : Ran plan asked S start c (run_of t g) = i.later_ran (run_of t g) began b (subst (λ n. IsListed is_txn (c.decided n) t) (sym on) decided) in
              let gave : e.later ≡ Some ((stage plan asked S start c).yielded (run_of t g)).outs = o.part.later e has (subst (Ran plan asked S start c) (sym same) ran) (ap S.is_immediate same ∙ b) ∙ ap (λ r. Some ((stage plan asked S start c).yielded r).outs) same in
              (λ k. unwrap_or (gave k) [] ++ ih k)
              ∙ sym (ap given (cond-true (W g) (g ∷ filter W gs) (filter W gs) (and_from (not (S.is_immediate (run_of t g))) (place plan asked S start c (run_of t g) == n) (ap not b) (eq-eqb (place plan asked S start c (run_of t g)) n on))))

  pub outs_told : DoneMeans plan asked S start c t n (outs_here plan t s.started)
  outs_told = record { decided = decided; is = ap (flat_map later_outs) (here_are plan asked S start is c n (IsGone s) s.started o.groups t is_whole kept) ∙ outs_found (below plan asked S start is c n (IsGone s) s.started o.groups t is_whole kept) (λ g h. h) }
