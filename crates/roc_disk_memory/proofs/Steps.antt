-- What one version more does.
use Rattle.std.proofs.Common.{◌≡◌, ◌⊎◌, inl, inr, ⊎_elim, ℕ, Bool, true, false, cond, List, [], ◌∷◌, length, refl, sym, ◌∙◌, ap, subst, arith}
use Rattle.std.specs.Prelude.{Result, Ok, Err, IfOk, Option, Some, None, IfSome, Vec, bytes_eq, unwrap_or, option_map}
use Rattle.std.specs.declared.alloc.Global.{Global}
use Rattle.std.proofs.lemmas.Slice.Eq.{bytes_eq-Decides}
use Rattle.roc_disk.specs.declared.disk.DiskDone.{DiskDone}
use Rattle.roc_disk.specs.declared.disk.DiskDone.TheVariants.{Ok as DoneOk, Failed as DoneFailed}
use Rattle.roc_disk.specs.Answers.{disk_failed, OnDone}
use Rattle.roc_disk.specs.Stops.{Follows, NoMore, Only, Elapses}
use Rattle.roc_disk_memory.specs.declared.store.Version.{Version}
use Rattle.roc_disk_memory.specs.Versions.{held, seen_in, stable_in, MayLeave, LeftSince}
use Rattle.roc_disk_memory.specs.Inner.Added.{Added, AddsMade}

abbrev pub Made : Type 0
Made = Option (Vec ℕ Global × Vec ℕ Global)

-- the name of the open file
pub at_file : (P : List ℕ → Type 0) (file name : List ℕ) → Some file ≡ Some name → P file → P name
at_file P file name same is = subst P (ap (λ o. unwrap_or o file) same) is

-- what holds of what was made
pub ok_map : {X E : Type 0} (result : Result X E) (P Q : X → Type 0) → ((x : X) → P x → Q x) → IfOk result P → IfOk result Q
ok_map (Ok x) P Q to has = to x has
ok_map (Err e) P Q to has = tt

-- what holds unless it fails
pub unless_failed : (P : Type 0) (result : DiskDone) (fails : Bool) → disk_failed result ≡ fails → (fails ≡ false → P) → OnDone result P
unless_failed P DoneOk fails due holds = holds (sym due)
unless_failed P DoneFailed fails due holds = tt

not_true : (b : Bool) → (b ≡ true → ⊥) → b ≡ false
not_true true apart = absurd (apart refl)
not_true false apart = refl

pub elapses_push : (version : Version) (old : List Version) (name : List ℕ) → Elapses (length old) (length (version ∷ old)) (LeftSince old name) (LeftSince (version ∷ old) name) (MayLeave (version ∷ old) name)
elapses_push version old name = record {
  later = omega arith;
  nothing_else = λ t image le left. ⊎_elim (λ now. inr now) (λ past. inl past.1) left;
  keeps = λ t image le left. inr (le, left);
}

pub elapses_same : (versions : List Version) (name : List ℕ) → Elapses (length versions) (length versions) (LeftSince versions name) (LeftSince versions name) (MayLeave versions name)
elapses_same versions name = record { later = omega arith; nothing_else = λ t image le left. inl left; keeps = λ t image le left. left }

pub elapses_equal : (old new : List Version) (name : List ℕ) → new ≡ old → Elapses (length old) (length new) (LeftSince old name) (LeftSince new name) (MayLeave new name)
elapses_equal old new name same = subst (λ versions. Elapses (length old) (length versions) (LeftSince old name) (LeftSince versions name) (MayLeave versions name)) (sym same) (elapses_same old name)

pub no_more_equal : (old new : List Version) (name : List ℕ) → new ≡ old → NoMore (MayLeave old name) (MayLeave new name)
no_more_equal old new name same image left = subst (λ versions. MayLeave versions name image) same left

-- what an insertion at the front adds
pub added_by : (inserted : Bool) (old new : List Version) (version : Version) → inserted ≡ true → new ≡ cond inserted (version ∷ old) old
    → Added old new version.name.items version.seen.items version.stable.items
added_by inserted old new version done is = record {
  version = version;
  is = is ∙ ap (λ b. cond b (version ∷ old) old) done;
  name_is = refl;
  seen_is = refl;
  stable_is = refl;
}

module _ (old new : List Version) (file seen stable : List ℕ) (added : Added old new file seen stable) where
  first : held new file ≡ Some added.version
  first =
      ap (λ versions. held versions file) added.is
      ∙ ap (λ b. cond b (Some added.version) (held old file)) ((bytes_eq-Decides added.version.name.items file).1 added.name_is)

  pub seen_new : seen_in new file ≡ seen
  seen_new = ap (λ o. unwrap_or (option_map (λ (version : Version). version.seen.items) o) []) first ∙ added.seen_is

  pub stable_new : stable_in new file ≡ stable
  stable_new = ap (λ o. unwrap_or (option_map (λ (version : Version). version.stable.items) o) []) first ∙ added.stable_is

  -- both images go one step on
  pub step_new : (step : List ℕ → List ℕ → Type 0) → step (seen_in old file) seen → step (stable_in old file) stable → Follows step (MayLeave old file) (MayLeave new file)
  step_new step one other image left = ⊎_elim
      (λ is. (seen_in old file, inl refl, subst (step (seen_in old file)) (sym (is ∙ seen_new)) one))
      (λ is. (stable_in old file, inr refl, subst (step (stable_in old file)) (sym (is ∙ stable_new)) other))
      left

  behind : (other : List ℕ) → ¬ (file ≡ other) → held new other ≡ held old other
  behind other apart =
      ap (λ versions. held versions other) added.is
      ∙ ap (λ b. cond b (Some added.version) (held old other))
      (not_true (bytes_eq added.version.name.items other) (λ yes. apart (sym added.name_is ∙ (bytes_eq-Decides added.version.name.items other).0 yes)))

  pub others_same : (other : List ℕ) → ¬ (file ≡ other) → (seen_in new other ≡ seen_in old other) × NoMore (MayLeave old other) (MayLeave new other)
  others_same other apart =
      let same = behind other apart in
      let seen_same : seen_in new other ≡ seen_in old other = ap (λ o. unwrap_or (option_map (λ (version : Version). version.seen.items) o) []) same in
      let stable_same : stable_in new other ≡ stable_in old other = ap (λ o. unwrap_or (option_map (λ (version : Version). version.stable.items) o) []) same in
      (seen_same, λ image left. ⊎_elim (λ is. inl (is ∙ seen_same)) (λ is. inr (is ∙ stable_same)) left)

  pub time_new : (name : List ℕ) → Elapses (length old) (length new) (LeftSince old name) (LeftSince new name) (MayLeave new name)
  time_new name = subst (λ versions. Elapses (length old) (length versions) (LeftSince old name) (LeftSince versions name) (MayLeave versions name)) (sym added.is) (elapses_push added.version old name)

-- ---- over what was made

pub made_seen : (made : Made) (old new : List Version) (file wanted : List ℕ) → AddsMade made old new file → IfSome made (λ made. made.0.items ≡ wanted) → seen_in new file ≡ wanted
made_seen None old new file wanted added is = absurd added
made_seen (Some made) old new file wanted added is = seen_new old new file made.0.items made.1.items added ∙ is

pub made_step : (step : List ℕ → List ℕ → Type 0) (made : Made) (old new : List Version) (file seen stable : List ℕ) → AddsMade made old new file → seen ≡ seen_in old file → stable ≡ stable_in old file
    → IfSome made (λ made. step seen made.0.items) → IfSome made (λ made. step stable made.1.items) → Follows step (MayLeave old file) (MayLeave new file)
made_step step None old new file seen stable added seen_is stable_is one other = absurd added
made_step step (Some made) old new file seen stable added seen_is stable_is one other =
    step_new old new file made.0.items made.1.items added step (subst (λ l. step l made.0.items) seen_is one) (subst (λ l. step l made.1.items) stable_is other)

pub made_others : (made : Made) (old new : List Version) (file : List ℕ) → AddsMade made old new file → (other : List ℕ) → ¬ (Some file ≡ Some other) → (seen_in new other ≡ seen_in old other) × NoMore (MayLeave old other) (MayLeave new other)
made_others None old new file added other apart = absurd added
made_others (Some made) old new file added other apart = others_same old new file made.0.items made.1.items added other (λ same. apart (ap (λ name. Some name) same))

pub made_time : (made : Made) (old new : List Version) (file : List ℕ) → AddsMade made old new file → (name : List ℕ) → Elapses (length old) (length new) (LeftSince old name) (LeftSince new name) (MayLeave new name)
made_time None old new file added name = absurd added
made_time (Some made) old new file added name = time_new old new file made.0.items made.1.items added name

-- ---- a sync

is_or_not : (file other : List ℕ) → (file ≡ other) ⊎ ¬ (file ≡ other)
is_or_not file other = by (bytes_eq file other) refl
  where
    apart : false ≡ true → ⊥
    apart same = cc same

    by : (test : Bool) → bytes_eq file other ≡ test → (file ≡ other) ⊎ ¬ (file ≡ other)
    by true is = inl ((bytes_eq-Decides file other).0 is)
    by false is = inr (λ same. absurd (apart (sym is ∙ (bytes_eq-Decides file other).1 same)))

-- what a read gives stays, and so do the images, or fewer
pub made_same : (made : Made) (old new : List Version) (file seen stable : List ℕ) → AddsMade made old new file → seen ≡ seen_in old file → stable ≡ stable_in old file
    → IfSome made (λ made. made.0.items ≡ seen) → IfSome made (λ made. (made.1.items ≡ seen) ⊎ (made.1.items ≡ stable)) → (other : List ℕ)
    → (seen_in new other ≡ seen_in old other) × NoMore (MayLeave old other) (MayLeave new other)
made_same None old new file seen stable added seen_is stable_is one two other = absurd added
made_same (Some made) old new file seen stable added seen_is stable_is one two other = ⊎_elim
    (λ same. subst (λ name. (seen_in new name ≡ seen_in old name) × NoMore (MayLeave old name) (MayLeave new name)) same (here, images))
    (λ apart. others_same old new file made.0.items made.1.items added other apart)
    (is_or_not file other)
  where
    here : seen_in new file ≡ seen_in old file
    here = seen_new old new file made.0.items made.1.items added ∙ one ∙ seen_is

    images : NoMore (MayLeave old file) (MayLeave new file)
    images image left = ⊎_elim
        (λ is. inl (is ∙ here))
        (λ is. ⊎_elim
        (λ synced. inl (is ∙ stable_new old new file made.0.items made.1.items added ∙ synced ∙ seen_is))
        (λ torn. inr (is ∙ stable_new old new file made.0.items made.1.items added ∙ torn ∙ stable_is))
        two)
        left

pub made_only : (made : Made) (old new : List Version) (file seen : List ℕ) → AddsMade made old new file → seen ≡ seen_in old file
    → IfSome made (λ made. made.0.items ≡ seen) → IfSome made (λ made. made.1.items ≡ seen) → Only (seen_in old file) (MayLeave new file)
made_only None old new file seen added seen_is one two image left = absurd added
made_only (Some made) old new file seen added seen_is one two image left = ⊎_elim
    (λ is. is ∙ seen_new old new file made.0.items made.1.items added ∙ one ∙ seen_is)
    (λ is. is ∙ stable_new old new file made.0.items made.1.items added ∙ two ∙ seen_is)
    left
