-- What is read of a server of which something was made ahead: nothing that was tried is seen
use Rattle.std.proofs.Common.{◌≡◌, ◌+◌, Bool, true, false, cond, List, [], ◌∷◌, Result, Ok, Err, IfOk, length, map, filter, refl, sym, ap, subst, ◌∙◌}
use Rattle.std.proofs.lemmas.List.{length-append, length-map}
use Rattle.roc_base.specs.declared.id.TxnId.{TxnId}
use Rattle.roc_depgraph.specs.declared.known.KnownList.{KnownList}
use Rattle.roc_depgraph.specs.Deps.{IsDecided}
use Rattle.roc_depgraph.proofs.RisingLists.{rising_one}
use Rattle.roc_step.specs.New.{AreDecided}
use Rattle.roc_group.specs.declared.access.Access.{Access}
use Rattle.roc_plan.specs.Groups.{Plan}
use Rattle.roc_server.specs.declared.parts.ServerParts.{ServerParts}
use Rattle.roc_step.specs.declared.started.StartedGroup.{StartedGroup}
use Rattle.roc_step.specs.Fits.{AreGroupsOf}
use Rattle.roc_rows.specs.declared.cell.Cell.{Cell}
use Rattle.roc_server_index.specs.GroupRefs.{CellRefs}
use Rattle.roc_server_groups.specs.Indexed.{undecided_refs, AreGroupRefsOf, IsIndexOf}
use Rattle.roc_server_groups.proofs.IndexSteps.{indexed_group_refs}
use Rattle.roc_server.specs.Inner.Parts.{IsSound}
use Rattle.roc_server_groups.specs.Groups.{AreSameGroups}
use Rattle.roc_step.specs.Start.{is_user, users}
use Rattle.roc_step.specs.State.{unrun}
use Rattle.roc_server_groups.proofs.SameGroups.{fits_same}
use Rattle.roc_server_groups.proofs.Stands.{group_refs_same}

-- ---- the groups differ in what they gave alone

module _ (k : ServerParts) (sound : IsSound k) where
  pub fits_now : (plan : Plan) → AreGroupsOf plan k.groups.kept → AreGroupsOf plan k.groups.ran
  fits_now plan fits = fits_same plan k.groups.kept k.groups.ran sound.groups.same fits

  pub index_now : IsIndexOf k.groups.index k.lists.decided k.groups.ran
  index_now c = sound.index c ∙ ap (undecided_refs k.lists.decided) (sym (group_refs_same c k.groups.kept k.groups.ran sound.groups.same))

  -- the same of groups and an index that are lent
  module _ (started : List StartedGroup) (index : List (Cell × CellRefs)) (groups : started ≡ k.groups.ran) (refs : index ≡ k.groups.index) where
    pub index_lent : IsIndexOf index k.lists.decided started
    index_lent = subst (IsIndexOf index k.lists.decided) (sym groups) (subst (λ x. IsIndexOf x k.lists.decided k.groups.ran) (sym refs) index_now)

    pub refs_lent : AreGroupRefsOf started index
    refs_lent = indexed_group_refs index k.lists.decided started index_lent

-- ---- what is read of them

module _ {X : Type 0} (f : StartedGroup → X) (p : StartedGroup → Bool) (of_unrun : (e : StartedGroup) → f (unrun e) ≡ f e) (passes_unrun : (e : StartedGroup) → p (unrun e) ≡ p e) where
  over_unrun : (es : List StartedGroup) → map f (filter p (map unrun es)) ≡ map f (filter p es)
  over_unrun [] = refl
  over_unrun (e ∷ es) =
      (λ i. map f (cond (passes_unrun e i) (unrun e ∷ filter p (map unrun es)) (filter p (map unrun es)))) ∙ go (p e) (over_unrun es)
    where
      go : (b : Bool) → map f (filter p (map unrun es)) ≡ map f (filter p es) → map f (cond b (unrun e ∷ filter p (map unrun es)) (filter p (map unrun es))) ≡ map f (cond b (e ∷ filter p es) (filter p es))
      go true ih = λ i. of_unrun e i ∷ ih i
      go false ih = ih

  pub over_same : (old new : List StartedGroup) → AreSameGroups old new → map f (filter p new) ≡ map f (filter p old)
  over_same old new same = sym (over_unrun new) ∙ ap (λ es. map f (filter p es)) same ∙ over_unrun old

-- as many use these cells
pub as_many_users : (plan : Plan) (left_out : List TxnId) (immediate : Bool) (cells : List Access) (old new : List StartedGroup) → AreSameGroups old new
    → length (users plan left_out immediate cells new) ≡ length (users plan left_out immediate cells old)
as_many_users plan left_out immediate [] old new same = refl
as_many_users plan left_out immediate (a ∷ cells) old new same =
    let at = is_user plan left_out immediate a.cell in
    let here : length (filter at new) ≡ length (filter at old) =
    sym (length-map (filter at new) unrun) ∙ ap length (over_same unrun at (λ e. refl) (λ e. refl) old new same) ∙ length-map (filter at old) unrun in
    length-append (filter at new) (users plan left_out immediate cells new)
    ∙ (λ i. here i + as_many_users plan left_out immediate cells old new same i)
    ∙ sym (length-append (filter at old) (users plan left_out immediate cells old))

-- ---- what is decided

-- what holds of the decided ones as they are kept holds of any list of exactly these
pub for_decided : {A B E : Type 0} (r : Result A E) (read : A → B) (x : List TxnId → B) (known : List KnownList) (kept : List TxnId) → AreDecided known kept → IfOk r (λ a. read a ≡ x kept)
    → IfOk r (λ a. (decided : List TxnId) → AreDecided known decided → read a ≡ x decided)
for_decided (Err e) read x known kept own h = tt
for_decided (Ok a) read x known kept own h = λ decided p. h ∙ ap x (rising_one (IsDecided known) kept decided own p)
