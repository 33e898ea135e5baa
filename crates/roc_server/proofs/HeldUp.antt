-- Which groups hold reads up behind a step
use Rattle.std.proofs.Common.{◌≡◌, ◌++◌, ◌∷◌, ◌&&◌, ◌||◌, inl, inr, Bool, true, false, not, cond, List, [], filter, refl, sym, ap, subst, ◌∙◌}
use Rattle.std.proofs.lemmas.Bool.{or_left, or_right}
use Rattle.roc_sequence.specs.Places.{is_listed}
use Rattle.roc_sequence.proofs.Appended.{listed_either}
use Rattle.roc_sequence.proofs.Places.{listed_test, listed_true}
use Rattle.roc_base.specs.declared.id.TxnId.{TxnId}
use Rattle.roc_base.specs.TxnId.{is_txn}
use Rattle.roc_depgraph.specs.Deps.{IsDecided}
use Rattle.roc_depgraph.proofs.RisingLists.{rising_one}
use Rattle.roc_group.specs.declared.access.Access.{Access}
use Rattle.roc_step.specs.declared.started.StartedGroup.{StartedGroup}
use Rattle.roc_step.specs.New.{AreDecided}
use Rattle.roc_server.specs.declared.parts.ServerParts.{ServerParts}
use Rattle.roc_server.specs.Inner.Answering.{left_behind}
use Rattle.roc_server.specs.Inner.Parts.{IsSound}
use Rattle.roc_server_groups.specs.GroupsNow.{groups_behind, AreDecidedBehind}
use Rattle.roc_server_lists.specs.ListsNow.{lists_behind, newly_of, over_of}
use Rattle.roc_server_reads.specs.Behind.{decided_behind, is_held_up, writes_one}

-- those that are forgotten were decided, and about the rest the same is
left_held : (forgotten now before : TxnId → Bool) → ((t : TxnId) → forgotten t ≡ true → before t ≡ true) → ((t : TxnId) → forgotten t ≡ false → now t ≡ before t) → (uses : List Access) (es : List StartedGroup)
    → is_held_up now uses (filter (λ e. not (forgotten e.id)) es) ≡ is_held_up before uses es
left_held forgotten now before were same uses [] = refl
left_held forgotten now before were same uses (e ∷ es) = go (forgotten e.id) refl (left_held forgotten now before were same uses es)
  where
    some : List StartedGroup
    some = filter (λ x. not (forgotten x.id)) es

    go : (b : Bool) → forgotten e.id ≡ b → is_held_up now uses some ≡ is_held_up before uses es → is_held_up now uses (cond (not b) (e ∷ some) some) ≡ is_held_up before uses (e ∷ es)
    go true f ih = ih ∙ ap (λ b. (not b && writes_one uses e) || is_held_up before uses es) (sym (were e.id f))
    go false f ih = λ i. (not (same e.id f i) && writes_one uses e) || ih i

module _ (k : ServerParts) (sound : IsSound k) (ids : List TxnId) (are : AreDecided (lists_behind k.lists).lists.links ids) where
  abbrev before : List TxnId
  before = k.lists.decided

  abbrev new : List TxnId
  new = newly_of k.lists.tried

  abbrev forgotten : TxnId → Bool
  forgotten t = is_listed is_txn (over_of k.lists.tried) t

  abbrev test : TxnId → Bool
  test t = is_listed is_txn before t || is_listed is_txn new t

  behind : AreDecidedBehind before new (over_of k.lists.tried) ids
  behind =
      subst (AreDecidedBehind before new (over_of k.lists.tried)) (rising_one (IsDecided (lists_behind k.lists).lists.links) sound.lists.later ids sound.lists.are_later are) sound.lists.behind

  were : (t : TxnId) → forgotten t ≡ true → test t ≡ true
  were t e =
      elim (listed_either is_txn before new t (behind.gone t (listed_true is_txn (over_of k.lists.tried) t e))) [
        | inl a ↦ or_left (is_listed is_txn before t) (is_listed is_txn new t) (listed_test is_txn before t a)
        | inr a ↦ or_right (is_listed is_txn before t) (is_listed is_txn new t) (listed_test is_txn new t a.1)
      ]

  and_true : (b : Bool) → (b && true) ≡ b
  and_true true = refl
  and_true false = refl

  same : (t : TxnId) → forgotten t ≡ false → is_listed is_txn ids t ≡ test t
  same t n = behind.is t ∙ ap (λ f. test t && not f) n ∙ and_true (test t)

  pub held_behind : (uses : List Access)
      → is_held_up (is_listed is_txn ids) uses (groups_behind (over_of k.lists.tried) k.groups) ≡ is_held_up (decided_behind (left_behind k)) uses (k.groups.ran ++ k.groups.starting)
  held_behind uses = left_held forgotten (is_listed is_txn ids) test were same uses (k.groups.ran ++ k.groups.starting)
