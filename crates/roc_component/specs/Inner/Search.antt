-- The search for strongly connected components, along what comes before each id
use Rattle.std.specs.Prelude.{◌≡◌, ℕ, suc, ◌+◌, ◌<◌, ◌≤◌, ◌++◌, List, [], ◌∷◌, length, Option, Some, None, ◌⊎◌}
use Rattle.std.specs.BTreeMap.{BTreeMap, get, btree_map_len}
use Rattle.roc_sequence.specs.Lists.{Has}
use Rattle.roc_sequence.specs.Places.{IsListed}
use Rattle.roc_base.specs.declared.id.TxnId.{TxnId}
use Rattle.roc_base.specs.TxnId.{is_txn, txn_cmp}
use Rattle.roc_depgraph.specs.declared.known.KnownList.{KnownList}
use Rattle.roc_depgraph.specs.Deps.{Precedes}
use Rattle.roc_depgraph.specs.Closure.{IsRisingListOf}
use Rattle.roc_depgraph.specs.Reach.{ReachesOrIs}
use Rattle.roc_component.specs.Components.{IsComponent, ShareNoMember}
use Rattle.roc_component.specs.declared.search.Part.{Part}
use Rattle.roc_component.specs.declared.search.Search.{Search}

-- each starts later than the one before
abbrev pub IsRisingPath : List Part → Type 0
IsRisingPath [] = Unit {0}
IsRisingPath (p ∷ ps) = ((q : Part) → Has q ps → p.start < q.start) × IsRisingPath ps

-- u is a member of a part that starts at n or later
abbrev pub IsOn : List Part → ℕ → TxnId → Type 0
IsOn parts n u = (p : Part) × Has p parts × (n ≤ p.start) × Has u p.members.items

abbrev pub WasNumbered : (TxnId → Option ℕ) → TxnId → Type 0
WasNumbered met u = (n : ℕ) × (met u ≡ Some n)

-- Ids are met one after another. Those on the path are in parts, whose members reach one another and all members of earlier
-- parts; those that are done make up whole components
pub record IsSearch (E : TxnId → TxnId → Type 0) (S : List TxnId) (met : TxnId → Option ℕ) (count : ℕ) (parts : List Part) (done : List TxnId) (components : List (List TxnId)) : Type 0 where
  pub rising : IsRisingPath parts
  pub starts : (p : Part) → Has p parts → p.start < count
  pub joined : (p q : Part) → Has p parts → Has q parts → p.start ≤ q.start → (u t : TxnId) → Has u q.members.items ⊎ Has u q.todo.items → Has t p.members.items → ReachesOrIs E u t
  -- what comes before a member is still to be looked at, or done, or in its part or a later one
  pub led : (p : Part) → Has p parts → (u t : TxnId) → Has t p.members.items → E u t → Has u p.todo.items ⊎ (Has u done ⊎ IsOn parts p.start u)
  pub numbered : (p : Part) → Has p parts → (u : TxnId) → Has u p.members.items
      → (n : ℕ) × (met u ≡ Some n) × (p.start ≤ n) × ((q : Part) → Has q parts → p.start < q.start → n < q.start)
  pub bounded : (u : TxnId) (n : ℕ) → met u ≡ Some n → n < count
  pub known : (u : TxnId) (n : ℕ) → met u ≡ Some n → Has u done ⊎ IsOn parts 0 u
  pub over : (u : TxnId) → Has u done → WasNumbered met u
  pub alive : (p : Part) → Has p parts → (u : TxnId) → Has u p.members.items → ¬ Has u done
  pub within : (u : TxnId) (n : ℕ) → met u ≡ Some n → Has u S
  pub todo_within : (p : Part) → Has p parts → (u : TxnId) → Has u p.todo.items → Has u S
  pub closed : (u t : TxnId) → Has t done → E u t → Has u done
  pub each : (c : List TxnId) → Has c components → IsComponent E c
  pub apart : ShareNoMember components
  pub told : (c : List TxnId) → Has c components → (u : TxnId) → Has u c → Has u done
  pub placed : (u : TxnId) → Has u done → (c : List TxnId) × Has c components × Has u c

-- an id that was not met, from which a chain leads to each member of the path
pub record IsOpenable (E : TxnId → TxnId → Type 0) (S : List TxnId) (met : TxnId → Option ℕ) (parts : List Part) (u : TxnId) : Type 0 where
  pub new : met u ≡ None
  pub within : Has u S
  pub leads : (p : Part) → Has p parts → (t : TxnId) → Has t p.members.items → ReachesOrIs E u t

-- how much is left to look at
abbrev pub weight : List Part → ℕ
weight [] = 0
weight (p ∷ ps) = suc (length p.todo.items) + weight ps

-- ---- by the fields of the code

abbrev pub met_of : BTreeMap TxnId ℕ → TxnId → Option ℕ
met_of met u = get txn_cmp met u

abbrev pub IsSearchOver : List KnownList → (S : List TxnId) → BTreeMap TxnId ℕ → Search → List Part → Type 0
IsSearchOver known S met s parts = IsSearch (Precedes known) S (met_of met) (btree_map_len met) parts s.done s.components.items

abbrev pub IsSearchOf : List KnownList → (S : List TxnId) → BTreeMap TxnId ℕ → Search → Type 0
IsSearchOf known S met s = IsSearchOver known S met s s.path.items

-- the id where it was not met
abbrev pub IsUnmet : (TxnId → Option ℕ) → TxnId → Option TxnId → Type 0
IsUnmet met u None = WasNumbered met u
IsUnmet met u (Some t) = (t ≡ u) × (met u ≡ None)

-- one more id was met
pub record IsOpened (known : List KnownList) (S : List TxnId) (u : TxnId) (met more : BTreeMap TxnId ℕ) (s : Search) : Type 0 where
  pub search : IsSearchOf known S more s
  pub longer : btree_map_len more ≡ suc (btree_map_len met)
  pub bounded : btree_map_len more ≤ length S
  pub keeps : (t : TxnId) → WasNumbered (met_of met) t → WasNumbered (met_of more) t
  pub own : WasNumbered (met_of more) u

-- an id that is met for the first time, or the end of the path
abbrev pub IsAhead : List KnownList → (S : List TxnId) → BTreeMap TxnId ℕ → Search → Option TxnId → Type 0
IsAhead known S met s None = s.path.items ≡ []
IsAhead known S met s (Some u) = IsOpenable (Precedes known) S (met_of met) s.path.items u

-- one step was made at the last part: where no id is met for the first time, less is left to look at
abbrev pub IsStep : List KnownList → (S : List TxnId) → BTreeMap TxnId ℕ → Search → Option TxnId → Type 0
IsStep known S met s None = IsSearchOf known S met s
IsStep known S met s (Some u) = IsSearchOf known S met s × IsOpenable (Precedes known) S (met_of met) s.path.items u

abbrev pub IsLess : (before after : List Part) → Option TxnId → Type 0
IsLess before after None = weight after < weight before
IsLess before after (Some u) = Unit {0}

-- all that makes both up
pub record IsUnited {A : Type 0} (xs ys all : List A) : Type 0 where
  pub left : (a : A) → Has a xs → Has a all
  pub right : (a : A) → Has a ys → Has a all
  pub only : (a : A) → Has a all → Has a xs ⊎ Has a ys
  pub count : length all ≡ length xs + length ys

-- a part was joined to the last one of the path
pub record ArePartsMerged (old : Search) (part : Part) (new : Search) : Type 0 where
  pub done : new.done ≡ old.done
  pub components : new.components.items ≡ old.components.items
  pub parts :
      (lower : List Part) × (last : Part) × (both : Part) × (old.path.items ≡ lower ++ last ∷ []) × (new.path.items ≡ lower ++ both ∷ [])
      × (both.start ≡ last.start) × IsUnited last.members.items part.members.items both.members.items × IsUnited last.todo.items part.todo.items both.todo.items

-- ids became a component
pub record IsComponentClosed (ids : List TxnId) (old new : Search) : Type 0 where
  pub path : new.path.items ≡ old.path.items
  pub component : (c : List TxnId) × IsRisingListOf (IsListed is_txn ids) c × (new.done ≡ old.done ++ c) × (new.components.items ≡ old.components.items ++ c ∷ [])
