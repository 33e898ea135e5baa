-- Whether a chain of edges leads from one of finitely many ids to another can be told
use Rattle.std.proofs.Common.{◌≡◌, Bool, true, ◌&&◌, ◌||◌, List, [], ◌∷◌, subst, ◌⊎◌, inl, inr, IsTrue, arith}
use Rattle.std.proofs.lemmas.Bool.{or_cases, or_left, or_right, and_parts, and_from}
use Rattle.roc_sequence.specs.Places.{IsListed}
use Rattle.roc_sequence.proofs.Places.{listed_cases}
use Rattle.roc_base.specs.declared.id.TxnId.{TxnId}
use Rattle.roc_base.specs.TxnId.{is_txn}
use Rattle.roc_base.specs.Equalities.{is_txn-true}
use Rattle.roc_depgraph.specs.Reach.{Reaches, direct, through}
use Rattle.roc_depgraph.proofs.Chains.{joined_chain}

module _ (edge : TxnId → TxnId → Bool) where
  abbrev E : TxnId → TxnId → Type 0
  E u t = IsTrue (edge u t)

  -- a chain leads from u to t that passes through ids of the list alone
  pub path : List TxnId → TxnId → TxnId → Bool
  path [] u t = edge u t
  path (x ∷ xs) u t = path xs u t || (path xs u x && path xs x t)

  path_more : (x : TxnId) (xs : List TxnId) (u t : TxnId) → path xs u t ≡ true → path (x ∷ xs) u t ≡ true
  unfolding path
  path_more x xs u t h = or_left (path xs u t) (path xs u x && path xs x t) h

  path_over : (x : TxnId) (xs : List TxnId) (u t : TxnId) → path xs u x ≡ true → path xs x t ≡ true → path (x ∷ xs) u t ≡ true
  unfolding path
  path_over x xs u t h k = or_right (path xs u t) (path xs u x && path xs x t) (and_from (path xs u x) (path xs x t) h k)

  pub path_chain : (xs : List TxnId) (u t : TxnId) → path xs u t ≡ true → Reaches E u t
  unfolding path
  path_chain [] u t h = direct h
  path_chain (x ∷ xs) u t h =
      elim (or_cases (path xs u t) (path xs u x && path xs x t) h) [
        | inl k ↦ path_chain xs u t k
        | inr k ↦ (let p = and_parts (path xs u x) (path xs x t) k in joined_chain E u x t (path_chain xs u x p.0) (path_chain xs x t p.1))
      ]

  pub edge_path : (xs : List TxnId) (u t : TxnId) → edge u t ≡ true → path xs u t ≡ true
  unfolding path
  edge_path [] u t h = h
  edge_path (x ∷ xs) u t h = path_more x xs u t (edge_path xs u t h)

  -- two parts of a path: directly, or over the first id
  parts : (x : TxnId) (xs : List TxnId) (u t : TxnId) → path (x ∷ xs) u t ≡ true → (path xs u t ≡ true) ⊎ ((path xs u x ≡ true) × (path xs x t ≡ true))
  unfolding path
  parts x xs u t h = elim (or_cases (path xs u t) (path xs u x && path xs x t) h) [ inl k ↦ inl k | inr k ↦ inr (and_parts (path xs u x) (path xs x t) k) ]

  -- into the first id, and out of it
  into : (x : TxnId) (xs : List TxnId) (u : TxnId) → path (x ∷ xs) u x ≡ true → path xs u x ≡ true
  into x xs u h = elim (parts x xs u x h) [ inl k ↦ k | inr k ↦ k.0 ]

  out : (x : TxnId) (xs : List TxnId) (t : TxnId) → path (x ∷ xs) x t ≡ true → path xs x t ≡ true
  out x xs t h = elim (parts x xs x t h) [ inl k ↦ k | inr k ↦ k.1 ]

  pub path_joined : (xs : List TxnId) (u y t : TxnId) → IsListed is_txn xs y → path xs u y ≡ true → path xs y t ≡ true → path xs u t ≡ true
  path_joined [] u y t l h k = absurd (omega arith)
  path_joined (x ∷ xs) u y t l h k =
      elim (listed_cases is_txn x xs y l) [
        | inl e ↦ (let same : y ≡ x = is_txn-true y x e in
            path_over x xs u t (into x xs u (subst (λ v. path (x ∷ xs) u v ≡ true) same h)) (out x xs t (subst (λ v. path (x ∷ xs) v t ≡ true) same k)))
        | inr i ↦ go (λ a b. path_joined xs a y b i.1) (parts x xs u y h) (parts x xs y t k)
      ]
    where
      go : ((a b : TxnId) → path xs a y ≡ true → path xs y b ≡ true → path xs a b ≡ true)
          → (path xs u y ≡ true) ⊎ ((path xs u x ≡ true) × (path xs x y ≡ true)) → (path xs y t ≡ true) ⊎ ((path xs y x ≡ true) × (path xs x t ≡ true)) → path (x ∷ xs) u t ≡ true
      go ih (inl a) (inl b) = path_more x xs u t (ih u t a b)
      go ih (inl a) (inr b) = path_over x xs u t (ih u x a b.0) b.1
      go ih (inr a) (inl b) = path_over x xs u t a.0 (ih x t a.1 b)
      go ih (inr a) (inr b) = path_over x xs u t a.0 b.1

  -- a chain is a path where all that edges start from are listed
  pub chain_path : (xs : List TxnId) → ((u t : TxnId) → E u t → IsListed is_txn xs t) → (u t : TxnId) → Reaches E u t → path xs u t ≡ true
  chain_path xs within u _ (direct {t = t} e) = edge_path xs u t e
  chain_path xs within u _ (through {s = s} {t = t} p e) = path_joined xs u s t (ends u s p) (chain_path xs within u s p) (edge_path xs s t e)
    where
      ends : (a b : TxnId) → Reaches E a b → IsListed is_txn xs b
      ends a _ (direct {t = b} i) = within a b i
      ends a _ (through {s = c} {t = b} q i) = within c b i
