-- Lists by the ids that they are kept under
use Rattle.std.proofs.Common.{◌≡◌, Bool, true, false, cond, not, List, [], ◌∷◌, filter, Some, None, refl, sym, ap, ◌∙◌, arith}
use Rattle.std.proofs.lemmas.Bool.Decides.{nat_tests}
use Rattle.std.proofs.lemmas.List.{map-append}
use Rattle.std.specs.Map.{lookup, remove_entry}
use Rattle.indexmap.proofs.CallerLemmas.{insert_entry-new}
use Rattle.indexmap.specs.IndexMap.{IndexMap, insert_entry}
use Rattle.roc_base.specs.declared.id.TxnId.{TxnId}
use Rattle.roc_base.specs.TxnId.{is_txn}
use Rattle.roc_base.specs.Edge.{Dependency}
use Rattle.roc_depgraph.specs.declared.known.KnownList.{KnownList}
use Rattle.roc_depgraph.specs.Deps.{list_of, learnt}
use Rattle.roc_depgraph.specs.Inner.Entries.{known_by}

is_txn-turned : (a b : TxnId) → is_txn a b ≡ is_txn b a
is_txn-turned a b = grind (arith, nat_tests)

-- what is found under an id is its list
pub list_of-known_by : (id : TxnId) (es : List (TxnId × List Dependency)) → lookup (is_txn id) es ≡ list_of id (known_by es)
list_of-known_by id [] = refl
list_of-known_by id (e ∷ es) = ap (λ b. cond b (Some e.1) (lookup (is_txn id) es)) (is_txn-turned id e.0) ∙ ap (cond (is_txn e.0 id) (Some e.1)) (list_of-known_by id es)

-- a new entry is one more list
pub known_by-insert_entry : {S : Type 0} (m : IndexMap TxnId (List Dependency) S) (id : TxnId) (edges : List Dependency) → list_of id (known_by m.entries) ≡ None
    → known_by (insert_entry is_txn m.entries id edges) ≡ learnt (known_by m.entries) id edges
known_by-insert_entry m id edges none =
    ap known_by (insert_entry-new is_txn m id edges (list_of-known_by id m.entries ∙ none))
    ∙ map-append (λ (e : TxnId × List Dependency). record { of = e.0; edges = e.1 }) m.entries ((id, edges) ∷ [])

-- where nothing is found, all others stay
others_stay : (id : TxnId) (es : List (TxnId × List Dependency)) → lookup (is_txn id) es ≡ None → known_by es ≡ filter (λ k. not (is_txn k.of id)) (known_by es)
others_stay id [] none = refl
others_stay id (e ∷ es) none = go (is_txn id e.0) refl none (others_stay id es)
  where
    go : (b : Bool) → is_txn id e.0 ≡ b → cond b (Some e.1) (lookup (is_txn id) es) ≡ None → (lookup (is_txn id) es ≡ None → known_by es ≡ filter (λ k. not (is_txn k.of id)) (known_by es))
        → known_by (e ∷ es) ≡ filter (λ k. not (is_txn k.of id)) (known_by (e ∷ es))
    go true h n ih = cc
    go false h n ih =
        let k : KnownList = record { of = e.0; edges = e.1 } in
        let left : List KnownList = filter (λ k. not (is_txn k.of id)) (known_by es) in
        ap (λ ks. k ∷ ks) (ih n) ∙ ap (λ b. cond (not b) (k ∷ left) left) (sym (is_txn-turned e.0 id ∙ h))

-- an entry was taken out, and none of its key is left
pub known_by-remove_entry : (id : TxnId) (es : List (TxnId × List Dependency)) → lookup (is_txn id) (remove_entry (is_txn id) es) ≡ None
    → known_by (remove_entry (is_txn id) es) ≡ filter (λ k. not (is_txn k.of id)) (known_by es)
known_by-remove_entry id [] none = refl
known_by-remove_entry id (e ∷ es) none = go (is_txn id e.0) refl none (known_by-remove_entry id es)
  where
    k : KnownList
    k = record { of = e.0; edges = e.1 }

    left : List KnownList
    left = filter (λ k. not (is_txn k.of id)) (known_by es)

    go : (b : Bool) → is_txn id e.0 ≡ b → lookup (is_txn id) (cond b es (e ∷ remove_entry (is_txn id) es)) ≡ None
        → (lookup (is_txn id) (remove_entry (is_txn id) es) ≡ None → known_by (remove_entry (is_txn id) es) ≡ left)
        → known_by (cond b es (e ∷ remove_entry (is_txn id) es)) ≡ cond (not (is_txn e.0 id)) (k ∷ left) left
    go true h n ih = others_stay id es n ∙ ap (λ b. cond (not b) (k ∷ left) left) (sym (is_txn-turned e.0 id ∙ h))
    go false h n ih =
        let rest : lookup (is_txn id) (remove_entry (is_txn id) es) ≡ None = ap (λ b. cond b (Some e.1) (lookup (is_txn id) (remove_entry (is_txn id) es))) (sym h) ∙ n in
        ap (λ ks. k ∷ ks) (ih rest) ∙ ap (λ b. cond (not b) (k ∷ left) left) (sym (is_txn-turned e.0 id ∙ h))
