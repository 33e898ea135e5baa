-- What is of no list that is new, in lists of what is each of one transaction
use Rattle.std.proofs.Common.{◌≡◌, Bool, true, false, cond, not, ◌&&◌, ◌||◌, List, [], ◌∷◌, ◌++◌, Some, filter, is_some, refl, sym, ap, ◌∙◌}
use Rattle.std.proofs.lemmas.List.Folds.{list_any-append}
use Rattle.std.specs.List.{list_any}
use Rattle.roc_base.specs.declared.id.TxnId.{TxnId}
use Rattle.roc_base.specs.TxnId.{is_txn}
use Rattle.roc_base.proofs.Ids.{is_txn-swap}
use Rattle.roc_depgraph.specs.declared.known.KnownList.{KnownList}
use Rattle.roc_depgraph.specs.Deps.{is_known, list_of}

both : (b d : Bool) → not (b || (d || false)) ≡ (not b && not d)
both true d = refl
both false true = refl
both false false = refl

not_either : (b d : Bool) → not (b || d) ≡ (not b && not d)
not_either true d = refl
not_either false d = refl

-- lists of these are known exactly where one is known already or is new
known_more : (old news : List KnownList) (id : TxnId) → is_known (old ++ news) id ≡ (is_known old id || list_any (λ k. is_txn k.of id) news)
known_more [] [] id = refl
known_more [] (k ∷ news) id =
    elim (is_txn k.of id) as (λ b. is_some (cond b (Some k.edges) (list_of id news)) ≡ (b || list_any (λ j. is_txn j.of id) news)) [ true ↦ refl | false ↦ known_more [] news id ]
known_more (k ∷ old) news id =
    elim (is_txn k.of id) as (λ b. is_some (cond b (Some k.edges) (list_of id (old ++ news))) ≡ (is_some (cond b (Some k.edges) (list_of id old)) || list_any (λ j. is_txn j.of id) news)) [
      | true ↦ refl
      | false ↦ known_more old news id
    ]

module _ {A : Type 0} (of : A → TxnId) where
  abbrev pub not_of : List KnownList → List A → List A
  not_of news xs = filter (λ a. not (list_any (λ k. is_txn k.of (of a)) news)) xs

  pub not_of_none : (xs : List A) → not_of [] xs ≡ xs
  not_of_none [] = refl
  not_of_none (x ∷ xs) = ap (λ l. x ∷ l) (not_of_none xs)

  filter_both : (p q r : A → Bool) → ((a : A) → r a ≡ (p a && q a)) → (xs : List A) → filter q (filter p xs) ≡ filter r xs
  filter_both p q r e [] = refl
  filter_both p q r e (x ∷ xs) = go (p x) refl (filter_both p q r e xs)
    where
      go : (b : Bool) → p x ≡ b → filter q (filter p xs) ≡ filter r xs → filter q (cond b (x ∷ filter p xs) (filter p xs)) ≡ filter r (x ∷ xs)
      go true k ih = ap (λ ys. cond (q x) (x ∷ ys) ys) ih ∙ ap (λ b. cond b (x ∷ filter r xs) (filter r xs)) (sym (e x ∙ ap (λ b. b && q x) k))
      go false k ih = ih ∙ ap (λ b. cond b (x ∷ filter r xs) (filter r xs)) (sym (e x ∙ ap (λ b. b && q x) k))

  -- one more list is new
  pub not_of_more : (seen more : List KnownList) (k : KnownList) (xs : List A) → more ≡ seen ++ k ∷ [] → filter (λ a. not (is_txn (of a) k.of)) (not_of seen xs) ≡ not_of more xs
  not_of_more seen more k xs is =
      filter_both (λ a. not (list_any (λ j. is_txn j.of (of a)) seen)) (λ a. not (is_txn (of a) k.of)) (λ a. not (list_any (λ j. is_txn j.of (of a)) (seen ++ k ∷ []))) each xs
      ∙ ap (λ ks. not_of ks xs) (sym is)
    where
      each : (a : A) → not (list_any (λ j. is_txn j.of (of a)) (seen ++ k ∷ [])) ≡ (not (list_any (λ j. is_txn j.of (of a)) seen) && not (is_txn (of a) k.of))
      each a =
          ap not (list_any-append (λ j. is_txn j.of (of a)) seen (k ∷ []))
          ∙ both (list_any (λ j. is_txn j.of (of a)) seen) (is_txn k.of (of a))
          ∙ ap (λ b. not (list_any (λ j. is_txn j.of (of a)) seen) && not b) (is_txn-swap k.of (of a))

  -- what is of no known list, once the new ones are known
  pub unknown_not_of : (old news : List KnownList) (xs : List A) → not_of news (filter (λ a. not (is_known old (of a))) xs) ≡ filter (λ a. not (is_known (old ++ news) (of a))) xs
  unknown_not_of old news xs =
      filter_both (λ a. not (is_known old (of a))) (λ a. not (list_any (λ k. is_txn k.of (of a)) news)) (λ a. not (is_known (old ++ news) (of a)))
      (λ a. ap not (known_more old news (of a)) ∙ not_either (is_known old (of a)) (list_any (λ k. is_txn k.of (of a)) news)) xs
