-- Several transactions end, one after another
use Rattle.std.proofs.Common.{◌≡◌, ◌<◌, ◌+◌, ◌||◌, ℕ, Bool, true, false, not, List, [], ◌∷◌, ◌++◌, cond, length, get_or, take, map, filter, refl, sym, ap, ◌∙◌}
use Rattle.std.proofs.lemmas.List.{take_more}
use Rattle.std.proofs.lemmas.List.Folds.{list_any-append}
use Rattle.roc_sequence.specs.Places.{is_listed}
use Rattle.roc_base.specs.declared.id.TxnId.{TxnId}
use Rattle.roc_base.specs.TxnId.{is_txn}
use Rattle.roc_base.proofs.Ids.{is_listed-any, is_txn-swap}
use Rattle.roc_base.specs.Edge.{Dependency}
use Rattle.roc_depgraph.specs.declared.known.KnownList.{KnownList}
use Rattle.roc_step.specs.Links.{without_links}
use Rattle.roc_server_rows.specs.Changes.{lists_ended, RowLists}
use Rattle.roc_server_table.specs.Inner.Changes.{all_ended}

-- one more of them
pub listed_more : (ids : List TxnId) (t u : TxnId) → is_listed is_txn (ids ++ t ∷ []) u ≡ (is_listed is_txn ids u || is_txn u t)
listed_more ids t u =
    is_listed-any (ids ++ t ∷ []) u ∙ (list_any-append (λ y. is_txn y u) ids (t ∷ [])
    ∙ (ap (λ b. b || (is_txn t u || false)) (sym (is_listed-any ids u)) ∙ (ap (λ b. is_listed is_txn ids u || b) (or_none (is_txn t u)) ∙ ap (λ b. is_listed is_txn ids u || b) (is_txn-swap t u))))
  where
    or_none : (b : Bool) → (b || false) ≡ b
    or_none true = refl
    or_none false = refl

-- what passes both tests
pub filter_both : {A : Type 0} (p q r : A → Bool) → ((a : A) → p a ≡ (q a || r a)) → (xs : List A) → filter (λ x. not (r x)) (filter (λ x. not (q x)) xs) ≡ filter (λ x. not (p x)) xs
filter_both p q r h [] = refl
filter_both p q r h (x ∷ xs) = go (q x) (r x) (p x) refl (h x) (filter_both p q r h xs)
  where
    go : (b k c : Bool) → r x ≡ k → c ≡ (b || k) → filter (λ x. not (r x)) (filter (λ x. not (q x)) xs) ≡ filter (λ x. not (p x)) xs
        → filter (λ x. not (r x)) (cond (not b) (x ∷ filter (λ x. not (q x)) xs) (filter (λ x. not (q x)) xs)) ≡ cond (not c) (x ∷ filter (λ x. not (p x)) xs) (filter (λ x. not (p x)) xs)
    go true k c s e i = i ∙ sym (ap (λ b. cond (not b) (x ∷ filter (λ x. not (p x)) xs) (filter (λ x. not (p x)) xs)) e)
    go false true c s e i =
        ap (λ b. cond (not b) (x ∷ filter (λ x. not (r x)) (filter (λ x. not (q x)) xs)) (filter (λ x. not (r x)) (filter (λ x. not (q x)) xs))) s
        ∙ (i ∙ sym (ap (λ b. cond (not b) (x ∷ filter (λ x. not (p x)) xs) (filter (λ x. not (p x)) xs)) e))
    go false false c s e i =
        ap (λ b. cond (not b) (x ∷ filter (λ x. not (r x)) (filter (λ x. not (q x)) xs)) (filter (λ x. not (r x)) (filter (λ x. not (q x)) xs))) s
        ∙ (ap (λ l. x ∷ l) i ∙ sym (ap (λ b. cond (not b) (x ∷ filter (λ x. not (p x)) xs) (filter (λ x. not (p x)) xs)) e))

-- what is left of lists, and of their entries
left_both : (p q r : TxnId → Bool) → ((a : TxnId) → p a ≡ (q a || r a)) → (ks : List KnownList)
    → map (without_links r) (filter (λ l. not (r l.of)) (map (without_links q) (filter (λ l. not (q l.of)) ks))) ≡ map (without_links p) (filter (λ l. not (p l.of)) ks)
left_both p q r h [] = refl
left_both p q r h (k ∷ ks) = go (q k.of) (r k.of) (p k.of) refl (h k.of) (left_both p q r h ks)
  where
    tail : List KnownList
    tail = map (without_links q) (filter (λ l. not (q l.of)) ks)

    go : (b c d : Bool) → r k.of ≡ c → d ≡ (b || c)
        → map (without_links r) (filter (λ l. not (r l.of)) (map (without_links q) (filter (λ l. not (q l.of)) ks))) ≡ map (without_links p) (filter (λ l. not (p l.of)) ks)
        → map (without_links r) (filter (λ l. not (r l.of)) (map (without_links q) (cond (not b) (k ∷ filter (λ l. not (q l.of)) ks) (filter (λ l. not (q l.of)) ks))))
        ≡ map (without_links p) (cond (not d) (k ∷ filter (λ l. not (p l.of)) ks) (filter (λ l. not (p l.of)) ks))
    go true c d s e i = i ∙ sym (ap (λ b. map (without_links p) (cond (not b) (k ∷ filter (λ l. not (p l.of)) ks) (filter (λ l. not (p l.of)) ks))) e)
    go false true d s e i =
        ap (λ b. map (without_links r) (cond (not b) (without_links q k ∷ filter (λ l. not (r l.of)) (map (without_links q) (filter (λ l. not (q l.of)) ks)))
        (filter (λ l. not (r l.of)) (map (without_links q) (filter (λ l. not (q l.of)) ks))))) s
        ∙ (i ∙ sym (ap (λ b. map (without_links p) (cond (not b) (k ∷ filter (λ l. not (p l.of)) ks) (filter (λ l. not (p l.of)) ks))) e))
    go false false d s e i =
        ap (λ b. map (without_links r) (cond (not b) (without_links q k ∷ filter (λ l. not (r l.of)) (map (without_links q) (filter (λ l. not (q l.of)) ks)))
        (filter (λ l. not (r l.of)) (map (without_links q) (filter (λ l. not (q l.of)) ks))))) s
        ∙ (ap (λ es. record { of = k.of; edges = es } ∷ map (without_links r) (filter (λ l. not (r l.of)) (map (without_links q) (filter (λ l. not (q l.of)) ks))))
        (filter_both (λ (d : Dependency). p d.from) (λ d. q d.from) (λ d. r d.from) (λ d. h d.from) k.edges)
        ∙ (ap (λ l. without_links p k ∷ l) i ∙ sym (ap (λ b. map (without_links p) (cond (not b) (k ∷ filter (λ l. not (p l.of)) ks) (filter (λ l. not (p l.of)) ks))) e)))

-- of none
pub none_ended : (k : RowLists) → k ≡ all_ended [] k
none_ended k = λ i. record { known = sym (all_pass k.known) i; links = sym (links_pass k.links) i }
  where
    all_pass : (ks : List KnownList) → filter (λ l. not (is_listed is_txn [] l.of)) ks ≡ ks
    all_pass [] = refl
    all_pass (l ∷ ls) = ap (λ ks. l ∷ ks) (all_pass ls)

    entries_pass : (es : List Dependency) → filter (λ d. not (is_listed is_txn [] d.from)) es ≡ es
    entries_pass [] = refl
    entries_pass (d ∷ ds) = ap (λ es. d ∷ es) (entries_pass ds)

    links_pass : (ks : List KnownList) → map (without_links (is_listed is_txn [])) (filter (λ l. not (is_listed is_txn [] l.of)) ks) ≡ ks
    links_pass [] = refl
    links_pass (l ∷ ls) =
        ap (λ es. record { of = l.of; edges = es } ∷ map (without_links (is_listed is_txn [])) (filter (λ l. not (is_listed is_txn [] l.of)) ls)) (entries_pass l.edges)
        ∙ ap (λ ks. l ∷ ks) (links_pass ls)

-- of one more
pub one_more_ended : (ids : List TxnId) (t : TxnId) (k : RowLists) → lists_ended t (all_ended ids k) ≡ all_ended (ids ++ t ∷ []) k
one_more_ended ids t k = λ i. record { known = known i; links = links i }
  where
    known : filter (λ l. not (is_txn l.of t)) (filter (λ l. not (is_listed is_txn ids l.of)) k.known) ≡ filter (λ l. not (is_listed is_txn (ids ++ t ∷ []) l.of)) k.known
    known = filter_both (λ (l : KnownList). is_listed is_txn (ids ++ t ∷ []) l.of) (λ l. is_listed is_txn ids l.of) (λ l. is_txn l.of t) (λ l. listed_more ids t l.of) k.known

    links : map (without_links (λ u. is_txn u t)) (filter (λ l. not (is_txn l.of t)) (map (without_links (is_listed is_txn ids)) (filter (λ l. not (is_listed is_txn ids l.of)) k.links)))
        ≡ map (without_links (is_listed is_txn (ids ++ t ∷ []))) (filter (λ l. not (is_listed is_txn (ids ++ t ∷ []) l.of)) k.links)
    links = left_both (is_listed is_txn (ids ++ t ∷ [])) (is_listed is_txn ids) (λ u. is_txn u t) (λ u. listed_more ids t u) k.links

-- what is left to be ended, one by one
pub ended_next : (ids : List TxnId) (i : ℕ) (t : TxnId) (k now next : RowLists) → i < length ids → t ≡ get_or ids i t → now ≡ all_ended (take i ids) k
    → next ≡ lists_ended t now → next ≡ all_ended (take (i + 1) ids) k
ended_next ids i t k now next below is before e =
    e ∙ (ap (lists_ended t) before ∙ (one_more_ended (take i ids) t k ∙ ap (λ l. all_ended l k) (sym (take_more ids i t below ∙ ap (λ x. take i ids ++ x ∷ []) (sym is)))))
