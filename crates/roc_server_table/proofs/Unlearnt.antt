-- Where lists that were learnt last are taken back, those are left that were known before
use Rattle.std.proofs.Common.{◌≡◌, ℕ, zero, suc, Bool, true, false, cond, not, List, [], ◌∷◌, ◌++◌, take, filter, Some, None, is_some, append-nil, inl, inr, refl, sym, ap, ◌∙◌, subst}
use Rattle.std.proofs.lemmas.Bool.{false≢true}
use Rattle.std.proofs.lemmas.List.Elements.{filter-append}
use Rattle.std.proofs.lemmas.Option.{none-some}
use Rattle.roc_sequence.specs.Lists.{Has}
use Rattle.roc_sequence.proofs.Members.{has_left}
use Rattle.roc_base.specs.declared.id.TxnId.{TxnId}
use Rattle.roc_base.specs.TxnId.{is_txn}
use Rattle.roc_base.specs.Equalities.{is_txn-true, is_txn-same}
use Rattle.roc_base.proofs.Ids.{is_txn-swap}
use Rattle.roc_depgraph.specs.declared.known.KnownList.{KnownList}
use Rattle.roc_depgraph.specs.Deps.{list_of, is_known}
use Rattle.roc_step.specs.Learning.{AreLearnable}
use Rattle.roc_step.specs.New.{AreLearntLast, AreLinkedLast}
use Rattle.roc_step.proofs.SameIds.{ids_of, known_alike}

-- ---- what is known among lists

pub known_itself : (ks : List KnownList) (k : KnownList) → Has k ks → is_known ks k.of ≡ true
known_itself [] k h = absurd h
known_itself (x ∷ xs) k (inl e) = ap (λ b. is_some (cond b (Some x.edges) (list_of k.of xs))) (subst (λ (y : KnownList). is_txn x.of y.of ≡ true) (sym e) (is_txn-same x.of))
known_itself (x ∷ xs) k (inr h) = go (is_txn x.of k.of) (known_itself xs k h)
  where
    go : (b : Bool) → is_known xs k.of ≡ true → is_some (cond b (Some x.edges) (list_of k.of xs)) ≡ true
    go true ih = refl
    go false ih = ih

pub known_has : (ks : List KnownList) (t : TxnId) → is_known ks t ≡ true → (k : KnownList) × Has k ks × (k.of ≡ t)
known_has [] t h = absurd (false≢true h)
known_has (x ∷ xs) t h = go (is_txn x.of t) refl h (known_has xs t)
  where
    go : (b : Bool) → is_txn x.of t ≡ b → is_some (cond b (Some x.edges) (list_of t xs)) ≡ true → (is_known xs t ≡ true → (k : KnownList) × Has k xs × (k.of ≡ t))
        → (k : KnownList) × Has k (x ∷ xs) × (k.of ≡ t)
    go true e i ih = (x, inl refl, is_txn-true x.of t e)
    go false e i ih = let w = ih i in (w.0, inr w.1, w.2)

-- no list is of a transaction of which none is known
other_of : (ks : List KnownList) (t : TxnId) → list_of t ks ≡ None → (k : KnownList) → Has k ks → is_txn k.of t ≡ false
other_of [] t none k h = absurd h
other_of (x ∷ xs) t none k h = go (is_txn x.of t) refl none h (other_of xs t)
  where
    go : (b : Bool) → is_txn x.of t ≡ b → cond b (Some x.edges) (list_of t xs) ≡ None → Has k (x ∷ xs)
        → (list_of t xs ≡ None → (y : KnownList) → Has y xs → is_txn y.of t ≡ false) → is_txn k.of t ≡ false
    go true e z i ih = absurd (none-some x.edges (sym z))
    go false e z (inl i) ih = ap (λ (y : KnownList). is_txn y.of t) i ∙ e
    go false e z (inr i) ih = ih z k i

-- ---- lists that can be learnt behind others are of other transactions

pub apart_of : (before linked : List KnownList) → AreLearnable before linked → (k : KnownList) → Has k before → is_known linked k.of ≡ false
apart_of before [] a k h = refl
apart_of before (l ∷ ls) a k h =
    ap (λ b. is_some (cond b (Some l.edges) (list_of k.of ls))) (is_txn-swap l.of k.of ∙ other_of before l.of a.0 k h)
    ∙ apart_of (before ++ l ∷ []) ls a.1 k (has_left k before (l ∷ []) h)

-- of none of them a list was known
pub unknown_before : (before linked : List KnownList) → AreLearnable before linked → (k : KnownList) → Has k linked → is_known before k.of ≡ false
unknown_before before linked a k h = go (is_known before k.of) refl
  where
    go : (b : Bool) → is_known before k.of ≡ b → b ≡ false
    go true e =
        let w = known_has before k.of e in
        absurd (false≢true (sym (apart_of before linked a w.0 w.1) ∙ (ap (is_known linked) w.2 ∙ known_itself linked k h)))
    go false e = refl

pub front_learnable : (known news : List KnownList) (at : ℕ) → AreLearnable known news → AreLearnable known (take at news)
front_learnable known news zero h = tt
front_learnable known [] (suc at) h = tt
front_learnable known (k ∷ news) (suc at) h = (h.0, front_learnable (known ++ k ∷ []) news at h.1)

-- ---- what a test of the id leaves

all_left : (p : KnownList → Bool) (ks : List KnownList) → ((k : KnownList) → Has k ks → p k ≡ true) → filter p ks ≡ ks
all_left p [] all = refl
all_left p (k ∷ ks) all = λ i. cond (all k (inl refl) i) (k ∷ all_left p ks (λ x h. all x (inr h)) i) (all_left p ks (λ x h. all x (inr h)) i)

none_left : (p : KnownList → Bool) (ks : List KnownList) → ((k : KnownList) → Has k ks → p k ≡ false) → filter p ks ≡ []
none_left p [] none = refl
none_left p (k ∷ ks) none = ap (λ b. cond b (k ∷ filter p ks) (filter p ks)) (none k (inl refl)) ∙ none_left p ks (λ x h. none x (inr h))

abbrev others : (news : List KnownList) → KnownList → Bool
others news k = not (is_known news k.of)

pub unlearnt : (before linked news : List KnownList) → ids_of linked ≡ ids_of news → AreLearnable before linked → filter (λ k. not (is_known news k.of)) (before ++ linked) ≡ before
unlearnt before linked news same a =
    filter-append (others news) before linked
    ∙ ap (λ ks. ks ++ filter (others news) linked) (all_left (others news) before (λ k h. ap not (sym (alike k.of) ∙ apart_of before linked a k h)))
    ∙ ap (λ ks. before ++ ks) (none_left (others news) linked (λ k h. ap not (sym (alike k.of) ∙ known_itself linked k h)))
    ∙ append-nil before
  where
    alike : (t : TxnId) → is_known linked t ≡ is_known news t
    alike = known_alike news linked same

-- of one list alone
pub one_back : (ks : List KnownList) (k : KnownList) → list_of k.of ks ≡ None → filter (λ l. not (is_txn l.of k.of)) (ks ++ k ∷ []) ≡ ks
one_back ks k none =
    filter-append (λ (l : KnownList). not (is_txn l.of k.of)) ks (k ∷ [])
    ∙ (λ i. all_left (λ (l : KnownList). not (is_txn l.of k.of)) ks (λ l h. ap not (other_of ks k.of none l h)) i ++ cond (not (is_txn-same k.of i)) (k ∷ []) [])
    ∙ append-nil ks

-- ---- as steps tell what was learnt last

pub unlearnt_known : (known news : List KnownList) (w : AreLearntLast known news) → filter (λ k. not (is_known news k.of)) known ≡ w.before
unlearnt_known known news w = ap (filter (others news)) w.known_are ∙ unlearnt w.before news news refl w.learnable

pub unlearnt_links : (links news : List KnownList) (w : AreLinkedLast links news) → filter (λ k. not (is_known news k.of)) links ≡ w.before
unlearnt_links links news w = ap (filter (others news)) w.links_are ∙ unlearnt w.before w.linked news w.of w.learnable
