-- Lists without the entries that name some transactions
use Rattle.std.proofs.Common.{◌≡◌, Bool, true, false, not, cond, List, [], ◌∷◌, ◌++◌, Option, Some, None, map, filter, refl, sym, ap, ◌∙◌, inl, inr}
use Rattle.std.proofs.lemmas.List.Elements.{filter-append}
use Rattle.roc_sequence.specs.Lists.{Has}
use Rattle.roc_sequence.proofs.Members.{has_left, has_right}
use Rattle.roc_sequence.proofs.Rising.{rising_filter}
use Rattle.roc_base.specs.declared.id.TxnId.{TxnId}
use Rattle.roc_base.specs.TxnId.{is_txn}
use Rattle.roc_base.specs.Equalities.{is_txn-true}
use Rattle.roc_base.specs.Edge.{Dependency}
use Rattle.roc_base.specs.Edges.{united, entry_at, all_of, joined_with, comes_before}
use Rattle.roc_base.proofs.Union.{IsRising-united, entry_at-united, same_united}
use Rattle.roc_depgraph.specs.declared.known.KnownList.{KnownList}
use Rattle.roc_step.specs.Links.{without_links, all_entries}
use Rattle.roc_step.proofs.Skipped.{IsOfId}

pub entries_left : (p : TxnId → Bool) (news : List KnownList) → all_entries (map (without_links p) news) ≡ filter (λ d. not (p d.from)) (all_entries news)
entries_left p [] = refl
entries_left p (k ∷ ks) =
    ap (λ es. filter (λ (d : Dependency). not (p d.from)) k.edges ++ es) (entries_left p ks)
    ∙ sym (filter-append (λ (d : Dependency). not (p d.from)) k.edges (all_entries ks))

-- ---- what a test of the id leaves of a union

abbrev nothing : Option Dependency
nothing = None

no_more : (b : Bool) → nothing ≡ cond b nothing nothing
no_more true = refl
no_more false = refl

module _ (q : Dependency → Bool) (of_id : IsOfId q) where
  -- at one id all entries pass or none does
  entry_left : (id : TxnId) (b : Bool) → ((d : Dependency) → d.from ≡ id → q d ≡ b) → (xs : List Dependency) → entry_at id (filter q xs) ≡ cond b (entry_at id xs) None
  entry_left id b all [] = no_more b
  entry_left id b all (x ∷ xs) = go (is_txn x.from id) refl (entry_left id b all xs)
    where
      same : x.from ≡ id → is_txn x.from id ≡ true → entry_at id (filter q xs) ≡ cond b (entry_at id xs) None → entry_at id (cond (q x) (x ∷ filter q xs) (filter q xs)) ≡ cond b (Some x) None
      same e f ih = ap (λ c. entry_at id (cond c (x ∷ filter q xs) (filter q xs))) (all x e) ∙ both b ih
        where
          both : (c : Bool) → entry_at id (filter q xs) ≡ cond c (entry_at id xs) None → entry_at id (cond c (x ∷ filter q xs) (filter q xs)) ≡ cond c (Some x) None
          both true ih = ap (λ c. cond c (Some x) (entry_at id (filter q xs))) f
          both false ih = ih

      other : is_txn x.from id ≡ false → (c : Bool) → entry_at id (cond c (x ∷ filter q xs) (filter q xs)) ≡ entry_at id (filter q xs)
      other f true = ap (λ c. cond c (Some x) (entry_at id (filter q xs))) f
      other f false = refl

      go : (c : Bool) → is_txn x.from id ≡ c → entry_at id (filter q xs) ≡ cond b (entry_at id xs) None → entry_at id (filter q (x ∷ xs)) ≡ cond b (cond c (Some x) (entry_at id xs)) None
      go true f ih = same (is_txn-true x.from id f) f ih
      go false f ih = other f (q x) ∙ ih

  all_left : (id : TxnId) (b : Bool) → ((d : Dependency) → d.from ≡ id → q d ≡ b) → (xs : List Dependency) → all_of id (filter q xs) ≡ cond b (all_of id xs) None
  all_left id b all [] = no_more b
  all_left id b all (x ∷ xs) = go (is_txn x.from id) refl (all_left id b all xs)
    where
      same : x.from ≡ id → is_txn x.from id ≡ true → all_of id (filter q xs) ≡ cond b (all_of id xs) None → all_of id (cond (q x) (x ∷ filter q xs) (filter q xs)) ≡ cond b (Some (joined_with x (all_of id xs))) None
      same e f ih = ap (λ c. all_of id (cond c (x ∷ filter q xs) (filter q xs))) (all x e) ∙ both b ih
        where
          both : (c : Bool) → all_of id (filter q xs) ≡ cond c (all_of id xs) None → all_of id (cond c (x ∷ filter q xs) (filter q xs)) ≡ cond c (Some (joined_with x (all_of id xs))) None
          both true ih = ap (λ c. cond c (Some (joined_with x (all_of id (filter q xs)))) (all_of id (filter q xs))) f ∙ ap (λ o. Some (joined_with x o)) ih
          both false ih = ih

      other : is_txn x.from id ≡ false → (c : Bool) → all_of id (cond c (x ∷ filter q xs) (filter q xs)) ≡ all_of id (filter q xs)
      other f true = ap (λ c. cond c (Some (joined_with x (all_of id (filter q xs)))) (all_of id (filter q xs))) f
      other f false = refl

      go : (c : Bool) → is_txn x.from id ≡ c → all_of id (filter q xs) ≡ cond b (all_of id xs) None → all_of id (filter q (x ∷ xs)) ≡ cond b (cond c (Some (joined_with x (all_of id xs))) (all_of id xs)) None
      go true f ih = same (is_txn-true x.from id f) f ih
      go false f ih = other f (q x) ∙ ih

  pub united_left : (es : List Dependency) → united (filter q es) ≡ filter q (united es)
  united_left es = sym (same_united (filter q (united es)) (filter q es) (rising_filter comes_before q (united es) (IsRising-united es)) each)
    where
      each : (id : TxnId) → entry_at id (filter q (united es)) ≡ all_of id (filter q es)
      each id =
          let any : Dependency = record { from = id; imm = true; def = true; at = record { 0 = 0 } } in
          let at : (d : Dependency) → d.from ≡ id → q d ≡ q any = λ d e. of_id d any e in
          entry_left id (q any) at (united es) ∙ ap (λ o. cond (q any) o None) (entry_at-united id es) ∙ sym (all_left id (q any) at es)

-- ---- tests that agree

filter_alike : (p q : Dependency → Bool) (es : List Dependency) → ((d : Dependency) → Has d es → p d ≡ q d) → filter p es ≡ filter q es
filter_alike p q [] same = refl
filter_alike p q (e ∷ es) same = λ i. cond (same e (inl refl) i) (e ∷ filter_alike p q es (λ d h. same d (inr h)) i) (filter_alike p q es (λ d h. same d (inr h)) i)

filter_whole : (p : Dependency → Bool) (es : List Dependency) → ((d : Dependency) → Has d es → p d ≡ true) → filter p es ≡ es
filter_whole p [] all = refl
filter_whole p (e ∷ es) all = λ i. cond (all e (inl refl) i) (e ∷ filter_whole p es (λ d h. all d (inr h)) i) (filter_whole p es (λ d h. all d (inr h)) i)

abbrev with_edges : TxnId → List Dependency → KnownList
with_edges t es = record { of = t; edges = es }

-- by tests that agree on all ids that a list names it is the same
pub without_alike : (p q : TxnId → Bool) (k : KnownList) → ((d : Dependency) → Has d k.edges → p d.from ≡ q d.from) → without_links p k ≡ without_links q k
without_alike p q k same = ap (with_edges k.of) (filter_alike (λ d. not (p d.from)) (λ d. not (q d.from)) k.edges (λ d h. ap not (same d h)))

-- and by one that no id passes that it names it is the list itself
pub without_none : (p : TxnId → Bool) (k : KnownList) → ((d : Dependency) → Has d k.edges → p d.from ≡ false) → without_links p k ≡ k
without_none p k none = ap (with_edges k.of) (filter_whole (λ d. not (p d.from)) k.edges (λ d h. ap not (none d h)))

-- the same of several lists
pub all_without_alike : (p q : TxnId → Bool) (ks : List KnownList) → ((d : Dependency) → Has d (all_entries ks) → p d.from ≡ q d.from) → map (without_links p) ks ≡ map (without_links q) ks
all_without_alike p q [] same = refl
all_without_alike p q (k ∷ ks) same =
    λ i. without_alike p q k (λ d h. same d (has_left d k.edges (all_entries ks) h)) i ∷ all_without_alike p q ks (λ d h. same d (has_right d k.edges (all_entries ks) h)) i

pub all_without_none : (p : TxnId → Bool) (ks : List KnownList) → ((d : Dependency) → Has d (all_entries ks) → p d.from ≡ false) → map (without_links p) ks ≡ ks
all_without_none p [] none = refl
all_without_none p (k ∷ ks) none =
    λ i. without_none p k (λ d h. none d (has_left d k.edges (all_entries ks) h)) i ∷ all_without_none p ks (λ d h. none d (has_right d k.edges (all_entries ks) h)) i
