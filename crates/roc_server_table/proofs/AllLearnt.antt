-- Several lists are learnt, one after another, or are taken back where one cannot be
use Rattle.std.proofs.Common.{◌≡◌, ℕ, ◌+◌, ◌<◌, Bool, true, false, not, List, [], ◌∷◌, ◌++◌, length, take, drop, get_or, map, filter, None, refl, sym, ap, ◌∙◌, subst, append_assoc, append-nil}
use Rattle.std.proofs.lemmas.Bool.{false≢true}
use Rattle.std.proofs.lemmas.List.{map-append}
use Rattle.roc_sequence.specs.Lists.{Has}
use Rattle.roc_sequence.specs.Places.{is_listed}
use Rattle.roc_sequence.proofs.Fronts.{front_more, rest_at}
use Rattle.roc_sequence.proofs.Places.{listed_true}
use Rattle.roc_base.specs.declared.id.TxnId.{TxnId}
use Rattle.roc_base.specs.TxnId.{is_txn}
use Rattle.roc_base.specs.Edge.{Dependency}
use Rattle.roc_depgraph.specs.declared.known.KnownList.{KnownList}
use Rattle.roc_depgraph.specs.Deps.{list_of, is_known}
use Rattle.roc_step.specs.Learning.{AreLearnable}
use Rattle.roc_step.specs.Carried.{list_with}
use Rattle.roc_step.specs.Links.{without_links}
use Rattle.roc_step.proofs.SameIds.{ids_without, learnable_alike, unknown_alike}
use Rattle.roc_server_rows.specs.declared.rows.Row.{Row}
use Rattle.roc_server_rows.specs.declared.rows.Parts.{Parts}
use Rattle.roc_server_rows.specs.declared.marks.Mark.{Mark}
use Rattle.roc_server_rows.specs.Changes.{untold, with_list, RowLists}
use Rattle.roc_server_table.specs.Inner.Changes.{all_untold}
use Rattle.roc_server_table.specs.Inner.Rising.{rising_ids}
use Rattle.roc_server_rows.specs.Rows.{known_of, row_links, lists_by}
use Rattle.roc_server_table.specs.Inner.Kept.{decided_of, table_of, IsKept}
use Rattle.roc_server_table.proofs.DecidedIds.{listed_decided}
use Rattle.roc_server_table.proofs.KnownRows.{known_told, links_ids}
use Rattle.roc_server_table.proofs.Unlearnt.{front_learnable, one_back, unknown_before, unlearnt}

-- the same lists and the same decided ones are the same value
pub same_table : (old new : List Row) (marks marks2 : List Mark) → lists_by new ≡ lists_by old → decided_of new marks2 ≡ decided_of old marks → table_of new marks2 ≡ table_of old marks
same_table old new marks marks2 lists decided = λ i. record { known = (lists i).known; links = (lists i).links; decided = rising_ids (decided i) }

-- ---- one more

-- several more lists stand behind the others; their entries that name one of these are not followed
abbrev pub with_lists : (done : List TxnId) → (news : List KnownList) → RowLists → RowLists
with_lists done news k = record { known = k.known ++ news; links = k.links ++ map (without_links (is_listed is_txn done)) news }

pub none_more : (done : List TxnId) (k : RowLists) → k ≡ with_lists done [] k
none_more done k = λ i. record { known = sym (append-nil k.known) i; links = sym (append-nil k.links) i }

module _ (done : List TxnId) (news : List KnownList) (at : ℕ) (k : KnownList) (within : at < length news) (is : k ≡ get_or news at k) where
  abbrev followed : KnownList → KnownList
  followed = without_links (is_listed is_txn done)

  pub lists_more : (first now next : RowLists) → now ≡ with_lists done (take at news) first → next ≡ with_list done k.of k.edges now → next ≡ with_lists done (take (at + 1) news) first
  lists_more first now next so_far e = e ∙ (ap (with_list done k.of k.edges) so_far ∙ (λ i. record { known = known i; links = links i }))
    where
      known : (first.known ++ take at news) ++ k ∷ [] ≡ first.known ++ take (at + 1) news
      known = append_assoc first.known (take at news) (k ∷ []) ∙ ap (λ ks. first.known ++ ks) (front_more news at k within is)

      links : (first.links ++ map followed (take at news)) ++ followed k ∷ [] ≡ first.links ++ map followed (take (at + 1) news)
      links =
          append_assoc first.links (map followed (take at news)) (followed k ∷ [])
          ∙ ap (λ ks. first.links ++ ks) (sym (map-append followed (take at news) (k ∷ [])) ∙ ap (map followed) (front_more news at k within is))

  next_of : (known : List KnownList) → AreLearnable known (drop at news) → AreLearnable known (k ∷ drop (at + 1) news)
  next_of known learnable = subst (AreLearnable known) (rest_at news at k within ∙ ap (λ x. x ∷ drop (at + 1) news) (sym is)) learnable

  pub next_new : (known : List KnownList) → AreLearnable known (drop at news) → list_of k.of known ≡ None
  next_new known learnable = (next_of known learnable).0

  pub learnable_more : (now next : RowLists) → AreLearnable now.known (drop at news) → next ≡ with_list done k.of k.edges now → AreLearnable next.known (drop (at + 1) news)
  learnable_more now next learnable e =
      subst (λ (x : RowLists). AreLearnable x.known (drop (at + 1) news)) (sym e) ((next_of now.known learnable).1)

-- ---- one is taken back

pub unknown_undecided : (p : Parts) (marks : List Mark) (k : IsKept p marks) (id : TxnId) → is_known (known_of p.rows.items) id ≡ false → is_listed is_txn (decided_of p.rows.items marks) id ≡ false
unknown_undecided p marks k id unknown = go (is_listed is_txn (decided_of p.rows.items marks) id) refl
  where
    go : (b : Bool) → is_listed is_txn (decided_of p.rows.items marks) id ≡ b → b ≡ false
    go true e =
        let w = listed_decided p.numbers.entries p.rows.items p.stamp k.whole marks k.marked id (listed_true is_txn (decided_of p.rows.items marks) id e) in
        let known : is_known (known_of p.rows.items) id ≡ true = known_told p.numbers.entries p.rows.items p.stamp k.whole id w.0 w.1 ∙ k.marked.decided_told w.0 w.2 in
        absurd (false≢true (sym unknown ∙ known))
    go false e = refl

pub one_untold : (rows : List Row) (done : List TxnId) (id : TxnId) (edges : List Dependency) → list_of id (known_of rows) ≡ None → untold id (with_list done id edges (lists_by rows)) ≡ lists_by rows
one_untold rows done id edges none = λ i. record { known = known i; links = links i }
  where
    known : filter (λ l. not (is_txn l.of id)) (known_of rows ++ list_with id edges ∷ []) ≡ known_of rows
    known = one_back (known_of rows) (list_with id edges) none

    links : filter (λ l. not (is_txn l.of id)) (row_links rows ++ without_links (is_listed is_txn done) (list_with id edges) ∷ []) ≡ row_links rows
    links = one_back (row_links rows) (without_links (is_listed is_txn done) (list_with id edges)) (unknown_alike (known_of rows) (row_links rows) (links_ids rows) id none)

-- ---- those so far are taken back

module _ (p q : Parts) (marks marks2 : List Mark) (k : IsKept p marks) (news : List KnownList) (learnable : AreLearnable (known_of p.rows.items) news) (at : ℕ) where
  -- none of them is decided
  pub so_far_undecided : decided_of q.rows.items marks2 ≡ decided_of p.rows.items marks → (x : KnownList) → Has x (take at news) → is_listed is_txn (decided_of q.rows.items marks2) x.of ≡ false
  so_far_undecided same x h =
      ap (λ (ids : List TxnId). is_listed is_txn ids x.of) same
      ∙ unknown_undecided p marks k x.of (unknown_before (known_of p.rows.items) (take at news) (front_learnable (known_of p.rows.items) news at learnable) x h)

  -- and the lists are left that were there
  pub so_far_back : (done : List TxnId) (mid : RowLists) → mid ≡ with_lists done (take at news) (lists_by p.rows.items) → all_untold (take at news) mid ≡ lists_by p.rows.items
  so_far_back done mid e = ap (all_untold (take at news)) e ∙ (λ i. record { known = known i; links = links i })
    where
      front : AreLearnable (known_of p.rows.items) (take at news)
      front = front_learnable (known_of p.rows.items) news at learnable

      known : filter (λ l. not (is_known (take at news) l.of)) (known_of p.rows.items ++ take at news) ≡ known_of p.rows.items
      known = unlearnt (known_of p.rows.items) (take at news) (take at news) refl front

      links : filter (λ l. not (is_known (take at news) l.of)) (row_links p.rows.items ++ map (without_links (is_listed is_txn done)) (take at news)) ≡ row_links p.rows.items
      links =
          unlearnt (row_links p.rows.items) (map (without_links (is_listed is_txn done)) (take at news)) (take at news) (ids_without (is_listed is_txn done) (take at news))
          (learnable_alike (known_of p.rows.items) (row_links p.rows.items) (take at news) (map (without_links (is_listed is_txn done)) (take at news)) (links_ids p.rows.items)
          (ids_without (is_listed is_txn done) (take at news)) front)
