-- The entries that name a transaction are done: its list stays, where it has one, and else its row ends
use Rattle.std.proofs.Common.{◌≡◌, inl, inr, ℕ, Bool, true, false, not, cond, List, [], ◌∷◌, map, filter, Some, None, refl, sym, ap, ◌∙◌, subst, arith}
use Rattle.std.proofs.lemmas.Bool.{false≢true, cases_eq}
use Rattle.std.proofs.lemmas.List.{length-map}
use Rattle.std.specs.Map.{lookup}
use Rattle.roc_base.specs.declared.id.TxnId.{TxnId}
use Rattle.roc_base.specs.TxnId.{is_txn}
use Rattle.roc_depgraph.specs.declared.known.KnownList.{KnownList}
use Rattle.roc_depgraph.specs.Deps.{list_of}
use Rattle.roc_step.specs.Links.{without_links}
use Rattle.roc_server_rows.specs.declared.rows.Row.{Row}
use Rattle.roc_server_rows.specs.declared.marks.Mark.{Mark}
use Rattle.roc_server_rows.specs.Changes.{lists_ended, RowLists}
use Rattle.roc_server_rows.specs.Rows.{row_in, is_told, followed, rows_in_turn, known_in, links_in, known_of, row_links, lists_by, IsRowTable}
use Rattle.roc_server_rows.specs.Except.{row_but, rows_but}
use Rattle.roc_server_rows.specs.Marks.{mark_in, AreMarked, EndsAt, WakesAll}
use Rattle.roc_server_table.specs.Inner.Kept.{Settles}
use Rattle.roc_server_rows.proofs.Looked.{here_list}
use Rattle.roc_server_rows.proofs.Excepted.{known_of_but, links_of_but, row_at_but}
use Rattle.roc_server_rows.proofs.EndedRows.{one_found}
use Rattle.roc_server_rows.proofs.ExceptedMarks.{marked_but, marks_awake}

-- ---- a transaction of which no list is known

module _ (id : TxnId) where
  unlisted_kept : (ks : List KnownList) → list_of id ks ≡ None → filter (λ x. not (is_txn x.of id)) ks ≡ ks
  unlisted_kept [] h = refl
  unlisted_kept (k ∷ ks) h = go (is_txn k.of id) h (unlisted_kept ks)
    where
      go : (b : Bool) → cond b (Some k.edges) (list_of id ks) ≡ None → (list_of id ks ≡ None → filter (λ x. not (is_txn x.of id)) ks ≡ ks)
          → cond (not b) (k ∷ filter (λ x. not (is_txn x.of id)) ks) (filter (λ x. not (is_txn x.of id)) ks) ≡ k ∷ ks
      go true e i = absurd (cc)
      go false e i = ap (λ l. k ∷ l) (i e)

  links_unlisted : (rows rs : List Row) → list_of id (map known_in rs) ≡ None → list_of id (map (links_in rows) rs) ≡ None
  links_unlisted rows [] h = refl
  links_unlisted rows (r ∷ rs) h = go (is_txn r.id id) h (links_unlisted rows rs)
    where
      go : (b : Bool) → cond b (Some r.edges) (list_of id (map known_in rs)) ≡ None → (list_of id (map known_in rs) ≡ None → list_of id (map (links_in rows) rs) ≡ None)
          → cond b (Some (followed rows r.edges r.names)) (list_of id (map (links_in rows) rs)) ≡ None
      go true e i = absurd (cc)
      go false e i = i e

  module _ (old new : List Row) (lists : lists_by new ≡ lists_ended id (lists_by old)) (none : list_of id (known_of old) ≡ None) where
    pub known_stays : known_of new ≡ known_of old
    known_stays = ap (λ (k : RowLists). k.known) lists ∙ unlisted_kept (known_of old) none

    pub links_left : row_links new ≡ map (without_links (λ q. is_txn q id)) (row_links old)
    links_left =
        ap (λ (k : RowLists). k.links) lists ∙ ap (map (without_links (λ q. is_txn q id))) (unlisted_kept (row_links old) (links_unlisted old (rows_in_turn old) none))

-- ---- all that comes of it

module _ (numbers : List (TxnId × ℕ)) (rows : List Row) (stamp : ℕ) (t : IsRowTable numbers rows stamp) (id : TxnId) (marks : List Mark) (a : AreMarked rows marks) where
  module _ (at : ℕ) (here : lookup (is_txn id) numbers ≡ Some at) (new : List Row) (marks2 : List Mark) where
    -- it has a list
    pub told_settled : new ≡ rows_but (Some at) rows → WakesAll marks marks2 → Settles id rows new marks marks2
    told_settled is w =
        let row = t.found id at here in
        subst (λ (rs : List Row). Settles id rows rs marks marks2) (sym is)
        (record {
          marked = marked_but (Some at) rows marks2 (marks_awake rows marks marks2 a w) (λ n p. absurd (omega (arith, p, w.awake n)));
          each = w.each;
          rows = length-map rows (row_but (Some at));
          known = known_of_but (Some at) rows;
          links = links_of_but numbers rows stamp t (Some at) row.live ∙ ap (λ q. map (without_links (λ u. is_txn u q)) (row_links rows)) row.is;
          decided = record { same = w.same; ids = λ n d. ap (λ (r : Row). r.id) (row_at_but (Some at) rows n) };
        })

    -- it has none
    pub untold_settled : is_told (row_in rows at) ≡ false → AreMarked new marks2 → lists_by new ≡ lists_ended id (lists_by rows) → EndsAt (lookup (is_txn id) numbers) rows new marks marks2
        → Settles id rows new marks marks2
    untold_settled untold b lists e =
        record {
          marked = b;
          each = e.each;
          rows = e.rows;
          known = known_stays id rows new lists none;
          links = links_left id rows new lists none;
          decided = record { same = λ n. same n; ids = λ n d. ids n d };
        }
      where
        none : list_of id (known_of rows) ≡ None
        none = here_list numbers rows stamp t id at here ∙ ap (λ b. cond b (Some (row_in rows at).edges) None) untold

        undecided : (b : Bool) → (mark_in marks at).decided ≡ b → b ≡ false
        undecided true q = absurd (false≢true (sym untold ∙ a.decided_told at q))
        undecided false q = refl

        same : (n : ℕ) → (mark_in marks2 n).decided ≡ (mark_in marks n).decided
        same n = elim (cases_eq n at) [
          | inl z ↦ e.own n (here ∙ ap Some (sym z)) ∙ sym (ap (λ j. (mark_in marks j).decided) z ∙ undecided (mark_in marks at).decided refl)
          | inr z ↦ e.decided n (λ q. z (one_found at n (lookup (is_txn id) numbers) here q))
        ]

        ids : (n : ℕ) → (mark_in marks2 n).decided ≡ true → (row_in new n).id ≡ (row_in rows n).id
        ids n d = e.ids n (λ q. false≢true (sym (e.own n q) ∙ d))
