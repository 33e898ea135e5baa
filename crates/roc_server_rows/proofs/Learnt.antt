-- A list is learnt: its row, its links, and what comes of the lists
use Rattle.std.proofs.Common.{inl, inr, ◌≡◌, ◌<◌, ◌+◌, true, List, [], ◌∷◌, ◌++◌, None, Some, filter, set, sym, ap, ◌∙◌, subst, arith}
use Rattle.std.proofs.lemmas.Bool.Decides.{nat_tests}
use Rattle.std.specs.Map.{lookup}
use Rattle.roc_base.specs.declared.id.TxnId.{TxnId}
use Rattle.roc_base.specs.TxnId.{is_txn}
use Rattle.roc_depgraph.specs.Deps.{list_of}
use Rattle.roc_server_rows.specs.declared.rows.Link.{Link}
use Rattle.roc_server_rows.specs.declared.rows.Row.{Row}
use Rattle.roc_server_rows.specs.declared.rows.Parts.{Parts}
use Rattle.roc_step.specs.Carried.{list_with}
use Rattle.roc_server_rows.specs.Changes.{with_list, RowLists}
use Rattle.roc_server_rows.specs.Inner.Rows.{GrowsTo}
use Rattle.roc_server_rows.specs.Rows.{no_row, row_in, is_told, known_of, row_links, lists_by, followed, AreNamed, IsRowOf, IsRowTable, AreWhole}
use Rattle.std.proofs.lemmas.List.{get_or-set_same, get_or-set_other}
use Rattle.std.specs.Prelude.{nat_lt}
use Rattle.std.proofs.lemmas.Bool.{cases_eq}
use Rattle.roc_server_rows.specs.Marks.{IsRowTold}
use Rattle.roc_server_rows.proofs.Alive.{row_within, alive_same}
use Rattle.roc_server_rows.proofs.Looked.{untold_row}
use Rattle.roc_server_rows.proofs.Told.{told_table, told_known, told_links}
use Rattle.roc_server_rows.proofs.Named.{stays}

-- the row stays, as others come
module _ (old mid : Parts) (g : GrowsTo old mid) (id : TxnId) (link : Link) (row : IsRowOf old.rows.items link.at id) (birth : (row_in old.rows.items link.at).birth ≡ link.birth) where
  pub row_stays : IsRowOf mid.rows.items link.at id
  row_stays =
      let same : row_in mid.rows.items link.at ≡ row_in old.rows.items link.at = g.rows.rows link.at row.live in
      record { live = subst (λ (x : Row). 0 < x.birth) (sym same) row.live; is = ap (λ (x : Row). x.id) same ∙ row.is }

  pub birth_stays : (row_in mid.rows.items link.at).birth ≡ link.birth
  birth_stays = ap (λ (x : Row). x.birth) (g.rows.rows link.at row.live) ∙ birth

module _ (first mid : Parts) (id : TxnId) (link : Link) (r : Row) (done : List TxnId) (t : AreWhole mid) (lists : lists_by mid.rows.items ≡ lists_by first.rows.items)
    (row : IsRowOf mid.rows.items link.at id) (birth : (row_in mid.rows.items link.at).birth ≡ link.birth)
    (own : r.id ≡ id) (own_birth : r.birth ≡ link.birth) (turn : r.turn ≡ mid.stamp) (names : AreNamed mid.rows.items mid.stamp r.edges r.names) where
  pub learnt_table : IsRowTable mid.numbers.entries (set mid.rows.items link.at r) (mid.stamp + 1)
  learnt_table = told_table mid.numbers.entries mid.rows.items mid.stamp link.at r t row.live (own ∙ sym row.is) (own_birth ∙ sym birth) turn names

  pub learnt_lists : list_of id (known_of first.rows.items) ≡ None → followed mid.rows.items r.edges r.names ≡ filter (stays done) r.edges
      → lists_by (set mid.rows.items link.at r) ≡ with_list done id r.edges (lists_by first.rows.items)
  learnt_lists unknown is =
      let rs = mid.rows.items in
      let here : lookup (is_txn id) mid.numbers.entries ≡ Some link.at = ap (λ q. lookup (is_txn q) mid.numbers.entries) (sym row.is) ∙ t.each link.at row.live in
      let none : list_of id (known_of rs) ≡ None = ap (λ (k : RowLists). list_of id k.known) lists ∙ unknown in
      let untold : (row_in rs link.at).turn ≡ 0 = untold_row mid.numbers.entries rs mid.stamp t id link.at here none in
      let known : known_of (set rs link.at r) ≡ known_of rs ++ list_with id r.edges ∷ []
      = told_known mid.numbers.entries rs mid.stamp link.at r t row.live (own ∙ sym row.is) (own_birth ∙ sym birth) turn untold
      ∙ ap (λ q. known_of rs ++ list_with q r.edges ∷ []) own in
      let links : row_links (set rs link.at r) ≡ row_links rs ++ list_with id (filter (stays done) r.edges) ∷ []
      = told_links mid.numbers.entries rs mid.stamp link.at r t row.live (own ∙ sym row.is) (own_birth ∙ sym birth) turn untold
      ∙ (ap (λ q. row_links rs ++ list_with q (followed rs r.edges r.names) ∷ []) own ∙ ap (λ es. row_links rs ++ list_with id es ∷ []) is) in
      (λ i. record { known = known i; links = links i }) ∙ ap (with_list done id r.edges) lists

-- the row that gets the list
pub learnt_told : (first mid : Parts) (id : TxnId) (link : Link) (r : Row) → AreWhole mid → lists_by mid.rows.items ≡ lists_by first.rows.items → IsRowOf mid.rows.items link.at id
    → (row_in mid.rows.items link.at).birth ≡ link.birth → r.birth ≡ link.birth → r.turn ≡ mid.stamp → list_of id (known_of first.rows.items) ≡ None
    → IsRowTold link.at mid.rows.items (set mid.rows.items link.at r)
learnt_told first mid id link r t lists row birth own turn unknown =
    let rs = mid.rows.items in
    let here : lookup (is_txn id) mid.numbers.entries ≡ Some link.at = ap (λ q. lookup (is_txn q) mid.numbers.entries) (sym row.is) ∙ t.each link.at row.live in
    let none : list_of id (known_of rs) ≡ None = ap (λ (k : RowLists). list_of id k.known) lists ∙ unknown in
    record {
      untold = ap (nat_lt 0) (untold_row mid.numbers.entries rs mid.stamp t id link.at here none);
      told = ap is_told (get_or-set_same rs link.at r no_row (row_within rs link.at row.live)) ∙ now_told (omega (arith, t.some, turn));
      others = λ k d. get_or-set_other rs link.at k r no_row d;
      links = λ l. elim (cases_eq l.at link.at) [
        | inl e ↦
            alive_same (set rs link.at r) rs l
            (ap (λ j. (row_in (set rs link.at r) j).birth) e ∙ (ap (λ (x : Row). x.birth) (get_or-set_same rs link.at r no_row (row_within rs link.at row.live))
            ∙ (own ∙ (sym birth ∙ ap (λ j. (row_in rs j).birth) (sym e)))))
        | inr d ↦ alive_same (set rs link.at r) rs l (ap (λ (x : Row). x.birth) (get_or-set_other rs link.at l.at r no_row d))
      ];
    }
  where
    now_told : 0 < r.turn → is_told r ≡ true
    now_told h = grind (arith, nat_tests)
