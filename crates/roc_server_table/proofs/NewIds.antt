-- The transactions of rows that are newly decided
use Rattle.std.proofs.Common.{◌≡◌, ◌<◌, ◌∙◌, ℕ, Bool, true, false, List, [], ◌∷◌, length, map, Option, Some, None, inl, inr, refl, sym, ap, subst, arith}
use Rattle.std.proofs.lemmas.Bool.{false≢true}
use Rattle.std.specs.Map.{lookup}
use Rattle.roc_sequence.specs.Lists.{Has}
use Rattle.roc_sequence.specs.Places.{IsListed, NoneTwice}
use Rattle.roc_sequence.proofs.Places.{listed_true}
use Rattle.roc_base.specs.declared.id.TxnId.{TxnId}
use Rattle.roc_base.specs.TxnId.{is_txn}
use Rattle.roc_depgraph.specs.Deps.{is_known, IsDecided}
use Rattle.roc_depgraph.proofs.Listed.{has_under, under_has}
use Rattle.roc_step.specs.Links.{without_links}
use Rattle.roc_step.specs.New.{AreAllNew, IsNew}
use Rattle.roc_step.proofs.SameIds.{ids_without, known_alike}
use Rattle.roc_server_rows.specs.declared.rows.Row.{Row}
use Rattle.roc_server_rows.specs.declared.rows.Parts.{Parts}
use Rattle.roc_server_rows.specs.declared.marks.Mark.{Mark}
use Rattle.roc_server_rows.specs.Rows.{row_in, is_told, row_links, AreWhole}
use Rattle.roc_server_rows.specs.LinksBut.{links_but}
use Rattle.roc_server_rows.specs.Except.{IsExceptLive}
use Rattle.roc_server_rows.specs.Marks.{mark_in, AreNewRowsBut, AreSameDecided, EachOnce}
use Rattle.roc_server_table.specs.Inner.Kept.{decided_of, IsKept, Settles}
use Rattle.roc_server_table.proofs.DecidedIds.{decided_at, decided_same, decided_within, listed_decided}
use Rattle.roc_server_rows.proofs.Ended.{absent_links}
use Rattle.roc_server_table.proofs.KnownRows.{absent_links_known, links_told}
use Rattle.roc_server_rows.proofs.Alive.{told_live}

-- ---- links to the row of a transaction are left out

pub but_known : (except : Option ℕ) (rows : List Row) (id : TxnId) → is_known (links_but except rows) id ≡ is_known (row_links rows) id
but_known None rows id = refl
but_known (Some m) rows id =
    known_alike (row_links rows) (map (without_links (λ t. is_txn t (row_in rows m).id)) (row_links rows)) (ids_without (λ t. is_txn t (row_in rows m).id) (row_links rows)) id

module _ (p : Parts) (whole : AreWhole p) (id : TxnId) where
  pub found_links : (found : Option ℕ) → found ≡ lookup (is_txn id) p.numbers.entries → links_but found p.rows.items ≡ map (without_links (λ t. is_txn t id)) (row_links p.rows.items)
  found_links None e = absent_links p.numbers.entries p.rows.items p.stamp whole id (sym e)
  found_links (Some m) e = ap (λ q. map (without_links (λ t. is_txn t q)) (row_links p.rows.items)) (whole.found id m (sym e)).is

  pub found_live : (found : Option ℕ) → found ≡ lookup (is_txn id) p.numbers.entries → IsExceptLive found p.rows.items
  found_live None e = tt
  found_live (Some m) e = (whole.found id m (sym e)).live

-- ---- what is found

module _ (p : Parts) (marks : List Mark) (k : IsKept p marks) (except : Option ℕ) (ns : List ℕ) (new : AreNewRowsBut except p.rows.items marks ns) where
  abbrev rows : List Row
  rows = p.rows.items

  abbrev numbers : List (TxnId × ℕ)
  numbers = p.numbers.entries

  abbrev id_at : ℕ → TxnId
  id_at n = (row_in rows n).id

  here : (n : ℕ) → Has n ns → lookup (is_txn (id_at n)) numbers ≡ Some n
  here n h = k.whole.each n (told_live numbers rows p.stamp k.whole n (new.only n h).told)

  pub all_new_ids : AreAllNew (IsListed is_txn (decided_of rows marks)) (links_but except rows) (map (λ n. (row_in rows n).id) ns)
  all_new_ids = record { only = only; all = λ t u. all t u (lookup (is_txn t) numbers) refl }
    where
      only : (t : TxnId) → IsListed is_txn (map id_at ns) t → IsNew (IsListed is_txn (decided_of rows marks)) (links_but except rows) t
      only t l =
          let w = has_under id_at ns t l in
          let r = new.only w.0 w.1 in (
            subst (IsDecided (links_but except rows)) w.2 r.decided,
            λ before.
                let d = listed_decided numbers rows p.stamp k.whole marks k.marked t before in
                let two : Some d.0 ≡ Some w.0 = sym d.1 ∙ (ap (λ q. lookup (is_txn q) numbers) (sym w.2) ∙ here w.0 w.1) in
                let one : d.0 ≡ w.0 = cc in
                false≢true (sym r.undecided ∙ (ap (λ j. (mark_in marks j).decided) (sym one) ∙ d.2)),
          )

      undecided : (t : TxnId) (n : ℕ) → lookup (is_txn t) numbers ≡ Some n → ¬ IsListed is_txn (decided_of rows marks) t → (b : Bool) → (mark_in marks n).decided ≡ b → b ≡ false
      undecided t n there before true e = absurd (before (listed_true is_txn (decided_of rows marks) t (decided_at numbers rows p.stamp k.whole marks k.marked t n there ∙ e)))
      undecided t n there before false e = refl

      all : (t : TxnId) → IsNew (IsListed is_txn (decided_of rows marks)) (links_but except rows) t → (o : Option ℕ) → lookup (is_txn t) numbers ≡ o → IsListed is_txn (map id_at ns) t
      all t u None e = absurd (false≢true (sym (absent_links_known numbers rows p.stamp k.whole t e) ∙ (sym (but_known except rows t) ∙ u.0.own)))
      all t u (Some n) e =
          let is : id_at n ≡ t = (k.whole.found t n e).is in
          let told : is_told (row_in rows n) ≡ true = sym (links_told numbers rows p.stamp k.whole t n e) ∙ (sym (but_known except rows t) ∙ u.0.own) in
          let has : Has n ns
          = new.all n (record { told = told; undecided = undecided t n e u.1 (mark_in marks n).decided refl; decided = subst (IsDecided (links_but except rows)) (sym is) u.0 }) in
          subst (IsListed is_txn (map id_at ns)) is (under_has id_at ns n has)

  once_of : (xs : List ℕ) → EachOnce xs → ((n : ℕ) → Has n xs → lookup (is_txn (id_at n)) numbers ≡ Some n) → NoneTwice is_txn (map id_at xs)
  once_of [] once at = tt
  once_of (x ∷ xs) once at = (
    λ l.
        let w = has_under id_at xs (id_at x) l in
        let two : Some w.0 ≡ Some x = sym (at w.0 (inr w.1)) ∙ (ap (λ q. lookup (is_txn q) numbers) w.2 ∙ at x (inl refl)) in
        let one : w.0 ≡ x = cc in
        once.0 (subst (λ n. Has n xs) one w.1),
    once_of xs once.1 (λ n h. at n (inr h)),
  )

  pub new_once : NoneTwice is_txn (map (λ n. (row_in rows n).id) ns)
  new_once = once_of ns new.once here

-- ---- the same are decided

module _ (p : Parts) (marks marks2 : List Mark) (k : IsKept p marks) (same : AreSameDecided marks marks2) where
  pub alike_decided : decided_of p.rows.items marks2 ≡ decided_of p.rows.items marks
  alike_decided =
      let within = decided_within p.numbers.entries p.rows.items p.stamp k.whole marks k.marked in
      decided_same p.rows.items p.rows.items marks marks2 same (λ n d. (refl, within n d, within n d))

pub settled_decided : (p q : Parts) (marks marks2 : List Mark) (k : IsKept p marks) (id : TxnId) → Settles id p.rows.items q.rows.items marks marks2
    → decided_of q.rows.items marks2 ≡ decided_of p.rows.items marks
settled_decided p q marks marks2 k id s =
    decided_same p.rows.items q.rows.items marks marks2 s.decided.same
    (λ n d.
    let within : n < length p.rows.items = decided_within p.numbers.entries p.rows.items p.stamp k.whole marks k.marked n d in
    (s.decided.ids n (s.decided.same n ∙ d), within, omega (arith, within, s.rows)))
