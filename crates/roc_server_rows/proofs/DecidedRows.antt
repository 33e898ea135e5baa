-- Rows and what their links decide
use Rattle.std.proofs.Common.{◌≡◌, ◌<◌, ◌||◌, ◌⊎◌, inl, inr, ℕ, Bool, true, false, not, cond, List, [], ◌∷◌, filter, Option, Some, None, unwrap_or, is_some, refl, sym, ap, ◌∙◌, subst, arith}
use Rattle.std.proofs.lemmas.Bool.{false≢true}
use Rattle.std.proofs.lemmas.Bool.Decides.{nat_tests}
use Rattle.std.specs.Prelude.{nat_lt}
use Rattle.std.specs.List.{list_any}
use Rattle.roc_sequence.specs.Lists.{Has}
use Rattle.roc_sequence.proofs.Members.{has_filter, from_has_filter}
use Rattle.roc_sequence.proofs.Holds.{all_has}
use Rattle.roc_base.specs.declared.id.TxnId.{TxnId}
use Rattle.roc_base.specs.TxnId.{is_txn}
use Rattle.roc_base.specs.Equalities.{is_txn-true, is_txn-same}
use Rattle.roc_base.specs.Edge.{Dependency}
use Rattle.roc_depgraph.specs.Deps.{list_of, is_known, IsKnown, IsDecided, Precedes}
use Rattle.roc_depgraph.specs.Reach.{Reaches, direct, through, ReachesOrIs}
use Rattle.roc_server_rows.specs.declared.rows.Link.{Link}
use Rattle.roc_server_rows.specs.declared.rows.Row.{Row}
use Rattle.roc_server_rows.specs.declared.marks.Mark.{Mark}
use Rattle.roc_server_rows.specs.Rows.{row_in, followed, is_alive, is_told, row_links, AreNamed, IsRowTable}
use Rattle.roc_server_rows.specs.Inner.Marks.{AreInQuestion, HoldsAll, IsFreeRow, IsSettled}
use Rattle.roc_server_rows.specs.Marks.{mark_in, at_end, by_link, AreNewRowsBy, IsOpen, RowLeads, WaitsOn}
use Rattle.roc_server_rows.proofs.Alive.{told_live}
use Rattle.roc_server_rows.proofs.Looked.{here_made}
use Rattle.roc_server_rows.proofs.InQuestion.{once_filter}

-- ---- entries and links

abbrev pub LinkTo : List Row → TxnId → List Link → Type 0
LinkTo rows u ls = (l : Link) × Has l ls × (is_alive rows l ≡ true) × ((row_in rows l.at).id ≡ u)

link_of_entry : (rows : List Row) (stamp : ℕ) (u : TxnId) (ds : List Dependency) (ls : List Link) → AreNamed rows stamp ds ls → list_any (λ d. is_txn d.from u) (followed rows ds ls) ≡ true
    → LinkTo rows u ls
link_of_entry rows stamp u [] ls a h = absurd (false≢true h)
link_of_entry rows stamp u (d ∷ ds) [] a h = absurd a
link_of_entry rows stamp u (d ∷ ds) (l ∷ ls) a h = go (is_alive rows l) (is_txn d.from u) refl refl h (link_of_entry rows stamp u ds ls a.1)
  where
    go : (b k : Bool) → is_alive rows l ≡ b → is_txn d.from u ≡ k → list_any (λ d. is_txn d.from u) (cond b (d ∷ followed rows ds ls) (followed rows ds ls)) ≡ true
        → (list_any (λ d. is_txn d.from u) (followed rows ds ls) ≡ true → LinkTo rows u ls) → LinkTo rows u (l ∷ ls)
    go true true e k q ih = (l, inl refl, e, a.0.right e ∙ is_txn-true d.from u k)
    go true false e k q ih = let w = ih (sym (ap (λ t. t || list_any (λ d. is_txn d.from u) (followed rows ds ls)) k) ∙ q) in (w.0, inr w.1, w.2, w.3)
    go false k e j q ih = let w = ih q in (w.0, inr w.1, w.2, w.3)

entry_of_link : (rows : List Row) (stamp : ℕ) (l : Link) → is_alive rows l ≡ true → (ds : List Dependency) (ls : List Link) → AreNamed rows stamp ds ls → Has l ls
    → list_any (λ d. is_txn d.from (row_in rows l.at).id) (followed rows ds ls) ≡ true
entry_of_link rows stamp l alive [] [] a h = absurd h
entry_of_link rows stamp l alive [] (x ∷ xs) a h = absurd a
entry_of_link rows stamp l alive (d ∷ ds) [] a h = absurd a
entry_of_link rows stamp l alive (d ∷ ds) (x ∷ xs) a h = go (is_alive rows x) refl h (λ k. entry_of_link rows stamp l alive ds xs a.1 k)
  where
    go : (b : Bool) → is_alive rows x ≡ b → (l ≡ x) ⊎ Has l xs → (Has l xs → list_any (λ d. is_txn d.from (row_in rows l.at).id) (followed rows ds xs) ≡ true)
        → list_any (λ d. is_txn d.from (row_in rows l.at).id) (cond b (d ∷ followed rows ds xs) (followed rows ds xs)) ≡ true
    go true e (inl z) ih =
        let own : is_txn d.from (row_in rows l.at).id ≡ true
        = ap (λ t. is_txn t (row_in rows l.at).id) (sym (a.0.right e) ∙ ap (λ (y : Link). (row_in rows y.at).id) (sym z)) ∙ is_txn-same (row_in rows l.at).id in
        ap (λ t. t || list_any (λ d. is_txn d.from (row_in rows l.at).id) (followed rows ds xs)) own
    go true e (inr k) ih = either (is_txn d.from (row_in rows l.at).id) (ih k)
      where
        either : (b : Bool) → list_any (λ d. is_txn d.from (row_in rows l.at).id) (followed rows ds xs) ≡ true → (b || list_any (λ d. is_txn d.from (row_in rows l.at).id) (followed rows ds xs)) ≡ true
        either true q = refl
        either false q = q
    go false e (inl z) ih = absurd (false≢true (sym e ∙ (ap (is_alive rows) (sym z) ∙ alive)))
    go false e (inr k) ih = ih k

-- ---- what the links decide

module _ (numbers : List (TxnId × ℕ)) (rows : List Row) (stamp : ℕ) (t : IsRowTable numbers rows stamp) where
  abbrev id_at : ℕ → TxnId
  id_at n = (row_in rows n).id

  abbrev made_at : Row → List Dependency
  made_at r = followed rows r.edges r.names

  told_links : (n : ℕ) → is_told (row_in rows n) ≡ true → list_of (id_at n) (row_links rows) ≡ Some (made_at (row_in rows n))
  told_links n h =
      here_made made_at numbers rows stamp t (id_at n) n (t.each n (told_live numbers rows stamp t n h)) ∙ ap (λ b. cond b (Some (made_at (row_in rows n))) None) h

  pub untold_links : (n : ℕ) → 0 < (row_in rows n).birth → (row_in rows n).turn ≡ 0 → list_of (id_at n) (row_links rows) ≡ None
  untold_links n live z =
      here_made made_at numbers rows stamp t (id_at n) n (t.each n live) ∙ ap (λ (k : ℕ). cond (nat_lt 0 k) (Some (made_at (row_in rows n))) None) z

  is_known_row : (n : ℕ) → is_told (row_in rows n) ≡ true → IsKnown (row_links rows) (id_at n)
  is_known_row n h = ap is_some (told_links n h)

  pub named_link : (n : ℕ) → is_told (row_in rows n) ≡ true → (u : TxnId) → Precedes (row_links rows) u (id_at n) → LinkTo rows u (row_in rows n).names
  named_link n h u p =
      link_of_entry rows stamp u (row_in rows n).edges (row_in rows n).names (t.names n)
      (ap (λ (o : Option (List Dependency)). list_any (λ d. is_txn d.from u) (unwrap_or o [])) (sym (told_links n h)) ∙ p)

  pub link_named : (n : ℕ) → is_told (row_in rows n) ≡ true → (l : Link) → Has l (row_in rows n).names → is_alive rows l ≡ true → Precedes (row_links rows) (id_at l.at) (id_at n)
  link_named n h l has alive =
      ap (λ (o : Option (List Dependency)). list_any (λ d. is_txn d.from (id_at l.at)) (unwrap_or o [])) (told_links n h)
      ∙ entry_of_link rows stamp l alive (row_in rows n).edges (row_in rows n).names (t.names n) has

  -- rows with lists that lead to such alone
  module _ (D : ℕ → Type 0) (told : (n : ℕ) → D n → is_told (row_in rows n) ≡ true)
      (closed : (n : ℕ) → D n → (l : Link) → Has l (row_in rows n).names → is_alive rows l ≡ true → D l.at) where
    reached : (u t : TxnId) → Reaches (Precedes (row_links rows)) u t → (n : ℕ) → D n → id_at n ≡ t → (m : ℕ) × D m × (id_at m ≡ u)
    reached u t (direct p) n d is =
        let w = named_link n (told n d) u (subst (Precedes (row_links rows) u) (sym is) p) in
        (w.0.at, closed n d w.0 w.1 w.2, w.3)
    reached u t (through {s} p e) n d is =
        let w = named_link n (told n d) s (subst (Precedes (row_links rows) s) (sym is) e) in
        reached u s p w.0.at (closed n d w.0 w.1 w.2) w.3

    pub closed_decided : (n : ℕ) → D n → IsDecided (row_links rows) (id_at n)
    closed_decided n d =
        record {
          own = is_known_row n (told n d);
          ancestors = λ u p. let m = reached u (id_at n) p n d refl in subst (IsKnown (row_links rows)) m.2 (is_known_row m.0 (told m.0 m.1));
        }

  leads_reach : (n m : ℕ) → RowLeads rows n m → ReachesOrIs (Precedes (row_links rows)) (id_at m) (id_at n)
  leads_reach n m at_end = inl refl
  leads_reach n m (by_link l told has alive rest) = go (leads_reach l.at m rest)
    where
      go : ReachesOrIs (Precedes (row_links rows)) (id_at m) (id_at l.at) → ReachesOrIs (Precedes (row_links rows)) (id_at m) (id_at n)
      go (inl e) = inr (direct (subst (λ u. Precedes (row_links rows) u (id_at n)) (sym e) (link_named n told l has alive)))
      go (inr p) = inr (through p (link_named n told l has alive))

  pub waits_undecided : (n : ℕ) (w : Link) → WaitsOn rows n w → ¬ IsDecided (row_links rows) (id_at n)
  waits_undecided n w h d = false≢true (sym unknown ∙ known (leads_reach n w.at h.leads))
    where
      unknown : is_known (row_links rows) (id_at w.at) ≡ false
      unknown = ap is_some (untold_links w.at h.live h.untold)

      known : ReachesOrIs (Precedes (row_links rows)) (id_at w.at) (id_at n) → is_known (row_links rows) (id_at w.at) ≡ true
      known (inl e) = subst (λ u. is_known (row_links rows) u ≡ true) (sym e) d.own
      known (inr p) = d.ancestors (id_at w.at) p

  -- ---- all that is decided newly

  module _ (old new : List Mark) (todo : List ℕ) (h : HoldsAll rows old new todo) (q : AreInQuestion rows old todo) where
    abbrev is_free : ℕ → Bool
    is_free n = not (nat_lt 0 (mark_in new n).waits.birth)

    none_waits : (k : ℕ) → not (nat_lt 0 k) ≡ true → k ≡ 0
    none_waits k e = grind (arith, nat_tests)

    waits_none : (k : ℕ) → k ≡ 0 → not (nat_lt 0 k) ≡ true
    waits_none k e = ap (λ j. not (nat_lt 0 j)) e

    was_none : (n : ℕ) → (mark_in new n).waits.birth ≡ 0 → (mark_in old n).waits.birth ≡ 0
    was_none n z = go (nat_lt 0 (mark_in old n).waits.birth) refl
      where
        go : (b : Bool) → nat_lt 0 (mark_in old n).waits.birth ≡ b → (mark_in old n).waits.birth ≡ 0
        go true e =
            let p : 0 < (mark_in old n).waits.birth = grind (arith, nat_tests) in
            absurd (omega (arith, h.keeps n p, z))
        go false e = none_waits (mark_in old n).waits.birth (ap not e)

    free_open : (n : ℕ) → IsFreeRow rows new n → (b : Bool) → (mark_in new n).decided ≡ b → (l : Link) → Has l (row_in rows n).names → is_alive rows l ≡ true → IsFreeRow rows new l.at
    free_open n f true d l has alive =
        let next = h.marked.closed n d l has alive in
        record { told = h.marked.decided_told l.at next; free = h.marked.decided_free l.at next }
    free_open n f false d l has alive =
        let listed : Has n todo = q.all n f.told (sym (h.same n) ∙ d) (was_none n f.free) in
        all_has (IsSettled rows new) n todo h.settled listed f.free l has alive

    free_decided : (n : ℕ) → IsFreeRow rows new n → IsDecided (row_links rows) (id_at n)
    free_decided = closed_decided (IsFreeRow rows new) (λ n f. f.told) (λ n f. free_open n f (mark_in new n).decided refl)

    pub all_new : AreNewRowsBy (row_links rows) rows old (filter is_free todo)
    all_new =
        record {
          only = λ n has.
              let w = from_has_filter is_free n todo has in
              let o : IsOpen rows old n = all_has (IsOpen rows old) n todo q.open_rows w.0 in
              record { told = o.told; undecided = o.undecided; decided = free_decided n (record { told = o.told; free = none_waits (mark_in new n).waits.birth w.1 }) };
          all = λ n w. go n w.told w.undecided w.decided (nat_lt 0 (mark_in new n).waits.birth) refl;
          once = once_filter is_free todo q.once;
        }
      where
        go : (n : ℕ) → is_told (row_in rows n) ≡ true → (mark_in old n).decided ≡ false → IsDecided (row_links rows) (row_in rows n).id → (b : Bool)
            → nat_lt 0 (mark_in new n).waits.birth ≡ b → Has n (filter is_free todo)
        go n told undecided d true e =
            let p : 0 < (mark_in new n).waits.birth = grind (arith, nat_tests) in
            absurd (waits_undecided n (mark_in new n).waits (h.marked.waits n p) d)
        go n told undecided d false e =
            let z : (mark_in new n).waits.birth ≡ 0 = none_waits (mark_in new n).waits.birth (ap not e) in
            has_filter is_free n todo (q.all n told undecided (was_none n z)) (ap not e)
