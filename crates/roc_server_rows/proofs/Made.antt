-- A row is made for a transaction that has none
use Rattle.std.proofs.Common.{◌≡◌, ◌≢◌, ◌<◌, ◌+◌, inl, inr, ℕ, Bool, true, false, cond, List, [], map, Some, None, refl, sym, ap, ◌∙◌, subst, arith}
use Rattle.std.proofs.lemmas.Bool.{false≢true, cases_eq}
use Rattle.std.proofs.lemmas.Bool.Decides.{nat_tests}
use Rattle.std.specs.Prelude.{nat_lt}
use Rattle.std.specs.Map.{lookup}
use Rattle.std.specs.List.{AllByRecursion}
use Rattle.roc_base.specs.declared.id.TxnId.{TxnId}
use Rattle.roc_base.specs.TxnId.{is_txn}
use Rattle.roc_base.specs.Equalities.{is_txn-true, is_txn-same}
use Rattle.roc_server_rows.specs.declared.rows.Row.{Row}
use Rattle.roc_server_rows.specs.Inner.Rows.{IsPlaced}
use Rattle.roc_server_rows.specs.Rows.{row_in, is_told, rows_in_turn, known_in, links_in, row_links, lists_by, AreNamed, IsRowOf, IsRowTable, Grows}
use Rattle.roc_server_rows.proofs.Turns.{turn_all, turn_same, turn_more}
use Rattle.roc_server_rows.proofs.Alive.{placed_at, placed_other, placed_free, alive_same, dead_at, dead_later, names_grow, links_grow}

-- what is told names what its entries do
pub told_names : (numbers : List (TxnId × ℕ)) (rs : List Row) (stamp : ℕ) → IsRowTable numbers rs stamp → AllByRecursion (λ r. AreNamed rs stamp r.edges r.names) (rows_in_turn rs)
told_names numbers rs stamp t = turn_all (λ r. AreNamed rs stamp r.edges r.names) rs (λ n h. t.names n)

module _ (numbers : List (TxnId × ℕ)) (old new : List Row) (stamp at : ℕ) (r : Row) (t : IsRowTable numbers old stamp) (p : IsPlaced old new r at)
    (born : r.birth ≡ stamp) (untold : r.turn ≡ 0) (no_edges : r.edges ≡ []) (no_names : r.names ≡ []) where
  pub made_grows : Grows old new stamp (stamp + 1)
  made_grows =
      record {
        later = omega arith;
        rows = λ n k. placed_other old new r at p n (λ e.
            let free : (row_in old n).birth ≡ 0 = ap (λ m. (row_in old m).birth) e ∙ placed_free old new r at p in omega (arith, k, free));
        told = λ n h. elim (cases_eq n at) [
          | inl e ↦ absurd (false≢true (sym (ap (nat_lt 0) untold) ∙ (ap is_told (sym (placed_at old new r at p)) ∙ (ap (λ m. is_told (row_in new m)) (sym e) ∙ h))))
          | inr d ↦ placed_other old new r at p n d
        ];
        links = λ l k. elim (cases_eq l.at at) [
          | inl e ↦
              let free : (row_in old l.at).birth ≡ 0 = ap (λ m. (row_in old m).birth) e ∙ placed_free old new r at p in
              let now : (row_in new l.at).birth ≡ stamp = ap (λ m. (row_in new m).birth) e ∙ (ap (λ (x : Row). x.birth) (placed_at old new r at p) ∙ born) in
              dead_later new l (omega (arith, k, now)) ∙ sym (dead_at old l free)
          | inr d ↦ alive_same new old l (ap (λ (x : Row). x.birth) (placed_other old new r at p l.at d))
        ];
      }

  made_turn : IsPlaced old new r at → rows_in_turn new ≡ rows_in_turn old
  made_turn (inl h) =
      let old_told : is_told (row_in old at) ≡ false = go (is_told (row_in old at)) refl in
      ap rows_in_turn h.2 ∙ turn_same old at r old_told (ap (nat_lt 0) untold)
    where
      go : (b : Bool) → is_told (row_in old at) ≡ b → b ≡ false
      go true e =
          let told : 0 < (row_in old at).turn = grind (arith, nat_tests) in
          let live = t.told_live at told in
          absurd (omega (arith, live, placed_free old new r at p))
      go false e = refl
  made_turn (inr h) = ap rows_in_turn h.1 ∙ turn_more old r (ap (nat_lt 0) untold)

  pub made_lists : lists_by new ≡ lists_by old
  made_lists =
      let turn : rows_in_turn new ≡ rows_in_turn old = made_turn p in
      let links : row_links new ≡ row_links old = ap (map (links_in new)) turn ∙ links_grow old new stamp (stamp + 1) made_grows (rows_in_turn old) (told_names numbers old stamp t) in
      λ i. record { known = map known_in (turn i); links = links i }

  -- it is found by its transaction from then on
  module _ (numbers2 : List (TxnId × ℕ)) (absent : lookup (is_txn r.id) numbers ≡ None)
      (kept : (q : TxnId) → lookup (is_txn q) numbers2 ≡ cond (is_txn r.id q) (Some at) (lookup (is_txn q) numbers)) where
    made_found : (id : TxnId) (n : ℕ) → lookup (is_txn id) numbers2 ≡ Some n → IsRowOf new n id
    made_found id n h = go (is_txn r.id id) refl
      where
        go : (b : Bool) → is_txn r.id id ≡ b → IsRowOf new n id
        go true e =
            let s : Some at ≡ Some n = sym (ap (λ b. cond b (Some at) (lookup (is_txn id) numbers)) e) ∙ (sym (kept id) ∙ h) in
            let is : at ≡ n = cc in
            subst (λ m. IsRowOf new m id) is
            (record {
              live = omega (arith, t.some, ap (λ (x : Row). x.birth) (placed_at old new r at p), born);
              is = ap (λ (x : Row). x.id) (placed_at old new r at p) ∙ is_txn-true r.id id e;
            })
        go false e =
            let s : lookup (is_txn id) numbers ≡ Some n = sym (ap (λ b. cond b (Some at) (lookup (is_txn id) numbers)) e) ∙ (sym (kept id) ∙ h) in
            let w : IsRowOf old n id = t.found id n s in
            let d : n ≢ at = λ z. (let free : (row_in old n).birth ≡ 0 = ap (λ m. (row_in old m).birth) z ∙ placed_free old new r at p in omega (arith, w.live, free)) in
            let same : row_in new n ≡ row_in old n = placed_other old new r at p n d in
            record { live = subst (λ (x : Row). 0 < x.birth) (sym same) w.live; is = ap (λ (x : Row). x.id) same ∙ w.is }

    made_each : (n : ℕ) → 0 < (row_in new n).birth → lookup (is_txn (row_in new n).id) numbers2 ≡ Some n
    made_each n live = elim (cases_eq n at) [
      | inl e ↦
          let is : (row_in new n).id ≡ r.id = ap (λ m. (row_in new m).id) e ∙ ap (λ (x : Row). x.id) (placed_at old new r at p) in
          ap (λ q. lookup (is_txn q) numbers2) is ∙ (kept r.id ∙ (ap (λ b. cond b (Some at) (lookup (is_txn r.id) numbers)) (is_txn-same r.id) ∙ ap Some (sym e)))
      | inr d ↦
          let same : row_in new n ≡ row_in old n = placed_other old new r at p n d in
          let was : lookup (is_txn (row_in old n).id) numbers ≡ Some n = t.each n (subst (λ (x : Row). 0 < x.birth) same live) in
          ap (λ (x : Row). lookup (is_txn x.id) numbers2) same ∙ (kept (row_in old n).id ∙ go (is_txn r.id (row_in old n).id) refl was)
    ]
      where
        go : (b : Bool) → is_txn r.id (row_in old n).id ≡ b → lookup (is_txn (row_in old n).id) numbers ≡ Some n
            → cond b (Some at) (lookup (is_txn (row_in old n).id) numbers) ≡ Some n
        go true e was =
            let no : None ≡ Some n = sym absent ∙ (ap (λ q. lookup (is_txn q) numbers) (is_txn-true r.id (row_in old n).id e) ∙ was) in
            absurd (cc)
        go false e was = was

    made_at : (P : Row → Type 0) → P r → ((n : ℕ) → P (row_in old n)) → (n : ℕ) → P (row_in new n)
    made_at P own was n = elim (cases_eq n at) [
      | inl e ↦ subst P (sym (ap (row_in new) e ∙ placed_at old new r at p)) own
      | inr d ↦ subst P (sym (placed_other old new r at p n d)) (was n)
    ]

    pub made_table : IsRowTable numbers2 new (stamp + 1)
    made_table =
        record {
          some = omega arith;
          found = made_found;
          each = made_each;
          told_live = made_at (λ x. 0 < x.turn → 0 < x.birth) (λ h. absurd (omega (arith, h, untold))) t.told_live;
          births = made_at (λ x. x.birth < stamp + 1) (omega (arith, born)) (λ n. omega (arith, t.births n));
          turns = made_at (λ x. x.turn < stamp + 1) (omega (arith, untold)) (λ n. omega (arith, t.turns n));
          names = made_at (λ x. AreNamed new (stamp + 1) x.edges x.names) own
              (λ n. names_grow old new stamp (stamp + 1) made_grows (row_in old n).edges (row_in old n).names (t.names n));
        }
      where
        own : AreNamed new (stamp + 1) r.edges r.names
        own = subst (λ es. AreNamed new (stamp + 1) es r.names) (sym no_edges) (subst (AreNamed new (stamp + 1) []) (sym no_names) tt)

    pub made_row : IsRowOf new at r.id
    made_row =
        record {
          live = omega (arith, t.some, ap (λ (x : Row). x.birth) (placed_at old new r at p), born);
          is = ap (λ (x : Row). x.id) (placed_at old new r at p);
        }

-- the numbers in another order
pub table_reordered : (numbers numbers2 : List (TxnId × ℕ)) (rs : List Row) (stamp : ℕ) → IsRowTable numbers rs stamp → ((q : TxnId) → lookup (is_txn q) numbers2 ≡ lookup (is_txn q) numbers)
    → IsRowTable numbers2 rs stamp
table_reordered numbers numbers2 rs stamp t same =
    record {
      some = t.some;
      found = λ id n h. t.found id n (sym (same id) ∙ h);
      each = λ n live. same (row_in rs n).id ∙ t.each n live;
      told_live = t.told_live;
      births = t.births;
      turns = t.turns;
      names = t.names;
    }

-- all that comes of it
pub record IsMade (id : TxnId) (numbers : List (TxnId × ℕ)) (old new : List Row) (stamp at : ℕ) : Type 0 where
  pub table : IsRowTable numbers new (stamp + 1)
  pub grows : Grows old new stamp (stamp + 1)
  pub lists : lists_by new ≡ lists_by old
  pub row : IsRowOf new at id
  pub birth : (row_in new at).birth ≡ stamp

pub made : (id : TxnId) (numbers reserved numbers2 : List (TxnId × ℕ)) (old mid new : List Row) (stamp at : ℕ) (r : Row) → IsRowTable numbers old stamp → lookup (is_txn id) numbers ≡ None
    → ((q : TxnId) → lookup (is_txn q) reserved ≡ lookup (is_txn q) numbers) → mid ≡ old → IsPlaced mid new r at
    → r.id ≡ id → r.birth ≡ stamp → r.turn ≡ 0 → r.edges ≡ [] → r.names ≡ []
    → ((q : TxnId) → lookup (is_txn q) numbers2 ≡ cond (is_txn id q) (Some at) (lookup (is_txn q) reserved)) → IsMade id numbers2 old new stamp at
made id numbers reserved numbers2 old mid new stamp at r t absent same is placed own born untold no_edges no_names kept =
    let s : IsRowTable reserved old stamp = table_reordered numbers reserved old stamp t same in
    let p : IsPlaced old new r at = subst (λ l. IsPlaced l new r at) is placed in
    let none : lookup (is_txn r.id) reserved ≡ None = ap (λ q. lookup (is_txn q) reserved) own ∙ (same id ∙ absent) in
    let k : (q : TxnId) → lookup (is_txn q) numbers2 ≡ cond (is_txn r.id q) (Some at) (lookup (is_txn q) reserved)
    = λ q. kept q ∙ ap (λ i. cond (is_txn i q) (Some at) (lookup (is_txn q) reserved)) (sym own) in
    record {
      table = made_table reserved old new stamp at r s p born untold no_edges no_names numbers2 none k;
      grows = made_grows reserved old new stamp at r s p born untold no_edges no_names;
      lists = made_lists reserved old new stamp at r s p born untold no_edges no_names;
      row = subst (IsRowOf new at) own (made_row reserved old new stamp at r s p born untold no_edges no_names numbers2 none k);
      birth = ap (λ (x : Row). x.birth) (placed_at old new r at p) ∙ born;
    }
