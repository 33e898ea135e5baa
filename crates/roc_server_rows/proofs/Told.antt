-- A row gets a list, behind all others
use Rattle.std.proofs.Common.{◌≡◌, ◌≢◌, ◌<◌, ◌≤◌, ◌+◌, inl, inr, ℕ, Bool, true, false, cond, List, [], ◌∷◌, ◌++◌, set, map, refl, sym, ap, ◌∙◌, subst, arith}
use Rattle.std.proofs.lemmas.Bool.Decides.{nat_tests}
use Rattle.std.proofs.lemmas.List.{get_or-set_same, get_or-set_other, map-append}
use Rattle.std.specs.Prelude.{nat_lt}
use Rattle.std.specs.Map.{lookup}
use Rattle.std.proofs.lemmas.Bool.{cases_eq}
use Rattle.roc_base.specs.declared.id.TxnId.{TxnId}
use Rattle.roc_base.specs.TxnId.{is_txn}
use Rattle.roc_base.specs.Edge.{Dependency}
use Rattle.roc_server_rows.specs.declared.rows.Link.{Link}
use Rattle.roc_server_rows.specs.declared.rows.Row.{Row}
use Rattle.roc_step.specs.Carried.{list_with}
use Rattle.roc_server_rows.specs.Rows.{no_row, row_in, is_alive, followed, rows_in_turn, known_in, links_in, known_of, row_links, AreNamed, IsRowOf, IsRowTable}
use Rattle.roc_server_rows.proofs.Turns.{turn_last}
use Rattle.roc_server_rows.proofs.Alive.{row_within, alive_same}

module _ (numbers : List (TxnId × ℕ)) (old : List Row) (stamp n : ℕ) (r : Row) (t : IsRowTable numbers old stamp) (live : 0 < (row_in old n).birth)
    (same_id : r.id ≡ (row_in old n).id) (same_birth : r.birth ≡ (row_in old n).birth) (turn : r.turn ≡ stamp) where
  abbrev new : List Row
  new = set old n r

  told_own : row_in new n ≡ r
  told_own = get_or-set_same old n r no_row (row_within old n live)

  told_other : (m : ℕ) → m ≢ n → row_in new m ≡ row_in old m
  told_other m d = get_or-set_other old n m r no_row d

  told_at : (P : Row → Row → Type 0) → P (row_in old n) r → ((x : Row) → P x x) → (m : ℕ) → P (row_in old m) (row_in new m)
  told_at P own other m = elim (cases_eq m n) [
    | inl e ↦ subst (λ k. P (row_in old k) (row_in new k)) (sym e) (subst (P (row_in old n)) (sym told_own) own)
    | inr d ↦ subst (P (row_in old m)) (sym (told_other m d)) (other (row_in old m))
  ]

  ids_stay : (m : ℕ) → (row_in new m).id ≡ (row_in old m).id
  ids_stay = told_at (λ x y. y.id ≡ x.id) same_id (λ x. refl)

  births_stay : (m : ℕ) → (row_in new m).birth ≡ (row_in old m).birth
  births_stay = told_at (λ x y. y.birth ≡ x.birth) same_birth (λ x. refl)

  names_stay : (ds : List Dependency) (ls : List Link) → AreNamed old stamp ds ls → AreNamed new (stamp + 1) ds ls
  names_stay [] [] a = tt
  names_stay [] (l ∷ ls) a = absurd a
  names_stay (d ∷ ds) [] a = absurd a
  names_stay (d ∷ ds) (l ∷ ls) a = (
    record {
      born = omega (arith, a.0.born);
      right = λ h. ids_stay l.at ∙ a.0.right (alive_same old new l (sym (births_stay l.at)) ∙ h);
    },
    names_stay ds ls a.1,
  )

  followed_stays : (ds : List Dependency) (ls : List Link) → followed new ds ls ≡ followed old ds ls
  followed_stays [] ls = refl
  followed_stays (d ∷ ds) [] = refl
  followed_stays (d ∷ ds) (l ∷ ls) =
      ap (λ b. cond b (d ∷ followed new ds ls) (followed new ds ls)) (alive_same new old l (births_stay l.at))
      ∙ ap (λ es. cond (is_alive old l) (d ∷ es) es) (followed_stays ds ls)

  links_stay : (rs : List Row) → map (links_in new) rs ≡ map (links_in old) rs
  links_stay [] = refl
  links_stay (x ∷ xs) =
      ap (λ es. list_with x.id es ∷ map (links_in new) xs) (followed_stays x.edges x.names)
      ∙ ap (λ ks. list_with x.id (followed old x.edges x.names) ∷ ks) (links_stay xs)

  pub told_table : AreNamed old stamp r.edges r.names → IsRowTable numbers (set old n r) (stamp + 1)
  told_table own =
      record {
        some = omega arith;
        found = λ id m h.
            let w : IsRowOf old m id = t.found id m h in
            record { live = subst (λ b. 0 < b) (sym (births_stay m)) w.live; is = ids_stay m ∙ w.is };
        each = λ m h. ap (λ q. lookup (is_txn q) numbers) (ids_stay m) ∙ t.each m (subst (λ b. 0 < b) (births_stay m) h);
        told_live = λ m. told_live m;
        births = λ m. subst (λ b. b < stamp + 1) (sym (births_stay m)) (omega (arith, t.births m));
        turns = λ m. turns m;
        names = λ m. names m;
      }
    where
      told_live : (m : ℕ) → 0 < (row_in new m).turn → 0 < (row_in new m).birth
      told_live m h = elim (cases_eq m n) [
        | inl e ↦ subst (λ k. 0 < (row_in new k).birth) (sym e) (subst (λ b. 0 < b) (sym (births_stay n)) live)
        | inr d ↦ subst (λ (x : Row). 0 < x.birth) (sym (told_other m d)) (t.told_live m (subst (λ (x : Row). 0 < x.turn) (told_other m d) h))
      ]

      turns : (m : ℕ) → (row_in new m).turn < stamp + 1
      turns m = elim (cases_eq m n) [
        | inl e ↦ subst (λ k. (row_in new k).turn < stamp + 1) (sym e) (subst (λ (x : Row). x.turn < stamp + 1) (sym told_own) (omega (arith, turn)))
        | inr d ↦ subst (λ (x : Row). x.turn < stamp + 1) (sym (told_other m d)) (omega (arith, t.turns m))
      ]

      names : (m : ℕ) → AreNamed new (stamp + 1) (row_in new m).edges (row_in new m).names
      names m = elim (cases_eq m n) [
        | inl e ↦
            subst (λ k. AreNamed new (stamp + 1) (row_in new k).edges (row_in new k).names) (sym e)
            (subst (λ (x : Row). AreNamed new (stamp + 1) x.edges x.names) (sym told_own) (names_stay r.edges r.names own))
        | inr d ↦ subst (λ (x : Row). AreNamed new (stamp + 1) x.edges x.names) (sym (told_other m d)) (names_stay (row_in old m).edges (row_in old m).names (t.names m))
      ]

  module _ (untold : (row_in old n).turn ≡ 0) where
    told_turn : rows_in_turn (set old n r) ≡ rows_in_turn old ++ r ∷ []
    told_turn = turn_last old n r (row_within old n live) (ap (nat_lt 0) untold) (now_told (nat_lt 0 r.turn) refl) (λ k. subst (λ b. (row_in old k).turn < b) (sym turn) (t.turns k))
      where
        now_told : (b : Bool) → nat_lt 0 r.turn ≡ b → b ≡ true
        now_told true e = refl
        now_told false e =
            let z : r.turn ≤ 0 = grind (arith, nat_tests) in
            absurd (omega (arith, z, turn, t.some))

    pub told_known : known_of (set old n r) ≡ known_of old ++ list_with r.id r.edges ∷ []
    told_known = ap (map known_in) told_turn ∙ map-append known_in (rows_in_turn old) (r ∷ [])

    pub told_links : row_links (set old n r) ≡ row_links old ++ list_with r.id (followed old r.edges r.names) ∷ []
    told_links = ap (map (links_in new)) told_turn ∙ (links_stay (rows_in_turn old ++ r ∷ []) ∙ map-append (links_in old) (rows_in_turn old) (r ∷ []))
