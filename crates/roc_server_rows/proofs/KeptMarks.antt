-- Marks stay right as rows come, get lists and end
use Rattle.std.proofs.Common.{◌≡◌, ◌≢◌, ◌<◌, ◌⊎◌, inl, inr, ℕ, Bool, true, false, List, [], ◌∷◌, refl, sym, ap, ◌∙◌, subst, arith}
use Rattle.std.proofs.lemmas.Bool.{false≢true}
use Rattle.std.specs.Prelude.{nat_lt}
use Rattle.std.proofs.lemmas.Bool.Decides.{nat_tests}
use Rattle.roc_sequence.specs.Lists.{Has}
use Rattle.roc_base.specs.declared.id.TxnId.{TxnId}
use Rattle.roc_base.specs.Edge.{Dependency}
use Rattle.roc_server_rows.specs.declared.rows.Link.{Link}
use Rattle.roc_server_rows.specs.declared.rows.Row.{Row}
use Rattle.roc_server_rows.specs.declared.marks.Mark.{Mark}
use Rattle.roc_server_rows.specs.Rows.{row_in, is_alive, is_told, AreNamed, Grows, IsRowTable}
use Rattle.roc_server_rows.specs.Inner.Marks.{Drops}
use Rattle.roc_server_rows.specs.Marks.{mark_in, at_end, by_link, AreMarked, IsOut, IsRowTold, RowLeads, MayEnd, WaitsOn, Wakes}
use Rattle.roc_server_rows.proofs.Alive.{told_live}

-- a link that a row has was made before
pub born_link : (rows : List Row) (stamp : ℕ) (ds : List Dependency) (ls : List Link) → AreNamed rows stamp ds ls → (l : Link) → Has l ls → l.birth < stamp
born_link rows stamp [] [] a l h = absurd h
born_link rows stamp [] (x ∷ xs) a l h = absurd a
born_link rows stamp (d ∷ ds) [] a l h = absurd h
born_link rows stamp (d ∷ ds) (x ∷ xs) a l (inl e) = subst (λ (y : Link). y.birth < stamp) (sym e) a.0.born
born_link rows stamp (d ∷ ds) (x ∷ xs) a l (inr h) = born_link rows stamp ds xs a.1 l h

untold_turn : (r : Row) → r.turn ≡ 0 → is_told r ≡ false
untold_turn r h = ap (nat_lt 0) h

-- ---- rows that change, where the marks of some fall away

-- what stays of the marks: a row that is decided is the same and leads nowhere else; one that waits waits at the same, and leads there still
pub record KeepsMarks (old new : List Row) (marks marks2 : List Mark) : Type 0 where
  pub decided : (n : ℕ) → (mark_in marks2 n).decided ≡ true → (mark_in marks n).decided ≡ true
  pub decided_free : (n : ℕ) → (mark_in marks2 n).decided ≡ true → (mark_in marks2 n).waits.birth ≡ 0
  pub told : (n : ℕ) → (mark_in marks2 n).decided ≡ true → is_told (row_in new n) ≡ true
  pub links : (n : ℕ) → (mark_in marks2 n).decided ≡ true → (l : Link) → Has l (row_in new n).names → is_alive new l ≡ true
      → Has l (row_in old n).names × (is_alive old l ≡ true) × ((mark_in marks l.at).decided ≡ true → (mark_in marks2 l.at).decided ≡ true)
  pub waits : (n : ℕ) → 0 < (mark_in marks2 n).waits.birth → WaitsOn new n (mark_in marks2 n).waits

pub marks_kept : (old new : List Row) (marks marks2 : List Mark) → AreMarked old marks → KeepsMarks old new marks marks2 → AreMarked new marks2
marks_kept old new marks marks2 a k =
    record {
      decided_told = k.told;
      decided_free = k.decided_free;
      closed = λ n d l has alive. let w = k.links n d l has alive in w.2 (a.closed n (k.decided n d) l w.0 w.1);
      waits = k.waits;
    }

-- ---- rows come

module _ (numbers : List (TxnId × ℕ)) (old new : List Row) (was stamp : ℕ) (t : IsRowTable numbers old was) (g : Grows old new was stamp) (marks : List Mark) (a : AreMarked old marks) where
  leads_grow : (n m : ℕ) → RowLeads old n m → RowLeads new n m
  leads_grow n m at_end = at_end
  leads_grow n m (by_link l told has alive rest) =
      let live : 0 < (row_in old n).birth = told_live numbers old was t n told in
      let same : row_in new n ≡ row_in old n = g.rows n live in
      let born : l.birth < was = born_link old was (row_in old n).edges (row_in old n).names (t.names n) l has in
      by_link l (ap is_told same ∙ told) (subst (λ (r : Row). Has l r.names) (sym same) has) (g.links l born ∙ alive) (leads_grow l.at m rest)

  pub marks_grow : AreMarked new marks
  marks_grow =
      marks_kept old new marks marks a
      (record {
        decided = λ n d. d;
        decided_free = λ n d. a.decided_free n d;
        told = λ n d. ap is_told (same_row n d) ∙ a.decided_told n d;
        links = λ n d l has alive.
            let h : Has l (row_in old n).names = subst (λ (r : Row). Has l r.names) (same_row n d) has in
            let born : l.birth < was = born_link old was (row_in old n).edges (row_in old n).names (t.names n) l h in
            (h, sym (g.links l born) ∙ alive, λ e. e);
        waits = λ n p.
            let w = a.waits n p in
            let row : row_in new (mark_in marks n).waits.at ≡ row_in old (mark_in marks n).waits.at = g.rows (mark_in marks n).waits.at w.live in
            record {
              leads = leads_grow n (mark_in marks n).waits.at w.leads;
              live = subst (λ (r : Row). 0 < r.birth) (sym row) w.live;
              untold = ap (λ (r : Row). r.turn) row ∙ w.untold;
            };
      })
    where
      same_row : (n : ℕ) → (mark_in marks n).decided ≡ true → row_in new n ≡ row_in old n
      same_row n d = g.rows n (told_live numbers old was t n (a.decided_told n d))

-- ---- a row gets a list, and those that waited at it are in question

module _ (n : ℕ) (old new : List Row) (i : IsRowTold n old new) (marks marks2 : List Mark) (a : AreMarked old marks) (w : Wakes n marks marks2) where
  told_other : (k : ℕ) → is_told (row_in old k) ≡ true → k ≢ n
  told_other k h e = false≢true (sym i.untold ∙ (ap (λ j. is_told (row_in old j)) (sym e) ∙ h))

  leads_told : (k m : ℕ) → RowLeads old k m → RowLeads new k m
  leads_told k m at_end = at_end
  leads_told k m (by_link l told has alive rest) =
      let same : row_in new k ≡ row_in old k = i.others k (told_other k told) in
      by_link l (ap is_told same ∙ told) (subst (λ (r : Row). Has l r.names) (sym same) has) (i.links l ∙ alive) (leads_told l.at m rest)

  pub marks_told : AreMarked new marks2
  marks_told =
      marks_kept old new marks marks2 a
      (record {
        decided = λ k d. sym (w.decided k) ∙ d;
        decided_free = λ k d. decided_free k d (w.woken k);
        told = λ k d. ap is_told (same_row k d) ∙ a.decided_told k (sym (w.decided k) ∙ d);
        links = λ k d l has alive. (subst (λ (r : Row). Has l r.names) (same_row k d) has, sym (i.links l) ∙ alive, λ e. w.decided l.at ∙ e);
        waits = λ k p. waits k p (w.woken k);
      })
    where
      same_row : (k : ℕ) → (mark_in marks2 k).decided ≡ true → row_in new k ≡ row_in old k
      same_row k d = i.others k (told_other k (a.decided_told k (sym (w.decided k) ∙ d)))

      decided_free : (k : ℕ) → (mark_in marks2 k).decided ≡ true → (mark_in marks2 k).waits.birth ≡ 0 ⊎ (((mark_in marks2 k).waits ≡ (mark_in marks k).waits) × ((mark_in marks k).waits.at ≢ n))
          → (mark_in marks2 k).waits.birth ≡ 0
      decided_free k d (inl z) = z
      decided_free k d (inr s) = ap (λ (l : Link). l.birth) s.0 ∙ a.decided_free k (sym (w.decided k) ∙ d)

      waits : (k : ℕ) → 0 < (mark_in marks2 k).waits.birth → (mark_in marks2 k).waits.birth ≡ 0 ⊎ (((mark_in marks2 k).waits ≡ (mark_in marks k).waits) × ((mark_in marks k).waits.at ≢ n))
          → WaitsOn new k (mark_in marks2 k).waits
      waits k p (inl z) = absurd (omega (arith, p, z))
      waits k p (inr s) =
          let o = a.waits k (subst (λ (l : Link). 0 < l.birth) s.0 p) in
          let row : row_in new (mark_in marks k).waits.at ≡ row_in old (mark_in marks k).waits.at = i.others (mark_in marks k).waits.at s.1 in
          subst (λ (l : Link). WaitsOn new k l) (sym s.0)
          (record {
            leads = leads_told k (mark_in marks k).waits.at o.leads;
            live = subst (λ (r : Row). 0 < r.birth) (sym row) o.live;
            untold = ap (λ (r : Row). r.turn) row ∙ o.untold;
          })

-- nobody waits at a row that has a list
pub none_waits : (rows : List Row) (marks : List Mark) → AreMarked rows marks → (n : ℕ) → is_told (row_in rows n) ≡ true → Wakes n marks marks
none_waits rows marks a n told = record { each = refl; decided = λ k. refl; woken = λ k. go k (nat_lt 0 (mark_in marks k).waits.birth) refl }
  where
    go : (k : ℕ) (b : Bool) → nat_lt 0 (mark_in marks k).waits.birth ≡ b
        → ((mark_in marks k).waits.birth ≡ 0) ⊎ (((mark_in marks k).waits ≡ (mark_in marks k).waits) × ((mark_in marks k).waits.at ≢ n))
    go k true e =
        let p : 0 < (mark_in marks k).waits.birth = grind (arith, nat_tests) in
        let untold = untold_turn (row_in rows (mark_in marks k).waits.at) (a.waits k p).untold in
        inr (refl, λ z. false≢true (sym untold ∙ (ap (λ j. is_told (row_in rows j)) z ∙ told)))
    go k false e = inl (grind (arith, nat_tests))

-- ---- a row ends that is decided or has no list: nothing that waits elsewhere leads through it

module _ (n : ℕ) (old new : List Row) (o : IsOut n old new) (marks marks2 : List Mark) (a : AreMarked old marks) (d : Drops n marks marks2)
    (may : MayEnd old marks n) where
  -- what is without a list is not led to over the row
  leads_past : (k m : ℕ) → RowLeads old k m → (row_in old m).turn ≡ 0 → m ≢ n → k ≢ n
  leads_past k m at_end z other e = other e
  leads_past k m (by_link l told has alive rest) z other e = go may
    where
      closed : (j : ℕ) → RowLeads old j m → (mark_in marks j).decided ≡ true → (mark_in marks m).decided ≡ true
      closed j r q = decided_on j m r q
        where
          decided_on : (j m : ℕ) → RowLeads old j m → (mark_in marks j).decided ≡ true → (mark_in marks m).decided ≡ true
          decided_on j m at_end q = q
          decided_on j m (by_link x t h v r) q = decided_on x.at m r (a.closed j q x h v)

      go : MayEnd old marks n → ⊥
      go (inl q) =
          let dk : (mark_in marks k).decided ≡ true = ap (λ j. (mark_in marks j).decided) e ∙ q in
          let dm = closed k (by_link l told has alive rest) dk in
          false≢true (sym (untold_turn (row_in old m) z) ∙ a.decided_told m dm)
      go (inr u) = false≢true (sym u ∙ (ap (λ j. is_told (row_in old j)) (sym e) ∙ told))

  leads_out : (k m : ℕ) → RowLeads old k m → (row_in old m).turn ≡ 0 → m ≢ n → RowLeads new k m
  leads_out k m at_end z other = at_end
  leads_out k m (by_link l told has alive rest) z other =
      let here : k ≢ n = leads_past k m (by_link l told has alive rest) z other in
      let next : l.at ≢ n = leads_past l.at m rest z other in
      let same : row_in new k ≡ row_in old k = o.others k here in
      by_link l (ap is_told same ∙ told) (subst (λ (r : Row). Has l r.names) (sym same) has) (o.links l next ∙ alive) (leads_out l.at m rest z other)

  pub marks_out : AreMarked new marks2
  marks_out =
      marks_kept old new marks marks2 a
      (record {
        decided = λ k q. was k q;
        decided_free = λ k q. decided_free k q (d.woken k);
        told = λ k q. ap is_told (o.others k (apart k q)) ∙ a.decided_told k (was k q);
        links = λ k q l has alive.
            let next : l.at ≢ n = λ e. false≢true (sym (o.dead l e) ∙ alive) in
            (subst (λ (r : Row). Has l r.names) (o.others k (apart k q)) has, sym (o.links l next) ∙ alive, λ e. d.decided l.at next ∙ e);
        waits = λ k p. waits k p (d.woken k);
      })
    where
      apart : (k : ℕ) → (mark_in marks2 k).decided ≡ true → k ≢ n
      apart k q e = false≢true (sym d.own ∙ (ap (λ j. (mark_in marks2 j).decided) (sym e) ∙ q))

      was : (k : ℕ) → (mark_in marks2 k).decided ≡ true → (mark_in marks k).decided ≡ true
      was k q = sym (d.decided k (apart k q)) ∙ q

      decided_free : (k : ℕ) → (mark_in marks2 k).decided ≡ true
          → (mark_in marks2 k).waits.birth ≡ 0 ⊎ (((mark_in marks2 k).waits ≡ (mark_in marks k).waits) × ((mark_in marks k).waits.at ≢ n) × (k ≢ n)) → (mark_in marks2 k).waits.birth ≡ 0
      decided_free k q (inl z) = z
      decided_free k q (inr s) = ap (λ (l : Link). l.birth) s.0 ∙ a.decided_free k (was k q)

      waits : (k : ℕ) → 0 < (mark_in marks2 k).waits.birth
          → (mark_in marks2 k).waits.birth ≡ 0 ⊎ (((mark_in marks2 k).waits ≡ (mark_in marks k).waits) × ((mark_in marks k).waits.at ≢ n) × (k ≢ n)) → WaitsOn new k (mark_in marks2 k).waits
      waits k p (inl z) = absurd (omega (arith, p, z))
      waits k p (inr s) =
          let was_on = a.waits k (subst (λ (l : Link). 0 < l.birth) s.0 p) in
          let row : row_in new (mark_in marks k).waits.at ≡ row_in old (mark_in marks k).waits.at = o.others (mark_in marks k).waits.at s.1 in
          subst (λ (l : Link). WaitsOn new k l) (sym s.0)
          (record {
            leads = leads_out k (mark_in marks k).waits.at was_on.leads was_on.untold s.1;
            live = subst (λ (r : Row). 0 < r.birth) (sym row) was_on.live;
            untold = ap (λ (r : Row). r.turn) row ∙ was_on.untold;
          })
