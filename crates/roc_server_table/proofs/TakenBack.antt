-- Lists of transactions that are not decided are taken back
use Rattle.std.proofs.Common.{◌≡◌, ◌≢◌, ◌<◌, ◌+◌, ◌||◌, ◌&&◌, inl, inr, ℕ, Bool, true, false, cond, not, List, [], ◌∷◌, ◌++◌, length, take, get_or, filter, Option, Some, None}
use Rattle.std.proofs.Common.{is_some, refl, sym, ap, ◌∙◌, subst, arith}
use Rattle.std.proofs.lemmas.Bool.{false≢true, and_parts}
use Rattle.std.specs.Map.{lookup}
use Rattle.roc_sequence.specs.Lists.{Has}
use Rattle.roc_sequence.specs.Places.{is_listed}
use Rattle.roc_sequence.proofs.Fronts.{front_more}
use Rattle.roc_base.specs.declared.id.TxnId.{TxnId}
use Rattle.roc_base.specs.TxnId.{is_txn}
use Rattle.roc_base.proofs.Ids.{is_txn-swap}
use Rattle.roc_depgraph.specs.declared.known.KnownList.{KnownList}
use Rattle.roc_depgraph.specs.Deps.{list_of, is_known}
use Rattle.roc_server_rows.specs.declared.rows.Row.{Row}
use Rattle.roc_server_rows.specs.declared.rows.Parts.{Parts}
use Rattle.roc_server_rows.specs.declared.marks.Mark.{Mark}
use Rattle.roc_server_rows.specs.Changes.{untold, RowLists}
use Rattle.roc_server_table.specs.Inner.Changes.{all_untold}
use Rattle.roc_server_rows.specs.Rows.{row_in, is_told, AreWhole}
use Rattle.roc_server_rows.specs.Marks.{mark_in, is_open, AreMarked, AreOpen, IsTakenBack, WakesAll}
use Rattle.roc_server_table.specs.Inner.Kept.{decided_of, IsKept}
use Rattle.roc_server_table.proofs.AllEnded.{filter_both}
use Rattle.roc_server_rows.proofs.ExceptedMarks.{marks_awake}
use Rattle.roc_server_rows.proofs.OpenRows.{open_awake, open_back}
use Rattle.roc_server_table.proofs.DecidedIds.{decided_at, decided_within, decided_same}

-- ---- no row waits

module _ (p : Parts) (marks new : List Mark) (k : IsKept p marks) (w : WakesAll marks new) where
  pub awake_kept : IsKept p new
  awake_kept =
      record {
        whole = k.whole;
        marked = marks_awake p.rows.items marks new k.marked w;
        each = w.each ∙ k.each;
        undecided = open_awake p.rows.items p.rows.items marks new p.undecided.items k.undecided w (λ n. refl);
      }

  pub awake_decided : decided_of p.rows.items new ≡ decided_of p.rows.items marks
  awake_decided =
      let within = decided_within p.numbers.entries p.rows.items p.stamp k.whole marks k.marked in
      decided_same p.rows.items p.rows.items marks new w.same (λ n d. (refl, within n d, within n d))

-- ---- what is undecided is cut to what is open

-- rows and their marks are kept right once the list of what is undecided is cut
pub record IsKeptOnceCut (parts : Parts) (marks : List Mark) : Type 0 where
  pub whole : AreWhole parts
  pub marked : AreMarked parts.rows.items marks
  pub each : length marks ≡ length parts.rows.items
  pub undecided : AreOpen parts.rows.items marks (filter (is_open parts.rows.items marks) parts.undecided.items)

all_stay : (p : ℕ → Bool) (ns : List ℕ) → ((n : ℕ) → Has n ns → p n ≡ true) → filter p ns ≡ ns
all_stay p [] h = refl
all_stay p (n ∷ ns) h = ap (λ b. cond b (n ∷ filter p ns) (filter p ns)) (h n (inl refl)) ∙ ap (λ xs. n ∷ xs) (all_stay p ns (λ m k. h m (inr k)))

cut_again : (p q : ℕ → Bool) → ((n : ℕ) → p n ≡ true → q n ≡ true) → (ns : List ℕ) → filter p (filter q ns) ≡ filter p ns
cut_again p q more [] = refl
cut_again p q more (n ∷ ns) = go (p n) (q n) refl refl (cut_again p q more ns)
  where
    go : (b d : Bool) → p n ≡ b → q n ≡ d → filter p (filter q ns) ≡ filter p ns → filter p (cond d (n ∷ filter q ns) (filter q ns)) ≡ cond b (n ∷ filter p ns) (filter p ns)
    go true true e f ih = ap (λ v. cond v (n ∷ filter p (filter q ns)) (filter p (filter q ns))) e ∙ ap (λ xs. n ∷ xs) ih
    go false true e f ih = ap (λ v. cond v (n ∷ filter p (filter q ns)) (filter p (filter q ns))) e ∙ ih
    go true false e f ih = absurd (false≢true (sym f ∙ more n e))
    go false false e f ih = ih

pub once_cut : (p : Parts) (marks : List Mark) → IsKept p marks → IsKeptOnceCut p marks
once_cut p marks k =
    record {
      whole = k.whole;
      marked = k.marked;
      each = k.each;
      undecided = subst (AreOpen p.rows.items marks) (sym (all_stay (is_open p.rows.items marks) p.undecided.items all_open)) k.undecided;
    }
  where
    all_open : (n : ℕ) → Has n p.undecided.items → is_open p.rows.items marks n ≡ true
    all_open n h = let o = k.undecided.only n h in ap (λ b. not b && is_told (row_in p.rows.items n)) o.undecided ∙ o.told

-- once it is cut, it is kept
pub cut_kept : (p q : Parts) (marks : List Mark) → IsKeptOnceCut p marks → AreWhole q → q.rows.items ≡ p.rows.items
    → q.undecided.items ≡ filter (is_open p.rows.items marks) p.undecided.items → IsKept q marks
cut_kept p q marks k whole same left =
    record {
      whole = whole;
      marked = subst (λ (rs : List Row). AreMarked rs marks) (sym same) k.marked;
      each = k.each ∙ ap length (sym same);
      undecided = subst (λ (rs : List Row). AreOpen rs marks q.undecided.items) (sym same) (subst (AreOpen p.rows.items marks) (sym left) k.undecided);
    }

-- rows lose lists while none waits
cut_back : (old new : List Row) (marks : List Mark) (us vs : List ℕ) → vs ≡ us → AreOpen old marks (filter (is_open old marks) us) → ((n : ℕ) → (mark_in marks n).waits.birth ≡ 0)
    → ((n : ℕ) → is_told (row_in new n) ≡ true → is_told (row_in old n) ≡ true) → AreOpen new marks (filter (is_open new marks) vs)
cut_back old new marks us vs same o awake told =
    subst (AreOpen new marks) (cut_again (is_open new marks) (is_open old marks) less us ∙ ap (filter (is_open new marks)) (sym same))
    (open_back old new marks (filter (is_open old marks) us) o awake told)
  where
    less : (n : ℕ) → is_open new marks n ≡ true → is_open old marks n ≡ true
    less n e = let w = and_parts (not (mark_in marks n).decided) (is_told (row_in new n)) e in ap (λ b. b && is_told (row_in old n)) w.0 ∙ told n w.1

-- ---- one list is taken back

module _ (p q : Parts) (marks : List Mark) (k : IsKeptOnceCut p marks) (awake : (n : ℕ) → (mark_in marks n).waits.birth ≡ 0) (id : TxnId) (n : ℕ) (here : lookup (is_txn id) p.numbers.entries ≡ Some n)
    (undecided : is_listed is_txn (decided_of p.rows.items marks) id ≡ false) (whole : AreWhole q) (b : IsTakenBack n p.rows.items q.rows.items)
    (each : length q.rows.items ≡ length p.rows.items) where
  abbrev old : List Row
  old = p.rows.items

  abbrev new : List Row
  new = q.rows.items

  apart : (m : ℕ) → (mark_in marks m).decided ≡ true → m ≢ n
  apart m d e =
      let own : (mark_in marks n).decided ≡ false = sym (decided_at p.numbers.entries old p.stamp k.whole marks k.marked id n here) ∙ undecided in
      false≢true (sym own ∙ (ap (λ j. (mark_in marks j).decided) (sym e) ∙ d))

  pub back_cut : q.undecided.items ≡ p.undecided.items → IsKeptOnceCut q marks
  back_cut stays =
      record {
        whole = whole;
        marked = record {
          decided_told = λ m d. ap is_told (b.others m (apart m d)) ∙ k.marked.decided_told m d;
          decided_free = λ m d. awake m;
          closed = λ m d l has alive. k.marked.closed m d l (subst (λ (r : Row). Has l r.names) (b.others m (apart m d)) has) (sym (b.links l) ∙ alive);
          waits = λ m w. absurd (let z = awake m in omega (arith, z, w));
        };
        each = k.each ∙ sym each;
        undecided = cut_back old new marks p.undecided.items q.undecided.items stays k.undecided awake told;
      }
    where
      told : (m : ℕ) → is_told (row_in new m) ≡ true → is_told (row_in old m) ≡ true
      told m t = ap is_told (sym (b.others m (λ e. false≢true (sym b.own ∙ (ap (λ j. is_told (row_in new j)) (sym e) ∙ t))))) ∙ t

  pub back_decided : decided_of new marks ≡ decided_of old marks
  back_decided =
      decided_same old new marks marks (λ m. refl)
      (λ m d.
      let within : m < length old = decided_within p.numbers.entries old p.stamp k.whole marks k.marked m d in
      (ap (λ (r : Row). r.id) (b.others m (apart m d)), within, omega (arith, within, each)))

-- whether it has a row or not
module _ (p q : Parts) (marks : List Mark) (k : IsKeptOnceCut p marks) (awake : (n : ℕ) → (mark_in marks n).waits.birth ≡ 0) (id : TxnId)
    (undecided : is_listed is_txn (decided_of p.rows.items marks) id ≡ false)
    (whole : AreWhole q) (each : length q.rows.items ≡ length p.rows.items)
    (taken : (n : ℕ) → lookup (is_txn id) p.numbers.entries ≡ Some n → IsTakenBack n p.rows.items q.rows.items)
    (same : lookup (is_txn id) p.numbers.entries ≡ None → q.rows.items ≡ p.rows.items) where
  pub untold_cut : q.undecided.items ≡ p.undecided.items → IsKeptOnceCut q marks
  untold_cut stays = go (lookup (is_txn id) p.numbers.entries) refl
    where
      go : (o : Option ℕ) → lookup (is_txn id) p.numbers.entries ≡ o → IsKeptOnceCut q marks
      go None e =
          record {
            whole = whole;
            marked = subst (λ (rs : List Row). AreMarked rs marks) (sym (same e)) k.marked;
            each = k.each ∙ sym each;
            undecided = cut_back p.rows.items q.rows.items marks p.undecided.items q.undecided.items stays k.undecided awake (λ m t. ap (λ (rs : List Row). is_told (row_in rs m)) (sym (same e)) ∙ t);
          }
      go (Some n) e = back_cut p q marks k awake id n e undecided whole (taken n e) each stays

  pub untold_decided : decided_of q.rows.items marks ≡ decided_of p.rows.items marks
  untold_decided = go (lookup (is_txn id) p.numbers.entries) refl
    where
      go : (o : Option ℕ) → lookup (is_txn id) p.numbers.entries ≡ o → decided_of q.rows.items marks ≡ decided_of p.rows.items marks
      go None e = ap (λ (rs : List Row). decided_of rs marks) (same e)
      go (Some n) e = back_decided p q marks k awake id n e undecided whole (taken n e) each

-- ---- several, one after another

known_more : (news : List KnownList) (k : KnownList) (t : TxnId) → is_known (news ++ k ∷ []) t ≡ (is_known news t || is_txn t k.of)
known_more [] k t = one (is_txn k.of t) ∙ is_txn-swap k.of t
  where
    one : (b : Bool) → is_some (cond b (Some k.edges) None) ≡ b
    one true = refl
    one false = refl
known_more (x ∷ xs) k t = go (is_txn x.of t) (known_more xs k t)
  where
    go : (b : Bool) → is_known (xs ++ k ∷ []) t ≡ (is_known xs t || is_txn t k.of)
        → is_some (cond b (Some x.edges) (list_of t (xs ++ k ∷ []))) ≡ (is_some (cond b (Some x.edges) (list_of t xs)) || is_txn t k.of)
    go true ih = refl
    go false ih = ih

pub none_untold : (k : RowLists) → k ≡ all_untold [] k
none_untold k = λ i. record { known = sym (all_pass k.known) i; links = sym (all_pass k.links) i }
  where
    all_pass : (ks : List KnownList) → filter (λ l. not (is_known [] l.of)) ks ≡ ks
    all_pass [] = refl
    all_pass (l ∷ ls) = ap (λ ks. l ∷ ks) (all_pass ls)

one_more_untold : (news : List KnownList) (n : KnownList) (k : RowLists) → untold n.of (all_untold news k) ≡ all_untold (news ++ n ∷ []) k
one_more_untold news n k = λ i. record { known = both k.known i; links = both k.links i }
  where
    both : (ks : List KnownList) → filter (λ l. not (is_txn l.of n.of)) (filter (λ l. not (is_known news l.of)) ks) ≡ filter (λ l. not (is_known (news ++ n ∷ []) l.of)) ks
    both ks = filter_both (λ (l : KnownList). is_known (news ++ n ∷ []) l.of) (λ l. is_known news l.of) (λ l. is_txn l.of n.of) (λ l. known_more news n l.of) ks

pub untold_next : (news : List KnownList) (i : ℕ) (n : KnownList) (k now next : RowLists) → i < length news → n ≡ get_or news i n → now ≡ all_untold (take i news) k → next ≡ untold n.of now
    → next ≡ all_untold (take (i + 1) news) k
untold_next news i n k now next below is before e =
    e ∙ (ap (untold n.of) before ∙ (one_more_untold (take i news) n k ∙ ap (λ l. all_untold l k) (front_more news i n below is)))
