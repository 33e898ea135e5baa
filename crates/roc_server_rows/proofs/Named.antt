-- Links are made, entry by entry
use Rattle.std.proofs.Common.{◌≡◌, ◌<◌, ◌+◌, ◌&&◌, ◌==◌, ℕ, Bool, true, false, not, cond, List, [], ◌∷◌, ◌++◌, length, get_or, take, filter, refl, sym, ap, ◌∙◌, subst, arith}
use Rattle.std.proofs.lemmas.Bool.{false≢true}
use Rattle.std.proofs.lemmas.Bool.Decides.{nat_tests}
use Rattle.std.proofs.lemmas.List.{take_more}
use Rattle.std.specs.Prelude.{nat_lt}
use Rattle.roc_sequence.specs.Places.{is_listed}
use Rattle.roc_base.specs.declared.id.TxnId.{TxnId}
use Rattle.roc_base.specs.TxnId.{is_txn}
use Rattle.roc_base.specs.Edge.{Dependency}
use Rattle.roc_server_rows.specs.declared.rows.Link.{Link}
use Rattle.roc_server_rows.specs.declared.rows.Row.{Row}
use Rattle.roc_server_rows.specs.declared.rows.Parts.{Parts}
use Rattle.roc_server_rows.specs.Inner.Rows.{GrowsTo, IsLinkFor}
use Rattle.roc_server_rows.specs.Rows.{row_in, is_alive, followed, AreNamed, IsRowName, AreWhole}
use Rattle.roc_server_rows.proofs.Alive.{grows_none, grows_on, names_grow, followed_grow}

-- ---- what a link that was made is

dead_none : (rs : List Row) (l : Link) → l.birth ≡ 0 → is_alive rs l ≡ false
dead_none rs l h = ap (λ n. nat_lt 0 n && ((row_in rs l.at).birth == l.birth)) h

alive_own : (rs : List Row) (l : Link) → 0 < (row_in rs l.at).birth → (row_in rs l.at).birth ≡ l.birth → is_alive rs l ≡ true
alive_own rs l live e = go (nat_lt 0 l.birth) refl
  where
    go : (b : Bool) → nat_lt 0 l.birth ≡ b → (b && ((row_in rs l.at).birth == l.birth)) ≡ true
    go true h = grind (arith, nat_tests)
    go false h = let z : l.birth ≡ 0 = grind (arith, nat_tests) in absurd (omega (arith, live, e, z))

module _ (rs : List Row) (stamp : ℕ) (d : Dependency) (l : Link) where
  made_name : (b : Bool) → IsLinkFor rs stamp d.from b l → IsRowName rs stamp d l
  made_name true h = record { born = omega (arith, h.0, h.1); right = λ a. absurd (false≢true (sym (dead_none rs l h.0) ∙ a)) }
  made_name false h = record { born = h.2; right = λ a. h.0.is }

  made_alive : (b : Bool) → IsLinkFor rs stamp d.from b l → is_alive rs l ≡ not b
  made_alive true h = dead_none rs l h.0
  made_alive false h = alive_own rs l h.0.live h.1

-- ---- one more entry

names_more : (rs : List Row) (stamp : ℕ) (ds : List Dependency) (ls : List Link) (d : Dependency) (l : Link) → AreNamed rs stamp ds ls → IsRowName rs stamp d l
    → AreNamed rs stamp (ds ++ d ∷ []) (ls ++ l ∷ [])
names_more rs stamp [] [] d l a n = (n, tt)
names_more rs stamp [] (x ∷ ls) d l a n = absurd a
names_more rs stamp (x ∷ ds) [] d l a n = absurd a
names_more rs stamp (x ∷ ds) (y ∷ ls) d l a n = (a.0, names_more rs stamp ds ls d l a.1 n)

followed_more : (rs : List Row) (stamp : ℕ) (ds : List Dependency) (ls : List Link) (d : Dependency) (l : Link) → AreNamed rs stamp ds ls
    → followed rs (ds ++ d ∷ []) (ls ++ l ∷ []) ≡ followed rs ds ls ++ cond (is_alive rs l) (d ∷ []) []
followed_more rs stamp [] [] d l a = refl
followed_more rs stamp [] (x ∷ ls) d l a = absurd a
followed_more rs stamp (x ∷ ds) [] d l a = absurd a
followed_more rs stamp (x ∷ ds) (y ∷ ls) d l a = go (is_alive rs y) (followed_more rs stamp ds ls d l a.1)
  where
    go : (b : Bool) → followed rs (ds ++ d ∷ []) (ls ++ l ∷ []) ≡ followed rs ds ls ++ cond (is_alive rs l) (d ∷ []) []
        → cond b (x ∷ followed rs (ds ++ d ∷ []) (ls ++ l ∷ [])) (followed rs (ds ++ d ∷ []) (ls ++ l ∷ [])) ≡ cond b (x ∷ followed rs ds ls) (followed rs ds ls) ++ cond (is_alive rs l) (d ∷ []) []
    go true e = ap (λ es. x ∷ es) e
    go false e = e

filter_more : (p : Dependency → Bool) (ds : List Dependency) (d : Dependency) → filter p (ds ++ d ∷ []) ≡ filter p ds ++ cond (p d) (d ∷ []) []
filter_more p [] d = refl
filter_more p (x ∷ ds) d = go (p x) (filter_more p ds d)
  where
    go : (b : Bool) → filter p (ds ++ d ∷ []) ≡ filter p ds ++ cond (p d) (d ∷ []) []
        → cond b (x ∷ filter p (ds ++ d ∷ [])) (filter p (ds ++ d ∷ [])) ≡ cond b (x ∷ filter p ds) (filter p ds) ++ cond (p d) (d ∷ []) []
    go true e = ap (λ es. x ∷ es) e
    go false e = e

abbrev pub stays : (done : List TxnId) → Dependency → Bool
stays done d = not (is_listed is_txn done d.from)

-- links were made for these entries
pub record IsNaming (initial parts : Parts) (done : List TxnId) (ds : List Dependency) (ls : List Link) : Type 0 where
  pub whole : AreWhole parts
  pub grows : GrowsTo initial parts
  pub names : AreNamed parts.rows.items parts.stamp ds ls
  pub followed : followed parts.rows.items ds ls ≡ filter (stays done) ds

pub grows_behind : (a b c : Parts) → GrowsTo a b → GrowsTo b c → GrowsTo a c
grows_behind a b c g h =
    record {
      rows = grows_on a.rows.items b.rows.items c.rows.items a.stamp b.stamp c.stamp g.rows h.rows;
      lists = h.lists ∙ g.lists;
    }

pub naming_none : (initial : Parts) (done : List TxnId) (ls : List Link) → AreWhole initial → ls ≡ [] → IsNaming initial initial done [] ls
naming_none initial done ls whole none =
    subst (IsNaming initial initial done []) (sym none)
    (record {
      whole = whole;
      grows = record { rows = grows_none initial.rows.items initial.stamp initial.stamp (omega arith); lists = refl };
      names = tt;
      followed = refl;
    })

pub naming_more : (initial parts next : Parts) (done : List TxnId) (edges : List Dependency) (i : ℕ) (d : Dependency) (id : TxnId) (ls ls2 : List Link) (l : Link)
    → IsNaming initial parts done (take i edges) ls → i < length edges → d ≡ get_or edges i d → id ≡ d.from → AreWhole next → GrowsTo parts next
    → IsLinkFor next.rows.items next.stamp id (is_listed is_txn done id) l → ls2 ≡ ls ++ l ∷ [] → IsNaming initial next done (take (i + 1) edges) ls2
naming_more initial parts next done edges i d id ls ls2 l n below is from whole g link more =
    let rs = next.rows.items in
    let ds : List Dependency = take i edges in
    let names : AreNamed rs next.stamp ds ls = names_grow parts.rows.items rs parts.stamp next.stamp g.rows ds ls n.names in
    let before : followed rs ds ls ≡ filter (stays done) ds = followed_grow parts.rows.items rs parts.stamp next.stamp g.rows ds ls n.names ∙ n.followed in
    let own : IsLinkFor rs next.stamp d.from (is_listed is_txn done d.from) l = subst (λ t. IsLinkFor rs next.stamp t (is_listed is_txn done t) l) from link in
    let next_is : take (i + 1) edges ≡ ds ++ d ∷ [] = take_more edges i d below ∙ ap (λ x. ds ++ x ∷ []) (sym is) in
    let all : IsNaming initial next done (ds ++ d ∷ []) (ls ++ l ∷ []) =
    record {
      whole = whole;
      grows = grows_behind initial parts next n.grows g;
      names = names_more rs next.stamp ds ls d l names (made_name rs next.stamp d l (is_listed is_txn done d.from) own);
      followed =
          followed_more rs next.stamp ds ls d l names
          ∙ (ap (λ es. es ++ cond (is_alive rs l) (d ∷ []) []) before
          ∙ (ap (λ b. filter (stays done) ds ++ cond b (d ∷ []) []) (made_alive rs next.stamp d l (is_listed is_txn done d.from) own)
          ∙ sym (filter_more (stays done) ds d)));
    } in
    subst (λ es. IsNaming initial next done es ls2) (sym next_is) (subst (IsNaming initial next done (ds ++ d ∷ [])) (sym more) all)
