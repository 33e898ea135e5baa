-- What groups that run one after another leave
use Rattle.std.proofs.Common.{◌≡◌, ◌≤◌, Bool, true, false, cond, List, [], ◌∷◌, refl, sym, ap, subst, ◌∙◌, arith, inl, inr, le_of_eq}
use Rattle.std.proofs.lemmas.Bool.{cond-true, cond-false, false_from_ne_true, false≢true}
use Rattle.roc_sequence.specs.Places.{place_of, IsListed, IsListedBefore, NoneTwice}
use Rattle.std.specs.List.{AllByRecursion}
use Rattle.roc_sequence.proofs.Holds.{all_weaker}
use Rattle.roc_sequence.proofs.Places.{place_of-here, place_of-there, listed_head, listed_tail}
use Rattle.roc_rows.specs.declared.cell.Cell.{Cell}
use Rattle.roc_rows.specs.Store.{read}
use Rattle.roc_law_orders.specs.Behaviour.{TxnGroup, is_txn_group, is_written, Yield, Behaviour, IsLawful}
use Rattle.roc_law_orders.specs.Runs.{Stage, needs, inputs_at, uses_at, yield_at, after_group, after_groups, groups_before}
use Rattle.roc_law_orders.proofs.Places.{away, before_before, before_itself, before_next, in_cases, listed_before, map_same, none_twice_before}
use Rattle.roc_law_orders.proofs.SameGroups.{same_group, is_group-same}

pub after-store : (B : Behaviour) (s : Stage) (r : TxnGroup) → (after_group B s r).store ≡ B.after r (inputs_at B s r) s.store
unfolding after_group
after-store B s r = refl

pub after-yielded_same : (B : Behaviour) (s : Stage) (r : TxnGroup) → (after_group B s r).yielded r ≡ yield_at B s r
unfolding after_group
after-yielded_same B s r = cond-true (is_txn_group r r) _ _ (is_group-same r)

pub after-yielded_other : (B : Behaviour) (s : Stage) (r q : TxnGroup) → is_txn_group r q ≡ false → (after_group B s r).yielded q ≡ s.yielded q
unfolding after_group
after-yielded_other B s r q h = cond-false (is_txn_group r q) _ _ h

pub yielded_not : (B : Behaviour) (Q : List TxnGroup) (s : Stage) (q : TxnGroup) → ¬ IsListed is_txn_group Q q → (after_groups B s Q).yielded q ≡ s.yielded q
yielded_not B [] s q n = refl
yielded_not B (p ∷ Q) s q n =
    yielded_not B Q (after_group B s p) q (λ h. n (listed_tail is_txn_group p Q q h))
    ∙ after-yielded_other B s p q (false_from_ne_true (is_txn_group p q) (λ e. n (subst (IsListed is_txn_group (p ∷ Q)) (same_group p q e) (listed_head is_txn_group p Q (is_group-same p)))))

-- what a group gave is what it gives after those before it
pub yielded_at : (B : Behaviour) (Q : List TxnGroup) (s : Stage) (q : TxnGroup) → NoneTwice is_txn_group Q → IsListed is_txn_group Q q
    → (after_groups B s Q).yielded q ≡ yield_at B (after_groups B s (groups_before q Q)) q
yielded_at B [] s q d h = absurd (omega arith)
yielded_at B (p ∷ Q) s q d h = go (is_txn_group q p) refl (yielded_at B Q (after_group B s p) q d.1)
  where
    go : (b : Bool) → is_txn_group q p ≡ b
        → (IsListed is_txn_group Q q → (after_groups B (after_group B s p) Q).yielded q ≡ yield_at B (after_groups B (after_group B s p) (groups_before q Q)) q)
        → (after_groups B (after_group B s p) Q).yielded q ≡ yield_at B (after_groups B s (cond b [] (p ∷ groups_before q Q))) q
    go true e ih =
        yielded_not B Q (after_group B s p) q (λ i. d.0 (subst (IsListed is_txn_group Q) (same_group q p e) i))
        ∙ subst (λ a. (after_group B s a).yielded q ≡ yield_at B s q) (same_group q p e) (after-yielded_same B s q)
    go false e ih = ih (let f = place_of-there (is_txn_group q) p Q e in omega arith)

-- where x was written last in Q, or that it was not
pub data LastWrite (B : Behaviour) (s : Stage) (Q : List TxnGroup) (x : Cell) (W : TxnGroup → Bool) : Type 0 where
  nobody : ((q : TxnGroup) → IsListed is_txn_group Q q → W q ≡ false) → read (after_groups B s Q).store x ≡ read s.store x → LastWrite B s Q x W
  last : (w : TxnGroup) → IsListed is_txn_group Q w → W w ≡ true
      → ((q : TxnGroup) → IsListed is_txn_group Q q → W q ≡ true → place_of (is_txn_group q) Q ≤ place_of (is_txn_group w) Q)
      → read (after_groups B s Q).store x ≡ read (after_group B (after_groups B s (groups_before w Q)) w).store x → LastWrite B s Q x W

-- One more run in front
onwards : (B : Behaviour) (Q : List TxnGroup) (p : TxnGroup) (s : Stage) (x : Cell) (W : TxnGroup → Bool) → ¬ IsListed is_txn_group Q p
    → (W p ≡ false → read (after_group B s p).store x ≡ read s.store x) → LastWrite B (after_group B s p) Q x W → LastWrite B s (p ∷ Q) x W
onwards B Q p s x W d quiet (nobody n v) = go (W p) refl
  where
    go : (b : Bool) → W p ≡ b → LastWrite B s (p ∷ Q) x W
    go true e =
        last p (listed_head is_txn_group p Q (is_group-same p)) e
        (λ q h u. elim (in_cases Q p q h) [ inl f ↦ le_of_eq (ap (λ a. place_of (is_txn_group a) (p ∷ Q)) f) | inr f ↦ absurd (false≢true (sym (n q f.1) ∙ u)) ])
        (v ∙ ap (λ F. read (after_group B (after_groups B s F) p).store x) (sym (before_itself Q p)))
    go false e =
        nobody (λ q h. elim (in_cases Q p q h) [ inl f ↦ ap W f ∙ e | inr f ↦ n q f.1 ]) (v ∙ quiet e)
onwards B Q p s x W d quiet (last w i u m v) =
    last w (listed_tail is_txn_group p Q w i) u
    (λ q h t. elim (in_cases Q p q h) [
      | inl f ↦ (let e = ap (λ a. place_of (is_txn_group a) (p ∷ Q)) f in let z = place_of-here (is_txn_group p) p Q (is_group-same p) in omega arith)
      | inr f ↦ (let e = place_of-there (is_txn_group q) p Q f.0 in let z = place_of-there (is_txn_group w) p Q (away Q p w d i) in let k = m q f.1 t in omega arith)
    ])
    (v ∙ ap (λ F. read (after_group B (after_groups B s F) w).store x) (sym (before_next Q p w (away Q p w d i))))

-- The value of a cell is what the last run left that wrote it, or what was there
pub value : (B : Behaviour) (Q : List TxnGroup) (s : Stage) (x : Cell) (W : TxnGroup → Bool) → NoneTwice is_txn_group Q
    → ((q : TxnGroup) → IsListed is_txn_group Q q → W q ≡ false → read (after_group B (after_groups B s (groups_before q Q)) q).store x ≡ read (after_groups B s (groups_before q Q)).store x)
    → LastWrite B s Q x W
value B [] s x W d quiet = nobody (λ q h. absurd (omega arith)) refl
value B (p ∷ Q) s x W d quiet =
    onwards B Q p s x W d.0
    (λ e. subst (λ F. read (after_group B (after_groups B s F) p).store x ≡ read (after_groups B s F).store x) (before_itself Q p) (quiet p (listed_head is_txn_group p Q (is_group-same p)) e))
    (value B Q (after_group B s p) x W d.1
    (λ q h e. subst (λ F. read (after_group B (after_groups B s F) q).store x ≡ read (after_groups B s F).store x) (before_next Q p q (away Q p q d.0 h)) (quiet q (listed_tail is_txn_group p Q q h) e)))

-- and so it stays
pub yielded-before : (B : Behaviour) (Q : List TxnGroup) (s : Stage) (r d : TxnGroup) → NoneTwice is_txn_group Q → IsListedBefore is_txn_group Q d r
    → (after_groups B s (groups_before r Q)).yielded d ≡ yield_at B (after_groups B s (groups_before d Q)) d
yielded-before B Q s r d n b =
    yielded_at B (groups_before r Q) s d (none_twice_before Q r n) (listed_before Q r d b) ∙ ap (λ F. yield_at B (after_groups B s F) d) (before_before Q r d b)

-- what a group does not declare as written it leaves
pub kept_cell : (B : Behaviour) → IsLawful B → (s : Stage) (q : TxnGroup) (x : Cell) → is_written x (uses_at B s q) ≡ false → read (after_group B s q).store x ≡ read s.store x
kept_cell B lawful s q x h = ap (λ t. read t x) (after-store B s q) ∙ lawful.declared q (inputs_at B s q) s.store x h

-- two stages in which those that r needs gave the same
pub same_inputs : (B : Behaviour) (s t : Stage) (r : TxnGroup) → AllByRecursion (λ d. s.yielded d ≡ t.yielded d) (needs B r) → inputs_at B s r ≡ inputs_at B t r
same_inputs B s t r h = map_same (λ d. (s.yielded d).bound) (λ d. (t.yielded d).bound) (needs B r) (all_weaker (λ d. s.yielded d ≡ t.yielded d) (λ d. (s.yielded d).bound ≡ (t.yielded d).bound) (λ d e. ap (λ (y : Yield). y.bound) e) (needs B r) h)
