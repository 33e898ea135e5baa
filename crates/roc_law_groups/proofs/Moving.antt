-- Pieces in another order: each that moves before others is independent of these
use Rattle.std.proofs.Common.{◌≡◌, ℕ, ℤ, Bool, true, false, ◌==◌, if◌then◌else◌, List, [], ◌∷◌, ◌++◌, map, refl, sym, ap, ◌∙◌}
use Rattle.std.specs.List.{AllByRecursion}
use Rattle.std.proofs.lemmas.Bool.{false≢true, eqb-true, eq-eqb}
use Rattle.roc_rows.specs.Store.{Store}
use Rattle.roc_program.specs.Program.{Piece}
use Rattle.roc_whole.specs.Run.{Progress, progress, behind, after_piece, after_pieces}
use Rattle.roc_whole.proofs.Replies.{after_pieces-said}
use Rattle.roc_group.proofs.Touches.{not_true}
use Rattle.roc_law_groups.proofs.Commuting.{AreIndependent, then_piece, commute, says_alike, says_alike_first}

module _ (at : ℕ → Piece) where
  -- pieces by number, one after another
  abbrev pub run_all : Progress → List ℕ → Progress
  run_all p [] = p
  run_all p (k ∷ ks) = run_all (then_piece p (at k)) ks

  -- what they say in all
  abbrev pub spoken : Progress → List ℕ → List ℤ
  spoken p [] = []
  spoken p (k ∷ ks) = (after_piece p (at k)).reply ++ spoken (then_piece p (at k)) ks

  -- what one of them says
  abbrev pub said_by : Progress → List ℕ → ℕ → List ℤ
  said_by p [] k = []
  said_by p (j ∷ js) k = if j == k then (after_piece p (at j)).reply else said_by (then_piece p (at j)) js k

  pub run_all-append : (p : Progress) (xs ys : List ℕ) → run_all p (xs ++ ys) ≡ run_all (run_all p xs) ys
  run_all-append p [] ys = refl
  run_all-append p (x ∷ xs) ys = run_all-append (then_piece p (at x)) xs ys

  pub run_all-quiet : (p : Progress) (ks : List ℕ) → p.reply ≡ [] → (run_all p ks).reply ≡ []
  run_all-quiet p [] e = e
  run_all-quiet p (k ∷ ks) e = run_all-quiet (then_piece p (at k)) ks refl

  -- the run of the pieces, in these words
  pub run_in_words : (store : Store) (env : List ℤ) (ks : List ℕ)
      → after_pieces (progress store env []) (map at ks) ≡ progress (run_all (progress store env []) ks).store (run_all (progress store env []) ks).environment (spoken (progress store env []) ks)
  run_in_words store env [] = refl
  run_in_words store env (k ∷ ks) =
      let q = after_piece (progress store env []) (at k) in
      after_pieces-said q.store q.environment q.reply (map at ks) ∙ ap (behind q.reply) (run_in_words q.store q.environment ks)

  -- this one is independent of all of these, and is none of them
  abbrev pub MayPass : ℕ → List ℕ → Type 0
  MayPass y xs = AllByRecursion (λ x. AreIndependent (at x) (at y) × ((x == y) ≡ false)) xs

  pub moved : (p : Progress) (xs : List ℕ) (y : ℕ) (ys : List ℕ) → p.reply ≡ [] → MayPass y xs → run_all p (xs ++ y ∷ ys) ≡ run_all p (y ∷ (xs ++ ys))
  moved p [] y ys e h = refl
  moved p (x ∷ xs) y ys e h =
      moved (then_piece p (at x)) xs y ys refl h.1 ∙ ap (λ q. run_all q (xs ++ ys)) (commute p (at x) (at y) e h.0.0)

  pub moved_said : (p : Progress) (xs : List ℕ) (y : ℕ) (ys : List ℕ) (k : ℕ) → p.reply ≡ [] → MayPass y xs → said_by p (xs ++ y ∷ ys) k ≡ said_by p (y ∷ (xs ++ ys)) k
  moved_said p [] y ys k e h = refl
  moved_said p (x ∷ xs) y ys k e h =
      chosen (x == k) (y == k)
      (moved_said (then_piece p (at x)) xs y ys k refl h.1)
      (λ is. not_both x y k h.0.1 is)
      (sym (says_alike_first p (at x) (at y) e h.0.0))
      (says_alike p (at x) (at y) e h.0.0)
      (ap (λ q. said_by q (xs ++ ys) k) (commute p (at x) (at y) e h.0.0))
    where
      chosen : (b c : Bool) {sx syx sxy sy rest other lhs : List ℤ} → lhs ≡ (if c then sxy else rest) → (b ≡ true → c ≡ false) → sx ≡ syx → sxy ≡ sy → rest ≡ other
          → (if b then sx else lhs) ≡ (if c then sy else (if b then syx else other))
      chosen true true l h f g r = absurd (false≢true (sym (h refl)))
      chosen true false l h f g r = f
      chosen false true l h f g r = l ∙ g
      chosen false false l h f g r = l ∙ r

      not_both : (x y k : ℕ) → (x == y) ≡ false → (x == k) ≡ true → (y == k) ≡ false
      not_both x y k e f = not_true (y == k) (λ g. false≢true (sym e ∙ eq-eqb x y (eqb-true x k f ∙ sym (eqb-true y k g))))

  -- one order of pieces is another: each in turn may pass those that stood before it
  pub data IsReordered : List ℕ → List ℕ → Type 0 where
    done : IsReordered [] []
    next : (xs : List ℕ) (y : ℕ) (ys zs : List ℕ) → MayPass y xs → IsReordered (xs ++ ys) zs → IsReordered (xs ++ y ∷ ys) (y ∷ zs)

  pub same_end : (p : Progress) (xs ys : List ℕ) → p.reply ≡ [] → IsReordered xs ys → run_all p xs ≡ run_all p ys
  same_end p _ _ e done = refl
  same_end p _ _ e (next xs y ys zs h r) = moved p xs y ys e h ∙ same_end (then_piece p (at y)) (xs ++ ys) zs refl r

  pub same_said : (p : Progress) (xs ys : List ℕ) (k : ℕ) → p.reply ≡ [] → IsReordered xs ys → said_by p xs k ≡ said_by p ys k
  same_said p _ _ k e done = refl
  same_said p _ _ k e (next xs y ys zs h r) =
      moved_said p xs y ys k e h ∙ ap (λ (rest : List ℤ). if y == k then (after_piece p (at y)).reply else rest) (same_said (then_piece p (at y)) (xs ++ ys) zs k refl r)
