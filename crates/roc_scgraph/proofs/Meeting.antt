-- Between two contended pieces of a procedure there is a cycle: through what they conflict with, and their own second instances
use Rattle.std.proofs.Common.{◌≡◌, ◌≢◌, ℕ, Bool, true, false, ◌==◌, List, [], ◌∷◌, ◌++◌, ◌≤◌, length, map, refl, sym, ap, subst, ◌∙◌, ◌⊎◌, inl, inr, arith}
use Rattle.std.proofs.lemmas.Bool.{false≢true, eqb-true, eq-eqb}
use Rattle.roc_program.specs.Program.{Workload}
use Rattle.roc_program.specs.Pieces.{HasPiece}
use Rattle.roc_program.specs.Conflict.{are_in_conflict}
use Rattle.roc_program.specs.declared.piece_id.PieceId.{PieceId}
use Rattle.roc_program.proofs.PieceIds.{same_id_parts}
use Rattle.roc_scgraph.specs.Graph.{edge}
use Rattle.roc_scgraph.specs.Cycles.{is_fixed, first_instance, IsUnreorderable}
use Rattle.roc_scgraph.proofs.Vertices.{siblings_from, not_siblings, edge-siblings, edge-conflict}
use Rattle.roc_scgraph.proofs.Middles.{second, through}

either : (m n : ℕ) → (m ≡ n) ⊎ (m ≢ n)
either m n = go (m == n) refl
  where
    go : (t : Bool) → (m == n) ≡ t → (m ≡ n) ⊎ (m ≢ n)
    go true e = inl (eqb-true m n e)
    go false e = inr (λ same. false≢true (sym e ∙ eq-eqb m n same))

-- a cycle that begins with the first instance of one piece and ends with that of another
pub record CycleThrough (program : Workload) (immediate : PieceId → Bool) (p q : PieceId) : Type 0 where
  pub next : PieceId
  pub more : List PieceId
  pub few : length more ≤ 3
  pub is : IsUnreorderable program immediate (first_instance p ∷ (map second (next ∷ more) ++ first_instance q ∷ []))

module _ (program : Workload) (immediate : PieceId → Bool) (mirrored : (one other : PieceId) → are_in_conflict program one other ≡ are_in_conflict program other one)
    (there : (id : PieceId) → immediate id ≡ true → HasPiece program id) (closed : (one other : PieceId) → immediate one ≡ true → are_in_conflict program one other ≡ true → immediate other ≡ true) where
  -- two steps between second instances
  along_sibling : (m n : PieceId) → m.proc ≡ n.proc → m ≢ n → is_fixed (edge program immediate (second m) (second n)) ≡ true
  along_sibling m n e apart = ap is_fixed (edge-siblings program immediate (second m) (second n) (siblings_from (second m) (second n) e refl) (λ f. apart (same_id_parts m n e f)))

  along_conflict : (m n : PieceId) → m.proc ≢ n.proc → are_in_conflict program m n ≡ true → immediate m ≡ true → immediate n ≡ true → is_fixed (edge program immediate (second m) (second n)) ≡ true
  along_conflict m n apart meets im jn = ap is_fixed (edge-conflict program immediate (second m) (second n) (not_siblings (second m) (second n) (inl apart)) meets im jn)

  of_procedures : (m n : PieceId) → m.proc ≢ n.proc → m ≢ n
  of_procedures m n apart e = apart (ap (λ (k : PieceId). k.proc) e)

  backwards : (m n : PieceId) → m ≢ n → n ≢ m
  backwards m n apart e = apart (sym e)

  module _ (p q x y : PieceId) (apart : p ≢ q) (same : p.proc ≡ q.proc) (ip : immediate p ≡ true) (iq : immediate q ≡ true) (px : are_in_conflict program p x ≡ true) (qy : are_in_conflict program q y ≡ true) where
    abbrev By : PieceId → List PieceId → Type 0
    By m ms = IsUnreorderable program immediate (first_instance p ∷ (map second (m ∷ ms) ++ first_instance q ∷ []))

    ix : immediate x ≡ true
    ix = closed p x ip px

    iy : immediate y ≡ true
    iy = closed q y iq qy

    xp : are_in_conflict program x p ≡ true
    xp = mirrored x p ∙ px

    yq : are_in_conflict program y q ≡ true
    yq = mirrored y q ∙ qy

    by_one : x ≡ y → CycleThrough program immediate p q
    by_one e = record { next = x; more = []; few = omega arith; is = through program immediate q p x [] there apart same ip iq (ix, tt) (tt, tt) px (subst (λ m. are_in_conflict program m q ≡ true) (sym e) yq) }

    by_siblings : x ≢ y → x.proc ≡ y.proc → CycleThrough program immediate p q
    by_siblings n e = record { next = x; more = y ∷ []; few = omega arith; is = through program immediate q p x (y ∷ []) there apart same ip iq (ix, (iy, tt)) ((n, tt), (tt, tt)) px (along_sibling x y e n, yq) }

    -- p conflicts with a piece of its own procedure
    by_own_first : x.proc ≢ y.proc → x.proc ≡ p.proc → CycleThrough program immediate p q
    by_own_first n e = go (either x.piece q.piece)
      where
        qn : q.proc ≢ y.proc
        qn f = n (e ∙ same ∙ f)

        go : (x.piece ≡ q.piece) ⊎ (x.piece ≢ q.piece) → CycleThrough program immediate p q
        go (inl f) =
            let is_q : x ≡ q = same_id_parts x q (e ∙ same) f in
            record {
              next = q;
              more = y ∷ [];
              few = omega arith;
              is = through program immediate q p q (y ∷ []) there apart same ip iq (iq, (iy, tt)) ((of_procedures q y qn, tt), (tt, tt)) (subst (λ m. are_in_conflict program p m ≡ true) is_q px)
                  (along_conflict q y qn qy iq iy, yq);
            }
        go (inr f) =
            let xq : x ≢ q = λ g. f (ap (λ (k : PieceId). k.piece) g) in
            record {
              next = x;
              more = q ∷ y ∷ [];
              few = omega arith;
              is = through program immediate q p x (q ∷ y ∷ []) there apart same ip iq (ix, (iq, (iy, tt))) ((xq, (of_procedures x y n, tt)), ((of_procedures q y qn, tt), (tt, tt))) px
                  (along_sibling x q (e ∙ same) xq, (along_conflict q y qn qy iq iy, yq));
            }

    -- q does
    by_own_second : x.proc ≢ y.proc → x.proc ≢ p.proc → y.proc ≡ p.proc → CycleThrough program immediate p q
    by_own_second n m e = go (either y.piece p.piece)
      where
        go : (y.piece ≡ p.piece) ⊎ (y.piece ≢ p.piece) → CycleThrough program immediate p q
        go (inl f) =
            let is_p : y ≡ p = same_id_parts y p e f in
            record {
              next = x;
              more = p ∷ [];
              few = omega arith;
              is = through program immediate q p x (p ∷ []) there apart same ip iq (ix, (ip, tt)) ((of_procedures x p m, tt), (tt, tt)) px
                  (along_conflict x p m xp ix ip, subst (λ k. are_in_conflict program k q ≡ true) is_p yq);
            }
        go (inr f) =
            let py : p ≢ y = λ g. f (ap (λ (k : PieceId). k.piece) (sym g)) in
            record {
              next = x;
              more = p ∷ y ∷ [];
              few = omega arith;
              is = through program immediate q p x (p ∷ y ∷ []) there apart same ip iq (ix, (ip, (iy, tt))) ((of_procedures x p m, (of_procedures x y n, tt)), ((py, tt), (tt, tt))) px
                  (along_conflict x p m xp ix ip, (along_sibling p y (sym e) py, yq));
            }

    -- neither does
    by_others : x.proc ≢ y.proc → x.proc ≢ p.proc → y.proc ≢ p.proc → CycleThrough program immediate p q
    by_others n m k =
        let xq : x.proc ≢ q.proc = λ f. m (f ∙ sym same) in
        let qy_apart : q.proc ≢ y.proc = λ f. k (sym f ∙ sym same) in
        let py_apart : p.proc ≢ y.proc = λ f. k (sym f) in
        record {
          next = x;
          more = p ∷ q ∷ y ∷ [];
          few = omega arith;
          is = through program immediate q p x (p ∷ q ∷ y ∷ []) there apart same ip iq (ix, (ip, (iq, (iy, tt))))
              ((of_procedures x p m, (of_procedures x q xq, (of_procedures x y n, tt))), ((apart, (of_procedures p y py_apart, tt)), ((of_procedures q y qy_apart, tt), (tt, tt)))) px
              (along_conflict x p m xp ix ip, (along_sibling p q same apart, (along_conflict q y qy_apart qy iq iy, yq)));
        }

    pub meeting : CycleThrough program immediate p q
    meeting = by_procedures (either x.proc y.proc)
      where
        by_pieces : (x.piece ≡ y.piece) ⊎ (x.piece ≢ y.piece) → x.proc ≡ y.proc → CycleThrough program immediate p q
        by_pieces (inl f) e = by_one (same_id_parts x y e f)
        by_pieces (inr f) e = by_siblings (λ g. f (ap (λ (k : PieceId). k.piece) g)) e

        by_second : x.proc ≢ y.proc → x.proc ≢ p.proc → (y.proc ≡ p.proc) ⊎ (y.proc ≢ p.proc) → CycleThrough program immediate p q
        by_second n m (inl e) = by_own_second n m e
        by_second n m (inr k) = by_others n m k

        by_first : x.proc ≢ y.proc → (x.proc ≡ p.proc) ⊎ (x.proc ≢ p.proc) → CycleThrough program immediate p q
        by_first n (inl e) = by_own_first n e
        by_first n (inr m) = by_second n m (either y.proc p.proc)

        by_procedures : (x.proc ≡ y.proc) ⊎ (x.proc ≢ y.proc) → CycleThrough program immediate p q
        by_procedures (inl e) = by_pieces (either x.piece y.piece) e
        by_procedures (inr n) = by_first n (either x.proc p.proc)
