-- The vertices of a program stand in their order
use Rattle.std.proofs.Common.{◌≡◌, ℕ, zero, suc, ◌+◌, ◌<◌, ◌≤◌, Bool, true, ◌&&◌, ◌||◌, ◌==◌, nat_lt, List, [], ◌∷◌, ◌++◌, length, refl, sym, ap, subst, ◌∙◌, inl, inr, arith, append_assoc}
use Rattle.std.proofs.lemmas.Bool.{cases_lt, or_left}
use Rattle.std.proofs.lemmas.Bool.Decides.{nat_tests}
use Rattle.std.specs.List.{flat_map, range_with_len}
use Rattle.roc_sequence.specs.Lists.{Has}
use Rattle.roc_sequence.specs.Rising.{IsRising}
use Rattle.roc_sequence.proofs.Holds.{all_append, has_all}
use Rattle.roc_sequence.proofs.Members.{has_append, has_left, has_right}
use Rattle.roc_program.specs.Program.{Workload}
use Rattle.roc_program.specs.Pieces.{pieces_in, HasPiece}
use Rattle.roc_program.proofs.Ranges.{flat_map-range_more}
use Rattle.roc_scgraph.specs.declared.vertex.Vertex.{Vertex}
use Rattle.roc_scgraph.specs.declared.vertex.Instance.{Instance}
use Rattle.roc_scgraph.specs.declared.vertex.Instance.TheVariants.{First, Second}
use Rattle.roc_scgraph.specs.Graph.{piece_id}
use Rattle.roc_scgraph.proofs.Vertices.{same_vertex}
use Rattle.roc_scgraph.specs.Order.{is_earlier_instance, is_before}
use Rattle.roc_witness.specs.Inner.Vertices.{instances_of, vertices_in, vertices}

-- two more
pub two_pushed : {A : Type 0} (front xs mid ys : List A) (a b : A) (f : ℕ → List A) (n : ℕ) → mid ≡ xs ++ a ∷ [] → ys ≡ mid ++ b ∷ [] → f n ≡ a ∷ b ∷ [] → xs ≡ front ++ flat_map f (range_with_len 0 n)
    → ys ≡ front ++ flat_map f (range_with_len 0 (n + 1))
two_pushed {A} front xs mid ys a b f n m e is h =
    e ∙ ap (λ (l : List A). l ++ b ∷ []) (m ∙ ap (λ (l : List A). l ++ a ∷ []) h)
    ∙ append_assoc (front ++ flat_map f (range_with_len 0 n)) (a ∷ []) (b ∷ [])
    ∙ append_assoc front (flat_map f (range_with_len 0 n)) (a ∷ b ∷ [])
    ∙ ap (λ (l : List A). front ++ l) (ap (λ (l : List A). flat_map f (range_with_len 0 n) ++ l) (sym is) ∙ sym (flat_map-range_more f n))

-- ---- lists for numbers in a row

module _ {A : Type 0} (f : ℕ → List A) where
  has_flat : (y : A) (a n : ℕ) → Has y (flat_map f (range_with_len a n)) → (j : ℕ) × (a ≤ j) × (j < a + n) × Has y (f j)
  has_flat y a zero h = absurd h
  has_flat y a (suc n) h = elim (has_append y (f a) (flat_map f (range_with_len (a + 1) n)) h) [
    | inl k ↦ (a, omega arith, omega arith, k)
    | inr k ↦ (let r = has_flat y (a + 1) n k in (r.0, (let low = r.1 in omega arith), (let high = r.2 in omega arith), r.3))
  ]

  flat_has : (y : A) (a n j : ℕ) → a ≤ j → j < a + n → Has y (f j) → Has y (flat_map f (range_with_len a n))
  flat_has y a zero j low high h = absurd (omega arith)
  flat_has y a (suc n) j low high h = elim (cases_lt a j) [
    | inl above ↦ has_right y (f a) (flat_map f (range_with_len (a + 1) n)) (flat_has y (a + 1) n j (omega arith) (omega arith) h)
    | inr same ↦ has_left y (f a) (flat_map f (range_with_len (a + 1) n)) (subst (λ k. Has y (f k)) (let e : j ≡ a = omega arith in e) h)
  ]

  rising_append : (before : A → A → Bool) (xs ys : List A) → IsRising before xs → IsRising before ys → ((x y : A) → Has x xs → Has y ys → before x y ≡ true) → IsRising before (xs ++ ys)
  rising_append before [] ys h k apart = k
  rising_append before (x ∷ xs) ys h k apart = (
    all_append (λ y. before x y ≡ true) xs ys h.0 (has_all (λ y. before x y ≡ true) ys (λ y i. apart x y (inl refl) i)),
    rising_append before xs ys h.1 k (λ w y i j. apart w y (inr i) j),
  )

  rising_flat : (before : A → A → Bool) → ((k : ℕ) → IsRising before (f k)) → ((j k : ℕ) (x y : A) → j < k → Has x (f j) → Has y (f k) → before x y ≡ true) → (a n : ℕ) → IsRising before (flat_map f (range_with_len a n))
  rising_flat before each apart a zero = tt
  rising_flat before each apart a (suc n) =
      rising_append before (f a) (flat_map f (range_with_len (a + 1) n)) (each a) (rising_flat before each apart (a + 1) n)
      (λ x y h k. let r = has_flat y (a + 1) n k in apart a r.0 x y (let low = r.1 in omega arith) h r.3)

-- ---- vertices

before_piece : (a b : Vertex) → a.proc ≡ b.proc → a.piece < b.piece → is_before a b ≡ true
before_piece a b e h = by_piece a.proc b.proc a.piece b.piece (is_earlier_instance a.instance b.instance) e h
  where
    by_piece : (m n k l : ℕ) (t : Bool) → m ≡ n → k < l → (nat_lt m n || ((m == n) && (nat_lt k l || ((k == l) && t)))) ≡ true
    by_piece m n k l t e h = grind (arith, nat_tests)

before_proc : (a b : Vertex) → a.proc < b.proc → is_before a b ≡ true
before_proc a b h = or_left (nat_lt a.proc b.proc) _ (grind (arith, nat_tests))

instance_parts : (proc piece : ℕ) (v : Vertex) → Has v (instances_of proc piece) → (v.proc ≡ proc) × (v.piece ≡ piece)
instance_parts proc piece v (inl e) = (ap (λ (u : Vertex). u.proc) e, ap (λ (u : Vertex). u.piece) e)
instance_parts proc piece v (inr (inl e)) = (ap (λ (u : Vertex). u.proc) e, ap (λ (u : Vertex). u.piece) e)
instance_parts proc piece v (inr (inr h)) = absurd h

an_instance : (v : Vertex) → Has v (instances_of v.proc v.piece)
an_instance v = go v.instance refl
  where
    go : (i : Instance) → v.instance ≡ i → Has v (instances_of v.proc v.piece)
    go First e = inl (same_vertex v (record { proc = v.proc; piece = v.piece; instance = First }) refl refl e)
    go Second e = inr (inl (same_vertex v (record { proc = v.proc; piece = v.piece; instance = Second }) refl refl e))

rising_instances : (proc piece : ℕ) → IsRising is_before (instances_of proc piece)
rising_instances proc piece = ((by_instance proc piece, tt), (tt, tt))
  where
    by_instance : (m k : ℕ) → (nat_lt m m || ((m == m) && (nat_lt k k || ((k == k) && true)))) ≡ true
    by_instance m k = grind (arith, nat_tests)

module _ (program : Workload) where
  of_procedure : (proc : ℕ) (v : Vertex) → Has v (vertices_in program proc) → (v.proc ≡ proc) × (v.piece < length (pieces_in program proc))
  of_procedure proc v h =
      let r = has_flat (instances_of proc) v 0 (length (pieces_in program proc)) h in
      let parts = instance_parts proc r.0 v r.3 in
      (parts.0, let high = r.2 in let is = parts.1 in omega arith)

  rising_in : (proc : ℕ) → IsRising is_before (vertices_in program proc)
  rising_in proc =
      rising_flat (instances_of proc) is_before (rising_instances proc)
      (λ j k x y h i l. let p = instance_parts proc j x i in let q = instance_parts proc k y l in before_piece x y (p.0 ∙ sym q.0) (omega (arith, p.1, q.1))) 0 (length (pieces_in program proc))

  pub rising_vertices : IsRising is_before (vertices program)
  rising_vertices =
      rising_flat (vertices_in program) is_before rising_in
      (λ j k x y h i l. before_proc x y (omega (arith, (of_procedure j x i).0, (of_procedure k y l).0))) 0 (length program.procedures)

  -- they are those of the program's pieces
  pub vertex_has : (v : Vertex) → Has v (vertices program) → HasPiece program (piece_id v)
  vertex_has v h =
      let r = has_flat (vertices_in program) v 0 (length program.procedures) h in
      let of = of_procedure r.0 v r.3 in
      record {
        procedure = let high = r.2 in let is = of.0 in omega arith;
        piece = subst (λ n. v.piece < length (pieces_in program n)) (sym of.0) of.1;
      }

  pub has_vertex : (v : Vertex) → HasPiece program (piece_id v) → Has v (vertices program)
  has_vertex v there =
      flat_has (vertices_in program) v 0 (length program.procedures) v.proc (omega arith) (let high = there.procedure in omega arith)
      (flat_has (instances_of v.proc) v 0 (length (pieces_in program v.proc)) v.piece (omega arith) (let high = there.piece in omega arith) (an_instance v))
