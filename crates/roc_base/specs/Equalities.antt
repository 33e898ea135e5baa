-- What `==` computes of ids, of entries and of lists decides equality
use Rattle.std.proofs.Common.{◌≡◌, ℤ, Bool, true, false, ◌==◌, List, refl, sym, ap, subst, ◌∙◌, ℕ, arith}
use Rattle.std.proofs.lemmas.Bool.{false≢true, eqb-true, eq-eqb, and_parts, and_from}
use Rattle.std.proofs.lemmas.Bool.Decides.{Decides-int_eq, nat_tests}
use Rattle.std.proofs.lemmas.Slice.Eq.{slice_eq-Decides}
use Rattle.std.specs.Bool.{Decides}
use Rattle.std.specs.Cmp.{IsEquivalence, IsPartialEquivalence, partial_equiv_from_equiv}
use Rattle.roc_base.specs.declared.id.TxnId.{TxnId}
use Rattle.roc_base.specs.Edge.{Dependency}
use Rattle.roc_base.specs.TxnId.{is_txn}
use Rattle.roc_base.specs.Equality.{same_tag, is_dependency, is_edges, is_nums}

-- ids with the same parts are one
pub same_parts : (a b : TxnId) → a.coord ≡ b.coord → a.seq ≡ b.seq → a ≡ b
same_parts a b e f =
    let with_coord : ℕ → TxnId = λ c. record { coord = c; seq = a.seq } in
    let with_seq : ℕ → TxnId = λ s. record { coord = b.coord; seq = s } in
    ap with_coord e ∙ ap with_seq f

pub is_txn-true : (a b : TxnId) → is_txn a b ≡ true → a ≡ b
is_txn-true a b h =
    let p = and_parts (a.coord == b.coord) (a.seq == b.seq) h in
    same_parts a b (eqb-true a.coord b.coord p.0) (eqb-true a.seq b.seq p.1)

pub is_txn-same : (a : TxnId) → is_txn a a ≡ true
is_txn-same a = grind (arith, nat_tests)

-- a test that decides equality is an equivalence
pub decides_equivalence : {A : Type 0} (E : A → A → Bool) → ((a b : A) → Decides (E a b) (a ≡ b)) → IsEquivalence E
decides_equivalence E d = record {
  refl = λ x. (d x x).1 refl;
  symm = λ x y. both (E x y) (E y x) (λ h. (d y x).1 (sym ((d x y).0 h))) (λ h. (d x y).1 (sym ((d y x).0 h)));
  congr = λ x y z h. subst (λ w. E x z ≡ E w z) ((d x y).0 h) refl;
}
  where
    both : (s t : Bool) → (s ≡ true → t ≡ true) → (t ≡ true → s ≡ true) → s ≡ t
    both true t f g = sym (f refl)
    both false true f g = g refl
    both false false f g = refl

pub same_tag-true : (a b : Bool) → same_tag a b ≡ true → a ≡ b
same_tag-true true b h = sym h
same_tag-true false true h = absurd (false≢true h)
same_tag-true false false h = refl

same_tag-same : (a : Bool) → same_tag a a ≡ true
same_tag-same true = refl
same_tag-same false = refl

-- entries with the same fields are one
pub same_fields : (a b : Dependency) → a.from ≡ b.from → a.imm ≡ b.imm → a.def ≡ b.def → a.at.0 ≡ b.at.0 → a ≡ b
same_fields a b e f g h =
    let with_from : TxnId → Dependency = λ v. record { from = v; imm = a.imm; def = a.def; at = a.at } in
    let with_imm : Bool → Dependency = λ v. record { from = b.from; imm = v; def = a.def; at = a.at } in
    let with_def : Bool → Dependency = λ v. record { from = b.from; imm = b.imm; def = v; at = a.at } in
    let with_at : ℕ → Dependency = λ v. record { from = b.from; imm = b.imm; def = b.def; at = record { 0 = v } } in
    ap with_from e ∙ (ap with_imm f ∙ (ap with_def g ∙ ap with_at h))

pub Decides-is_dependency : (a b : Dependency) → Decides (is_dependency a b) (a ≡ b)
Decides-is_dependency a b = (
  λ h. let p = and_parts (is_txn a.from b.from) _ h in
      let q = and_parts (same_tag a.imm b.imm) _ p.1 in
      let r = and_parts (same_tag a.def b.def) _ q.1 in
      same_fields a b (is_txn-true a.from b.from p.0) (same_tag-true a.imm b.imm q.0) (same_tag-true a.def b.def r.0) (eqb-true a.at.0 b.at.0 r.1),
  λ e. subst (λ x. is_dependency a x ≡ true) e (and_from _ _ (is_txn-same a.from) (and_from _ _ (same_tag-same a.imm) (and_from _ _ (same_tag-same a.def) (eq-eqb a.at.0 a.at.0 refl)))),
)

pub Decides-is_edges : (xs ys : List Dependency) → Decides (is_edges xs ys) (xs ≡ ys)
Decides-is_edges xs ys = slice_eq-Decides Decides-is_dependency xs ys (is_edges xs ys) refl

pub edges_equivalence : IsEquivalence is_edges
edges_equivalence = decides_equivalence is_edges Decides-is_edges

pub edges_per : IsPartialEquivalence is_edges
edges_per = partial_equiv_from_equiv edges_equivalence

pub Decides-is_nums : (xs ys : List ℤ) → Decides (is_nums xs ys) (xs ≡ ys)
Decides-is_nums xs ys = slice_eq-Decides Decides-int_eq xs ys (is_nums xs ys) refl

pub nums_equivalence : IsEquivalence is_nums
nums_equivalence = decides_equivalence is_nums Decides-is_nums

pub nums_per : IsPartialEquivalence is_nums
nums_per = partial_equiv_from_equiv nums_equivalence
