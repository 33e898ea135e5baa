-- What `==` computes of versions and of known lists decides equality
use Rattle.std.proofs.Common.{◌≡◌, ◌∙◌, ℕ, true, List, refl, ap, subst}
use Rattle.std.proofs.lemmas.Bool.{eqb-true, eq-eqb, and_parts, and_from}
use Rattle.std.proofs.lemmas.Slice.Eq.{slice_eq-Decides}
use Rattle.std.specs.Bool.{Decides}
use Rattle.std.specs.Cmp.{IsEquivalence, IsPartialEquivalence, partial_equiv_from_equiv}
use Rattle.roc_base.specs.declared.id.TxnId.{TxnId}
use Rattle.roc_base.specs.Edge.{Dependency}
use Rattle.roc_base.specs.Equality.{is_edges}
use Rattle.roc_base.specs.Equalities.{is_txn-true, is_txn-same, Decides-is_edges, decides_equivalence}
use Rattle.roc_base.specs.TxnId.{is_txn}
use Rattle.roc_depgraph.specs.declared.known.KnownList.{KnownList}
use Rattle.roc_msg.specs.Equality.{is_versions, is_list, are_lists}

pub Decides-is_versions : (xs ys : List ℕ) → Decides (is_versions xs ys) (xs ≡ ys)
Decides-is_versions xs ys = slice_eq-Decides (λ a b. (eqb-true a b, eq-eqb a b)) xs ys (is_versions xs ys) refl

pub versions_equivalence : IsEquivalence is_versions
versions_equivalence = decides_equivalence is_versions Decides-is_versions

pub versions_per : IsPartialEquivalence is_versions
versions_per = partial_equiv_from_equiv versions_equivalence

-- lists of one transaction with the same entries are one
same_list : (a b : KnownList) → a.of ≡ b.of → a.edges ≡ b.edges → a ≡ b
same_list a b e f =
    let with_of : TxnId → KnownList = λ v. record { of = v; edges = a.edges } in
    let with_edges : List Dependency → KnownList = λ v. record { of = b.of; edges = v } in
    ap with_of e ∙ ap with_edges f

pub Decides-is_list : (a b : KnownList) → Decides (is_list a b) (a ≡ b)
Decides-is_list a b = (
  λ h. let p = and_parts (is_txn a.of b.of) (is_edges a.edges b.edges) h in
      same_list a b (is_txn-true a.of b.of p.0) ((Decides-is_edges a.edges b.edges).0 p.1),
  λ e. subst (λ x. is_list a x ≡ true) e (and_from _ _ (is_txn-same a.of) ((Decides-is_edges a.edges a.edges).1 refl)),
)

pub Decides-are_lists : (xs ys : List KnownList) → Decides (are_lists xs ys) (xs ≡ ys)
Decides-are_lists xs ys = slice_eq-Decides Decides-is_list xs ys (are_lists xs ys) refl

pub lists_equivalence : IsEquivalence are_lists
lists_equivalence = decides_equivalence are_lists Decides-are_lists

pub lists_per : IsPartialEquivalence are_lists
lists_per = partial_equiv_from_equiv lists_equivalence
