-- A union depends on what is in the lists alone
use Rattle.std.proofs.Common.{◌≡◌, ◌↔◌, List, Option, Some, None, refl, sym, ap, ◌∙◌, arith}
use Rattle.roc_sequence.specs.Lists.{Has}
use Rattle.roc_sequence.proofs.Holds.{same_tests}
use Rattle.roc_base.specs.declared.id.TxnId.{TxnId}
use Rattle.roc_base.specs.Equalities.{same_fields}
use Rattle.roc_base.specs.Edge.{Dependency}
use Rattle.roc_base.specs.Edges.{all_of, united, IsAllOf}
use Rattle.roc_base.proofs.Members.{all_of-none, IsAllOf-all_of}
use Rattle.roc_base.proofs.Union.{united-same}

one_all : (id : TxnId) (es : List Dependency) (a b : Dependency) → IsAllOf id es a → IsAllOf id es b → a ≡ b
one_all id es a b p q =
    same_fields a b (p.from ∙ sym q.from)
    (same_tests a.imm b.imm (λ h. let d = p.imm h in (q.covers d.0 d.1 d.2).imm d.3) (λ h. let d = q.imm h in (p.covers d.0 d.1 d.2).imm d.3))
    (same_tests a.def b.def (λ h. let d = p.def h in (q.covers d.0 d.1 d.2).def d.3) (λ h. let d = q.def h in (p.covers d.0 d.1 d.2).def d.3))
    (let d = p.at in let e = q.at in
    let x = (q.covers d.0 d.1 d.2).at in let y = (p.covers e.0 e.1 e.2).at in
    let u = ap (λ s. s.0) d.3 in let v = ap (λ s. s.0) e.3 in omega arith)

other_all : (id : TxnId) (xs ys : List Dependency) → ((d : Dependency) → Has d xs ↔ Has d ys) → (a : Dependency) → IsAllOf id xs a → IsAllOf id ys a
other_all id xs ys h a p =
    record {
      from = p.from;
      imm = λ e. (let d = p.imm e in (d.0, (h d.0).0 d.1, d.2, d.3));
      def = λ e. (let d = p.def e in (d.0, (h d.0).0 d.1, d.2, d.3));
      at = (let d = p.at in (d.0, (h d.0).0 d.1, d.2, d.3));
      covers = λ d k e. p.covers d ((h d).1 k) e;
    }

pub same_members : (xs ys : List Dependency) → ((d : Dependency) → Has d xs ↔ Has d ys) → united xs ≡ united ys
same_members xs ys h = united-same xs ys (λ id. go id (all_of id xs) refl (all_of id ys) refl)
  where
    clash : (id : TxnId) (xs ys : List Dependency) → ((d : Dependency) → Has d xs → Has d ys) → (a : Dependency) → all_of id xs ≡ Some a → all_of id ys ≡ None → ⊥
    clash id xs ys up a e f = let d = (IsAllOf-all_of id xs a e).at in all_of-none id ys f d.0 (up d.0 d.1) d.2

    go : (id : TxnId) (a : Option Dependency) → all_of id xs ≡ a → (b : Option Dependency) → all_of id ys ≡ b → all_of id xs ≡ all_of id ys
    go id None e None f = e ∙ sym f
    go id (Some a) e None f = absurd (clash id xs ys (λ d. (h d).0) a e f)
    go id None e (Some b) f = absurd (clash id ys xs (λ d. (h d).1) b f e)
    go id (Some a) e (Some b) f = e ∙ (ap (λ x. Some x) (one_all id ys a b (other_all id xs ys h a (IsAllOf-all_of id xs a e)) (IsAllOf-all_of id ys b f)) ∙ sym f)
