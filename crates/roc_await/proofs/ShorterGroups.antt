-- Groups of lacks without some of what was missing, one after another
use Rattle.std.proofs.Common.{◌≡◌, ℕ, ◌+◌, ◌<◌, List, ◌++◌, get_or, length, take, refl, sym, subst, inl, inr}
use Rattle.roc_sequence.specs.Lists.{Has}
use Rattle.roc_sequence.proofs.Members.{has_append, has_left, has_right, has_map, from_has_map}
use Rattle.roc_base.specs.declared.id.TxnId.{TxnId}
use Rattle.roc_await.specs.declared.group.Group.{Group}
use Rattle.roc_await.specs.declared.lack.Lack.{Lack}
use Rattle.roc_await.specs.Inner.Groups.{lack_with, lacks_of, all_lacks, AreJoined}
use Rattle.roc_await.specs.Inner.Shortened.{all_but, shortened, WasLonger, AreShortened}
use Rattle.roc_await.proofs.InGroups.{flat_more}

module _ (gone : List TxnId) (olds : List Lack) (g left : Group) (is : left ≡ record g { missing = all_but gone g.missing }) where
  of_left : (l : Lack) → Has l (lacks_of left) → WasLonger gone (olds ++ lacks_of g) l
  of_left l h =
      let m = from_has_map (lack_with (all_but gone g.missing)) l g.of (subst (λ (x : Group). Has l (lacks_of x)) is h) in
      record { old = lack_with g.missing m.0; there = has_right (lack_with g.missing m.0) olds (lacks_of g) (has_map (lack_with g.missing) m.0 g.of m.1); is = m.2 }

  to_left : (l : Lack) → Has l (lacks_of g) → Has (shortened gone l) (lacks_of left)
  to_left l h =
      let m = from_has_map (lack_with g.missing) l g.of h in
      subst (λ (x : Group). Has (shortened gone l) (lacks_of x)) (sym is)
      (subst (λ (x : Lack). Has (shortened gone x) (lacks_of (record g { missing = all_but gone g.missing }))) (sym m.2) (has_map (lack_with (all_but gone g.missing)) m.0 g.of m.1))

  pub one_shorter : (news new : List Lack) → AreShortened gone olds news → AreJoined news (lacks_of left) new → AreShortened gone (olds ++ lacks_of g) new
  one_shorter news new s j = record {
    only = λ l h. elim (j.only l h) [
      | inl k ↦ (let w = s.only l k in record { old = w.old; there = has_left w.old olds (lacks_of g) w.there; is = w.is })
      | inr k ↦ of_left l k
    ];
    each = λ l h. elim (has_append l olds (lacks_of g) h) [ inl k ↦ j.keeps (shortened gone l) (s.each l k) | inr k ↦ j.adds (shortened gone l) (to_left l k) ];
  }

pub next_shorter : (gone : List TxnId) (groups : List Group) (i : ℕ) (g left : Group) (news new : List Lack) → i < length groups → g ≡ get_or groups i g → left ≡ record g { missing = all_but gone g.missing }
    → AreShortened gone (all_lacks (take i groups)) news → AreJoined news (lacks_of left) new → AreShortened gone (all_lacks (take (i + 1) groups)) new
next_shorter gone groups i g left news new within at is s j =
    subst (λ olds. AreShortened gone olds new) (flat_more lacks_of groups i g (all_lacks (take i groups)) (all_lacks (take i groups) ++ lacks_of g) within at refl refl)
    (one_shorter gone (all_lacks (take i groups)) g left is news new s j)
