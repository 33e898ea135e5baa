-- Groups that grow one after another
use Rattle.std.proofs.Common.{◌≡◌, ◌⊎◌, inl, inr, List, [], ◌∷◌, ◌++◌, length, refl, sym, ap, subst, ◌∙◌, append-nil, arith}
use Rattle.std.proofs.lemmas.List.Concat.{flat_map-append}
use Rattle.roc_sequence.specs.Lists.{Has}
use Rattle.roc_sequence.proofs.Members.{has_append, has_left, has_right, has_map, from_has_map, has_one}
use Rattle.roc_base.specs.declared.id.TxnId.{TxnId}
use Rattle.roc_await.specs.declared.group.Group.{Group}
use Rattle.roc_await.specs.declared.lack.Lack.{Lack}
use Rattle.roc_await.specs.Inner.Grown.{IsGrown, IsGrownGroup, GrewFrom, IsOfOne, AreGrown}
use Rattle.roc_await.specs.Inner.Groups.{lack_with, lacks_of, all_lacks, AreJoined}

-- the lacks that are left are to grow yet, and the others have grown
pub record AreRegrouped (u : TxnId) (fresh : List TxnId) (olds left news : List Lack) : Type 0 where
  pub left_are : (l : Lack) → Has l left → Has l olds
  pub only : (l : Lack) → Has l news → GrewFrom u fresh olds l
  pub each : (l : Lack) → Has l olds → Has l left ⊎ IsOfOne news l

pub none_regrouped : (u : TxnId) (fresh : List TxnId) (olds : List Lack) (news : List Group) → length news ≡ 0 → AreRegrouped u fresh olds olds (all_lacks news)
none_regrouped u fresh olds [] e = record { left_are = λ l h. h; only = λ l h. absurd h; each = λ l h. inl h }
none_regrouped u fresh olds (g ∷ gs) e = absurd (omega arith)

still_one : (news more new : List Lack) (l : Lack) → AreJoined news more new → IsOfOne news l → IsOfOne new l
still_one news more new l j o = record { new = o.new; there = j.keeps o.new o.there; of = o.of }

module _ (u : TxnId) (fresh : List TxnId) (olds news new : List Lack) (groups rest : List Group) (old grown : Group) (so : AreRegrouped u fresh olds (all_lacks groups) news)
    (last : groups ≡ rest ++ old ∷ []) (g : IsGrownGroup u fresh old grown) (j : AreJoined news (lacks_of grown) new) where
  parts : all_lacks groups ≡ all_lacks rest ++ lacks_of old
  parts = ap all_lacks last ∙ flat_map-append lacks_of rest (old ∷ []) ∙ ap (λ ls. all_lacks rest ++ ls) (append-nil (lacks_of old))

  into : (l : Lack) → Has l (all_lacks rest ++ lacks_of old) → Has l (all_lacks groups)
  into l h = subst (Has l) (sym parts) h

  grew : (t : TxnId) → IsGrown u fresh (lack_with old.missing t) (lack_with grown.missing t)
  grew t = record { of = refl; missing = g.missing }

  -- those of the group that grew
  from_grown : (l : Lack) → Has l (lacks_of grown) → GrewFrom u fresh olds l
  from_grown l h =
      let m = from_has_map (lack_with grown.missing) l grown.of h in
      let of_old : Has m.0 old.of = subst (Has m.0) g.of m.1 in
      record {
        old = lack_with old.missing m.0;
        there = so.left_are (lack_with old.missing m.0) (into (lack_with old.missing m.0) (has_right (lack_with old.missing m.0) (all_lacks rest) (lacks_of old) (has_map (lack_with old.missing) m.0 old.of of_old)));
        grown = subst (IsGrown u fresh (lack_with old.missing m.0)) (sym m.2) (grew m.0);
      }

  to_grown : (l : Lack) → Has l (lacks_of old) → IsOfOne new l
  to_grown l h =
      let m = from_has_map (lack_with old.missing) l old.of h in
      let of_new : Has m.0 grown.of = subst (Has m.0) (sym g.of) m.1 in
      record {
        new = lack_with grown.missing m.0;
        there = j.adds (lack_with grown.missing m.0) (has_map (lack_with grown.missing) m.0 grown.of of_new);
        of = ap (λ (x : Lack). x.of) (sym m.2);
      }

  pub one_regrouped : AreRegrouped u fresh olds (all_lacks rest) new
  one_regrouped = record {
    left_are = λ l h. so.left_are l (into l (has_left l (all_lacks rest) (lacks_of old) h));
    only = λ l h. elim (j.only l h) [ inl k ↦ so.only l k | inr k ↦ from_grown l k ];
    each = λ l h. elim (so.each l h) [
      | inl k ↦ elim (has_append l (all_lacks rest) (lacks_of old) (subst (Has l) parts k)) [ inl m ↦ inl m | inr m ↦ inr (to_grown l m) ]
      | inr k ↦ inr (still_one news (lacks_of grown) new l j k)
    ];
  }

pub none_left : (u : TxnId) (fresh : List TxnId) (olds news : List Lack) (groups : List Group) → length groups ≡ 0 → AreRegrouped u fresh olds (all_lacks groups) news → AreRegrouped u fresh olds [] news
none_left u fresh olds news [] e so = so
none_left u fresh olds news (g ∷ gs) e so = absurd (omega arith)

-- the one whose list is new has a group too
pub all_regrouped : (u : TxnId) (fresh : List TxnId) (olds news new : List Lack) (own : Group) → AreRegrouped u fresh olds [] news → own ≡ record { of = u ∷ []; missing = fresh } → AreJoined news (lacks_of own) new → AreGrown u fresh olds new
all_regrouped u fresh olds news new own so e j =
    let own_is : lacks_of own ≡ lack_with fresh u ∷ [] = ap lacks_of e in
    record {
      only = λ l h. elim (j.only l h) [ inl k ↦ inl (so.only l k) | inr k ↦ inr (has_one l (lack_with fresh u) (subst (Has l) own_is k)) ];
      each = λ l h. elim (so.each l h) [ inl k ↦ absurd k | inr k ↦ still_one news (lacks_of own) new l j k ];
      own = j.adds (lack_with fresh u) (subst (Has (lack_with fresh u)) (sym own_is) (inl refl));
    }
