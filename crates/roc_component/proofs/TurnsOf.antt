-- The turns of components and of their members
use Rattle.std.proofs.Common.{◌≡◌, ◌++◌, List, [], ◌∷◌, map, refl, sym, ◌∙◌, subst, ap, inl, inr, arith, Some, None}
use Rattle.std.specs.List.{slice_get}
use Rattle.roc_sequence.specs.Lists.{Has}
use Rattle.roc_sequence.specs.Places.{IsListed}
use Rattle.roc_sequence.proofs.Appended.{listed_either}
use Rattle.roc_sequence.proofs.Members.{has_left, has_right, has_more, has_map, from_has_map}
use Rattle.roc_base.specs.declared.id.TxnId.{TxnId}
use Rattle.roc_base.specs.TxnId.{is_txn}
use Rattle.roc_depgraph.specs.declared.known.KnownList.{KnownList}
use Rattle.roc_depgraph.proofs.Listed.{listed_one, in_one}
use Rattle.roc_component.specs.declared.turn.Turn.{Turn}
use Rattle.roc_component.specs.Components.{ShareNoMember}
use Rattle.roc_component.specs.Inner.Turns.{AreTurns, AreTurnsTaken, none, more, IsInside, IsComponentTurn, AreComponentTurns, turn_of}

-- ---- of members

module _ (known : List KnownList) (c : List TxnId) where
  abbrev pub singles : List Turn
  singles = map (turn_of known c) c

  pub member_turns : AreTurns singles
  member_turns =
      record {
        key = λ t h. let x = from_has_map (turn_of known c) t c h in subst (λ (v : Turn). IsListed is_txn v.ids v.key) (sym x.2) (in_one x.0);
        own = λ t o h k l.
            let x = from_has_map (turn_of known c) t c h in
            let y = from_has_map (turn_of known c) o c k in
            let m : IsListed is_txn (x.0 ∷ []) y.0 = subst (λ (v : Turn). IsListed is_txn (x.0 ∷ []) v.key) y.2 (subst (λ (v : Turn). IsListed is_txn v.ids o.key) x.2 l) in
            x.2 ∙ (ap (turn_of known c) (sym (listed_one x.0 y.0 m)) ∙ sym y.2);
      }

  -- what is taken is of the component
  pub taken_inside : (ys : List TxnId) → AreTurnsTaken singles ys → (u : TxnId) → IsListed is_txn ys u → Has u c
  taken_inside _ none u l = absurd (omega arith)
  taken_inside _ (more {taken = xs} t p h n i e) u l =
      elim (listed_either is_txn xs t.ids u (subst (λ zs. IsListed is_txn zs u) e l)) [
        | inl k ↦ taken_inside xs p u k
        | inr k ↦ (let x = from_has_map (turn_of known c) t c h in subst (λ v. Has v c) (sym (listed_one x.0 u (subst (λ (v : Turn). IsListed is_txn v.ids u) x.2 k.1))) x.1)
      ]

  pub inside_has : (ys : List TxnId) → IsInside known c ys → (u : TxnId) → Has u c → IsListed is_txn ys u
  inside_has ys i u h = i.1 (turn_of known c u) (has_map (turn_of known c) u c h)

  pub key_in : (t : Turn) → IsComponentTurn known c t → Has t.key c
  key_in t i = subst (Has t.key) (sym i.first.1) (inl refl)

-- ---- of components

pub apart_parts : (xs : List (List TxnId)) (c : List TxnId) (rest : List (List TxnId)) → ShareNoMember (xs ++ c ∷ rest) → (d : List TxnId) → Has d xs → (u : TxnId) → Has u d → ¬ Has u c
apart_parts [] c rest a d h u k = absurd h
apart_parts (x ∷ xs) c rest a d (inl e) u k = a.0 c (has_right c xs (c ∷ rest) (inl refl)) u (subst (Has u) e k)
apart_parts (x ∷ xs) c rest a d (inr h) u k = apart_parts xs c rest a.1 d h u k

module _ (known : List KnownList) where
  pub turns_none : AreComponentTurns known [] []
  turns_none = record { turns = record { key = λ t h. absurd h; own = λ t o h. absurd h }; from = λ t h. absurd h; each = λ c h. absurd h }

  module _ (cs : List (List TxnId)) (ts : List Turn) (a : AreComponentTurns known cs ts) (c : List TxnId) where
    -- nothing is taken for an empty one
    pub turns_skip : c ≡ [] → AreComponentTurns known (cs ++ c ∷ []) ts
    turns_skip e =
        record {
          turns = a.turns;
          from = λ t h. let d = a.from t h in (d.0, has_left d.0 cs (c ∷ []) d.1, d.2);
          each = λ d h x k. elim (has_more d c cs h) [ inl i ↦ a.each d i x k | inr i ↦ absurd (subst (Has x) (i ∙ e) k) ];
        }

    module _ (t : Turn) (i : IsComponentTurn known c t) (apart : (d : List TxnId) → Has d cs → (u : TxnId) → Has u d → ¬ Has u c) where
      ids_in : (o : Turn) → o ≡ t → (u : TxnId) → IsListed is_txn o.ids u → Has u c
      ids_in o e u l = taken_inside known c t.ids i.inside.0 u (subst (λ (v : Turn). IsListed is_txn v.ids u) e l)

      own_new : (d o : Turn) → d ≡ t → Has o ts → IsListed is_txn d.ids o.key → ⊥
      own_new d o e h l = (let w = a.from o h in apart w.0 w.1 o.key (key_in known w.0 o w.2) (ids_in d e o.key l))

      own_old : (d o : Turn) → Has d ts → o ≡ t → IsListed is_txn d.ids o.key → ⊥
      own_old d o h e l =
          (let w = a.from d h in
          apart w.0 w.1 o.key (taken_inside known w.0 d.ids w.2.inside.0 o.key l) (subst (λ (v : Turn). Has v.key c) (sym e) (key_in known c t i)))

      pub turns_push : AreComponentTurns known (cs ++ c ∷ []) (ts ++ t ∷ [])
      turns_push =
          record {
            turns = record {
              key = λ o h. elim (has_more o t ts h) [
                | inl k ↦ a.turns.key o k
                | inr k ↦ subst (λ (v : Turn). IsListed is_txn v.ids v.key) (sym k) (inside_has known c t.ids i.inside t.key (key_in known c t i))
              ];
              own = λ d o h k l. elim (has_more d t ts h) [
                | inl m ↦ elim (has_more o t ts k) [ inl n ↦ a.turns.own d o m n l | inr n ↦ absurd (own_old d o m n l) ]
                | inr m ↦ elim (has_more o t ts k) [ inl n ↦ absurd (own_new d o m n l) | inr n ↦ m ∙ sym n ]
              ];
            };
            from = λ o h. elim (has_more o t ts h) [
              | inl k ↦ (let d = a.from o k in (d.0, has_left d.0 cs (c ∷ []) d.1, d.2))
              | inr k ↦ (c, has_right c cs (c ∷ []) (inl refl), subst (IsComponentTurn known c) (sym k) i)
            ];
            each = λ d h x k. elim (has_more d c cs h) [
              | inl m ↦ (let o = a.each d m x k in (o.0, has_left o.0 ts (t ∷ []) o.1, o.2))
              | inr m ↦ (t, has_right t ts (t ∷ []) (inl refl), subst (λ e. IsComponentTurn known e t) (sym m) i)
            ];
          }

-- ---- the first member

pub first_of : (xs : List TxnId) (k : TxnId) → Some k ≡ slice_get xs 0 → (rest : List TxnId) × (xs ≡ k ∷ rest)
first_of [] k e = absurd (let f : Some k ≡ None = e in cc)
first_of (x ∷ xs) k e = (let f : Some k ≡ Some x = e in let g : k ≡ x = cc in (xs, ap (λ v. v ∷ xs) (sym g)))

pub first_none : (xs : List TxnId) → None ≡ slice_get xs 0 → xs ≡ []
first_none [] e = refl
first_none (x ∷ xs) e = absurd (let f : None ≡ Some x = e in cc)
