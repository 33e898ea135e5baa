-- Components that are taken turn by turn are in component order
use Rattle.std.proofs.Common.{◌≡◌, ◌++◌, true, List, [], ◌∷◌, sym, ◌∙◌, subst, ap, inl, inr, arith, append-nil, append_assoc}
use Rattle.std.proofs.lemmas.Map.Keys.{sorted_head}
use Rattle.std.specs.List.Sorted.{IsStrictlySortedBy}
use Rattle.std.specs.Ordering.{is_lt}
use Rattle.std.specs.declared.cmp.Ordering.TheVariants.{Less}
use Rattle.roc_sequence.specs.Lists.{Has}
use Rattle.roc_sequence.specs.Places.{IsListed}
use Rattle.roc_sequence.proofs.Appended.{listed_front, listed_behind, listed_either}
use Rattle.roc_sequence.proofs.Holds.{all_has}
use Rattle.roc_sequence.proofs.Members.{has_map, from_has_map}
use Rattle.roc_base.specs.declared.id.TxnId.{TxnId}
use Rattle.roc_base.specs.TxnId.{is_txn, txn_cmp, txn_lt}
use Rattle.roc_base.proofs.Ids.{is_lt-txn_cmp, txn_lt-trans}
use Rattle.roc_depgraph.specs.declared.known.KnownList.{KnownList}
use Rattle.roc_depgraph.specs.Deps.{Precedes, PrecedesNow}
use Rattle.roc_depgraph.specs.Reach.{Reaches}
use Rattle.roc_depgraph.proofs.Chains.{chain_before}
use Rattle.roc_depgraph.proofs.Listed.{has_listed, listed_has}
use Rattle.roc_component.specs.declared.turn.Turn.{Turn}
use Rattle.roc_component.specs.Components.{among, Mates, IsReady, IsFree, IsNext, IsNextInside, IsComponentOrder, AreComponents}
use Rattle.roc_component.specs.Inner.Turns.{IsLeft, IsDue, IsLowest, IsNextTurn, AreTurnsTaken, none, more, AreAllTaken, IsComponentTurn, AreComponentTurns, turn_of}
use Rattle.roc_component.proofs.Alike.{mates_to}
use Rattle.roc_component.proofs.Exists.{members, are_described}
use Rattle.roc_component.proofs.Front.{front_none, front_more}
use Rattle.roc_component.proofs.LeadingTo.{listed_now, from_listed_now, listed_leading, from_listed_leading}
use Rattle.roc_component.proofs.Member.{Member, is_begun}
use Rattle.roc_component.proofs.NextMember.{IsFront, begun_to, ready_to, some_ready}
use Rattle.roc_component.proofs.Relations.{mates_sym, mates_reach}
use Rattle.roc_component.proofs.TurnsOf.{singles, taken_inside, inside_has, key_in}

-- all edges are among S
module _ (known : List KnownList) (S : List TxnId) (inside : (u t : TxnId) → Precedes known u t → IsListed is_txn S u × IsListed is_txn S t) where
  abbrev E : TxnId → TxnId → Type 0
  E = Precedes known

  abbrev A : TxnId → TxnId → Type 0
  A = among S (Precedes known)

  abbrev J : TxnId → TxnId → Type 0
  J = among S (PrecedesNow known)

  to_among : (u t : TxnId) → E u t → A u t
  to_among u t e = let i = inside u t e in (i.0, i.1, e)

  mates_on : (a b : TxnId) → Mates E a b → Mates A a b
  mates_on = mates_to E A to_among

  mates_off : (a b : TxnId) → Mates A a b → Mates E a b
  mates_off = mates_to A E (λ u t e. e.2)

  module _ (cs : List (List TxnId)) (ac : AreComponents E S cs) (ts : List Turn) (to : AreComponentTurns known cs ts) where
    mates_in : (c : List TxnId) → Has c cs → (x u : TxnId) → Has x c → Has u c → Mates A x u
    mates_in c h x u i j = mates_on x u ((ac.each c h).sound x u i j)

    in_mates : (c : List TxnId) → Has c cs → (x u : TxnId) → Has x c → Mates A x u → Has u c
    in_mates c h x u i m = (ac.each c h).complete x u i (mates_off x u m)

    in_set : (c : List TxnId) → Has c cs → (x : TxnId) → Has x c → IsListed is_txn S x
    in_set c h x i = has_listed S x (ac.only c h x i)

    -- the first member of a component is the least
    first_least : (c : List TxnId) → Has c cs → (t : Turn) → IsComponentTurn known c t → (z k : TxnId) → Has z c → txn_lt z k ≡ true → txn_lt t.key k ≡ true
    first_least c h t i z k m l = go (subst (Has z) i.first.1 m)
      where
        go : Has z (t.key ∷ i.first.0) → txn_lt t.key k ≡ true
        go (inl e) = subst (λ v. txn_lt v k ≡ true) e l
        go (inr j) =
            (let less = all_has (λ y. txn_cmp t.key y ≡ Less) z i.first.0 (sorted_head txn_cmp t.key i.first.0 (subst (IsStrictlySortedBy txn_cmp) i.first.1 (ac.each c h).rising)) j in
            txn_lt-trans t.key z k (sym (is_lt-txn_cmp t.key z) ∙ ap is_lt less) l)

    -- what was taken are whole components
    abbrev AreWhole : List TxnId → Type 0
    AreWhole xs = (y z : TxnId) → IsListed is_txn xs y → Mates A y z → IsListed is_txn S z → IsListed is_txn xs z

    -- the turn of a component that has a member
    its_turn : (z : TxnId) → IsListed is_txn S z → (c : List TxnId) × Has c cs × Has z c × ((t : Turn) × Has t ts × IsComponentTurn known c t)
    its_turn z l = let w = ac.all z (listed_has S z l) in let t = to.each w.0 w.1 z w.2 in (w.0, w.1, w.2, t)

    module _ (xs : List TxnId) (f : IsFront E (PrecedesNow known) S xs) (whole : AreWhole xs) where
      -- where a member is left, one is left whose turn is due
      no_begun : (m : Member) → Has m (members known S) → ¬ (is_begun xs m ≡ true)
      no_begun m h b =
          let ms = are_described known S in
          let q = begun_to xs m b in
          q.0 (whole q.1.0 m.id q.1.2 (mates_sym A m.id q.1.0 (((ms.each m h).mates q.1.0).0 q.1.1)) (ms.sound m h))

      some_due : (x : TxnId) → IsListed is_txn S x → ¬ IsListed is_txn xs x → (t : Turn) × Has t ts × IsLeft xs t × IsDue xs t
      some_due x l n =
          let ms = are_described known S in
          let m = some_ready E (PrecedesNow known) S (members known S) ms xs f no_begun x l n in
          let q = ready_to xs m.0 m.2 in
          let w = its_turn m.0.id (ms.sound m.0 m.1) in
          let t = w.3 in
          let k = mates_in w.0 w.1 t.0.key m.0.id (key_in known w.0 t.0 t.2) w.2 in (
            t.0,
            t.1,
            λ i. q.0 (whole t.0.key m.0.id i k (ms.sound m.0 m.1)),
            λ u i.
                let p = from_listed_leading known w.0 w.0 u (subst (λ l. IsListed is_txn l u) t.2.before i) in
                let y = p.1 in
                let r : Reaches A u m.0.id = chain_before A u y.0 m.0.id (to_among u y.0 y.2) (mates_reach A y.0 m.0.id (mates_in w.0 w.1 y.0 m.0.id y.1 w.2)) in
                q.1 u (((ms.each m.0 m.1).before u).1 (r, λ j. p.0 (has_listed w.0 u (in_mates w.0 w.1 m.0.id u w.2 j)))),
          )

      -- the turn of a component comes next
      module _ (c : List TxnId) (h : Has c cs) (t : Turn) (i : IsComponentTurn known c t) (left : IsLeft xs t) (due : IsDue xs t) (lowest : IsLowest (IsDue xs) ts xs t.key) where
        none_taken : (x : TxnId) → Has x c → ¬ IsListed is_txn xs x
        none_taken x m l = left (whole x t.key l (mates_in c h x t.key m (key_in known c t i)) (in_set c h t.key (key_in known c t i)))

        module _ (ys : List TxnId) (only : (u : TxnId) → IsListed is_txn ys u → Has u c) (x : TxnId) (m : Has x c) where
          abbrev T : TxnId → Type 0
          T = IsListed is_txn (xs ++ ys)

          old : (u : TxnId) → IsListed is_txn xs u → T u
          old u = listed_front is_txn xs ys u

          new : (u : TxnId) → IsListed is_txn ys u → T u
          new u = listed_behind is_txn xs ys u

          -- of the component only what was taken last
          of_last : (u : TxnId) → Has u c → T u → IsListed is_txn ys u
          of_last u k l = elim (listed_either is_txn xs ys u l) [ inl j ↦ absurd (none_taken u k j) | inr j ↦ j.1 ]

          ready : IsReady A T x
          ready p y k e n =
              old p (due p (subst (λ l. IsListed is_txn l p) (sym i.before)
              (listed_leading known c c y p (in_mates c h x y m k) e.2 (λ l. n (mates_in c h x p m (listed_has c p l))))))

          ends : (y z : TxnId) → T y → Mates A y z → IsListed is_txn S z → ¬ T z → Mates A y x
          ends y z l k j n = elim (listed_either is_txn xs ys y l) [
            | inl q ↦ absurd (n (old z (whole y z q k j)))
            | inr q ↦ mates_in c h y x (only y q.1) m
          ]

          least : (z : TxnId) → ((y : TxnId) → T y → ¬ Mates A y x) → IsListed is_txn S z → ¬ T z → IsReady A T z → (y : TxnId) × IsListed is_txn S y × Mates A x y × (¬ (txn_lt z y ≡ true))
          least z unbegun l n r =
              let key = key_in known c t i in
              let w = its_turn z l in
              let o = w.3 in
              let k = key_in known w.0 o.0 o.2 in
              let free : IsDue xs o.0 = λ u j.
              let p = from_listed_leading known w.0 w.0 u (subst (λ v. IsListed is_txn v u) o.2.before j) in
              let y = p.1 in
              let q = r u y.0 (mates_in w.0 w.1 z y.0 w.2 y.1) (to_among u y.0 y.2) (λ v. p.0 (has_listed w.0 u (in_mates w.0 w.1 z u w.2 v))) in
              elim (listed_either is_txn xs ys u q) [ inl a ↦ a | inr a ↦ absurd (unbegun u (new u a.1) (mates_in c h u x (only u a.1) m)) ] in
              let away : IsLeft xs o.0 = λ j. n (old z (whole o.0.key z j (mates_in w.0 w.1 o.0.key z k w.2) l)) in
              (t.key, in_set c h t.key key, mates_in c h x t.key m key, λ lt. lowest o.0 o.1 away free (first_least w.0 w.1 o.0 o.2 z t.key w.2 lt))

          -- inside the component
          single : (z : TxnId) → Mates A x z → Has (turn_of known c z) (singles known c)
          single z k = has_map (turn_of known c) z c (in_mates c h x z m k)

          due_of : (z : TxnId) → Mates A x z → IsFree A J T x z → IsDue ys (turn_of known c z)
          due_of z k free u l =
              let q = from_listed_now known c z u l in
              let j = listed_has c u q.0 in
              of_last u j (free u (mates_in c h x u m j) (in_set c h u j, in_set c h z (in_mates c h x z m k), q.1))

          within : IsNextTurn (singles known c) ys (turn_of known c x) → IsNextInside A J T x
          within (inl n) =
              inl (
                λ p k j. new p (n.0 p (listed_now known c x p (has_listed c p (in_mates c h x p m k)) j.2)),
                λ z k o free. n.1 (turn_of known c z) (single z k) (λ l. o (new z l)) (due_of z k free),
              )
          within (inr n) =
              inr (
                λ z k o free. n.0 (turn_of known c z) (single z k) (λ l. o (new z l)) (due_of z k free),
                λ z k o free. n.1 (turn_of known c z) (single z k) (λ l. o (new z l)) tt,
              )

          next : IsNextTurn (singles known c) ys (turn_of known c x) → IsNext A J S T x
          next n = record { ready = ready; ends = ends; least = least; inside = within n }

        inside_front : (ys : List TxnId) → AreTurnsTaken (singles known c) ys → IsFront E (PrecedesNow known) S (xs ++ ys)
        inside_front _ none = subst (IsFront E (PrecedesNow known) S) (sym (append-nil xs)) f
        inside_front _ (more {taken = ys} u p hu n nx e) =
            let x = from_has_map (turn_of known c) u c hu in
            let left : ¬ IsListed is_txn ys x.0 = subst (IsLeft ys) x.2 n in
            let g = front_more E (PrecedesNow known) S (xs ++ ys) x.0 (inside_front ys p)
            (next ys (taken_inside known c ys p) x.0 x.1 (subst (IsNextTurn (singles known c) ys) x.2 nx))
            (λ l. elim (listed_either is_txn xs ys x.0 l) [ inl j ↦ none_taken x.0 x.1 j | inr j ↦ left j.1 ])
            (in_set c h x.0 x.1) in
            subst (IsFront E (PrecedesNow known) S) (append_assoc xs ys (x.0 ∷ []) ∙ ap (λ l. xs ++ l) (sym (e ∙ ap (λ (v : Turn). ys ++ v.ids) x.2))) g

    module _ (xs : List TxnId) (f : IsFront E (PrecedesNow known) S xs) (whole : AreWhole xs) (t : Turn) (h : Has t ts) (n : IsLeft xs t) where
      its : (c : List TxnId) × Has c cs × IsComponentTurn known c t
      its = to.from t h

      front_longer : IsNextTurn ts xs t → IsFront E (PrecedesNow known) S (xs ++ t.ids)
      front_longer (inl d) = inside_front xs f whole its.0 its.1 t its.2 n d.0 d.1 t.ids its.2.inside.0
      front_longer (inr d) = (let o = some_due xs f whole t.key (in_set its.0 its.1 t.key (key_in known its.0 t its.2)) n in absurd (d.0 o.0 o.1 o.2 o.3))

      whole_longer : AreWhole (xs ++ t.ids)
      whole_longer y z l k i = elim (listed_either is_txn xs t.ids y l) [
        | inl j ↦ listed_front is_txn xs t.ids z (whole y z j k i)
        | inr j ↦ listed_behind is_txn xs t.ids z (inside_has known its.0 t.ids its.2.inside z (in_mates its.0 its.1 y z (taken_inside known its.0 t.ids its.2.inside.0 y j.1) k))
      ]

    front_of : (order : List TxnId) → AreTurnsTaken ts order → IsFront E (PrecedesNow known) S order × AreWhole order
    front_of _ none = (front_none E (PrecedesNow known) S, λ y z l. absurd (omega arith))
    front_of _ (more {taken = xs} t p h n nx e) =
        let ih = front_of xs p in
        (subst (IsFront E (PrecedesNow known) S) (sym e) (front_longer xs ih.0 ih.1 t h n nx), subst AreWhole (sym e) (whole_longer xs ih.0 ih.1 t h n))

    pub ordered : (order : List TxnId) → AreAllTaken ts order → IsComponentOrder E (PrecedesNow known) S order
    ordered order a =
        let f = front_of order a.0 in
        record {
          once = f.0.once;
          from = f.0.from;
          all = λ x l. let w = its_turn x l in let t = w.3 in f.1 t.0.key x (a.1 t.0 t.1) (mates_in w.0 w.1 t.0.key x (key_in known w.0 t.0 t.2) w.2) l;
          next = f.0.next;
        }
