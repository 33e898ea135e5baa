-- The order of turns of components is the component order of a set
use Rattle.std.proofs.Common.{◌≡◌, List, sym, ◌∙◌, ap, subst}
use Rattle.roc_sequence.specs.Lists.{Has}
use Rattle.roc_sequence.specs.Places.{IsListed}
use Rattle.roc_base.specs.declared.id.TxnId.{TxnId}
use Rattle.roc_base.specs.TxnId.{is_txn}
use Rattle.roc_depgraph.specs.declared.known.KnownList.{KnownList}
use Rattle.roc_depgraph.specs.Closure.{IsRisingListOf}
use Rattle.roc_depgraph.specs.Deps.{Precedes, PrecedesNow}
use Rattle.roc_depgraph.proofs.Listed.{listed_has, has_listed}
use Rattle.roc_depgraph.proofs.RisingLists.{none_listed}
use Rattle.roc_component.specs.Components.{among, AreComponents, AreComponentsOf, AreTaken, IsComponentOrderOf}
use Rattle.roc_component.specs.declared.turn.Turn.{Turn}
use Rattle.roc_component.specs.Inner.Turns.{AreAllTaken, AreComponentTurns, ArePartsOf}
use Rattle.roc_component.specs.Inner.Within.{within}
use Rattle.roc_component.proofs.Alike.{order_alike}
use Rattle.roc_component.proofs.ListsWithin.{among_from, among_to, among_now_from, among_now_to}
use Rattle.roc_component.proofs.Ordered.{ordered}
use Rattle.roc_component.proofs.Relations.{mates_weaker}
use Rattle.roc_component.proofs.TurnsOf.{taken_inside, inside_has}

-- S are the members of M, and the lists are those of S without what leads out
module _ (known : List KnownList) (M S S1 : List TxnId) (lists : List KnownList) (all : IsRisingListOf (IsListed is_txn M) S) (e : S1 ≡ S) (l : lists ≡ within known S1 S1) where
  lists_are : lists ≡ within known S S
  lists_are = l ∙ ap (λ s. within known s s) e

  edges_from : (u t : TxnId) → Precedes lists u t → among M (Precedes known) u t
  edges_from u t p = among_from known M S all u t (subst (λ v. Precedes v u t) lists_are p)

  edges_to : (u t : TxnId) → among M (Precedes known) u t → Precedes lists u t
  edges_to u t p = subst (λ v. Precedes v u t) (sym lists_are) (among_to known M S all u t p)

  edges_inside : (u t : TxnId) → Precedes lists u t → IsListed is_txn S u × IsListed is_txn S t
  edges_inside u t p = let f = edges_from u t p in (all.complete u f.0, all.complete t f.1)

  pub starts_inside : (T : List TxnId) → T ≡ S → (u t : TxnId) → Precedes lists u t → Has u T
  starts_inside T f u t p = subst (Has u) (sym f) (listed_has S u (edges_inside u t p).0)

  pub order_is : (T : List TxnId) (cs ds : List (List TxnId)) (ts : List Turn) (order : List TxnId) → T ≡ S → AreComponents (Precedes lists) T cs → ds ≡ cs → AreComponentTurns lists ds ts → AreAllTaken ts order → IsComponentOrderOf known M order
  order_is T cs ds ts order f ac g to taken =
      order_alike (Precedes lists) (Precedes known) (PrecedesNow lists) (PrecedesNow known) S M order (λ t. (all.sound t, all.complete t))
      (λ u t p. edges_from u t p.2)
      (λ u t p. (all.complete u p.0, all.complete t p.1, edges_to u t p))
      (λ u t p. among_now_from known M S all u t (subst (λ v. PrecedesNow v u t) lists_are p.2))
      (λ u t p. (all.complete u p.0, all.complete t p.1, subst (λ v. PrecedesNow v u t) (sym lists_are) (among_now_to known M S all u t p)))
      (ordered lists S edges_inside cs (subst (λ s. AreComponents (Precedes lists) s cs) f ac) ts (subst (λ d. AreComponentTurns lists d ts) g to) order taken)

  components_are : (T : List TxnId) (cs : List (List TxnId)) → T ≡ S → AreComponents (Precedes lists) T cs → AreComponentsOf known M cs
  components_are T cs f ac =
      let k = subst (λ s. AreComponents (Precedes lists) s cs) f ac in
      record {
        each = λ c h. record {
          rising = (k.each c h).rising;
          sound = λ x u hx hu. mates_weaker (Precedes lists) (among M (Precedes known)) edges_from x u ((k.each c h).sound x u hx hu);
          complete = λ x u hx m. (k.each c h).complete x u hx (mates_weaker (among M (Precedes known)) (Precedes lists) edges_to x u m);
        };
        apart = k.apart;
        all = λ u h. k.all u (listed_has S u (all.complete u (has_listed M u h)));
        only = λ c h u hu. listed_has M u (all.sound u (has_listed S u (k.only c h u hu)));
      }

  -- and what is taken of each turn is a component
  pub parts_are : (T : List TxnId) (cs ds : List (List TxnId)) (ts : List Turn) (order : List TxnId) (parts : List (List TxnId)) → T ≡ S → AreComponents (Precedes lists) T cs → ds ≡ cs → AreComponentTurns lists ds ts
      → AreAllTaken ts order → ArePartsOf ts order parts → AreTaken known M parts
  parts_are T cs ds ts order parts f ac g to taken p =
      let turns = subst (λ d. AreComponentTurns lists d ts) g to in
      let comps = components_are T cs f ac in
      record {
        order = subst (IsComponentOrderOf known M) p.whole (order_is T cs ds ts order f ac g to taken);
        some = λ c h e. let w = p.from c h in none_listed w.0.key (subst (λ l. IsListed is_txn l w.0.key) (sym w.2 ∙ e) (turns.turns.key w.0 w.1));
        mates = λ c h t u i.
            let w = p.from c h in
            let d = turns.from w.0 w.1 in
            let is = comps.each d.0 d.1 in
            let there : (v : TxnId) → Has v c → Has v d.0 = λ v q. taken_inside lists d.0 w.0.ids d.2.inside.0 v (has_listed w.0.ids v (subst (Has v) w.2 q)) in
            let back : (v : TxnId) → Has v d.0 → Has v c = λ v q. subst (Has v) (sym w.2) (listed_has w.0.ids v (inside_has lists d.0 w.0.ids d.2.inside v q)) in
            (λ m. back u (is.complete t u (there t i) m), λ q. is.sound t u (there t i) (there u q));
      }
