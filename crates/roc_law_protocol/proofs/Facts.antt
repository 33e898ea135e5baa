-- Lists that travel along are lists that are known
use Rattle.std.proofs.Common.{◌≡◌, ℕ, zero, suc, ◌-◌, Bool, true, false, cond, List, [], ◌∷◌, Some, length, map, refl, sym, ap, ◌∙◌, inl, inr}
use Rattle.std.specs.Prelude.{nat_le, is_some, unwrap_or}
use Rattle.std.proofs.lemmas.Bool.{false≢true}
use Rattle.roc_sequence.specs.Lists.{Has}
use Rattle.roc_sequence.specs.Places.{IsListed}
use Rattle.roc_sequence.proofs.Members.{from_has_map}
use Rattle.roc_base.specs.declared.id.TxnId.{TxnId}
use Rattle.roc_base.specs.TxnId.{is_txn}
use Rattle.roc_base.specs.Equalities.{is_txn-true}
use Rattle.roc_depgraph.specs.declared.known.KnownList.{KnownList}
use Rattle.roc_depgraph.specs.Deps.{list_of, IsKnown, entries_of}
use Rattle.roc_depgraph.proofs.Listed.{has_listed}
use Rattle.roc_msg.specs.Facts.{front_of_facts, fitting, most_facts, most_fact_edges}
use Rattle.roc_step.specs.Piggyback.{facts_of}

pub has_front : (lists entries : ℕ) (facts : List KnownList) (k : KnownList) → Has k (front_of_facts lists entries facts) → Has k facts
has_front zero entries facts k h = absurd h
has_front (suc lists) entries [] k h = absurd h
has_front (suc lists) entries (fact ∷ facts) k h = go (nat_le (length fact.edges) entries) h (has_front lists (entries - length fact.edges) facts k)
  where
    go : (b : Bool) → Has k (cond b (fact ∷ front_of_facts lists (entries - length fact.edges) facts) []) → (Has k (front_of_facts lists (entries - length fact.edges) facts) → Has k facts) → Has k (fact ∷ facts)
    go true (inl e) ih = inl e
    go true (inr m) ih = inr (ih m)
    go false m ih = absurd m

pub has_fitting : (facts : List KnownList) (k : KnownList) → Has k (fitting facts) → Has k facts
has_fitting facts k h = has_front most_facts most_fact_edges facts k h

-- a known list is among the known ones
pub known_has : (known : List KnownList) (u : TxnId) → IsKnown known u → (k : KnownList) × Has k known × (k.of ≡ u) × (entries_of known u ≡ k.edges)
known_has [] u h = absurd (false≢true h)
known_has (k ∷ known) u h = go (is_txn k.of u) refl h (known_has known u)
  where
    go : (b : Bool) → is_txn k.of u ≡ b → is_some (cond b (Some k.edges) (list_of u known)) ≡ true → (IsKnown known u → (k : KnownList) × Has k known × (k.of ≡ u) × (entries_of known u ≡ k.edges))
        → (j : KnownList) × Has j (k ∷ known) × (j.of ≡ u) × (unwrap_or (cond b (Some k.edges) (list_of u known)) [] ≡ j.edges)
    go true e m ih = (k, inl refl, is_txn-true k.of u e, refl)
    go false e m ih = let r = ih m in (r.0, inr r.1, r.2, r.3)

abbrev list_known : List KnownList → TxnId → KnownList
list_known known u = record { of = u; edges = entries_of known u }

-- the facts of a startok are known lists
pub facts_known : (known : List KnownList) (ids : List TxnId) → ((u : TxnId) → IsListed is_txn ids u → IsKnown known u)
    → (f : KnownList) → Has f (facts_of known ids) → (k : KnownList) × Has k known × (k.of ≡ f.of) × (f.edges ≡ k.edges)
facts_known known ids all f h =
    let m = from_has_map (list_known known) f ids (has_fitting (map (list_known known) ids) f h) in
    let k = known_has known m.0 (all m.0 (has_listed ids m.0 m.1)) in
    (k.0, k.1, k.2 ∙ ap (λ (x : KnownList). x.of) (sym m.2), ap (λ (x : KnownList). x.edges) m.2 ∙ k.3)
