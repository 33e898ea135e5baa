-- What is followed of known lists is what precedes in the log, but for what is settled
use Rattle.std.proofs.Common.{◌≡◌, Bool, true, false, ◌&&◌, List, [], Option, Some, None, refl, sym, subst, ◌∙◌, ◌⊎◌, inl, inr, is_some, unwrap_or}
use Rattle.std.proofs.lemmas.Bool.{false≢true, and_parts, and_from}
use Rattle.std.specs.List.{list_any}
use Rattle.roc_sequence.specs.Lists.{Has}
use Rattle.roc_sequence.proofs.Holds.{any_has, has_any}
use Rattle.roc_base.specs.declared.id.TxnId.{TxnId}
use Rattle.roc_base.specs.TxnId.{is_txn}
use Rattle.roc_base.specs.Equalities.{is_txn-true}
use Rattle.roc_base.specs.Edge.{Dependency}
use Rattle.roc_base.proofs.Ids.{is_txn-eq}
use Rattle.roc_depgraph.specs.declared.known.KnownList.{KnownList}
use Rattle.roc_depgraph.specs.Deps.{list_of, is_known, IsKnown, entries_of, IsAncestor, IsDecided}
use Rattle.roc_depgraph.specs.Reach.{Reaches, direct, through}
use Rattle.roc_depgraph.proofs.Laws.{ancestor_decided}
use Rattle.roc_component.specs.Components.{Mates}
use Rattle.roc_component.proofs.Relations.{mates_sym}
use Rattle.roc_plan.specs.Groups.{Plan}
use Rattle.roc_whole.specs.Serial as whole
use Rattle.roc_law_orders.specs.Behaviour.{TxnGroup}
use Rattle.roc_law_log.specs.Scheme.{Scheme}
use Rattle.roc_law_log.specs.Log.{Log, PrecedesGroup, PrecedesTxn, PrecedesTxnNow, IsWhole}
use Rattle.roc_law_log.specs.Edges.{AreEdges}
use Rattle.roc_law_log.specs.Settled.{IsSettled}
use Rattle.roc_law_log.proofs.Settled.{mates_settled}
use Rattle.roc_sequence.specs.Places.{IsListed}
use Rattle.roc_law_protocol.specs.Beginnings.{Beginning}
use Rattle.roc_law_protocol.proofs.Means.{AllMean}
use Rattle.roc_law_protocol.proofs.Facts.{known_has}
use Rattle.roc_law_protocol.proofs.Followed.{AreFollowedOf, known_alike, link_entry, entry_followed}

-- what an unknown transaction lists
unknown_none : (known : List KnownList) (t : TxnId) → is_known known t ≡ false → entries_of known t ≡ []
unknown_none known t h = go (list_of t known) h
  where
    go : (o : Option (List Dependency)) → is_some o ≡ false → unwrap_or o [] ≡ []
    go None e = refl
    go (Some es) e = absurd (false≢true (sym e))

-- an entry of a known list
pub entry_listed : (known : List KnownList) (t : TxnId) (d : Dependency) → Has d (entries_of known t) → (k : KnownList) × Has k known × (k.of ≡ t) × Has d k.edges
entry_listed known t d h = go (is_known known t) refl
  where
    go : (b : Bool) → is_known known t ≡ b → (k : KnownList) × Has k known × (k.of ≡ t) × Has d k.edges
    go true e = let k = known_has known t e in (k.0, k.1, k.2, subst (Has d) k.3 h)
    go false e = absurd (subst (Has d) (unknown_none known t e) h)

module _ (plan : Plan) (asked : TxnId → whole.Call) (S : Scheme) (start : Beginning) (c : Log) (known links : List KnownList) (lists : AllMean plan asked S start c known) (followed : AreFollowedOf (IsSettled S start.store c) known links) where
  abbrev E : TxnId → TxnId → Type 0
  E = PrecedesTxn S start.store c.past

  abbrev pub edge : TxnId → TxnId → Bool
  edge u t = list_any (λ d. is_txn d.from u) (entries_of links t)

  abbrev pub edge_now : TxnId → TxnId → Bool
  edge_now u t = list_any (λ d. is_txn d.from u && d.imm) (entries_of links t)

  precedes_by : (u t : TxnId) (d : Dependency) (of : TxnId) (r : TxnGroup) → of ≡ t → d.from ≡ u → r.txn ≡ of → PrecedesGroup S start.store c.past d.from r → E u t
  precedes_by u t d of r e f g p = record { second = r; of_second = g ∙ e; by = subst (λ u. PrecedesGroup S start.store c.past u r) f p }

  pub sound : (u t : TxnId) → edge u t ≡ true → E u t
  sound u t h =
      let a = any_has (λ (d : Dependency). is_txn d.from u) (entries_of links t) h in
      let k = entry_listed known t a.0 (link_entry (IsSettled S start.store c) known links followed t a.0 a.1) in
      let m = ((lists k.0 k.1).sound a.0 k.3).placed in
      precedes_by u t a.0 k.0.of m.0 k.2 (is_txn-true a.0.from u a.2) m.1 m.2

  pub sound_now : (u t : TxnId) → edge_now u t ≡ true → PrecedesTxnNow S start.store c.past u t
  unfolding precedes_by
  sound_now u t h =
      let a = any_has (λ (d : Dependency). is_txn d.from u && d.imm) (entries_of links t) h in
      let p = and_parts (is_txn a.0.from u) a.0.imm a.2 in
      let k = entry_listed known t a.0 (link_entry (IsSettled S start.store c) known links followed t a.0 a.1) in
      let m = ((lists k.0 k.1).sound a.0 k.3).by_now p.1 in
      record { precedes = precedes_by u t a.0 k.0.of m.0 k.2 (is_txn-true a.0.from u p.0) m.1 m.2; immediate = m.3 }

  known_too : (t : TxnId) → IsKnown links t → IsKnown known t
  known_too t h = sym (known_alike (IsSettled S start.store c) known links followed t) ∙ h

  from_list : (u t : TxnId) → IsKnown links t → (p : E u t) → (d : Dependency) × Has d (entries_of known t) × (d.from ≡ u) × (S.is_immediate p.second ≡ true → d.imm ≡ true)
  from_list u t h p =
      let k = known_has known t (known_too t h) in
      let q = (lists k.0 k.1).complete u p.second (p.of_second ∙ sym k.2) p.by in
      (q.0, subst (Has q.0) (sym k.3) q.1, q.2, q.3)

  pub complete : (u t : TxnId) → IsKnown links t → E u t → (edge u t ≡ true) ⊎ IsSettled S start.store c u
  complete u t h p =
      let d = from_list u t h p in
      elim (entry_followed (IsSettled S start.store c) known links followed t d.0 d.1) [
        | inl k ↦ inl (has_any (λ (d : Dependency). is_txn d.from u) (entries_of links t) d.0 k (is_txn-eq d.0.from u d.2))
        | inr z ↦ inr (subst (IsSettled S start.store c) d.2 z)
      ]

  pub complete_now : (u t : TxnId) → IsKnown links t → PrecedesTxnNow S start.store c.past u t → (edge_now u t ≡ true) ⊎ IsSettled S start.store c u
  complete_now u t h p =
      let d = from_list u t h p.precedes in
      elim (entry_followed (IsSettled S start.store c) known links followed t d.0 d.1) [
        | inl k ↦ inl (has_any (λ (d : Dependency). is_txn d.from u && d.imm) (entries_of links t) d.0 k (and_from (is_txn d.0.from u) d.0.imm (is_txn-eq d.0.from u d.2) (d.3 p.immediate)))
        | inr z ↦ inr (subst (IsSettled S start.store c) d.2 z)
      ]

  pub are_edges : (ts : List TxnId) → ((t : TxnId) → IsListed is_txn ts t → IsKnown links t) → AreEdges S start.store c edge edge_now ts
  are_edges ts all = record { sound = sound; sound_now = sound_now; complete = λ u t h p. complete u t (all t h) p; complete_now = λ u t h p. complete_now u t (all t h) p }

  pub starts_whole : (t : TxnId) → IsKnown links t → IsWhole S c.past.started t
  starts_whole t h = let k = known_has known t (known_too t h) in subst (IsWhole S c.past.started) k.2 (lists k.0 k.1).is_whole

  -- a chain of mates that leads to what is decided is followed, or all of them are settled
  pub follow : (t u v : TxnId) → IsDecided links v → Reaches (λ a b. E a b × Mates E t a) u v → (IsAncestor links u v × IsDecided links u) ⊎ IsSettled S start.store c t
  follow t u _ d (direct {t = v} e) = elim (complete u v d.own e.0) [
    | inl f ↦ inl (direct f, ancestor_decided links u v d (direct f))
    | inr z ↦ inr (mates_settled S start.store c u t (mates_sym E t u e.1) z)
  ]
  follow t u _ d (through {s = x} {t = v} p e) = elim (complete x v d.own e.0) [
    | inl f ↦ elim (follow t u x (ancestor_decided links x v d (direct f)) p) [ inl q ↦ inl (through q.0 f, q.1) | inr z ↦ inr z ]
    | inr z ↦ inr (mates_settled S start.store c x t (mates_sym E t x e.1) z)
  ]
