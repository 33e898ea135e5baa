-- What a step finds in the lists is always there
use Rattle.std.proofs.Common.{◌≡◌, Bool, true, false, not, ◌&&◌, ◌||◌, List, [], map, Option, Some, None, is_some, unwrap_or, refl, sym, subst, ◌∙◌, inl, inr}
use Rattle.std.proofs.lemmas.Bool.{false≢true, and_parts, and_from, or_cases, or_left, or_right, not-true, not_from_false, false_from_ne_true}
use Rattle.std.proofs.lemmas.List.Kept.{IsStrictlySortedBy-filter}
use Rattle.std.specs.List.{list_any, filter, flat_map}
use Rattle.roc_sequence.specs.Lists.{Has}
use Rattle.roc_sequence.specs.Places.{IsListed}
use Rattle.roc_sequence.proofs.Filtered.{listed_filter, from_listed_filter}
use Rattle.roc_sequence.proofs.Holds.{any_has, has_any, none_has}
use Rattle.roc_sequence.proofs.Members.{has_map, has_flat_map}
use Rattle.roc_base.specs.declared.id.TxnId.{TxnId}
use Rattle.roc_base.specs.TxnId.{is_txn, txn_cmp}
use Rattle.roc_base.specs.Edge.{Dependency}
use Rattle.roc_base.specs.Equalities.{is_txn-true}
use Rattle.roc_base.proofs.Ids.{is_txn-eq}
use Rattle.roc_depgraph.specs.declared.known.KnownList.{KnownList}
use Rattle.roc_depgraph.specs.Closure.{IsRisingListOf}
use Rattle.roc_depgraph.specs.Deps.{list_of, entries_of, is_known, IsKnown, Precedes, IsDecided}
use Rattle.roc_depgraph.specs.Reach.{Reaches, direct, through, ReachesOrIs}
use Rattle.roc_depgraph.proofs.Listed.{has_listed, listed_has, under_has}
use Rattle.roc_depgraph.proofs.RisingIds.{ids, ids_complete, ids_rise}
use Rattle.roc_step.specs.Led.{IsKnownAndLedTo}
use Rattle.roc_component.specs.Components.{HaveSameMembers, IsComponentOrderOf, AreTaken}
use Rattle.roc_component.proofs.Paths.{path, path_chain, chain_path}
use Rattle.roc_step.specs.New.{AreDecided, AreLedTo, IsNew, AreAllNew, AreNewTaken}
use Rattle.roc_msg.specs.declared.msg.Msg.{Msg}
use Rattle.roc_plan.specs.Groups.{Plan}
use Rattle.roc_step.specs.State.{ServerState, ServerStep}
use Rattle.roc_step.specs.Step.{edges_told, links_after, Findings, after_message, Handles}
use Rattle.roc_law_protocol.proofs.OrderParts.{taken_parts}
use Rattle.roc_law_protocol.proofs.Served.{list_has}

-- what a test tells of ids that are listed can be listed, rising
rising_of : (P : TxnId → Type 0) (M : List TxnId) (p : TxnId → Bool) → ((u : TxnId) → p u ≡ true → P u) → ((u : TxnId) → P u → p u ≡ true) → ((u : TxnId) → P u → IsListed is_txn M u) → (xs : List TxnId) × IsRisingListOf P xs
rising_of P M p from to within = (
  filter p (ids M),
  record {
    rising = IsStrictlySortedBy-filter txn_cmp p (ids M) (ids_rise M);
    sound = λ u l. from u (from_listed_filter is_txn is_txn-true p (ids M) u l).0;
    complete = λ u h. listed_filter is_txn is_txn-true p (ids M) u (to u h) (ids_complete M u (within u h));
  },
)

-- ---- what known lists say can be told

module _ (known : List KnownList) where
  abbrev told : List TxnId
  told = map (λ k. k.of) known

  abbrev named : List TxnId
  named = flat_map (λ k. map (λ d. d.from) k.edges) known

  known_told : (t : TxnId) → IsKnown known t → IsListed is_txn told t
  known_told t h = go (list_of t known) refl h
    where
      go : (o : Option (List Dependency)) → list_of t known ≡ o → is_some o ≡ true → IsListed is_txn told t
      go None e i = absurd (false≢true i)
      go (Some es) e i = let k = list_has known t es e in subst (IsListed is_txn told) k.2 (under_has (λ k. k.of) known k.0 k.1)

  abbrev edge : TxnId → TxnId → Bool
  edge u t = list_any (λ d. is_txn d.from u) (entries_of known t)

  edge_known : (u t : TxnId) → edge u t ≡ true → IsKnown known t
  edge_known u t h = go (list_of t known) h
    where
      go : (o : Option (List Dependency)) → list_any (λ d. is_txn d.from u) (unwrap_or o []) ≡ true → is_some o ≡ true
      go None i = absurd (false≢true i)
      go (Some es) i = refl

  edge_named : (u t : TxnId) → edge u t ≡ true → IsListed is_txn named u
  edge_named u t h = go (list_of t known) refl h
    where
      go : (o : Option (List Dependency)) → list_of t known ≡ o → list_any (λ d. is_txn d.from u) (unwrap_or o []) ≡ true → IsListed is_txn named u
      go None e i = absurd (false≢true i)
      go (Some es) e i =
          let k = list_has known t es e in
          let d = any_has (λ d. is_txn d.from u) es i in
          let there : Has u (map (λ d. d.from) es) = subst (λ v. Has v (map (λ d. d.from) es)) (is_txn-true d.0.from u d.2) (has_map (λ d. d.from) d.0 es d.1) in
          has_listed named u (has_flat_map (λ k. map (λ d. d.from) k.edges) u k.0 known k.1 (subst (λ ds. Has u (map (λ d. d.from) ds)) (sym k.3) there))

  -- a chain leads from u to t
  abbrev reach : TxnId → TxnId → Bool
  reach = path edge told

  reach_from : (u t : TxnId) → reach u t ≡ true → Reaches (Precedes known) u t
  reach_from u t h = path_chain edge told u t h

  reach_to : (u t : TxnId) → Reaches (Precedes known) u t → reach u t ≡ true
  reach_to u t p = chain_path edge told (λ a b e. known_told b (edge_known a b e)) u t p

  starts_named : (u t : TxnId) → Reaches (Precedes known) u t → IsListed is_txn named u
  starts_named u _ (direct {t = t} e) = edge_named u t e
  starts_named u _ (through p e) = starts_named u _ p

  -- u is an ancestor of t whose list is not known
  abbrev lacks : TxnId → TxnId → Bool
  lacks t u = reach u t && not (is_known known u)

  abbrev decides : TxnId → Bool
  decides t = is_known known t && not (list_any (lacks t) named)

  decides_from : (t : TxnId) → decides t ≡ true → IsDecided known t
  decides_from t h =
      let p = and_parts (is_known known t) (not (list_any (lacks t) named)) h in
      record { own = p.0; ancestors = λ u r. go u r (not-true (list_any (lacks t) named) p.1) (is_known known u) refl }
    where
      go : (u : TxnId) → Reaches (Precedes known) u t → list_any (lacks t) named ≡ false → (b : Bool) → is_known known u ≡ b → IsKnown known u
      go u r none true e = e
      go u r none false e =
          absurd (false≢true (sym none ∙ has_any (lacks t) named u (listed_has named u (starts_named u t r)) (and_from (reach u t) (not (is_known known u)) (reach_to u t r) (not_from_false (is_known known u) e))))

  decides_to : (t : TxnId) → IsDecided known t → decides t ≡ true
  decides_to t d = and_from (is_known known t) (not (list_any (lacks t) named)) d.own (not_from_false (list_any (lacks t) named) (none_has (lacks t) named (λ u h. none u)))
    where
      none : (u : TxnId) → lacks t u ≡ false
      none u = false_from_ne_true (lacks t u) (λ e. (let p = and_parts (reach u t) (not (is_known known u)) e in false≢true (sym (not-true (is_known known u) p.1) ∙ d.ancestors u (reach_from u t p.0))))

  pub decided_there : (ids : List TxnId) × AreDecided known ids
  decided_there = rising_of (IsDecided known) told decides decides_from decides_to (λ t d. known_told t d.own)

  module _ (edges : List Dependency) where
    abbrev leads : TxnId → Dependency → Bool
    leads u d = is_txn u d.from || reach u d.from

    abbrev is_led : TxnId → Bool
    is_led u = is_known known u && list_any (leads u) edges

    leads_from : (u : TxnId) (d : Dependency) → leads u d ≡ true → ReachesOrIs (Precedes known) u d.from
    leads_from u d h = elim (or_cases (is_txn u d.from) (reach u d.from) h) [ inl e ↦ inl (is_txn-true u d.from e) | inr k ↦ inr (reach_from u d.from k) ]

    leads_to : (u : TxnId) (d : Dependency) → ReachesOrIs (Precedes known) u d.from → leads u d ≡ true
    leads_to u d (inl e) = or_left (is_txn u d.from) (reach u d.from) (is_txn-eq u d.from e)
    leads_to u d (inr p) = or_right (is_txn u d.from) (reach u d.from) (reach_to u d.from p)

    is_led_from : (u : TxnId) → is_led u ≡ true → IsKnownAndLedTo known edges u
    is_led_from u h =
        let p = and_parts (is_known known u) (list_any (leads u) edges) h in
        let d = any_has (leads u) edges p.1 in
        (p.0, record { entry = d.0; is = d.1; from = leads_from u d.0 d.2 })

    is_led_to : (u : TxnId) → IsKnownAndLedTo known edges u → is_led u ≡ true
    is_led_to u h = and_from (is_known known u) (list_any (leads u) edges) h.0 (has_any (leads u) edges h.1.entry h.1.is (leads_to u h.1.entry h.1.from))

    pub led_there : (ids : List TxnId) × AreLedTo known edges ids
    led_there = rising_of (IsKnownAndLedTo known edges) told is_led is_led_from is_led_to (λ u h. known_told u h.0)

-- ---- what is newly decided, and the step

module _ (known later : List KnownList) where
  abbrev fresh : TxnId → Bool
  fresh t = decides later t && not (decides known t)

  fresh_from : (t : TxnId) → fresh t ≡ true → IsNew (IsDecided known) later t
  fresh_from t h =
      let p = and_parts (decides later t) (not (decides known t)) h in
      (decides_from later t p.0, λ d. false≢true (sym (not-true (decides known t) p.1) ∙ decides_to known t d))

  fresh_to : (t : TxnId) → IsNew (IsDecided known) later t → fresh t ≡ true
  fresh_to t n = and_from (decides later t) (not (decides known t)) (decides_to later t n.0) (not_from_false (decides known t) (false_from_ne_true (decides known t) (λ e. n.1 (decides_from known t e))))

module _ (exists : (known : List KnownList) (M : List TxnId) → (xs : List TxnId) × IsComponentOrderOf known M xs)
    (one : (known : List KnownList) (M N xs ys : List TxnId) → HaveSameMembers M N → IsComponentOrderOf known M xs → IsComponentOrderOf known N ys → xs ≡ ys) where
  -- what is newly decided, in the components in which it is taken
  pub new_there : (known later : List KnownList) → (cs : List (List TxnId)) × AreNewTaken (IsDecided known) later cs
  new_there known later =
      let all = rising_of (IsNew (IsDecided known) later) (told later) (fresh known later) (fresh_from known later) (fresh_to known later) (λ t n. known_told later t n.0.own) in
      let xs = exists later all.0 in
      let ys = exists later xs.0 in
      let same : xs.0 ≡ ys.0 = one later all.0 xs.0 xs.0 ys.0 (λ t. (xs.1.all t, xs.1.from t)) xs.1 ys.1 in
      let p = taken_parts later xs.0 xs.0 (subst (λ zs. IsComponentOrderOf later xs.0 zs) (sym same) ys.1) in (
        p.0,
        record {
          members = subst (AreAllNew (IsDecided known) later) (sym p.1) (record { only = λ t l. all.1.sound t (xs.1.from t l); all = λ t n. xs.1.all t (all.1.complete t n) });
          taken = subst (λ M. AreTaken later M p.0) (sym p.1) p.2;
        },
      )

  -- a server's step is always there
  pub handled : (plan : Plan) (s : ServerState) (msg : Msg) → (r : ServerStep) × Handles plan s msg r
  handled plan s msg =
      let before = decided_there s.lists.links in
      let reached = led_there s.lists.links (edges_told plan before.0 s msg) in
      let new = new_there s.lists.links (links_after s msg) in
      let f : Findings = record { before = before.0; reached = reached.0; components = new.0 } in
      (after_message plan s f msg, record { findings = f; found = record { before = before.1; reached = reached.1; components = new.1 }; is = refl })
