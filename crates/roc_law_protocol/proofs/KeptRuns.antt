-- What a server keeps of what it took in a run
use Rattle.std.proofs.Common.{◌≡◌, ℕ, Bool, true, false, List, [], ◌∷◌, ◌++◌, Some, refl, sym, ap, subst, ◌∙◌, ◌⊎◌, inl, inr}
use Rattle.std.proofs.lemmas.Bool.{cases_eq, false≢true}
use Rattle.std.specs.Prelude.{slice_get}
use Rattle.roc_sequence.specs.Lists.{Has}
use Rattle.roc_sequence.proofs.Members.{has_append, has_left, has_right, same_there}
use Rattle.roc_sequence.proofs.Places.{listed_or_not}
use Rattle.roc_base.specs.declared.id.TxnId.{TxnId}
use Rattle.roc_base.specs.declared.node.Shard.{Shard}
use Rattle.roc_base.specs.TxnId.{is_txn}
use Rattle.roc_plan.specs.Groups.{Plan}
use Rattle.roc_whole.specs.Serial as whole
use Rattle.roc_law_log.specs.Scheme.{Scheme}
use Rattle.roc_law_log.specs.Log.{Log}
use Rattle.roc_law_log.specs.Invariants.{LogInvariants, LogGrows}
use Rattle.roc_step.specs.Forgets.{is_over}
use Rattle.roc_step.specs.State.{is_here, ServerState}
use Rattle.roc_law_protocol.specs.PlanAssumptions.{IsSchemeOf}
use Rattle.roc_law_protocol.specs.Beginnings.{Beginning}
use Rattle.roc_law_protocol.specs.World.{World}
use Rattle.roc_law_protocol.specs.Run.{Stepped}
use Rattle.roc_law_protocol.specs.Forgotten.{IsTakenAt, IsFirstTaken, IsLastTaken}
use Rattle.roc_law_protocol.proofs.Means.{HasBegun, ServerMeans}
use Rattle.roc_law_protocol.proofs.Flattened.{flat, listed_in, in_listed}
use Rattle.roc_law_protocol.proofs.SaidOfServers.{here_begun, begun_here}
use Rattle.roc_law_protocol.proofs.KeepsTaken.{KeepsTaken, state_itself, keeps_still, over_still}
use Rattle.roc_law_protocol.proofs.TakesOn.{IsTaking, taken_shard}
use Rattle.roc_law_protocol.proofs.TakenRuns.{AreTakenIn, first_decided, begun_before, begun_as_taken, takes_on}
use Rattle.roc_law_protocol.proofs.FirstTaken.{none_first, none_last, first_step, first_cases, last_cases, last_more, last_now}

-- What a step does to a server: it takes these components, which are exactly those that the step took there
pub record ServerTakes (x : Stepped) (n : ℕ) (s z : ServerState) : Type 0 where
  pub components : List (List TxnId)
  pub keeps : KeepsTaken s z components
  pub at : (k : List TxnId) → Has k components → IsTakenAt x (record { 0 = n }) k
  pub only : (k : List TxnId) → IsTakenAt x (record { 0 = n }) k → Has k components

module _ (plan : Plan) (asked : TxnId → whole.Call) (S : Scheme) (start : Beginning) where
  pub server_takes : (w : World) (log later : Log) (x : Stepped) → IsTaking S start w log later x → (n : ℕ) (s z : ServerState) → slice_get w.servers n ≡ Some s
      → slice_get x.outcome.world.servers n ≡ Some z
      → ServerMeans plan asked S start log n s → ServerTakes x n s z
  server_takes w log later x taking n s z there then o = elim (cases_eq taking.shard n) [
    | inl same ↦
        record {
          components = x.outcome.components;
          keeps = taking.servers.here s z (subst (λ n. slice_get w.servers n ≡ Some s) (sym same) there) (subst (λ n. slice_get x.outcome.world.servers n ≡ Some z) (sym same) then);
          at = λ k h. subst (λ n. IsTakenAt x (record { 0 = n }) k) same (taking.at k h);
          only = λ k t. t.has;
        }
    | inr other ↦
        record {
          components = [];
          keeps = subst (λ (z : ServerState). KeepsTaken s z []) (same_there w.servers n s z there (sym (taking.servers.elsewhere n other) ∙ then)) (keeps_still s s (state_itself s) refl o.taken.one);
          at = λ k h. absurd h;
          only = λ k t. absurd (other (taken_shard S start w log later x taking (record { 0 = n }) k t));
        }
  ]

  -- ---- in a run

  pub record KeptHere (log : Log) (steps : List Stepped) (n : ℕ) (s : ServerState) : Type 0 where
    -- of what it keeps nothing is over, and it is what it took last; what it took last it keeps, or that is over
    pub none_over : (c : List TxnId) → Has c s.lists.taken → is_over s.below c ≡ false
    pub kept_last : (c : List TxnId) (t : TxnId) → Has c s.lists.taken → Has t c → IsLastTaken steps (record { 0 = n }) t c
    pub last_kept :
        (c : List TxnId) (t : TxnId) → IsLastTaken steps (record { 0 = n }) t c
        → Has c s.lists.taken ⊎ ((is_over s.below c ≡ true) × ((e : List TxnId) → Has e s.lists.taken → ¬ Has t e))
    -- what it took first, of one that has a group here, it keeps; and of one that had one, that is over
    pub first_kept : (c : List TxnId) (t : TxnId) → IsFirstTaken steps (record { 0 = n }) t c → is_here t s.started ≡ true → Has c s.lists.taken
    pub first_over : (c : List TxnId) (t : TxnId) → IsFirstTaken steps (record { 0 = n }) t c → HasBegun plan asked S start log t n → is_here t s.started ≡ false → is_over s.below c ≡ true

  pub none_kept : (log : Log) (n : ℕ) (s : ServerState) → s.lists.taken ≡ [] → KeptHere log [] n s
  none_kept log n s none =
      record {
        none_over = λ c h. absurd (subst (Has c) none h);
        kept_last = λ c t h. absurd (subst (Has c) none h);
        last_kept = λ c t f. absurd (none_last (record { 0 = n }) t c f);
        first_kept = λ c t f. absurd (none_first (record { 0 = n }) t c f);
        first_over = λ c t f. absurd (none_first (record { 0 = n }) t c f);
      }

  module _ (is : IsSchemeOf plan asked S) (log later : Log) (i : LogInvariants S start.store log) (j : LogInvariants S start.store later) (g : LogGrows S start.store log later)
      (steps : List Stepped) (x : Stepped) (w : World) (taking : IsTaking S start w log later x) (a : AreTakenIn plan asked S start log steps)
      (n : ℕ) (s z : ServerState) (o : ServerMeans plan asked S start log n s) (p : ServerMeans plan asked S start later n z) (takes : ServerTakes x n s z) (kept : KeptHere log steps n s) where
    abbrev here : Shard
    here = record { 0 = n }

    keeps : KeepsTaken s z takes.components
    keeps = takes.keeps

    was : (c : List TxnId) → Has c s.lists.taken → Has c (s.lists.taken ++ takes.components)
    was c h = has_left c s.lists.taken takes.components h

    now : (c : List TxnId) → Has c takes.components → Has c (s.lists.taken ++ takes.components)
    now c h = has_right c s.lists.taken takes.components h

    none_over : (c : List TxnId) → Has c z.lists.taken → is_over z.below c ≡ false
    none_over = keeps.none_over kept.none_over

    -- a component of one that has a group here then is kept
    kept_with : (c : List TxnId) (t : TxnId) → Has c (s.lists.taken ++ takes.components) → Has t c → is_here t z.started ≡ true → Has c z.lists.taken
    kept_with c t h member k = elim (keeps.left c h) [ inl r ↦ r | inr r ↦ absurd (false≢true (sym (r.1 t member) ∙ k)) ]

    -- one of a transaction that lost its groups is over
    over_with : (c : List TxnId) (t : TxnId) → Has c (s.lists.taken ++ takes.components) → Has t c → is_here t s.started ≡ true → is_here t z.started ≡ false → is_over z.below c ≡ true
    over_with c t h member k away = elim (keeps.stays t k) [
      | inl r ↦ absurd (false≢true (sym away ∙ r))
      | inr r ↦ ap (is_over z.below) (keeps.apart c r.0 t h r.1 member r.2) ∙ r.3
    ]

    -- what it has then of a transaction that is in none of the newly taken, it had
    last_left : (c : List TxnId) (t : TxnId) → Has c (s.lists.taken ++ takes.components) → Has t c
        → Has c z.lists.taken ⊎ ((is_over z.below c ≡ true) × ((e : List TxnId) → Has e z.lists.taken → ¬ Has t e))
    last_left c t h member = elim (keeps.left c h) [
      | inl r ↦ inl r
      | inr r ↦ inr (r.0, λ e k x. false≢true (sym (none_over e k) ∙ (ap (is_over z.below) (keeps.apart e c t (keeps.from e k) h x member) ∙ r.0)))
    ]

    kept_last : (c : List TxnId) (t : TxnId) → Has c z.lists.taken → Has t c → IsLastTaken (steps ++ x ∷ []) here t c
    kept_last c t h member = elim (has_append c s.lists.taken takes.components (keeps.from c h)) [
      | inl k ↦ elim (listed_or_not is_txn (flat takes.components) t) [
        | inl l ↦
            (let e = listed_in takes.components t l in
            let same = keeps.apart e.0 c t (now e.0 e.1) (was c k) e.2 member in
            last_now steps x here t c (takes.at c (subst (λ c. Has c takes.components) same e.1)) member)
        | inr none ↦ last_more steps x here t c (kept.kept_last c t k member) (λ d q m. none (in_listed takes.components d t (takes.only d q) m))
      ]
      | inr k ↦ last_now steps x here t c (takes.at c k) member
    ]

    last_kept : (c : List TxnId) (t : TxnId) → IsLastTaken (steps ++ x ∷ []) here t c
        → Has c z.lists.taken ⊎ ((is_over z.below c ≡ true) × ((e : List TxnId) → Has e z.lists.taken → ¬ Has t e))
    last_kept c t f = elim (last_cases steps x here t c f) [
      | inl k ↦ elim (kept.last_kept c t k.0) [
        | inl h ↦ last_left c t (was c h) k.0.member
        | inr r ↦ inr (
          over_still s z takes.components keeps c r.0,
          λ e h m. elim (has_append e s.lists.taken takes.components (keeps.from e h)) [ inl q ↦ r.1 e q m | inr q ↦ k.1 e (takes.at e q) m ],
        )
      ]
      | inr k ↦ last_left c t (now c (takes.only c k.0)) k.1
    ]

    first_kept : (c : List TxnId) (t : TxnId) → IsFirstTaken (steps ++ x ∷ []) here t c → is_here t z.started ≡ true → Has c z.lists.taken
    first_kept c t f h = elim (first_cases steps x here t c f) [
      | inl k ↦
          (let b = begun_before plan asked S start is log later i j g t n (first_decided plan asked S start log steps a here c t k) (here_begun plan asked S start later n z p t h) in
          elim (begun_here plan asked S start log n s o t b) [
            | inl r ↦ kept_with c t (was c (kept.first_kept c t k r)) k.member h
            | inr gone ↦ absurd (false≢true (sym (keeps.gone t gone).nowhere ∙ h))
          ])
      | inr k ↦ kept_with c t (now c (takes.only c k.0)) k.1 h
    ]

    first_over : (c : List TxnId) (t : TxnId) → IsFirstTaken (steps ++ x ∷ []) here t c → HasBegun plan asked S start later t n → is_here t z.started ≡ false → is_over z.below c ≡ true
    first_over c t f b away = elim (first_cases steps x here t c f) [
      | inl k ↦ early k (begun_before plan asked S start is log later i j g t n (first_decided plan asked S start log steps a here c t k) b) (is_here t s.started) refl
      | inr k ↦ late k (begun_as_taken plan asked S start is log later i j g steps x w taking a t n c k.0.has b)
    ]
      where
        early : IsFirstTaken steps here t c → HasBegun plan asked S start log t n → (b : Bool) → is_here t s.started ≡ b → is_over z.below c ≡ true
        early k b true e = over_with c t (was c (kept.first_kept c t k e)) k.member e away
        early k b false e = over_still s z takes.components keeps c (kept.first_over c t k b e)

        late : IsTakenAt x here c × Has t c × ((y : Stepped) (d : List TxnId) → Has y steps → IsTakenAt y here d → ¬ Has t d) → HasBegun plan asked S start log t n → is_over z.below c ≡ true
        late k b = elim (begun_here plan asked S start log n s o t b) [
          | inl e ↦ over_with c t (now c (takes.only c k.0)) k.1 e away
          | inr gone ↦ (let q = a.first here t (o.forgot t b gone).0 in absurd (k.2 q.1.step q.0 (first_step steps here t q.0 q.1) q.1.taken q.1.member))
        ]

    pub kept_on : KeptHere later (steps ++ x ∷ []) n z
    kept_on = record { none_over = none_over; kept_last = kept_last; last_kept = last_kept; first_kept = first_kept; first_over = first_over }

  -- ---- of all servers

  pub record AreKeptIn (w : World) (log : Log) (steps : List Stepped) : Type 0 where
    pub taken : AreTakenIn plan asked S start log steps
    pub kept : (n : ℕ) (s : ServerState) → slice_get w.servers n ≡ Some s → KeptHere log steps n s

  abbrev AllMean : Log → World → Type 0
  AllMean log w = (n : ℕ) (s : ServerState) → slice_get w.servers n ≡ Some s → ServerMeans plan asked S start log n s

  pub are_kept_on : (is : IsSchemeOf plan asked S) (log later : Log) → LogInvariants S start.store log → LogInvariants S start.store later → LogGrows S start.store log later
      → (steps : List Stepped) (x : Stepped) (w : World)
      → IsTaking S start w log later x → AllMean log w → AllMean later x.outcome.world → AreKeptIn w log steps → AreKeptIn x.outcome.world later (steps ++ x ∷ [])
  are_kept_on is log later i j g steps x w taking o p a =
      record {
        taken = takes_on plan asked S start is log later i j g steps x w taking a.taken;
        kept = λ n z then.
            (let was = taking.servers.were n z then in
            kept_on is log later i j g steps x w taking a.taken n was.0 z (o n was.0 was.1) (p n z then)
            (server_takes w log later x taking n was.0 z was.1 then (o n was.0 was.1)) (a.kept n was.0 was.1));
      }
