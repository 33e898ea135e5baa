-- What servers took in a run, as the log says it
use Rattle.std.proofs.Common.{ℕ, List, [], ◌∷◌, ◌++◌, refl, sym, subst, ◌∙◌, inl, inr, arith}
use Rattle.roc_sequence.specs.Lists.{Has}
use Rattle.roc_sequence.specs.Places.{IsListed}
use Rattle.roc_sequence.proofs.Members.{has_more}
use Rattle.roc_sequence.proofs.Places.{listed_or_not}
use Rattle.roc_base.specs.declared.id.TxnId.{TxnId}
use Rattle.roc_base.specs.declared.node.Shard.{Shard}
use Rattle.roc_base.specs.TxnId.{is_txn}
use Rattle.roc_component.specs.Components.{Mates}
use Rattle.roc_plan.specs.Groups.{Plan}
use Rattle.roc_whole.specs.Serial as whole
use Rattle.roc_law_log.specs.Scheme.{Scheme}
use Rattle.roc_law_log.specs.Log.{Log, first_log, PrecedesTxn}
use Rattle.roc_law_log.specs.Settled.{IsSettled}
use Rattle.roc_law_log.specs.Invariants.{LogInvariants, LogGrows}
use Rattle.roc_law_protocol.specs.PlanAssumptions.{IsSchemeOf}
use Rattle.roc_law_protocol.specs.Beginnings.{Beginning}
use Rattle.roc_law_protocol.specs.World.{World}
use Rattle.roc_law_protocol.specs.Run.{Stepped}
use Rattle.roc_law_protocol.specs.Forgotten.{IsTakenAt, IsFirstTaken}
use Rattle.roc_law_protocol.proofs.Means.{run_of, Began, HasBegun}
use Rattle.roc_law_protocol.proofs.Grows.{decided_grows, mates_grow, mates_back, place_grows}
use Rattle.roc_law_protocol.proofs.TakesOn.{IsTaking, taken_shard}
use Rattle.roc_law_protocol.proofs.FirstTaken.{first_step, first_cases, first_more, first_now}

module _ (plan : Plan) (asked : TxnId → whole.Call) (S : Scheme) (start : Beginning) where
  pub record AreTakenIn (log : Log) (steps : List Stepped) : Type 0 where
    -- what a server took, its shard decided, and it is in one component
    pub decided : (x : Stepped) (shard : Shard) (k : List TxnId) (t : TxnId) → Has x steps → IsTakenAt x shard k → Has t k → IsListed is_txn (log.decided shard.0) t
    pub mates : (x : Stepped) (shard : Shard) (k : List TxnId) (t u : TxnId) → Has x steps → IsTakenAt x shard k → Has t k → Has u k → Mates (PrecedesTxn S start.store log.past) t u
    -- the first of a transaction that has groups on the shard is a component as a whole
    pub whole : (shard : Shard) (k : List TxnId) (t u : TxnId) → IsFirstTaken steps shard t k → HasBegun plan asked S start log t shard.0 → Mates (PrecedesTxn S start.store log.past) t u → Has u k
    -- and what a shard decided, its server took
    pub first : (shard : Shard) (t : TxnId) → IsListed is_txn (log.decided shard.0) t → (k : List TxnId) × IsFirstTaken steps shard t k

  pub none_taken : AreTakenIn first_log []
  none_taken =
      record {
        decided = λ x shard k t h. absurd h;
        mates = λ x shard k t u h. absurd h;
        whole = λ shard k t u f. absurd (first_step [] shard t k f);
        first = λ shard t h. absurd (omega arith);
      }

  -- what the first is taken in, was decided
  pub first_decided : (log : Log) (steps : List Stepped) → AreTakenIn log steps → (shard : Shard) (k : List TxnId) (t : TxnId) → IsFirstTaken steps shard t k → IsListed is_txn (log.decided shard.0) t
  first_decided log steps a shard k t f = a.decided f.step shard k t (first_step steps shard t k f) f.taken f.member

  -- ---- as a run goes on

  module _ (is : IsSchemeOf plan asked S) (log later : Log) (i : LogInvariants S start.store log) (j : LogInvariants S start.store later) (g : LogGrows S start.store log later) where
    begun_with : (t : TxnId) (m : ℕ) (b : HasBegun plan asked S start later t m) → Began plan asked S start log (run_of t b.group) → HasBegun plan asked S start log t m
    begun_with t m b began = record { group = b.group; began = began; on = sym (place_grows plan asked S start is log later i j g (run_of t b.group) began) ∙ b.on }

    -- all groups of what was decided had begun
    pub begun_before : (t : TxnId) (m : ℕ) → IsListed is_txn (log.decided m) t → HasBegun plan asked S start later t m → HasBegun plan asked S start log t m
    begun_before t m h b = begun_with t m b (i.whole t (i.in_order m t h) b.group (j.are_groups (run_of t b.group) b.began))

    module _ (steps : List Stepped) (x : Stepped) (w : World) (taking : IsTaking S start w log later x) (a : AreTakenIn log steps) where
      -- no groups begin as something is taken
      pub begun_as_taken : (t : TxnId) (m : ℕ) (k : List TxnId) → Has k x.outcome.components → HasBegun plan asked S start later t m → HasBegun plan asked S start log t m
      begun_as_taken t m k h b = begun_with t m b (taking.takes.starts_none k h (run_of t b.group) b.began)

      -- what is settled as it is taken was taken before, if it has groups here
      settled_before : (shard : Shard) (t : TxnId) (k : List TxnId) → Has k x.outcome.components → HasBegun plan asked S start later t shard.0 → IsSettled S start.store later t
          → IsListed is_txn (log.decided shard.0) t
      unfolding begun_as_taken begun_with
      settled_before shard t k h b z =
          let was = begun_as_taken t shard.0 k h b in
          let throughout = i.answered t (subst (λ l. IsListed is_txn l t) (taking.takes.answers k h) (z t (inl refl))) in
          subst (λ m. IsListed is_txn (log.decided m) t) was.on (throughout.everywhere b.group (j.are_groups (run_of t b.group) b.began))

      pub takes_on : AreTakenIn later (steps ++ x ∷ [])
      takes_on =
          record {
            decided = λ y shard k t h taken member. elim (has_more y x steps h) [
              | inl was ↦ decided_grows plan asked S start is log later i j g shard.0 t (a.decided y shard k t was taken member)
              | inr now ↦
                  (let at = subst (λ (y : Stepped). IsTakenAt y shard k) now taken in
                  subst (λ m. IsListed is_txn (later.decided m) t) (taken_shard S start w log later x taking shard k at) (taking.takes.are_decided.decided k t at.has member))
            ];
            mates = λ y shard k t u h taken p q. elim (has_more y x steps h) [
              | inl was ↦ mates_grow plan asked S start is log later i j g t u (a.mates y shard k t u was taken p q)
              | inr now ↦ taking.takes.are_decided.mates k t u (subst (λ (y : Stepped). IsTakenAt y shard k) now taken).has p q
            ];
            whole = whole;
            first = first;
          }
        where
          never_first : (shard : Shard) (t : TxnId) → ((y : Stepped) (d : List TxnId) → Has y steps → IsTakenAt y shard d → ¬ Has t d) → ¬ IsListed is_txn (log.decided shard.0) t
          never_first shard t never h = let f = a.first shard t h in never f.1.step f.0 (first_step steps shard t f.0 f.1) f.1.taken f.1.member

          whole : (shard : Shard) (k : List TxnId) (t u : TxnId) → IsFirstTaken (steps ++ x ∷ []) shard t k → HasBegun plan asked S start later t shard.0
              → Mates (PrecedesTxn S start.store later.past) t u → Has u k
          whole shard k t u f b m = elim (first_cases steps x shard t k f) [
            | inl was ↦
                (let d = first_decided log steps a shard k t was in
                a.whole shard k t u was (begun_before t shard.0 d b) (mates_back plan asked S start is log later i j g t u (i.in_order shard.0 t d) m))
            | inr now ↦ elim (taking.takes.are_decided.whole k t u now.0.has now.1 m) [
              | inl h ↦ h
              | inr z ↦ absurd (never_first shard t now.2 (settled_before shard t k now.0.has b z))
            ]
          ]

          first : (shard : Shard) (t : TxnId) → IsListed is_txn (later.decided shard.0) t → (k : List TxnId) × IsFirstTaken (steps ++ x ∷ []) shard t k
          first shard t h = elim (taking.takes.took shard.0 t h) [
            | inl was ↦ before was
            | inr now ↦ elim (listed_or_not is_txn (log.decided shard.0) t) [
              | inl was ↦ before was
              | inr none ↦ (
                now.1,
                first_now steps x shard t now.1 (subst (λ n. IsTakenAt x (record { 0 = n }) now.1) now.0 (taking.at now.1 now.2)) now.3
                    (λ y d p q r. none (a.decided y shard d t p q r)),
              )
            ]
          ]
            where
              before : IsListed is_txn (log.decided shard.0) t → (k : List TxnId) × IsFirstTaken (steps ++ x ∷ []) shard t k
              before was = let f = a.first shard t was in (f.0, first_more steps x shard t f.0 f.1)
