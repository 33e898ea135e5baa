-- The first component, and the last one, that a server took with a transaction, as a run goes on
use Rattle.std.proofs.Common.{◌≡◌, ◌≢◌, ℕ, ◌-◌, List, [], ◌∷◌, ◌++◌, Option, Some, None, refl, sym, ap, subst, ◌∙◌, ◌⊎◌, inl, inr, append_assoc}
use Rattle.std.specs.Prelude.{slice_get, option_map}
use Rattle.roc_sequence.specs.Lists.{Has}
use Rattle.roc_sequence.proofs.Members.{same_there, has_left, has_right, has_more}
use Rattle.roc_base.specs.declared.id.TxnId.{TxnId}
use Rattle.roc_base.specs.declared.node.Shard.{Shard}
use Rattle.roc_base.specs.declared.node.Node.TheVariants.{Server}
use Rattle.roc_msg.specs.declared.msg.Envelope.{Envelope}
use Rattle.roc_law_protocol.specs.Run.{Stepped}
use Rattle.roc_law_protocol.specs.declared.event.Event.{Event}
use Rattle.roc_law_protocol.specs.declared.event.Event.TheVariants.{Deliver, Stop}
use Rattle.roc_law_protocol.specs.declared.event.Kept.{Kept}
use Rattle.roc_law_protocol.specs.Forgotten.{Brings, delivers, stops_at, IsTakenAt, IsFirstTaken, IsLastTaken}

-- where an element stands in a list with one more at its end: it is that one, or it stood there
pub at_end : {A : Type 0} (xs front behind : List A) (x y : A) → xs ++ x ∷ [] ≡ front ++ y ∷ behind
    → ((xs ≡ front) × (x ≡ y) × (behind ≡ [])) ⊎ ((rest : List A) × (xs ≡ front ++ y ∷ rest) × (behind ≡ rest ++ x ∷ []))
at_end [] [] behind x y e = inl (refl, cc, cc)
at_end [] (z ∷ front) behind x y e = absurd (none front (cc))
  where
    none : (front : List _) → [] ≢ front ++ y ∷ behind
    none [] e = cc
    none (z ∷ front) e = cc
at_end (a ∷ xs) [] behind x y e =
    let head : a ≡ y = cc in
    let tail : xs ++ x ∷ [] ≡ behind = cc in
    inr (xs, (λ i. head i ∷ xs), sym tail)
at_end {A} (a ∷ xs) (z ∷ front) behind x y e =
    let head : a ≡ z = cc in
    let tail : xs ++ x ∷ [] ≡ front ++ y ∷ behind = cc in
    elim (at_end xs front behind x y tail) [
      | inl k ↦ inl ((λ i. head i ∷ k.0 i), k.1, k.2)
      | inr k ↦ inr (k.0, (λ i. head i ∷ k.1 i), k.2)
    ]

-- the message that an event brings
abbrev brought : Option Event → Option ℕ
brought (Some (Deliver k)) = Some k
brought (Some (Stop shard during)) = option_map (λ (p : ℕ × Kept). p.0) during
brought e = None

brought_is : (e : Option Event) (k : ℕ) → Brings e k → brought e ≡ Some k
brought_is e k (delivers n) = refl
brought_is e k (stops_at shard n many) = refl

pub brings_one : (e : Option Event) (k j : ℕ) → Brings e k → Brings e j → k ≡ j
brings_one e k j a b = let both : Some k ≡ Some j = sym (brought_is e k a) ∙ brought_is e j b in cc

-- a step is of one server
pub taken_once : (x : Stepped) (m n : Shard) (c d : List TxnId) → IsTakenAt x m c → IsTakenAt x n d → m ≡ n
taken_once x m n c d a b =
    let at : a.k ≡ b.k = brings_one x.event a.k b.k a.brings b.brings in
    let same = same_there x.outcome.world.sent (b.k - 1) a.message b.message (subst (λ k. slice_get x.outcome.world.sent (k - 1) ≡ Some a.message) at a.is) b.is in
    let to : a.message.to ≡ b.message.to = ap (λ (m : Envelope). m.to) same in
    let one : Server m ≡ Server n = sym a.to ∙ (to ∙ b.to) in
    cc

module _ (steps : List Stepped) (x : Stepped) (shard : Shard) (t : TxnId) where
  -- the run took it in none of its steps so far
  abbrev pub WasNever : Type 0
  WasNever = (y : Stepped) (d : List TxnId) → Has y steps → IsTakenAt y shard d → ¬ Has t d

  -- what was the first or the last one is so still
  pub first_more : (c : List TxnId) → IsFirstTaken steps shard t c → IsFirstTaken (steps ++ x ∷ []) shard t c
  first_more c f =
      record {
        front = f.front;
        step = f.step;
        behind = f.behind ++ x ∷ [];
        at = ap (λ l. l ++ x ∷ []) f.at ∙ append_assoc f.front (f.step ∷ f.behind) (x ∷ []);
        taken = f.taken;
        member = f.member;
        none = f.none;
      }

  pub last_more : (c : List TxnId) → IsLastTaken steps shard t c → ((d : List TxnId) → IsTakenAt x shard d → ¬ Has t d) → IsLastTaken (steps ++ x ∷ []) shard t c
  last_more c f nothing =
      record {
        front = f.front;
        step = f.step;
        behind = f.behind ++ x ∷ [];
        at = ap (λ l. l ++ x ∷ []) f.at ∙ append_assoc f.front (f.step ∷ f.behind) (x ∷ []);
        taken = f.taken;
        member = f.member;
        none = λ y d h k. elim (has_more y x f.behind h) [ inl was ↦ f.none y d was k | inr now ↦ nothing d (subst (λ (y : Stepped). IsTakenAt y shard d) now k) ];
      }

  -- and one that is taken now
  pub first_now : (c : List TxnId) → IsTakenAt x shard c → Has t c → WasNever → IsFirstTaken (steps ++ x ∷ []) shard t c
  first_now c taken member never = record { front = steps; step = x; behind = []; at = refl; taken = taken; member = member; none = never }

  pub last_now : (c : List TxnId) → IsTakenAt x shard c → Has t c → IsLastTaken (steps ++ x ∷ []) shard t c
  last_now c taken member = record { front = steps; step = x; behind = []; at = refl; taken = taken; member = member; none = λ y d h k. absurd h }

  -- there are no others
  pub first_cases : (c : List TxnId) → IsFirstTaken (steps ++ x ∷ []) shard t c → IsFirstTaken steps shard t c ⊎ (IsTakenAt x shard c × Has t c × WasNever)
  first_cases c f = elim (at_end steps f.front f.behind x f.step f.at) [
    | inl k ↦ inr (subst (λ (y : Stepped). IsTakenAt y shard c) (sym k.1) f.taken, f.member, subst (λ l. (y : Stepped) (d : List TxnId) → Has y l → IsTakenAt y shard d → ¬ Has t d) (sym k.0) f.none)
    | inr k ↦ inl (record { front = f.front; step = f.step; behind = k.0; at = k.1; taken = f.taken; member = f.member; none = f.none })
  ]

  pub last_cases : (c : List TxnId) → IsLastTaken (steps ++ x ∷ []) shard t c
      → (IsLastTaken steps shard t c × ((d : List TxnId) → IsTakenAt x shard d → ¬ Has t d)) ⊎ (IsTakenAt x shard c × Has t c)
  last_cases c f = elim (at_end steps f.front f.behind x f.step f.at) [
    | inl k ↦ inr (subst (λ (y : Stepped). IsTakenAt y shard c) (sym k.1) f.taken, f.member)
    | inr k ↦ inl (
      record {
        front = f.front;
        step = f.step;
        behind = k.0;
        at = k.1;
        taken = f.taken;
        member = f.member;
        none = λ y d h. f.none y d (subst (Has y) (sym k.2) (has_left y k.0 (x ∷ []) h));
      },
      λ d. f.none x d (subst (Has x) (sym k.2) (has_right x k.0 (x ∷ []) (inl refl))),
    )
  ]

-- a run of no steps took nothing
pub none_first : (shard : Shard) (t : TxnId) (c : List TxnId) → ¬ IsFirstTaken [] shard t c
none_first shard t c f = nothing f.front f.at
  where
    nothing : (front : List Stepped) → [] ≢ front ++ f.step ∷ f.behind
    nothing [] e = cc
    nothing (z ∷ front) e = cc

pub none_last : (shard : Shard) (t : TxnId) (c : List TxnId) → ¬ IsLastTaken [] shard t c
none_last shard t c f = nothing f.front f.at
  where
    nothing : (front : List Stepped) → [] ≢ front ++ f.step ∷ f.behind
    nothing [] e = cc
    nothing (z ∷ front) e = cc

-- the step of the first one is a step of the run
pub first_step : (steps : List Stepped) (shard : Shard) (t : TxnId) (c : List TxnId) (f : IsFirstTaken steps shard t c) → Has f.step steps
first_step steps shard t c f = subst (Has f.step) (sym f.at) (has_right f.step f.front (f.step ∷ f.behind) (inl refl))

pub last_step : (steps : List Stepped) (shard : Shard) (t : TxnId) (c : List TxnId) (f : IsLastTaken steps shard t c) → Has f.step steps
last_step steps shard t c f = subst (Has f.step) (sym f.at) (has_right f.step f.front (f.step ∷ f.behind) (inl refl))
