-- What `merge` answers, in each case
use Rattle.std.proofs.Common.{◌≡◌, ◌↔◌, ℕ, Bool, Result, Ok, Err, IsOk, IsErrOf, refl, subst, ◌⊎◌, inl, inr}
use Rattle.std.proofs.lemmas.Bool.{false≢true}
use Rattle.roc_program.specs.Program.{Workload}
use Rattle.roc_program.specs.declared.piece_id.PieceId.{PieceId}
use Rattle.roc_merge_groups.specs.Core.{IsAcceptable}
use Rattle.roc_merge_groups.specs.Refusals.{IsApart, IsBlocked}
use Rattle.roc_merge.specs.declared.refusal.Refusal.{Refusal}
use Rattle.roc_merge.specs.declared.refusal.Refusal.TheVariants.{Apart, Blocked, NoMemory}
use Rattle.roc_merge.specs.Inner.Firsts.{IsJoined, IsClear}
use Rattle.roc_merge.proofs.Firsts.{not_apart, not_in_the_way, one_pair, one_three, acceptable_from, apart_unacceptable, blocked_unacceptable}

module _ (program : Workload) (is_immediate : PieceId → Bool) where
  none_is_apart : ((proc p q : ℕ) → IsJoined program is_immediate proc p q) → (a b : PieceId) → IsApart program is_immediate a b → ⊥
  none_is_apart joined a b other = not_apart program is_immediate a b (joined a.proc a.piece b.piece) other.is

  none_is_blocked : ((proc p q x : ℕ) → IsClear program is_immediate proc p q x) → (a b c : PieceId) → IsBlocked program is_immediate a b c → ⊥
  none_is_blocked clear a b c other = not_in_the_way program is_immediate a b c (clear a.proc a.piece b.piece c.piece) other.is

module _ {T : Type 0} (program : Workload) (is_immediate : PieceId → Bool) where
  -- two clauses of the contract, of an answer
  abbrev pub TellsAcceptable : Result T Refusal → Type 0
  TellsAcceptable r = IsAcceptable program is_immediate ↔ (IsOk r ⊎ IsErrOf r NoMemory)

  abbrev pub TellsApart : Result T Refusal → Type 0
  TellsApart r = (p q : PieceId) → IsErrOf r (Apart p q) ↔ IsApart program is_immediate p q

  abbrev pub TellsBlocked : Result T Refusal → Type 0
  TellsBlocked r = (p q x : PieceId) → IsErrOf r (Blocked p q x) ↔ IsBlocked program is_immediate p q x

  -- two are apart
  module _ (p q : PieceId) (is : IsApart program is_immediate p q) where
    pub apart_acceptable : TellsAcceptable (Err (Apart p q))
    apart_acceptable = (λ all. absurd (apart_unacceptable program is_immediate p q is.is all), λ h. elim h [ inl f ↦ absurd (false≢true f) | inr e ↦ absurd (cc) ])

    pub apart_apart : TellsApart (Err (Apart p q))
    apart_apart a b = (
      λ e. let f : p ≡ a = cc in let g : q ≡ b = cc in subst (λ m. IsApart program is_immediate m b) f (subst (λ n. IsApart program is_immediate p n) g is),
      λ other. let r = one_pair program is_immediate p q a b is other in let f : p ≡ a = r.0 in let g : q ≡ b = r.1 in cc,
    )

    pub apart_blocked : TellsBlocked (Err (Apart p q))
    apart_blocked a b c = (λ e. absurd (cc), λ other. absurd (other.none_apart p q is.is))

  -- one is in the way
  module _ (p q x : PieceId) (is : IsBlocked program is_immediate p q x) where
    pub blocked_acceptable : TellsAcceptable (Err (Blocked p q x))
    blocked_acceptable = (λ all. absurd (blocked_unacceptable program is_immediate p q x is.is all), λ h. elim h [ inl f ↦ absurd (false≢true f) | inr e ↦ absurd (cc) ])

    pub blocked_apart : TellsApart (Err (Blocked p q x))
    blocked_apart a b = (λ e. absurd (cc), λ other. absurd (is.none_apart a b other.is))

    pub blocked_blocked : TellsBlocked (Err (Blocked p q x))
    blocked_blocked a b c = (
      λ e. let f : p ≡ a = cc in let g : q ≡ b = cc in let h : x ≡ c = cc in
          subst (λ m. IsBlocked program is_immediate m b c) f (subst (λ n. IsBlocked program is_immediate p n c) g (subst (λ k. IsBlocked program is_immediate p q k) h is)),
      λ other. let r = one_three program is_immediate p q x a b c is other in let f : p ≡ a = r.0 in let g : q ≡ b = r.1 in let h : x ≡ c = r.2 in cc,
    )

  -- none is
  module _ (joined : (proc p q : ℕ) → IsJoined program is_immediate proc p q) (clear : (proc p q x : ℕ) → IsClear program is_immediate proc p q x) where
    pub ok_acceptable : (value : T) → TellsAcceptable (Ok value)
    ok_acceptable value = (λ all. inl refl, λ h. acceptable_from program is_immediate joined clear)

    pub ok_apart : (value : T) → TellsApart (Ok value)
    ok_apart value a b = (λ e. absurd (cc), λ other. absurd (none_is_apart program is_immediate joined a b other))

    pub ok_blocked : (value : T) → TellsBlocked (Ok value)
    ok_blocked value a b c = (λ e. absurd (cc), λ other. absurd (none_is_blocked program is_immediate clear a b c other))

    pub memory_acceptable : (r : Result T Refusal) → r ≡ Err NoMemory → TellsAcceptable r
    memory_acceptable r e = (λ all. inr e, λ h. acceptable_from program is_immediate joined clear)

    pub memory_apart : (r : Result T Refusal) → r ≡ Err NoMemory → TellsApart r
    memory_apart r e a b = (λ f. absurd (cc), λ other. absurd (none_is_apart program is_immediate joined a b other))

    pub memory_blocked : (r : Result T Refusal) → r ≡ Err NoMemory → TellsBlocked r
    memory_blocked r e a b c = (λ f. absurd (cc), λ other. absurd (none_is_blocked program is_immediate clear a b c other))
