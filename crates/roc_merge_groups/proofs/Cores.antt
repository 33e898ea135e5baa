-- Which pieces are in the core, and that they are immediate
use Rattle.std.proofs.Common.{◌≡◌, ◌↔◌, ℕ, Bool, true, IsTrue, refl, sym, ap, subst, ◌∙◌, ◌⊎◌, inl, inr}
use Rattle.std.proofs.lemmas.Bool.{and_parts}
use Rattle.roc_program.specs.Program.{Workload}
use Rattle.roc_program.specs.WellFormed.{IsProgram}
use Rattle.roc_program.specs.declared.piece_id.PieceId.{PieceId}
use Rattle.roc_conflict.specs.Immediate.{IsImmediate, declared}
use Rattle.roc_conflict.specs.Contended.{has_conflict, is_contended}
use Rattle.roc_conflict.proofs.Present.{present_from_now}
use Rattle.roc_merge_groups.specs.Groups.{piece_numbered}
use Rattle.roc_merge_groups.specs.Flow.{feeds, Leads, directly, onward}
use Rattle.roc_merge_groups.specs.Core.{InCore, contended, between}
use Rattle.roc_merge_groups.proofs.Forward.{now_before}

-- a path behind a path
pub leads_through : (step : ℕ → ℕ → Bool) (a b c : ℕ) → Leads step a b → Leads step b c → Leads step a c
leads_through step a b _ h (directly {to} k) = onward h k
leads_through step a b _ h (onward {by} {to} k m) = onward (leads_through step a b by h k) m

module _ (program : Workload) (is_immediate : PieceId → Bool) (proc : ℕ) where
  abbrev pub In : ℕ → Type 0
  In x = InCore program is_immediate proc x

  abbrev pub Path : ℕ → ℕ → Type 0
  Path x y = (x ≡ y) ⊎ Leads (feeds program proc) x y

  abbrev pub Meets : ℕ → Type 0
  Meets x = IsTrue (is_contended program is_immediate (piece_numbered proc x))

  -- x leads to the core, and the core leads to it
  pub record IsAhead (x : ℕ) : Type 0 where
    pub core : ℕ
    pub is : In core
    pub path : Path x core

  pub record IsBehind (x : ℕ) : Type 0 where
    pub core : ℕ
    pub is : In core
    pub path : Path core x

  pub path_through : (x y z : ℕ) → Path x y → Path y z → Path x z
  path_through x y z (inl e) h = subst (λ k. Path k z) (sym e) h
  path_through x y z (inr h) (inl e) = subst (λ k. Path x k) e (inr h)
  path_through x y z (inr h) (inr k) = inr (leads_through (feeds program proc) x y z h k)

  -- a piece of the core is on a path from a contended piece, and on one to a contended piece
  before_core : (x : ℕ) → In x → (p : ℕ) × Meets p × Path p x
  before_core _ (contended {x} h) = (x, h, inl refl)
  before_core _ (between {p} {x} {q} h k b) = (p, h, inr b.behind)

  behind_core : (x : ℕ) → In x → (q : ℕ) × Meets q × Path x q
  behind_core _ (contended {x} h) = (x, h, inl refl)
  behind_core _ (between {p} {x} {q} h k b) = (q, k, inr b.before)

  on_both : (p x q : ℕ) → Meets p → Meets q → Path p x → Path x q → In x
  on_both p x q h k (inl e) m = contended (subst Meets e h)
  on_both p x q h k (inr l) (inl e) = contended (subst Meets (sym e) k)
  on_both p x q h k (inr l) (inr m) = between h k (record { behind = l; before = m })

  -- what leads to the core and is led to by it is in it
  pub core_from_both : (x : ℕ) → IsAhead x → IsBehind x → In x
  core_from_both x a b =
      let q = behind_core a.core a.is in
      let p = before_core b.core b.is in
      on_both p.0 x q.0 p.1 q.1 (path_through p.0 b.core x p.2 b.path) (path_through x a.core q.0 a.path q.2)

  module _ (is : IsProgram program) (least : (id : PieceId) → IsTrue (is_immediate id) ↔ IsImmediate program id) where
    meets_immediate : (x : ℕ) → Meets x → is_immediate (piece_numbered proc x) ≡ true
    meets_immediate x h = (and_parts (is_immediate (piece_numbered proc x)) (has_conflict program (piece_numbered proc x)) h).0

    pub core_immediate : (x : ℕ) → In x → is_immediate (piece_numbered proc x) ≡ true
    core_immediate _ (contended {x} h) = meets_immediate x h
    core_immediate _ (between {p} {x} {q} h k b) =
        elim (now_before program is proc x q b.before) [
          | inl e ↦ ap (λ n. is_immediate (piece_numbered proc n)) e ∙ meets_immediate q k
          | inr now ↦ (least (piece_numbered proc x)).1 (declared (present_from_now program (piece_numbered proc x) now) now)
        ]
