-- The program of the generated workload: which pieces are immediate, and that its merged groups are there.
use Rattle.std.proofs.Common.{◌≡◌, ℕ, zero, suc, ◌<◌, Bool, true, false, IsTrue, List, [], ◌∷◌, length, get_or, map, refl, arith}
use Rattle.std.proofs.lemmas.Bool.{false≢true}
use Rattle.std.specs.Prelude.{◌↔◌, ◌&&◌}
use Rattle.roc_program.specs.Program.{Workload, Table, Init}
use Rattle.roc_program.specs.declared.piece_id.PieceId.{PieceId}
use Rattle.roc_program.specs.Pieces.{piece_of, pieces_in}
use Rattle.roc_program.specs.Conflict.{are_in_conflict}
use Rattle.roc_lang_resolve.specs.Resolve.{procedure}
use Rattle.roc_conflict.specs.Classes.{is_immediate}
use Rattle.roc_conflict.specs.Immediate.{IsImmediate, declared, in_conflict}
use Rattle.roc_conflict.specs.Contended.{is_contended, has_conflict}
use Rattle.roc_merge_groups.specs.Groups.{piece_numbered}
use Rattle.roc_merge_groups.specs.Flow.{feeds, Leads, directly, onward}
use Rattle.roc_merge_groups.specs.Core.{InCore, contended, between, IsAcceptable, AreCoLocated}
use Rattle.roc_merge_groups.specs.Grouping.{IsMergedIn, IsMerged}
use Rattle.roc_merge.specs.Grouped.{grouped}
use Rattle.roc_merge.proofs.Grouped.{grouped_merged}
use Rattle.roc_generate.proofs.Trees.{tables_tree, procedures_tree}

-- the first two pieces of mark are immediate
abbrev pub classes : List (List Bool)
classes = (false ∷ false ∷ []) ∷ (true ∷ true ∷ false ∷ []) ∷ []

-- a test that computes to false does not hold
never : {A : Type 0} → false ≡ true → A
never h = absurd (false≢true h)

module _ (shards line : ℕ) (tables : List Table) (inits : List Init) where
  abbrev pub program : Workload
  program = record { shards = shards; tables = tables; inits = inits; procedures = map (procedure (tables_tree 2)) (procedures_tree line) }

  abbrev at : ℕ → ℕ → PieceId
  at = piece_numbered

  -- ---- which pieces are immediate

  is_declared : (proc piece : ℕ) → is_immediate classes (at proc piece) ≡ true → IsImmediate program (at proc piece)
  is_declared zero zero h = never h
  is_declared zero (suc zero) h = never h
  is_declared zero (suc (suc piece)) h = never h
  is_declared (suc zero) zero h = declared (record { procedure = omega arith; piece = omega arith }) refl
  is_declared (suc zero) (suc zero) h = declared (record { procedure = omega arith; piece = omega arith }) refl
  is_declared (suc zero) (suc (suc zero)) h = never h
  is_declared (suc zero) (suc (suc (suc piece))) h = never h
  is_declared (suc (suc proc)) piece h = never h

  now_immediate : (proc piece : ℕ) → (piece_of program (at proc piece)).is_now ≡ true → is_immediate classes (at proc piece) ≡ true
  now_immediate zero zero h = never h
  now_immediate zero (suc zero) h = never h
  now_immediate zero (suc (suc piece)) h = never h
  now_immediate (suc zero) zero h = refl
  now_immediate (suc zero) (suc zero) h = refl
  now_immediate (suc zero) (suc (suc zero)) h = never h
  now_immediate (suc zero) (suc (suc (suc piece))) h = never h
  now_immediate (suc (suc proc)) piece h = never h

  -- what the piece of a number of mark conflicts with is immediate
  closed_from : (x : ℕ) → is_immediate classes (at 1 x) ≡ true → (proc piece : ℕ) → are_in_conflict program (at 1 x) (at proc piece) ≡ true → is_immediate classes (at proc piece) ≡ true
  closed_from zero i zero zero h = never h
  closed_from zero i zero (suc zero) h = never h
  closed_from zero i zero (suc (suc piece)) h = never h
  closed_from zero i (suc zero) zero h = refl
  closed_from zero i (suc zero) (suc zero) h = refl
  closed_from zero i (suc zero) (suc (suc zero)) h = never h
  closed_from zero i (suc zero) (suc (suc (suc piece))) h = never h
  closed_from zero i (suc (suc proc)) piece h = never h
  closed_from (suc zero) i zero zero h = never h
  closed_from (suc zero) i zero (suc zero) h = never h
  closed_from (suc zero) i zero (suc (suc piece)) h = never h
  closed_from (suc zero) i (suc zero) zero h = refl
  closed_from (suc zero) i (suc zero) (suc zero) h = refl
  closed_from (suc zero) i (suc zero) (suc (suc zero)) h = never h
  closed_from (suc zero) i (suc zero) (suc (suc (suc piece))) h = never h
  closed_from (suc zero) i (suc (suc proc)) piece h = never h
  closed_from (suc (suc zero)) i proc piece h = never i
  closed_from (suc (suc (suc x))) i proc piece h = never i

  closed : (p x : ℕ) → is_immediate classes (at p x) ≡ true → (proc piece : ℕ) → are_in_conflict program (at p x) (at proc piece) ≡ true → is_immediate classes (at proc piece) ≡ true
  closed zero zero i proc piece h = never i
  closed zero (suc zero) i proc piece h = never i
  closed zero (suc (suc x)) i proc piece h = never i
  closed (suc zero) x i proc piece h = closed_from x i proc piece h
  closed (suc (suc p)) x i proc piece h = never i

  immediate_known : {id : PieceId} → IsImmediate program id → is_immediate classes id ≡ true
  immediate_known (declared {id = id} has now) = now_immediate id.proc id.piece now
  immediate_known (in_conflict {one = one} {other = other} i h) = closed one.proc one.piece (immediate_known i) other.proc other.piece h

  pub are_immediate : (id : PieceId) → IsTrue (is_immediate classes id) ↔ IsImmediate program id
  are_immediate id = (λ h. is_declared id.proc id.piece h, λ i. immediate_known i)

  -- ---- the core

  left_of : (a b : Bool) → (a && b) ≡ true → a ≡ true
  left_of true b h = refl
  left_of false b h = never h

  contended_immediate : (proc x : ℕ) → is_contended program (is_immediate classes) (at proc x) ≡ true → is_immediate classes (at proc x) ≡ true
  contended_immediate proc x h = left_of (is_immediate classes (at proc x)) (has_conflict program (at proc x)) h

  fed_from : (y z : ℕ) → feeds program 1 z y ≡ true → is_immediate classes (at 1 y) ≡ true → is_immediate classes (at 1 z) ≡ true
  fed_from zero zero h i = never h
  fed_from zero (suc zero) h i = never h
  fed_from zero (suc (suc zero)) h i = never h
  fed_from zero (suc (suc (suc z))) h i = never h
  fed_from (suc zero) zero h i = refl
  fed_from (suc zero) (suc zero) h i = never h
  fed_from (suc zero) (suc (suc zero)) h i = never h
  fed_from (suc zero) (suc (suc (suc z))) h i = never h
  fed_from (suc (suc zero)) z h i = never i
  fed_from (suc (suc (suc y))) z h i = never i

  fed : (proc z y : ℕ) → feeds program proc z y ≡ true → is_immediate classes (at proc y) ≡ true → is_immediate classes (at proc z) ≡ true
  fed zero z zero h i = never i
  fed zero z (suc zero) h i = never i
  fed zero z (suc (suc y)) h i = never i
  fed (suc zero) z y h i = fed_from y z h i
  fed (suc (suc proc)) z y h i = never i

  led : (proc x : ℕ) {q : ℕ} → Leads (feeds program proc) x q → is_immediate classes (at proc q) ≡ true → is_immediate classes (at proc x) ≡ true
  led proc x (directly {to = q} h) i = fed proc x q h i
  led proc x (onward {by = y} {to = q} path h) i = led proc x path (fed proc y q h i)

  core_immediate : (proc x : ℕ) → InCore program (is_immediate classes) proc x → is_immediate classes (at proc x) ≡ true
  core_immediate proc x (contended h) = contended_immediate proc x h
  core_immediate proc x (between {q = q} p h b) = led proc x b.before (contended_immediate proc q h)

  immediate_core : (proc x : ℕ) → is_immediate classes (at proc x) ≡ true → InCore program (is_immediate classes) proc x
  immediate_core zero zero h = never h
  immediate_core zero (suc zero) h = never h
  immediate_core zero (suc (suc x)) h = never h
  immediate_core (suc zero) zero h = contended refl
  immediate_core (suc zero) (suc zero) h = contended refl
  immediate_core (suc zero) (suc (suc zero)) h = never h
  immediate_core (suc zero) (suc (suc (suc x))) h = never h
  immediate_core (suc (suc proc)) x h = never h

  -- ---- groups

  located_in : (x y : ℕ) → is_immediate classes (at 1 x) ≡ true → is_immediate classes (at 1 y) ≡ true → AreCoLocated program 1 x y
  located_in zero zero i j = refl
  located_in zero (suc zero) i j = refl
  located_in (suc zero) zero i j = refl
  located_in (suc zero) (suc zero) i j = refl
  located_in x (suc (suc zero)) i j = never j
  located_in x (suc (suc (suc y))) i j = never j
  located_in (suc (suc zero)) y i j = never i
  located_in (suc (suc (suc x))) y i j = never i

  located : (proc x y : ℕ) → is_immediate classes (at proc x) ≡ true → is_immediate classes (at proc y) ≡ true → AreCoLocated program proc x y
  located zero zero y i j = never i
  located zero (suc zero) y i j = never i
  located zero (suc (suc x)) y i j = never i
  located (suc zero) x y i j = located_in x y i j
  located (suc (suc proc)) x y i j = never i

  pub acceptable : IsAcceptable program (is_immediate classes)
  acceptable proc x y a b = located proc x y (core_immediate proc x a) (core_immediate proc y b)

  there : (proc x : ℕ) → is_immediate classes (at proc x) ≡ true → x < length (pieces_in program proc)
  there zero zero h = never h
  there zero (suc zero) h = never h
  there zero (suc (suc x)) h = never h
  there (suc zero) zero h = omega arith
  there (suc zero) (suc zero) h = omega arith
  there (suc zero) (suc (suc zero)) h = never h
  there (suc zero) (suc (suc (suc x))) h = never h
  there (suc (suc proc)) x h = never h

  merged_in : (proc : ℕ) → IsMergedIn program (is_immediate classes) proc (grouped (λ x. is_immediate classes (at proc x)) (length (pieces_in program proc)))
  merged_in proc = grouped_merged program (is_immediate classes) proc (λ x. is_immediate classes (at proc x)) (λ x. (λ h. immediate_core proc x h, λ c. core_immediate proc x c)) (λ x c. there proc x (core_immediate proc x c))

  -- each piece of pay is a group, and those of mark that are immediate are one
  abbrev pub groups : List (List (List ℕ))
  groups = ((0 ∷ []) ∷ (1 ∷ []) ∷ []) ∷ ((0 ∷ 1 ∷ []) ∷ (2 ∷ []) ∷ []) ∷ []

  pub merged : IsMerged program (is_immediate classes) groups
  merged = record { procedures = refl; each = of_procedure }
    where
      of_procedure : (proc : ℕ) → proc < 2 → IsMergedIn program (is_immediate classes) proc (get_or groups proc [])
      of_procedure zero h = merged_in 0
      of_procedure (suc zero) h = merged_in 1
      of_procedure (suc (suc proc)) h = absurd (omega arith)
