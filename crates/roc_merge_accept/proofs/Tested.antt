-- Accepted groups by what is tested of each procedure
use Rattle.std.proofs.Common.{◌≡◌, ◌≢◌, ◌∙◌, ℕ, ◌<◌, ◌≤◌, Bool, true, List, length, filter, sym, subst, arith}
use Rattle.std.proofs.lemmas.Bool.{and_parts}
use Rattle.std.specs.List.{AllByRecursion}
use Rattle.roc_sequence.specs.Lists.{Has}
use Rattle.roc_sequence.proofs.Holds.{all_has, has_all, any_has, has_any, all_at}
use Rattle.roc_program.specs.LookUps.{no_procedure}
use Rattle.roc_program.specs.Program.{Workload}
use Rattle.roc_program.specs.Pieces.{pieces_in, HasPiece, all_pieces}
use Rattle.roc_program.specs.Conflict.{are_in_conflict}
use Rattle.roc_program.specs.WellFormed.{IsProcedure, IsProgram}
use Rattle.roc_program.specs.declared.piece_id.PieceId.{PieceId}
use Rattle.roc_conflict.specs.Contended.{has_conflict, is_contended}
use Rattle.roc_conflict.proofs.Members.{found_by_any}
use Rattle.roc_conflict.proofs.Mirrored.{conflict_mirrored}
use Rattle.roc_conflict.proofs.Present.{present_from_conflict}
use Rattle.roc_merge_groups.specs.Groups.{piece_numbered}
use Rattle.roc_merge_groups.specs.Flow.{Leads}
use Rattle.roc_merge_groups.specs.Grouping.{IsGrouping}
use Rattle.roc_merge_groups.specs.Accepted.{group_feeds, IsAcceptedIn}
use Rattle.roc_merge_accept.specs.Inner.Tests.{IsAlike, has_contended, AreContendedIn}
use Rattle.roc_merge_accept.proofs.Parting.{one_passes, few_pass, few_groups, not_before_itself}

-- a contended piece is there
pub contended_there : (program : Workload) (is_immediate : PieceId → Bool) (proc x : ℕ) → is_contended program is_immediate (piece_numbered proc x) ≡ true → HasPiece program (piece_numbered proc x)
contended_there program is_immediate proc x h =
    let id = piece_numbered proc x in
    let o = found_by_any (are_in_conflict program id) (all_pieces program) (and_parts (is_immediate id) (has_conflict program id) h).1 in
    present_from_conflict program o.0 id (conflict_mirrored program o.0 id ∙ o.1)

-- a procedure has no more groups than it may have pieces
pub few_groups_in : (program : Workload) (proc : ℕ) (groups : List (List ℕ)) → IsProgram program → proc < length program.procedures → IsGrouping (length (pieces_in program proc)) groups → length groups ≤ 16
few_groups_in program proc groups well below is =
    let few = few_groups (length (pieces_in program proc)) groups is in
    let limit = (all_at (IsProcedure program.tables) program.procedures proc no_procedure well.procedures below).few_pieces in
    omega arith

module _ (program : Workload) (is_immediate : PieceId → Bool) (proc : ℕ) (groups : List (List ℕ)) where
  pub accepted_in : IsGrouping (length (pieces_in program proc)) groups → AllByRecursion (IsAlike program is_immediate proc) groups
      → ((g h : ℕ) → g ≢ h → Leads (group_feeds program proc groups) g h → ¬ Leads (group_feeds program proc groups) h g) → IsAcceptedIn program is_immediate proc groups
  accepted_in grouping alike none = record {
    grouping = grouping;
    co_located = λ x y n t. (all_has (IsAlike program is_immediate proc) t.group groups alike t.is).co_located x y n t.one t.other;
    immediate = λ x y n t. (all_has (IsAlike program is_immediate proc) t.group groups alike t.is).immediate x y n t.one t.other;
    no_circle = none;
  }

  pub alike_in : IsAcceptedIn program is_immediate proc groups → AllByRecursion (IsAlike program is_immediate proc) groups
  alike_in is = has_all (IsAlike program is_immediate proc) groups (λ g gs. record {
    co_located = λ x y n hx hy. is.co_located x y n (record { group = g; is = gs; one = hx; other = hy });
    immediate = λ x y n hx hy. is.immediate x y n (record { group = g; is = gs; one = hx; other = hy });
  })

  module _ (is : IsGrouping (length (pieces_in program proc)) groups) where
    pub together_from_few : length (filter (has_contended program is_immediate proc) groups) ≤ 1 → AreContendedIn program is_immediate proc groups
    together_from_few few x y cx cy =
        let t = (is.whole x).0 (contended_there program is_immediate proc x cx).piece in
        let u = (is.whole y).0 (contended_there program is_immediate proc y cy).piece in
        let same = one_passes (has_contended program is_immediate proc) groups t.group u.group few t.is u.is
        (has_any (λ z. is_contended program is_immediate (piece_numbered proc z)) t.group x t.one cx) (has_any (λ z. is_contended program is_immediate (piece_numbered proc z)) u.group y u.one cy) in
        record { group = t.group; is = t.is; one = t.one; other = subst (λ g. Has y g) (sym same) u.one }

    pub few_from_together : AreContendedIn program is_immediate proc groups → length (filter (has_contended program is_immediate proc) groups) ≤ 1
    few_from_together are =
        few_pass _ (has_contended program is_immediate proc) groups not_before_itself is.numbered
        (λ g h gs hs cg ch.
        let x = any_has (λ z. is_contended program is_immediate (piece_numbered proc z)) g cg in
        let y = any_has (λ z. is_contended program is_immediate (piece_numbered proc z)) h ch in
        let t = are x.0 y.0 x.2 y.2 in
        is.once g t.group x.0 gs t.is x.1 t.one ∙ sym (is.once h t.group y.0 hs t.is y.1 t.other))
