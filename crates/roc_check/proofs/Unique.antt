-- A text has one plan or one refusal
use Rattle.std.proofs.Common.{◌≡◌, ℕ, Bool, true, false, IsTrue, List, refl, sym, ap, subst, ◌∙◌}
use Rattle.std.proofs.Math.Path.{fun_ext}
use Rattle.roc_lang_parse.proofs.Unique.{one_tree}
use Rattle.roc_program.specs.Program.{Workload}
use Rattle.roc_program.specs.declared.piece_id.PieceId.{PieceId}
use Rattle.roc_lang_resolve.specs.Resolve.{resolved}
use Rattle.roc_scgraph.specs.declared.vertex.Vertex.{Vertex}
use Rattle.roc_witness.specs.Shortest.{IsShortestOf}
use Rattle.roc_witness.proofs.Single.{one_cycle}
use Rattle.roc_merge_groups.specs.Core.{IsAcceptable}
use Rattle.roc_merge_groups.specs.Grouping.{IsMerged}
use Rattle.roc_merge_groups.specs.Refusals.{IsApart, IsBlocked}
use Rattle.roc_merge.proofs.Firsts.{one_pair, one_three, apart_unacceptable, blocked_unacceptable}
use Rattle.roc_plan.specs.Groups.{Plan}
use Rattle.roc_plan.specs.Accepted.{grouped_plan}
use Rattle.roc_report.specs.Checked.{CheckedLine, Apart, Blocked}
use Rattle.roc_check.specs.Checked.{AreImmediate, IsPlanOf, IsRefusedBy, apart, blocked, IsTextOf, IsPlanOfText}

-- tests that hold alike are the same
alike : (a b : Bool) → (IsTrue a → IsTrue b) → (IsTrue b → IsTrue a) → a ≡ b
alike true true f g = refl
alike false false f g = refl
alike true false f g = sym (f refl)
alike false true f g = g refl

module _ (program : Workload) where
  one_set : (one other : PieceId → Bool) → AreImmediate program one → AreImmediate program other → one ≡ other
  one_set one other f g = fun_ext (λ id. alike (one id) (other id) (λ h. (g id).1 ((f id).0 h)) (λ h. (f id).1 ((g id).0 h)))

  -- where merging gives one grouping
  one_plan : ((i : PieceId → Bool) (groups others : List (List (List ℕ))) → IsMerged program i groups → IsMerged program i others → groups ≡ others)
      → (one other : Plan) → IsPlanOf program one → IsPlanOf program other → one ≡ other
  one_plan single one other a b =
      let e : a.immediate ≡ b.immediate = one_set a.immediate b.immediate a.are_immediate b.are_immediate in
      let m : IsMerged program b.immediate a.groups = subst (λ i. IsMerged program i a.groups) e a.merged in
      let g : a.groups ≡ b.groups = single b.immediate a.groups b.groups m b.merged in
      a.is ∙ (ap (λ i. grouped_plan program i a.groups) e ∙ (ap (grouped_plan program b.immediate) g ∙ sym b.is))

  pub plan_not_refused : (plan : Plan) (line : CheckedLine) → IsPlanOf program plan → IsRefusedBy program line → ⊥
  plan_not_refused plan _ a (apart immediate p q cycle are is short) =
      let e : a.immediate ≡ immediate = one_set a.immediate immediate a.are_immediate are in
      apart_unacceptable program immediate p q is.is (subst (IsAcceptable program) e a.acceptable)
  plan_not_refused plan _ a (blocked immediate p q x cycle are is short) =
      let e : a.immediate ≡ immediate = one_set a.immediate immediate a.are_immediate are in
      blocked_unacceptable program immediate p q x is.is (subst (IsAcceptable program) e a.acceptable)

  -- refusals by one set of immediate pieces
  same_apart : (i : PieceId → Bool) (p q a b : PieceId) (c d : List Vertex) → IsApart program i p q → IsApart program i a b → IsShortestOf program i p q c → IsShortestOf program i a b d → Apart p q c ≡ Apart a b d
  same_apart i p q a b c d one other s t =
      let r = one_pair program i p q a b one other in
      let f : p ≡ a = r.0 in
      let g : q ≡ b = r.1 in
      let moved : IsShortestOf program i a b c = subst (λ m. IsShortestOf program i m b c) f (subst (λ n. IsShortestOf program i p n c) g s) in
      let h : c ≡ d = one_cycle program i a b c d moved t in
      cc

  same_blocked : (i : PieceId → Bool) (p q x a b y : PieceId) (c d : List Vertex) → IsBlocked program i p q x → IsBlocked program i a b y → IsShortestOf program i p q c → IsShortestOf program i a b d → Blocked p q x c ≡ Blocked a b y d
  same_blocked i p q x a b y c d one other s t =
      let r = one_three program i p q x a b y one other in
      let f : p ≡ a = r.0 in
      let g : q ≡ b = r.1 in
      let k : x ≡ y = r.2 in
      let moved : IsShortestOf program i a b c = subst (λ m. IsShortestOf program i m b c) f (subst (λ n. IsShortestOf program i p n c) g s) in
      let h : c ≡ d = one_cycle program i a b c d moved t in
      cc

  pub one_refusal : (one other : CheckedLine) → IsRefusedBy program one → IsRefusedBy program other → one ≡ other
  one_refusal _ _ (apart i p q c are is short) (apart j a b d also other shorter) =
      let e : i ≡ j = one_set i j are also in
      same_apart j p q a b c d (subst (λ k. IsApart program k p q) e is) other (subst (λ k. IsShortestOf program k p q c) e short) shorter
  one_refusal _ _ (apart i p q c are is short) (blocked j a b y d also other shorter) =
      let e : i ≡ j = one_set i j are also in
      absurd (other.none_apart p q (subst (λ k. IsApart program k p q) e is).is)
  one_refusal _ _ (blocked i p q x c are is short) (apart j a b d also other shorter) =
      let e : i ≡ j = one_set i j are also in
      absurd ((subst (λ k. IsBlocked program k p q x) e is).none_apart a b other.is)
  one_refusal _ _ (blocked i p q x c are is short) (blocked j a b y d also other shorter) =
      let e : i ≡ j = one_set i j are also in
      same_blocked j p q x a b y c d (subst (λ k. IsBlocked program k p q x) e is) other (subst (λ k. IsShortestOf program k p q c) e short) shorter

-- ---- texts

pub one_program : (bytes : List ℕ) (one other : Workload) → IsTextOf bytes one → IsTextOf bytes other → one ≡ other
one_program bytes one other a b = a.is ∙ (ap resolved (one_tree bytes a.tree b.tree a.text b.text) ∙ sym b.is)

pub one_plan_of_text : ((program : Workload) (i : PieceId → Bool) (groups others : List (List (List ℕ))) → IsMerged program i groups → IsMerged program i others → groups ≡ others)
    → (bytes : List ℕ) (one other : Plan) → IsPlanOfText bytes one → IsPlanOfText bytes other → one ≡ other
one_plan_of_text single bytes one other a b =
    let e : one.program ≡ other.program = one_program bytes one.program other.program a.text b.text in
    one_plan other.program (single other.program) one other (subst (λ p. IsPlanOf p one) e a.has) b.has
