use Rattle.std.proofs.Common.{◌≡◌, ◌∙◌, ℕ, ◌-◌, Bool, true, false, not, ◌&&◌, List, filter, sym, ap, append-nil}
use Rattle.std.specs.List.{list_any, range_with_len}
use Rattle.roc_sequence.proofs.Holds.{any_seen}
use Rattle.roc_program.specs.Names.{bindings, has_name, piece_uses}
use Rattle.roc_program.specs.Parts as view
use Rattle.roc_program.specs.Program.{Procedure}
use Rattle.roc_plan.specs.Groups.{bound_in, inputs_in}
use Rattle.roc_plan.specs.Sized.{piece_at}
use Rattle.roc_plan_make.proofs.BuiltUp.{range_passed, range_done}
use Rattle.roc_plan_make.proofs.names.input_names.Goals as goal
use Rattle.roc_plan_make.proofs.names.input_names.Goals.{then-is_taken+in_ok-push, else-is_taken}

inputs_by : (p : Procedure) (pieces own names : List ℕ) → own ≡ bound_in p pieces → names ≡ bindings p.pieces
    → filter (λ n. list_any (λ k. piece_uses (piece_at p k) n) pieces && not (has_name own n)) names ≡ inputs_in p pieces
inputs_by p pieces own names e f =
    let used : (n : ℕ) → list_any (λ k. piece_uses (piece_at p k) n) pieces ≡ _ = λ n. sym (any_seen (λ piece. piece_uses piece n) (piece_at p) pieces) in
    (λ i. filter (λ n. used n i && not (has_name (e i) n)) (f i))

pub loop-name-preserved : goal.loop-name-preserved
loop-name-preserved c =
    let p = view.procedure c.args.procedure.now in
    let test : ℕ → Bool = λ n. list_any (λ k. piece_uses (piece_at p k) n) c.args.pieces.now && not (has_name c.args.own.now n) in
    let all = filter test (range_with_len p.arguments (p.names - p.arguments)) in
    elim c.if-is_taken.branch [
      | then-is_taken+in_ok-push w ↦ range_passed test c.loop-name.names.items c.if-is_taken.names.items all c.loop-name.name p.names true c.loop-name-test.true (sym c.is_taken.ensures ∙ w.if-is_taken.true)
          (ap (λ v. v.items) w.names-is ∙ w.in_ok-push.ensures.items) c.loop-name.invariant
      | else-is_taken w ↦ range_passed test c.loop-name.names.items c.if-is_taken.names.items all c.loop-name.name p.names false c.loop-name-test.true (sym c.is_taken.ensures ∙ w.if-is_taken.false)
          (ap (λ v. v.items) w.names-is ∙ sym (append-nil c.loop-name.names.items)) c.loop-name.invariant
    ]

pub returns : goal.returns
returns c =
    let p = view.procedure c.args.procedure.now in
    let test : ℕ → Bool = λ n. list_any (λ k. piece_uses (piece_at p k) n) c.args.pieces.now && not (has_name c.args.own.now n) in
    range_done test c.loop-name.names.items (filter test (range_with_len p.arguments (p.names - p.arguments))) c.loop-name.name p.names c.loop-name-test.false c.loop-name.invariant
    ∙ inputs_by p c.args.pieces.now c.args.own.now (range_with_len p.arguments (p.names - p.arguments)) c.requires.own (sym c.requires.sized.numbers)
