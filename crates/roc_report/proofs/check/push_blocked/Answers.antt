use Rattle.std.proofs.Common.{◌≡◌, ℕ, List, ◌++◌, codes, ap, ◌∙◌, append_assoc}
use Rattle.std.proofs.lemmas.Result.{on_ok_weaker}
use Rattle.std.specs.String.{string_bytes}
use Rattle.roc_report.specs.Checked.{piece_text, cycle_text}
use Rattle.roc_report.specs.Text.{spaced}
use Rattle.roc_report.proofs.check.push_blocked.Goals as goal

-- parts that were added one by one
added : (s t u v w z : List ℕ) (word p q by x cycle : List ℕ) → t ≡ s ++ word → u ≡ t ++ (p ++ q) → v ≡ u ++ by → w ≡ v ++ x → z ≡ w ++ cycle → z ≡ s ++ (((((word ++ p) ++ q) ++ by) ++ x) ++ cycle)
added s t u v w z word p q by x cycle a b d e f =
    f ∙ ap (λ k. k ++ cycle) (e ∙ ap (λ k. k ++ x) (d ∙ ap (λ k. k ++ by) (b ∙ ap (λ k. k ++ (p ++ q)) a))) ∙ simp append_assoc

pub returns : goal.returns
returns c =
    let w = c.args.workload.now in
    on_ok_weaker c.push_cycle.result
    (λ f. added (string_bytes c.args.text.now) _ _ _ _ (string_bytes c.push_cycle.new.text) (codes "refused blocked ") (piece_text w c.args.p) (spaced (piece_text w c.args.q)) (codes " by ") (piece_text w c.args.x) (cycle_text w c.args.cycle.now)
    (c.in_ok-push_str.ensures.bytes) (c.in_ok-push_two.ensures) (c.in_ok-push_str-2.ensures.bytes) (c.in_ok-push_piece.ensures) f) c.push_cycle.ensures
