-- What is left of a text, from a turn of a loop on, is the text of the turn and what is left behind it.
use Rattle.std.proofs.Common.{◌≡◌, ℕ, suc, ◌+◌, ◌-◌, ◌*◌, ◌<◌, List, ◌++◌, sym, ap, subst, ◌∙◌, append_assoc, arith}
use Rattle.std.specs.List.{flat_map, range_with_len}
use Rattle.std.proofs.lemmas.Grind.{flat_map-append}
use Rattle.roc_sched.specs.declared.line.Act.{Act}
use Rattle.roc_sched.specs.declared.line.Act.TheVariants.{Any}
use Rattle.roc_generate.specs.Draws.{next_state, draw, state_after}
use Rattle.roc_generate.specs.Drawn.{drawn_choices, drawn_call, drawn_calls}
use Rattle.roc_generate.specs.ScheduleText.{act_line}
use Rattle.roc_generate.specs.WorkloadText.{account_line}

moved : (old front rest whole new : List ℕ) → new ≡ old ++ front → old ++ (front ++ rest) ≡ whole → new ++ rest ≡ whole
moved old front rest whole new added h = ap (λ z. z ++ rest) added ∙ append_assoc old front rest ∙ h

one_less : (count counter : ℕ) → counter < count → count - counter ≡ suc (count - (counter + 1))
one_less count counter h = omega arith

pub account_added : (old new whole : List ℕ) (place shards : ℕ) → place < shards → new ≡ old ++ account_line place → old ++ flat_map account_line (range_with_len place (shards - place)) ≡ whole
    → new ++ flat_map account_line (range_with_len (place + 1) (shards - (place + 1))) ≡ whole
account_added old new whole place shards h added left =
    let on : old ++ flat_map account_line (range_with_len place (suc (shards - (place + 1)))) ≡ whole = subst (λ k. old ++ flat_map account_line (range_with_len place k) ≡ whole) (one_less shards place h) left in
    moved old (account_line place) (flat_map account_line (range_with_len (place + 1) (shards - (place + 1)))) whole new added on

pub choice_added : (old new whole : List ℕ) (count counter x y : ℕ) → counter < count → new ≡ old ++ act_line (Any (draw x 65536)) → y ≡ next_state x → old ++ flat_map act_line (drawn_choices (count - counter) x) ≡ whole
    → new ++ flat_map act_line (drawn_choices (count - (counter + 1)) y) ≡ whole
choice_added old new whole count counter x y h added next left =
    let on : old ++ flat_map act_line (drawn_choices (suc (count - (counter + 1))) x) ≡ whole = subst (λ k. old ++ flat_map act_line (drawn_choices k x) ≡ whole) (one_less count counter h) left in
    ap (λ z. new ++ flat_map act_line (drawn_choices (count - (counter + 1)) z)) next
    ∙ moved old (act_line (Any (draw x 65536))) (flat_map act_line (drawn_choices (count - (counter + 1)) (next_state x))) whole new added on

pub state_choice : (count counter x y whole : ℕ) → counter < count → y ≡ next_state x → state_after (count - counter) x ≡ whole → state_after (count - (counter + 1)) y ≡ whole
state_choice count counter x y whole h next left =
    ap (state_after (count - (counter + 1))) next ∙ subst (λ k. state_after k x ≡ whole) (one_less count counter h) left

pub call_added : (old middle new whole : List ℕ) (shards k count x y z : ℕ) → k < count → middle ≡ old ++ act_line (drawn_call shards k x) → y ≡ state_after 4 x
    → new ≡ middle ++ flat_map act_line (drawn_choices 4 y) → z ≡ state_after 4 y
    → old ++ flat_map act_line (drawn_calls shards k (count - k) x) ≡ whole → new ++ flat_map act_line (drawn_calls shards (k + 1) (count - (k + 1)) z) ≡ whole
call_added old middle new whole shards k count x y z h first next second last left =
    let on : old ++ flat_map act_line (drawn_calls shards k (suc (count - (k + 1))) x) ≡ whole = subst (λ n. old ++ flat_map act_line (drawn_calls shards k n x) ≡ whole) (one_less count k h) left in
    let choices : List Act = drawn_choices 4 (state_after 4 x) in
    let others : List Act = drawn_calls shards (k + 1) (count - (k + 1)) (state_after 8 x) in
    let state : z ≡ state_after 8 x = last ∙ ap (state_after 4) next in
    let apart : old ++ (act_line (drawn_call shards k x) ++ (flat_map act_line choices ++ flat_map act_line others)) ≡ whole =
    ap (λ r. old ++ (act_line (drawn_call shards k x) ++ r)) (sym (flat_map-append act_line choices others)) ∙ on in
    let behind_first : middle ++ (flat_map act_line choices ++ flat_map act_line others) ≡ whole = moved old (act_line (drawn_call shards k x)) (flat_map act_line choices ++ flat_map act_line others) whole middle first apart in
    let added : new ≡ middle ++ flat_map act_line choices = second ∙ ap (λ s. middle ++ flat_map act_line (drawn_choices 4 s)) next in
    ap (λ s. new ++ flat_map act_line (drawn_calls shards (k + 1) (count - (k + 1)) s)) state
    ∙ moved middle (flat_map act_line choices) (flat_map act_line others) whole new added behind_first

pub state_call : (count k x y z whole : ℕ) → k < count → y ≡ state_after 4 x → z ≡ state_after 4 y → state_after (8 * (count - k)) x ≡ whole → state_after (8 * (count - (k + 1))) z ≡ whole
state_call count k x y z whole h next last left =
    let eight : 8 * (count - k) ≡ suc (suc (suc (suc (suc (suc (suc (suc (8 * (count - (k + 1)))))))))) = omega arith in
    let state : z ≡ state_after 8 x = last ∙ ap (state_after 4) next in
    ap (state_after (8 * (count - (k + 1)))) state ∙ subst (λ n. state_after n x ≡ whole) eight left
