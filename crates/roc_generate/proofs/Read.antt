-- The generated schedule is a schedule of what was drawn.
use Rattle.std.proofs.Common.{◌≡◌, ℕ, zero, suc, pos, ◌+◌, ◌*◌, ◌%◌, ◌<◌, ◌≤◌, Bool, true, false, not, ◌==◌, cond, List, [], ◌∷◌, ◌++◌, length, flat_map, length-append, Option, Some, refl, ap, ◌∙◌, append_assoc, arith}
use Rattle.std.specs.List.{AllByRecursion}
use lib.Chars.{codes}
use Rattle.roc_sched.specs.declared.line.Act.{Act}
use Rattle.roc_sched.specs.declared.line.Act.TheVariants.{Submit}
use Rattle.roc_sched.specs.declared.line.Line.{Line}
use Rattle.roc_sched.specs.Each.{◌>>=◌, each}
use Rattle.roc_sched.specs.Lines.{lines_of}
use Rattle.roc_sched.specs.Words.{words_of}
use Rattle.roc_sched.specs.Numbers.{is_name}
use Rattle.roc_sched.specs.Acts.{line_at}
use Rattle.roc_generate.specs.Load.{forms_with}
use Rattle.roc_sched.specs.Schedule.{item_of, numbered, IsSchedule}
use Rattle.roc_generate.specs.Draws.{next_state, draw, state_after}
use Rattle.roc_generate.specs.Drawn.{drawn_choices, drawn_call, drawn_calls, drawn_acts}
use Rattle.roc_generate.specs.ScheduleText.{act_line, generated_schedule, numbered_acts, generated_lines}
use Rattle.roc_generate.proofs.Parts.{spaced_words, words_read, spaced_above, line_read}
use Rattle.roc_generate.proofs.Written.{IsSmallAct, ActWords, act_words}

-- ---- a text of acts

body : (act : Act) → ActWords act → List ℕ
body act w = spaced_words w.first w.others

first_line : (act : Act) (w : ActWords act) (acts : List Act) → lines_of (flat_map act_line (act ∷ acts)) ≡ spaced_words w.first w.others ∷ lines_of (flat_map act_line acts)
first_line act w acts =
    ap (λ z. lines_of (z ++ flat_map act_line acts)) w.line
    ∙ ap lines_of (append_assoc (spaced_words w.first w.others) (10 ∷ []) (flat_map act_line acts))
    ∙ line_read (spaced_words w.first w.others) (flat_map act_line acts) (spaced_above w.first w.others w.first_part w.other_parts)

no_lines : lines_of [] ≡ []
unfolding lines_of
no_lines = refl

line_count : (acts : List Act) → AllByRecursion IsSmallAct acts → length (lines_of (flat_map act_line acts)) ≡ length acts
line_count [] all = ap length no_lines
line_count (act ∷ acts) all =
    let first = ap length (first_line act (act_words act all.0) acts) in
    let others = line_count acts all.1 in
    omega (arith, first, others)

module _ (stops : Bool) (shards : ℕ) where
  abbrev item_at : ℕ × List ℕ → Option Line
  item_at line = item_of (line_at (forms_with stops) shards line.0 (words_of line.1))

  first_item : (act : Act) (w : ActWords act) (number : ℕ) → item_at (number, spaced_words w.first w.others) ≡ Some (record { number = number; act = act })
  first_item act w number =
      ap (λ words. item_of (line_at (forms_with stops) shards number words)) (words_read w.first w.others w.first_part w.other_parts) ∙ ap item_of (w.read stops shards number)

  kept_line : (act : Act) (w : ActWords act) (number : ℕ) (lines : List (List ℕ)) → numbered number (spaced_words w.first w.others ∷ lines) ≡ (number, spaced_words w.first w.others) ∷ numbered (number + 1) lines
  kept_line act w number lines =
      ap (λ b. cond (not b) ((number, spaced_words w.first w.others) ∷ numbered (number + 1) lines) (numbered (number + 1) lines)) w.kept

  items_read : (number : ℕ) (acts : List Act) → AllByRecursion IsSmallAct acts → each item_at (numbered number (lines_of (flat_map act_line acts))) ≡ Some (numbered_acts number acts)
  items_read number [] all = ap (λ lines. each item_at (numbered number lines)) no_lines
  items_read number (act ∷ acts) all =
      let w = act_words act all.0 in
      ap (λ lines. each item_at (numbered number lines)) (first_line act w acts)
      ∙ ap (each item_at) (kept_line act w number (lines_of (flat_map act_line acts)))
      ∙ ap (λ o. o >>= λ y. each item_at (numbered (number + 1) (lines_of (flat_map act_line acts))) >>= λ ys. Some (y ∷ ys)) (first_item act w number)
      ∙ ap (λ o. o >>= λ ys. Some (record { number = number; act = act } ∷ ys)) (items_read (number + 1) acts all.1)

-- ---- what is drawn

draw_below : (x n : ℕ) → 0 < n → draw x n < n
unfolding draw
draw_below x n h = omega arith

choices_drawn : (count x : ℕ) → AllByRecursion IsSmallAct (drawn_choices count x)
choices_drawn zero x = tt
choices_drawn (suc count) x = ((let small = draw_below x 65536 (omega arith) in omega arith), choices_drawn count (next_state x))

pay_named : is_name (codes "pay") ≡ true
unfolding is_name
pay_named = refl

mark_named : is_name (codes "mark") ≡ true
unfolding is_name
mark_named = refl

call_drawn : (shards k x : ℕ) → 0 < shards → shards ≤ 64 → IsSmallAct (drawn_call shards k x)
call_drawn shards k x some few = go (draw x 2 == 0)
  where
    a : draw (state_after 1 x) shards < shards
    a = draw_below (state_after 1 x) shards some

    b : draw (state_after 2 x) shards < shards
    b = draw_below (state_after 2 x) shards some

    m : draw (state_after 3 x) 100 < 100
    m = draw_below (state_after 3 x) 100 (omega arith)

    at : k % 16 < 16
    at = omega arith

    go : (t : Bool) → IsSmallAct (cond t (Submit (k % 16) (codes "pay") (pos (draw (state_after 1 x) shards) ∷ pos (draw (state_after 2 x) shards) ∷ pos (draw (state_after 3 x) 100) ∷ [])) (Submit (k % 16) (codes "mark") (pos (draw (state_after 1 x) shards) ∷ pos (draw (state_after 2 x) shards) ∷ [])))
    go true = record { coord = at; name = pay_named; part = record { some = refl; above = (omega arith, (omega arith, (omega arith, tt))) }; short = omega arith; args = (omega (arith, a), (omega (arith, b), (omega (arith, m), tt))); few = omega arith }
    go false = record { coord = at; name = mark_named; part = record { some = refl; above = (omega arith, (omega arith, (omega arith, (omega arith, tt)))) }; short = omega arith; args = (omega (arith, a), (omega (arith, b), tt)); few = omega arith }

both_drawn : (some others : List Act) → AllByRecursion IsSmallAct some → AllByRecursion IsSmallAct others → AllByRecursion IsSmallAct (some ++ others)
both_drawn [] others all behind = behind
both_drawn (act ∷ some) others all behind = (all.0, both_drawn some others all.1 behind)

calls_drawn : (shards k count x : ℕ) → 0 < shards → shards ≤ 64 → AllByRecursion IsSmallAct (drawn_calls shards k count x)
calls_drawn shards k zero x some few = tt
calls_drawn shards k (suc count) x some few =
    (call_drawn shards k x some few, both_drawn (drawn_choices 4 (state_after 4 x)) (drawn_calls shards (k + 1) count (state_after 8 x)) (choices_drawn 4 (state_after 4 x)) (calls_drawn shards (k + 1) count (state_after 8 x) some few))

pub acts_drawn : (seed shards txns : ℕ) → 0 < shards → shards ≤ 64 → AllByRecursion IsSmallAct (drawn_acts seed shards txns)
unfolding drawn_acts
acts_drawn seed shards txns some few =
    both_drawn (drawn_calls shards 0 txns seed) (drawn_choices (16 * txns) (state_after (8 * txns) seed)) (calls_drawn shards 0 txns seed some few) (choices_drawn (16 * txns) (state_after (8 * txns) seed))

-- ---- how many, and how long

choice_count : (count x : ℕ) → length (drawn_choices count x) ≡ count
choice_count zero x = refl
choice_count (suc count) x = let others = choice_count count (next_state x) in omega (arith, others)

call_count : (shards k count x : ℕ) → length (drawn_calls shards k count x) ≡ 5 * count
call_count shards k zero x = refl
call_count shards k (suc count) x =
    let others = call_count shards (k + 1) count (state_after 8 x) in
    let sum = length-append (drawn_choices 4 (state_after 4 x)) (drawn_calls shards (k + 1) count (state_after 8 x)) in
    omega (arith, others, sum)

act_count : (seed shards txns : ℕ) → length (drawn_acts seed shards txns) ≡ 21 * txns
unfolding drawn_acts
act_count seed shards txns =
    let calls = call_count shards 0 txns seed in
    let choices = choice_count (16 * txns) (state_after (8 * txns) seed) in
    let sum = length-append (drawn_calls shards 0 txns seed) (drawn_choices (16 * txns) (state_after (8 * txns) seed)) in
    omega (arith, calls, choices, sum)

text_length : (acts : List Act) → AllByRecursion IsSmallAct acts → length (flat_map act_line acts) ≤ 220 * length acts
text_length [] all = omega arith
text_length (act ∷ acts) all =
    let one = (act_words act all.0).short in
    let others = text_length acts all.1 in
    let sum = length-append (act_line act) (flat_map act_line acts) in
    omega (arith, one, others, sum)

pub schedule_read : (seed shards txns : ℕ) → 0 < shards → shards ≤ 64 → txns ≤ 1000 → (stops : Bool) → IsSchedule (forms_with stops) shards (generated_schedule seed shards txns) (generated_lines seed shards txns)
unfolding generated_schedule generated_lines
schedule_read seed shards txns some few most stops =
    let all = acts_drawn seed shards txns some few in
    let count = act_count seed shards txns in
    let size = text_length (drawn_acts seed shards txns) all in
    let lines = line_count (drawn_acts seed shards txns) all in
    record { size = omega (arith, size, count, most); few_lines = omega (arith, lines, count, most); written = items_read stops shards 1 (drawn_acts seed shards txns) all }
