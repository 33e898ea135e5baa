-- What a generated schedule asks for: docs/FORMATS.md, "Generated load"
use Rattle.std.specs.Prelude.{ℕ, zero, suc, pos, ◌+◌, ◌*◌, ◌%◌, ◌==◌, if◌then◌else◌, List, [], ◌∷◌, ◌++◌}
use lib.Chars.{codes}
use Rattle.roc_sched.specs.declared.line.Act.{Act}
use Rattle.roc_sched.specs.declared.line.Act.TheVariants.{Submit, Any}
use Rattle.roc_generate.specs.Draws.{next_state, draw, state_after}

-- so many choices of a message, each with a draw of 65536
abbrev pub drawn_choices : (count state : ℕ) → List Act
drawn_choices zero x = []
drawn_choices (suc count) x = Any (draw x 65536) ∷ drawn_choices count (next_state x)

-- the submission of a number, with four draws: of 2 for the procedure, of the shards for a and for b, and of 100 for m
abbrev pub drawn_call : (shards number state : ℕ) → Act
drawn_call shards k x =
    let a = pos (draw (state_after 1 x) shards) in
    let b = pos (draw (state_after 2 x) shards) in
    let m = pos (draw (state_after 3 x) 100) in
    if draw x 2 == 0 then Submit (k % 16) (codes "pay") (a ∷ b ∷ m ∷ []) else Submit (k % 16) (codes "mark") (a ∷ b ∷ [])

-- so many submissions from a number on, with four choices behind each
abbrev pub drawn_calls : (shards number count state : ℕ) → List Act
drawn_calls shards k zero x = []
drawn_calls shards k (suc count) x = drawn_call shards k x ∷ drawn_choices 4 (state_after 4 x) ++ drawn_calls shards (k + 1) count (state_after 8 x)

-- all that is asked for: the submissions of so many transactions, and sixteen choices more for each of them
unfoldable pub drawn_acts : (seed shards txns : ℕ) → List Act
drawn_acts seed shards txns = drawn_calls shards 0 txns seed ++ drawn_choices (16 * txns) (state_after (8 * txns) seed)
