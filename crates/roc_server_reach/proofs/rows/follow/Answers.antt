use Rattle.std.proofs.Common.{Bool, ◌||◌, List, ℕ, length, sym, ap, ◌∙◌, arith}
use Rattle.roc_server_reach.specs.Bits.{row_bit}
use Rattle.roc_server_reach.specs.Inner.Words.{words_but}
use Rattle.roc_server_reach.proofs.RowWords.{bit_in, row_there, nothing_joined}
use Rattle.roc_server_reach.proofs.rows.follow.Goals as goal

pub join_but-requires-clause-room : goal.join_but-requires-clause-room
join_but-requires-clause-room c =
    let there = c.in-Some.ensures.lookup.3 in
    let words = row_there c.args.rows.now c.args.at c.in-Some.row.now there.0 (there.1 c.in-Some.row.now) in
    omega (arith, ap length c.as_slice.ensures.value, ap length words, c.requires.within.each c.args.at)

pub join_but-requires-clause-covered : goal.join_but-requires-clause-covered
join_but-requires-clause-covered c =
    let there = c.in-Some.ensures.lookup.3 in
    let words = row_there c.args.rows.now c.args.at c.in-Some.row.now there.0 (there.1 c.in-Some.row.now) in
    omega (arith, ap length c.as_slice.ensures.value, ap length words, c.requires.within.each c.args.at)

pub returns-in-Some : goal.returns-in-Some
returns-in-Some c m =
    let there = c.in-Some.ensures.lookup.3 in
    let words = row_there c.args.rows.now c.args.at c.in-Some.row.now there.0 (there.1 c.in-Some.row.now) in
    c.join_but.ensures m
    ∙ ap (λ (b : Bool). row_bit c.args.met.now m || b)
    (ap (λ (ws : List ℕ). row_bit (words_but ws c.args.stale.now) m) (c.as_slice.ensures.value ∙ sym words) ∙ sym (bit_in c.args.rows.now c.args.stale.now c.args.at m))

pub returns-in_default : goal.returns-in_default
returns-in_default c m = nothing_joined c.args.rows.now c.args.stale.now c.args.at c.in_default.ensures.lookup.3 c.args.met.now m
