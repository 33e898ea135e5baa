-- One more group is the next number of the range
use Rattle.std.proofs.Common.{ℕ, ◌≡◌, List, ◌++◌, ◌∷◌, [], ap, sym, ◌∙◌, arith}
use Rattle.std.specs.List.{range_with_len}
use Rattle.roc_sequence.proofs.Ranges.{range_more}
use Rattle.roc_coord.proofs.reply.all_groups.Goals as goal

pub loop-group-init : goal.loop-group-init
loop-group-init c = c.new-groups.ensures.items

pub loop-group-preserved : goal.loop-group-preserved
loop-group-preserved c =
    let group : ℕ = c.loop-group.group in
    let more = range_more 0 group group (omega arith) in
    let add : List ℕ → List ℕ = λ groups. groups ++ group ∷ [] in
    c.in_ok-push.ensures.items ∙ ap add c.loop-group.invariant ∙ sym more

pub returns : goal.returns
returns c =
    let most = c.loop-group.auto.group-end in
    let done = c.loop-group-test.false in
    let all : c.loop-group.group ≡ c.groups-group-end.result = omega arith in
    c.loop-group.invariant ∙ ap (range_with_len 0) (all ∙ c.groups-group-end.ensures)
