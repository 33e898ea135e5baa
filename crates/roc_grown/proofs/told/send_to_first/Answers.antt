use Rattle.std.proofs.Common.{◌≡◌, ℕ, List, [], ◌∷◌, map, subst, sym, arith}
use Rattle.std.proofs.lemmas.List.FromFn.{map-range_with_len_more}
use Rattle.std.specs.List.{range_with_len}
use Rattle.roc_msg.specs.declared.outbox.Outgoing.{Outgoing}
use Rattle.roc_msg.specs.Outbox.{HasSent}
use Rattle.roc_msg.proofs.Sent.{sent_none, sent_then}
use Rattle.roc_grown.specs.Coord.{drained_to}
use Rattle.roc_grown.proofs.told.send_to_first.Goals as goal

pub loop-shard-init : goal.loop-shard-init
loop-shard-init c = (sent_none c.args.outbox.now, omega arith)

pub loop-shard-preserved : goal.loop-shard-preserved
loop-shard-preserved c =
    let i = c.loop-shard.shard in
    let told : ℕ → Outgoing = drained_to c.args.upto in
    let are_sent : List Outgoing → Type 0 = λ sends. HasSent c.args.outbox.now c.send.new.self sends in
    let sent = subst are_sent (sym (map-range_with_len_more told 0 i i (omega arith)))
    (sent_then c.args.outbox.now c.loop-shard.outbox c.send.new.self (map told (range_with_len 0 i)) (told i ∷ []) c.loop-shard.invariant.0 c.in_ok-send.ensures.ok) in
    let kept = c.send.ensures.room in
    let before = c.loop-shard.invariant.1 in
    (sent, omega (arith, kept, before))

pub returns-clause-sent : goal.returns-clause-sent
returns-clause-sent c =
    let are_sent : ℕ → Type 0 = λ count. HasSent c.args.outbox.now c.loop-shard.outbox (map (drained_to c.args.upto) (range_with_len 0 count)) in
    let within = c.loop-shard.auto.shard-end in
    let past = c.loop-shard-test.false in
    let all : c.loop-shard.shard ≡ c.args.count = omega arith in
    subst are_sent all c.loop-shard.invariant.0
