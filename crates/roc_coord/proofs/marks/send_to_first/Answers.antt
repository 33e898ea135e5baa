use Rattle.std.proofs.Common.{◌≡◌, ℕ, List, [], ◌∷◌, map, subst, sym, arith}
use Rattle.std.proofs.lemmas.List.FromFn.{map-range_with_len_more}
use Rattle.std.specs.List.{range_with_len}
use Rattle.roc_msg.specs.declared.outbox.Outgoing.{Outgoing}
use Rattle.roc_msg.specs.Outbox.{HasSent}
use Rattle.roc_msg.proofs.Sent.{sent_none, sent_then}
use Rattle.roc_coord.specs.Inner.Rises.{ended_with}
use Rattle.roc_coord.proofs.marks.send_to_first.Goals as goal

pub loop-shard-init : goal.loop-shard-init
loop-shard-init c = sent_none c.args.outbox.now

pub loop-shard-preserved : goal.loop-shard-preserved
loop-shard-preserved c =
    let i = c.loop-shard.shard in
    let told : ℕ → Outgoing = λ shard. ended_with c.args.number c.args.mark shard in
    let are_sent : List Outgoing → Type 0 = λ sends. HasSent c.args.outbox.now c.send.new.self sends in
    subst are_sent (sym (map-range_with_len_more told 0 i i (omega arith)))
    (sent_then c.args.outbox.now c.loop-shard.outbox c.send.new.self (map told (range_with_len 0 i)) (told i ∷ []) c.loop-shard.invariant c.in_ok-send.ensures.ok)

pub returns : goal.returns
returns c =
    let are_sent : ℕ → Type 0 = λ count. HasSent c.args.outbox.now c.loop-shard.outbox (map (ended_with c.args.number c.args.mark) (range_with_len 0 count)) in
    let within = c.loop-shard.auto.shard-end in
    let past = c.loop-shard-test.false in
    let all : c.loop-shard.shard ≡ c.args.count = omega arith in
    subst are_sent all c.loop-shard.invariant
