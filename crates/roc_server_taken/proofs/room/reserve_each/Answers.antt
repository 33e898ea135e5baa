use Rattle.std.proofs.Common.{◌+◌, ◌∙◌, get_or, arith}
use Rattle.std.proofs.Math.Seq.{map-set_same}
use Rattle.std.specs.VecDeque.{deque_capacity, deque_items}
use Rattle.roc_server_taken.proofs.Queues.{within_more, within_upto}
use Rattle.roc_server_taken.proofs.room.reserve_each.Goals as goal

pub returns-in_err-reserve_part-clause-items : goal.returns-in_err-reserve_part-clause-items
returns-in_err-reserve_part-clause-items c =
    map-set_same deque_items c.loop-at.parts c.loop-at.at _ c.index-parts-at.result c.reserve_part.ensures.items ∙ c.loop-at.invariant.items

pub returns-in_err-reserve_part-clause-capacity : goal.returns-in_err-reserve_part-clause-capacity
returns-in_err-reserve_part-clause-capacity c =
    λ k. within_more deque_capacity c.loop-at.parts c.loop-at.at _ c.index-parts-at.result c.reserve_part.ensures.capacity k _ (c.loop-at.invariant.capacity k)

pub loop-at-preserved : goal.loop-at-preserved
loop-at-preserved c = record {
  items = map-set_same deque_items c.loop-at.parts c.loop-at.at _ c.index-parts-at.result c.reserve_part.ensures.items ∙ c.loop-at.invariant.items;
  capacity = λ k. within_more deque_capacity c.loop-at.parts c.loop-at.at _ c.index-parts-at.result c.reserve_part.ensures.capacity k _ (c.loop-at.invariant.capacity k);
  room =
      within_upto deque_capacity c.loop-at.parts c.loop-at.at _ c.index-parts-at.result (λ k. get_or c.args.wanted.now k 0 + c.args.more) (omega arith) c.reserve_part.ensures.capacity
      c.in_ok-reserve_part.ensures.ok c.loop-at.invariant.room;
}
