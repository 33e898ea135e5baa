use Rattle.std.proofs.Common.{◌≡◌, take}
use Rattle.roc_node.specs.Posting.{packets_for}
use Rattle.roc_node.proofs.posting.post.Given as goal

abbrev pub invariant-loop-out : goal.invariant-loop-out
invariant-loop-out l = l.packets.items ≡ packets_for l.header l.cluster l.heard (take l.out-index l.outs)
