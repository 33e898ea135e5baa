use Rattle.std.proofs.Common.{◌≡◌, take}
use Rattle.roc_grown_node.specs.Posting.{grown_packets_for}
use Rattle.roc_grown_node.specs.Setting.{grown_setting_of}
use Rattle.roc_grown_node.proofs.posting.grown_post.Given as goal

abbrev pub invariant-loop-out : goal.invariant-loop-out
invariant-loop-out l = l.packets.items ≡ grown_packets_for (grown_setting_of l.setting) l.switched l.heard (take l.out-index l.outs)
