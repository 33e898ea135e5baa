use Rattle.roc_whole.proofs.Replies.{after_pieces-behind}
use Rattle.roc_whole.proofs.laws.replies_are_added_to.Goals as goal

pub returns : goal.returns
returns c = after_pieces-behind
