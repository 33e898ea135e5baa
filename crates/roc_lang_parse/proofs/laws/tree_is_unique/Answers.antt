use Rattle.roc_lang_parse.proofs.Unique.{one_tree}
use Rattle.roc_lang_parse.proofs.laws.tree_is_unique.Goals as goal

pub returns : goal.returns
returns c = one_tree
