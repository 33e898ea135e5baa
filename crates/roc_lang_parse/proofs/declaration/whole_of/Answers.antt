use Rattle.roc_lang.proofs.Limited.{within_limits}
use Rattle.roc_lang_parse.specs.Inner.Views.{token_views, parts_tree}
use Rattle.roc_lang_parse.proofs.Answers.{text_read_is}
use Rattle.roc_lang_parse.proofs.declaration.whole_of.Goals as goal

pub new-requires : goal.new-requires
new-requires c = within_limits _ _ (text_read_is (token_views c.args.tokens.now) _ (parts_tree c.in-Ok.given.0) c.in-Ok.ensures)
