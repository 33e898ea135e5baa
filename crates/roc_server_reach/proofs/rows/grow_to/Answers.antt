use Rattle.std.proofs.Common.{ℕ, List, Vec, Global, ◌∙◌, ap}
use Rattle.roc_server_reach.specs.Inner.Rows.{words_at}
use Rattle.roc_server_reach.proofs.RowWords.{pushed}
use Rattle.roc_server_reach.proofs.rows.grow_to.Goals as goal

pub grow-preserved : goal.grow-preserved
grow-preserved c = λ n. ap (λ (rows : List (Vec ℕ Global)). words_at rows n) c.in_ok-push.ensures.items ∙ (pushed c.grow.rows.items c.new.result c.new.ensures.items n ∙ c.grow.invariant n)
