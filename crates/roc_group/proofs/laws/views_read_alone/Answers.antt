use Rattle.roc_group.proofs.Views.{view_uses_read, view_run_leaves}
use Rattle.roc_group.proofs.laws.views_read_alone.Goals as goal

pub returns : goal.returns
returns c = record {
  uses = λ plan call s is viewed. view_uses_read plan call is viewed s;
  store = λ plan call s is viewed. view_run_leaves plan call is viewed s;
}
