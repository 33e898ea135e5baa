use Rattle.roc_sched.specs.Acts.{line_at, request_at}
use Rattle.roc_sched.proofs.Texts.{not_both, one_of_both}
use Rattle.roc_sched.proofs.laws.texts_are_right_or_wrong.Goals as goal

pub returns : goal.returns
returns c = record {
  schedules = λ forms shards. one_of_both (line_at forms shards);
  one_of_both = λ forms shards. not_both (line_at forms shards);
  requests = one_of_both request_at;
  one_of_each = not_both request_at;
}
