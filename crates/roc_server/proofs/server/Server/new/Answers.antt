use Rattle.std.proofs.Common.{unwrap_or, ap, ◌∙◌}
use Rattle.roc_server.proofs.server.Server.new.Goals as goal

pub invariant_of-result : goal.invariant_of-result
invariant_of-result c = (record { sound = c.new.ensures.sound; tried = c.new.ensures.idle }, tt)

pub returns-clause-first : goal.returns-clause-first
returns-clause-first c i = record {
  shard = c.args.shard;
  store = (ap (λ o. unwrap_or o c.new.result.rows.store) c.new.ensures.saved ∙ (c.new.ensures.store ∙ c.in_ok-rows.ensures)) i;
  started = c.new.ensures.groups i;
  lists = (c.new.ensures.lists i).lists;
  below = (c.new.ensures.lists i).below;
}
