use Rattle.std.proofs.Common.{sym, ◌∙◌}
use Rattle.roc_server_taken.proofs.Rising.{has_place}
use Rattle.roc_server_taken.proofs.components.open_member.Goals as goal

pub returns-then-not-is_ended-clause-some : goal.returns-then-not-is_ended-clause-some
returns-then-not-is_ended-clause-some c =
    (has_place c.args.members.now c.loop-id.id-index _ c.loop-id-test.true, sym c.is_ended.ensures ∙ c.if-not-is_ended.true)
