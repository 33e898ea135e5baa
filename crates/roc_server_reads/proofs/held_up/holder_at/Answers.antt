use Rattle.std.proofs.Common.{get_or, sym, subst, ◌∙◌}
use Rattle.roc_sequence.specs.Lists.{Has}
use Rattle.roc_server_index.specs.declared.group_ref.GroupRef.{GroupRef}
use Rattle.roc_server_reads.proofs.Holding.{has_place}
use Rattle.roc_server_reads.proofs.held_up.holder_at.Goals as goal

pub returns-then-holds_at-clause-holder : goal.returns-then-holds_at-clause-holder
returns-then-holds_at-clause-holder g c =
    let group_refs = c.refs_at-group_refs.result.now in
    let at = c.loop-group_ref.group_ref-index in
    let first : GroupRef = record { id = record { coord = 0; seq = 0 }; proc = 0; group = 0 } in
    (subst (Has (get_or group_refs at first)) c.refs_at-group_refs.ensures (has_place group_refs at first c.loop-group_ref-test.true), sym c.holds_at.ensures.holds ∙ c.if-holds_at.true)
