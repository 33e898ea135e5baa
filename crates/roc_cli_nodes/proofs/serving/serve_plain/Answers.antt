-- The server ended so, and that is told
use Rattle.std.proofs.Common.{◌<◌, sym, subst, ◌∙◌}
use Rattle.roc_cli_nodes.proofs.Booked.{refused_leaves, unlogged_leaves}
use Rattle.roc_cli_nodes.proofs.Looping.{address_there}
use Rattle.roc_cli_nodes.proofs.Telling.{serve_told, unnamed}
use Rattle.roc_cli_nodes.proofs.Reading.{caused}
use Rattle.roc_cli_nodes.proofs.serving.serve_plain.Goals as goal

pub returns-clause-ends : goal.returns-clause-ends
returns-clause-ends g c own address = serve_told _ _ _ _ _ own _ _ _ _ _ _ _ _ c.name_of.ensures c.name_of-2.ensures (c.serve-end.ensures.serves own address) c.told.ensures.told

pub returns-clause-untouched : goal.returns-clause-untouched
returns-clause-untouched g c early = c.serve-end.ensures.link_stays (sym c.told.ensures.refused ∙ early)

pub returns-clause-unkept : goal.returns-clause-unkept
returns-clause-unkept g c none = c.serve-end.ensures.disk_stays (unnamed _ _ none)

pub returns-clause-sink_faults : goal.returns-clause-sink_faults
returns-clause-sink_faults g c = caused _ _ _ _ c.told.ensures.sink c.serve-end.ensures.sink_cause

pub returns-clause-link_faults : goal.returns-clause-link_faults
returns-clause-link_faults g c = caused _ _ _ _ c.told.ensures.link c.serve-end.ensures.link_cause

pub returns-clause-disk_faults : goal.returns-clause-disk_faults
returns-clause-disk_faults g c = caused _ _ _ _ c.told.ensures.disk c.serve-end.ensures.disk_cause

pub returns-clause-book_faults : goal.returns-clause-book_faults
returns-clause-book_faults g c = caused _ _ _ _ c.told.ensures.book c.serve-end.ensures.book_cause

pub returns-clause-unbegun : goal.returns-clause-unbegun
returns-clause-unbegun g c early =
    let there = address_there c.args.nodes.now.cluster c.args.asked.shard.0 (subst (λ n. c.args.asked.shard.0 < n) (sym c.requires.cluster) c.requires.shard) in
    refused_leaves _ _ _ _ _ _ _ there.0 _ _ _ _ _ (sym c.told.ensures.refused ∙ early) (c.serve-end.ensures.serves there.0 there.1)

pub returns-clause-unlogged : goal.returns-clause-unlogged
returns-clause-unlogged g c none =
    let there = address_there c.args.nodes.now.cluster c.args.asked.shard.0 (subst (λ n. c.args.asked.shard.0 < n) (sym c.requires.cluster) c.requires.shard) in
    unlogged_leaves _ _ _ _ _ _ _ there.0 _ _ _ _ _ none (c.serve-end.ensures.serves there.0 there.1)
