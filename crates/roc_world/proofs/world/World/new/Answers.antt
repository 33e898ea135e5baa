use Rattle.std.proofs.Common.{option_copied, ◌<◌, ◌∙◌, map, ap, subst}
use Rattle.std.specs.List.{range_with_len}
use Rattle.roc_program.specs.Program.{Workload}
use Rattle.roc_world.proofs.FirstNodes.{first_server_at, is_first}
use Rattle.roc_world.proofs.WorldsFit.{first_fits}
use Rattle.roc_world.proofs.world.World.new.Goals as goal

pub returns-clause-first : goal.returns-clause-first
returns-clause-first c =
    is_first c.args.plan.now c.args.coords (record {
      servers = c.in_ok-servers.servers;
      coords = c.in_ok-coords.coords;
      network = c.new.result;
      history = c.new-2.result;
      order = c.new-3.result;
      looks = c.new-4.result;
    })
    (c.in_ok-servers.ensures ∙ ap (λ n. map (first_server_at c.args.plan.now) (range_with_len 0 n)) (c.shards.ensures.value ∙ ap (λ (p : Workload). p.shards) c.workload.ensures.program)) c.in_ok-coords.ensures
    c.new.ensures c.new-2.ensures c.new-3.ensures c.new-4.ensures.items

pub returns-clause-fits : goal.returns-clause-fits
returns-clause-fits c =
    let next = option_copied c.args.next in
    first_fits c.args.plan.now next c.args.coords _
    (c.grown_worlds_fit.ensures.first c.args.plan.now next c.args.coords (subst (λ (p : Workload). 0 < p.shards) c.workload.ensures.program c.shards.ensures.well_formed.some_shard) c.requires.coords)
    (returns-clause-first c)
