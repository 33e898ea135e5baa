use Rattle.std.proofs.Common.{◌∷◌, [], refl, sym, ap, subst, ◌∙◌}
use Rattle.roc_io.specs.Observed.{Adds}
use Rattle.roc_program.specs.Program.{Workload}
use Rattle.roc_node_submit.specs.SubmitEnd.{any_address}
use Rattle.roc_node_local.specs.Children.{serve_commands}
use Rattle.roc_node_local.specs.Local.{unready, unbound, bound}
use Rattle.roc_node.proofs.Moving.{same_view}
use Rattle.roc_node_local.proofs.Ends.{from_bind}
use Rattle.roc_node_local.proofs.local.run_local.Goals as goal

pub returns-in-Err-clause-runs : goal.returns-in-Err-clause-runs
returns-in-Err-clause-runs g c = unready (record { idle = record { link = refl; out = refl }; bound = refl; started = refl; awaited = refl; sent_at_waits = refl })

pub returns-in-Ok-bind-clause-runs : goal.returns-in-Ok-bind-clause-runs
returns-in-Ok-bind-clause-runs g c =
    let made = c.in-Ok-bind.ensures in
    let shards = c.shards-shards.ensures.value ∙ ap (λ (p : Workload). p.shards) c.workload.ensures.program ∙ sym c.requires in
    let commands = c.in-Ok.ensures.commands ∙ ap (serve_commands c.args.workload_name.now c.args.cluster_name.now c.args.turns) shards in
    bound c.run_servers.result (subst (λ o. Adds (g.L.Link.bound c.args.link.now) o (any_address ∷ [])) (sym c.run_servers.ensures.bound) made.bound)
    (from_bind _ _ _ _ _ _ (same_view _ _ _ _ _ _ _ _ made.arrivals made.sent made.lost made.events) (c.run_servers.ensures.runs c.args.workload_name.now c.args.cluster_name.now commands))

pub returns-clause-runs : goal.returns-clause-runs
returns-clause-runs g c =
    let same = c.in-Failed.ensures in
    unbound (record { idle = record { link = same_view _ _ _ _ _ _ _ _ same.arrivals same.sent same.lost same.events; out = refl }; bound = same.bound; started = refl; awaited = refl; sent_at_waits = refl })
