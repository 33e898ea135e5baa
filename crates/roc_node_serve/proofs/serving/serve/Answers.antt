use Rattle.std.proofs.Common.{Bor, List, Some, None, ℕ, ap}
use Rattle.std.specs.Prelude.{option_map}
use Rattle.roc_node_serve.proofs.Opened.{served_headed, served_named}
use Rattle.roc_node_serve.proofs.serving.serve.Goals as goal

pub returns-in-None-clause-serves : goal.returns-in-None-clause-serves
returns-in-None-clause-serves g c = λ own at.
    let log = option_map (λ (n : Bor (List ℕ)). n.now) c.args.log in
    served_named _ _ _ _ _ _ _ _ _ _ _ None log _ (ap (option_map (λ (n : Bor (List ℕ)). n.now)) c.in-None.is)
    (served_headed g.D.Disk c.args.disk.now c.serve_unkept.new.disk c.args.shard own c.args.turns c.args.counts _ _ c.serve_unkept.result None log c.args.plan.now c.args.cluster.now
    c.own_header-header.result _ c.own_header-header.ensures.is (c.serve_unkept.ensures.serves own at))

pub returns-in-Some-clause-serves : goal.returns-in-Some-clause-serves
returns-in-Some-clause-serves g c = λ own at.
    let log = option_map (λ (n : Bor (List ℕ)). n.now) c.args.log in
    served_named _ _ _ _ _ _ _ _ _ _ _ (Some c.in-Some.name.now) log _ (ap (option_map (λ (n : Bor (List ℕ)). n.now)) c.in-Some.is)
    (served_headed g.D.Disk c.args.disk.now c.serve_kept.new.disk c.args.shard own c.args.turns c.args.counts _ _ c.serve_kept.result (Some c.in-Some.name.now) log c.args.plan.now
    c.args.cluster.now c.own_header-header.result _ c.own_header-header.ensures.is (c.serve_kept.ensures.serves own at))
