use Rattle.std.proofs.Common.{◌∙◌, [], ap, Bor, List, ℕ, refl, subst, sym}
use Rattle.std.specs.Prelude.{option_map}
use Rattle.roc_kept.specs.declared.kept.KeptServer.{KeptServer}
use Rattle.roc_node.proofs.Moving.{Moves-none}
use Rattle.roc_server.specs.Ahead.{ServingFits}
use Rattle.roc_server.specs.State.{Serving}
use Rattle.roc_node.specs.Setting.{setting_of}
use Rattle.roc_node_serve.specs.declared.ends.ServeEnd.TheVariants as end
use Rattle.roc_node_serve.specs.Pieces.{silent}
use Rattle.roc_node_serve.proofs.Logs.{no_text}
use Rattle.roc_node_serve.proofs.Opened.{first_is, unkept_ready, unkept_served, unkept_wanting}
use Rattle.roc_node_serve.proofs.serving.serve_unkept.Goals as goal

pub serve_from-requires-clause-ready : goal.serve_from-requires-clause-ready
serve_from-requires-clause-ready g c =
    unkept_ready _ _ (subst (ServingFits c.args.setting.plan.now) (sym (ap (λ (k : KeptServer). k.server) c.first_node-server_node.ensures.server ∙ c.unkept.ensures.server)) c.in-Ok.ensures.fits)
    (ap (λ (k : KeptServer). k.keeper) c.first_node-server_node.ensures.server ∙ c.unkept.ensures.none)

pub returns-in-Err-clause-serves : goal.returns-in-Err-clause-serves
returns-in-Err-clause-serves g c = λ own at.
    unkept_wanting _ _ _ _ _ _ (option_map (λ (n : Bor (List ℕ)). n.now) c.args.log) _ (record { bound = refl; moves = Moves-none _ _ refl refl refl refl; silent = refl }) refl

pub returns-in-Ok-clause-disk_stays : goal.returns-in-Ok-clause-disk_stays
returns-in-Ok-clause-disk_stays g c = (c.serve_from.ensures.calls.unkept (ap (λ (k : KeptServer). k.keeper) c.first_node-server_node.ensures.server ∙ c.unkept.ensures.none)).0

pub returns-in-Ok-clause-serves : goal.returns-in-Ok-clause-serves
returns-in-Ok-clause-serves g c = λ own at.
    let server = ap (λ (k : KeptServer). k.server) c.first_node-server_node.ensures.server ∙ c.unkept.ensures.server in
    unkept_served _ _ _ (setting_of c.args.setting) _ _ _ _ _ _ _ (option_map (λ (n : Bor (List ℕ)). n.now) c.args.log) _ _
    (first_is (setting_of c.args.setting) c.args.shard c.first_node-server_node.result (ap (λ (s : Serving). s.state) server ∙ c.in-Ok.ensures.first)
    (ap (λ (s : Serving). s.viewing) server ∙ c.in-Ok.ensures.views) c.first_node-server_node.ensures.first)
    (ap (λ (k : KeptServer). k.keeper) c.first_node-server_node.ensures.server ∙ c.unkept.ensures.none) c.serve_from.ensures.calls
    (c.serve_from.ensures.serves own at [] [] (no_text c.args.setting.logs c.args.setting.plan.now.program))

pub returns-in-Err-clause-pieces : goal.returns-in-Err-clause-pieces
returns-in-Err-clause-pieces g c = silent end.NoMemory refl refl
