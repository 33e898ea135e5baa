use Rattle.std.proofs.Common.{◌∙◌, Bor, List, ℕ, refl}
use Rattle.std.specs.Prelude.{option_map}
use Rattle.roc_node.proofs.Moving.{Moves-none}
use Rattle.roc_node.specs.Setting.{setting_of}
use Rattle.roc_node_serve.specs.declared.ends.ServeEnd.TheVariants as end
use Rattle.roc_node_serve.specs.Pieces.{silent}
use Rattle.roc_node_serve.proofs.Logs.{not_begun}
use Rattle.roc_node_serve.proofs.Opened.{calls_behind, calls_still, opens_with, serves_behind, serves_still}
use Rattle.roc_node_serve.proofs.Served.{serves_wanting}
use Rattle.roc_node_serve.proofs.serving.serve_opened.Goals as goal

pub returns-in-Err-clause-calls : goal.returns-in-Err-clause-calls
returns-in-Err-clause-calls g c = calls_still _ _ _ c.in-Err.ensures.untouched _

pub returns-in-Err-clause-serves : goal.returns-in-Err-clause-serves
returns-in-Err-clause-serves g c = λ own at.
    serves_still _ _ _ c.in-Err.ensures.untouched _ _ _ _ _ _ _ _ _ _
    (serves_wanting _ (λ now name image tells left. g.met.D.Disk.only_now now name image tells left) _ _ _ _ _ _ _ _ _ _ (λ image left. left)
    (record { bound = refl; moves = Moves-none _ _ refl refl refl refl; silent = refl }) (not_begun (option_map (λ (n : Bor (List ℕ)). n.now) c.args.log) _ _ _ _ refl))

pub returns-in-Ok-clause-calls : goal.returns-in-Ok-clause-calls
returns-in-Ok-clause-calls g c = calls_behind _ _ _ _ _ _ c.in-Ok.ensures.untouched c.in-Ok.ensures.same _ _ c.serve_from.ensures.calls

pub returns-in-Ok-clause-serves : goal.returns-in-Ok-clause-serves
returns-in-Ok-clause-serves g c = λ own at.
    serves_behind _ _ _ _ _ _ c.in-Ok.ensures.untouched c.in-Ok.ensures.same _ _ _ _ _ _ _ _ _
    (opens_with c.args.setting.logs (setting_of c.args.setting) _ _ c.in-Ok.output c.deref.result.now c.in-Ok.ensures.leads c.in-Ok.ensures.same c.requires.first c.deref.ensures.value)
    (c.serve_from.ensures.serves own at c.in-Ok.ensures.leads.messages c.in-Ok.ensures.leads.lines (c.deref-in-Ok.ensures.value ∙ c.in-Ok.ensures.leads.text))

pub returns-in-Err-clause-pieces : goal.returns-in-Err-clause-pieces
returns-in-Err-clause-pieces g c = silent end.NoMemory refl refl
