-- What comes of a message is one
use Rattle.std.proofs.Common.{◌≡◌, List, sym, ap, subst, ◌∙◌}
use Rattle.roc_base.specs.declared.id.TxnId.{TxnId}
use Rattle.roc_depgraph.specs.Deps.{IsDecided}
use Rattle.roc_step.proofs.TakenNew.{one_new}
use Rattle.roc_msg.specs.declared.msg.Msg.{Msg}
use Rattle.roc_plan.specs.Groups.{Plan}
use Rattle.roc_step.specs.Reads.{reads_behind, AnswersReads, ReadStep}
use Rattle.roc_step.specs.State.{ServerState, ServerStep, Viewing}
use Rattle.roc_step.specs.New.{AreLedTo}
use Rattle.roc_step.specs.Step.{edges_told, after_message, Handles}
use Rattle.roc_depgraph.proofs.RisingLists.{rising_one}

pub one_step : (plan : Plan) (s : ServerState) (msg : Msg) (r other : ServerStep) → Handles plan s msg r → Handles plan s msg other → r ≡ other
one_step plan s msg r other h k =
    let f = h.findings in
    let g = k.findings in
    let before : f.before ≡ g.before = rising_one (IsDecided s.lists.links) f.before g.before h.found.before k.found.before in
    let Led : List TxnId → Type 0 = λ out. AreLedTo s.lists.links (edges_told plan out s msg) f.reached in
    let reached : f.reached ≡ g.reached = rising_one _ f.reached g.reached (subst Led before h.found.reached) k.found.reached in
    let components : f.components ≡ g.components = one_new (IsDecided s.lists.links) _ f.components g.components h.found.components k.found.components in
    h.is ∙ (λ i. after_message plan s (record { before = before i; reached = reached i; components = components i }) msg) ∙ sym k.is

pub one_read_step : (plan : Plan) (v : Viewing) (msg : Msg) (r : ServerStep) (q other : ReadStep) → AnswersReads plan v msg r q → AnswersReads plan v msg r other → q ≡ other
one_read_step plan v msg r q other a b =
    a.is ∙ ap (λ ids. reads_behind plan ids v msg r) (rising_one (IsDecided r.state.lists.links) a.decided b.decided a.found b.found) ∙ sym b.is
