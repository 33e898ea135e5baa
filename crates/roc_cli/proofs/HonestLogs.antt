-- Why an audit of the logs of one run finds nothing wrong
use Rattle.std.proofs.Common.{List, sym, ap, subst, ◌∙◌}
use Rattle.std.proofs.lemmas.Bool.{false≢true}
use Rattle.roc_plan.specs.Groups.{Plan}
use Rattle.roc_plan.specs.Accepted.{IsAccepted}
use Rattle.roc_log.specs.declared.line.Log.{Log}
use Rattle.roc_auditor.specs.Verdict.{IsVerdict}
use Rattle.roc_cli_nodes.specs.Call.{RunCall}
use Rattle.roc_cli.specs.Audited.{Refutes, is_yes}
use Rattle.roc_cli.specs.Fit.{AuditFits}
use Rattle.roc_cli.specs.Honest.{HonestFits}
use Rattle.roc_cli.specs.Inner.Faultless.{IsExplicable}
use Rattle.roc_cli.specs.Inner.Texts.{TextLaws}
use Rattle.roc_cli.proofs.FittingLogs.{auditable, same_plan_asked, same_held}

module _ (laws : TextLaws) (call : RunCall) (fit : HonestFits call) where
  accepted : IsAccepted fit.asked.plan
  accepted = laws.accepted fit.asked.bytes fit.asked.plan fit.asked.planned

  -- each shard's server has a log
  abbrev audited : AuditFits call
  audited = record {
    names = fit.names;
    asked = fit.asked;
    logs = fit.logs;
    told = fit.told;
    whole = laws.whole_logs fit.asked.plan fit.coords fit.steps fit.world accepted fit.ran fit.viewless fit.logs fit.logged;
  }

  -- the logs that were judged are these, and the verdict over these is a yes
  unrefuted : Refutes call → ⊥
  unrefuted h =
      let same = same_held laws call audited h.plan h.asked.names h.logs h.asked.asked h.asked.held in
      let is : IsVerdict fit.asked.plan fit.logs h.verdict =
      subst (λ (ls : List Log). IsVerdict fit.asked.plan ls h.verdict) same
      (subst (λ (p : Plan). IsVerdict p h.logs h.verdict) (same_plan_asked laws call fit.names fit.asked h.plan h.asked.names h.asked.asked) h.is) in
      let yes = laws.yes_logs fit.asked.plan fit.coords fit.steps fit.world accepted fit.ran fit.viewless fit.logs fit.logged h.verdict is in
      false≢true (sym h.refuted ∙ ap is_yes yes.2)

  pub explicable : IsExplicable call
  explicable = record { is = auditable laws call audited; unrefuted = unrefuted }
