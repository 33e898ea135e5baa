use Rattle.std.proofs.Common.{◌≡◌, List, IfOk, refl, sym, subst}
use Rattle.roc_base.specs.declared.id.TxnId.{TxnId}
use Rattle.roc_step.specs.New.{AreDecided}
use Rattle.roc_step.specs.Fits.{ServerFits}
use Rattle.roc_server.specs.Inner.Parts.{state_of}
use Rattle.roc_server.specs.State.{Serving}
use Rattle.roc_step.specs.Waiting.{is_waiting, waiting_groups, waiting_of}
use Rattle.roc_server.proofs.ReadsBefore.{fits_now, for_decided, over_same}
use Rattle.roc_server.proofs.server.Server.waiting.Goals as goal

pub all_waiting-requires : goal.all_waiting-requires
all_waiting-requires c =
    fits_now c.self.inside.parts c.self.invariant.0.sound c.args.plan.now (subst (λ (v : Serving). ServerFits c.args.plan.now v.state) (sym c.self.view_is) c.requires.fits)

pub returns : goal.returns
returns c =
    let k = c.self.inside.parts in
    let sound = c.self.invariant.0.sound in
    let plan = c.args.plan.now in
    let at = state_of c.self.inside.shard k in
    let found : IfOk c.all_waiting.result (λ groups. groups.items ≡ waiting_groups plan k.lists.decided at) =
    subst (λ ws. IfOk c.all_waiting.result (λ groups. groups.items ≡ ws))
    (over_same waiting_of (is_waiting plan k.lists.decided) (λ e. refl) (λ e. refl) k.groups.kept k.groups.ran sound.groups.same) c.all_waiting.ensures in
    subst (λ (v : Serving). IfOk c.all_waiting.result (λ groups. (decided : List TxnId) → AreDecided v.state.lists.links decided → groups.items ≡ waiting_groups plan decided v.state)) c.self.view_is
    (for_decided c.all_waiting.result (λ groups. groups.items) (λ decided. waiting_groups plan decided at) k.lists.kept.lists.links k.lists.decided sound.lists.decided found)
