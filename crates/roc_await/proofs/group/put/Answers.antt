use Rattle.std.proofs.Common.{◌≡◌, ◌<◌, ◌++◌, ◌∙◌, List, length, get_or, ap, subst, refl}
use Rattle.std.proofs.lemmas.Result.{on_ok_weaker}
use Rattle.roc_base.specs.declared.id.TxnId.{TxnId}
use Rattle.roc_await.specs.declared.group.Group.{Group}
use Rattle.roc_await.proofs.InGroups.{joined_last, joined_same}
use Rattle.roc_await.proofs.group.put.Goals as goal

pub returns-in-Some : goal.returns-in-Some
returns-in-Some c =
    let at = c.in-Some.at in
    let old : Group = c.index_mut.result.now in
    let missing : Group → List TxnId = λ g. g.missing in
    let longer : List TxnId → Group = λ ids. record old { of = old.of ++ ids } in
    let within = subst (λ (gs : List Group). at < length gs) c.deref.ensures.value c.in-Some.ensures.within in
    let same = subst (λ (gs : List Group). (get_or gs at old).missing ≡ c.as_slice.result.now) c.deref.ensures.value (c.in-Some.ensures.same old) in
    on_ok_weaker c.add_to.result
    (λ added. joined_same c.args.groups.now.items _ at old c.add_to.new.group c.args.group within c.index_mut.ensures.value (ap missing c.index_mut.ensures.value ∙ same ∙ c.as_slice.ensures) (added ∙ ap longer c.as_slice-in-Some.ensures) refl) c.add_to.ensures

pub returns-in_ok-push-in-None : goal.returns-in_ok-push-in-None
returns-in_ok-push-in-None c = joined_last c.args.groups.now.items c.push.new.self.items c.args.group c.in_ok-push-in-None.ensures.items
