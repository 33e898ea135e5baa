use Rattle.std.proofs.Common.{◌∙◌, ap, sym, subst}
use Rattle.std.specs.Option.{option_copied}
use Rattle.roc_await.specs.Lacks.{AreLacks}
use Rattle.roc_await.specs.Inner.Groups.{all_lacks}
use Rattle.roc_await.proofs.Counted.{counted_found, counted_absent}
use Rattle.roc_await.proofs.lacks.Lacks.missing.Goals as goal

pub returns-in-Some : goal.returns-in-Some
returns-in-Some c = λ known closure are told is.
    let now = ap all_lacks c.deref.ensures.value ∙ c.self.view_is in
    c.len.ensures
    ∙ counted_found known c.deref.result.now (subst (AreLacks known) (sym now) are) c.args.id told c.in-Some.group.now closure (sym c.find_group.ensures ∙ ap option_copied c.in-Some.is) is

pub returns-in-None : goal.returns-in-None
returns-in-None c = λ known closure are told is.
    let now = ap all_lacks c.deref.ensures.value ∙ c.self.view_is in
    counted_absent known c.deref.result.now (subst (AreLacks known) (sym now) are) c.args.id told closure (sym c.find_group.ensures ∙ ap option_copied c.in-None.is) is
