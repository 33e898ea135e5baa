use Rattle.std.proofs.Common.{◌≡◌, take, drop, insert, sym, subst}
use Rattle.std.proofs.lemmas.List.{take-append-drop}
use Rattle.roc_sequence.specs.Rising.{IsRising}
use Rattle.roc_server_taken.specs.Inner.Over.{is_not_ahead}
use Rattle.roc_server_taken.proofs.Rising.{rising_between}
use Rattle.roc_server_taken.proofs.components.put.Goals as goal

pub returns-clause-rising : goal.returns-clause-rising
returns-clause-rising c =
    let old = c.args.components.now.items in
    let at = c.count_before-at.result in
    let x = c.args.component in
    let made : c.insert.new.self.items ≡ insert old at x = rw c.unwrap.ensures at c.insert.ensures.items in
    subst (IsRising is_not_ahead) (sym made)
    (rising_between x (take at old) (drop at old) (subst (IsRising is_not_ahead) (sym (take-append-drop at old)) c.requires.rising)
    c.count_before-at.ensures.before c.count_before-at.ensures.behind)
