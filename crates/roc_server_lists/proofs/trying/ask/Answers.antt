use Rattle.std.proofs.Common.{◌∙◌, sym, subst}
use Rattle.roc_server_lists.specs.ListsNow.{IsNoneLeft, KeptLists}
use Rattle.roc_server_lists.specs.Inner.Parts.{kept_in}
use Rattle.roc_server_lists.proofs.Held.{asking_left, reserved_kept, reserved_sound, still_held, still_none, untried_kept, untried_sound}
use Rattle.roc_server_lists.proofs.trying.ask.Goals as goal

pub returns-in_err-reserve-clause-held : goal.returns-in_err-reserve-clause-held
returns-in_err-reserve-clause-held c =
    let k = c.args.parts.now in
    let waits = c.reserve.new.self in
    still_held k (record k { waits = waits }) c.args.trial.now c.requires.untried
    (reserved_sound k waits c.reserve.ensures.waiting c.reserve.ensures.fetches (untried_sound k c.args.trial.now c.requires.untried c.requires.held))

pub returns-in_err-reserve-clause-none : goal.returns-in_err-reserve-clause-none
returns-in_err-reserve-clause-none c = let k = c.args.parts.now in still_none _ k (record k { waits = c.reserve.new.self }) c.args.trial.now c.requires.untried

pub returns-clause-left : goal.returns-clause-left
returns-clause-left c started none =
    let k = c.args.parts.now in
    let same = reserved_kept k c.reserve.new.self c.reserve.ensures.waiting c.reserve.ensures.fetches ∙ untried_kept k c.args.trial.now c.requires.untried in
    asking_left started c.args.asker (kept_in (record k { waits = c.reserve.new.self })) (subst (λ (l : KeptLists). IsNoneLeft started l.lists) (sym same) none)
