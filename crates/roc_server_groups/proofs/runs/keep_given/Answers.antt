use Rattle.std.proofs.Common.{◌≡◌, ◌++◌, ◌∷◌, [], ◌∙◌, Some, slice_set, ap, rules}
use Rattle.roc_server_groups.specs.Inner.Restored.{restored}
use Rattle.roc_server_groups.proofs.GroupRuns.{got}
use Rattle.roc_server_groups.proofs.Restored.{restored-noted}
use Rattle.roc_server_groups.proofs.runs.keep_given.Goals as goal

pub returns-clause-restored : goal.returns-clause-restored
returns-clause-restored c =
    let here = got c.args.started.now.groups c.args.at c.requires in
    let e = here.0 in
    let set : c.keep_later-later.new.self.groups ≡ slice_set c.args.started.now.groups c.args.at (record e { later = Some c.args.given }) = c.keep_later-later.ensures.later e here.1 in
    let was : c.keep_later-later.result ≡ e.later = c.keep_later-later.ensures.before e here.1 in
    let noted : c.push.new.self.items ≡ c.args.earlier.now.items ++ (record { at = c.args.at; later = c.keep_later-later.result }) ∷ [] = search rules in
    ap (λ ws. restored ws c.keep_later-later.new.self.groups) noted
    ∙ (λ i. restored (c.args.earlier.now.items ++ (record { at = c.args.at; later = was i }) ∷ []) (set i))
    ∙ restored-noted c.args.earlier.now.items c.args.started.now.groups c.args.at e (Some c.args.given) here.1
