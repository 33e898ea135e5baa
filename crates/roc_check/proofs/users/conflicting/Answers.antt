use Rattle.std.proofs.Common.{ap, ◌∙◌}
use Rattle.std.specs.List.{list_any}
use Rattle.roc_check.specs.Inner.Users.{meets_by}
use Rattle.roc_check.proofs.Gathered.{in_conflict_by}
use Rattle.roc_check.proofs.users.conflicting.Goals as goal

pub returns : goal.returns
returns c = λ id.
    c.met.ensures id ∙ ap (list_any (λ s. meets_by c.args.touched.now c.args.written.now s id)) c.exposed.ensures
    ∙ in_conflict_by c.args.workload.now c.procedures.ensures.well_formed c.args.touched.now c.args.written.now c.requires.touched c.requires.written c.args.first id
