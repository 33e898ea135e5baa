use Rattle.std.proofs.Common.{◌≡◌, length, sym, ◌∙◌}
use Rattle.roc_conflict.specs.Classes.{is_immediate}
use Rattle.roc_merge_groups.proofs.Accepting.{no_cycle_exactly, contended_together}
use Rattle.roc_merge_accept.proofs.Tested.{contended_there}
use Rattle.roc_merge_accept.proofs.acceptance.are_accepted.Goals as goal

pub returns : goal.returns
returns c =
    let program = c.args.workload.now in
    let classes = is_immediate c.args.classes.now in
    let groups = c.args.groups.now in (
      λ t.
          let even : length groups ≡ length program.procedures = sym c.procedure_count.ensures ∙ c.if-procedure_count-from.false ∙ c.from.ensures ∙ c.procedure_count-2.ensures in
          let each = c.are_accepted_in_each.ensures.0 c.if-not-are_accepted_in_each.false in
          let least = c.is_least.ensures.0 c.if-not-is_least.false in
          record {
            procedures = even;
            each = each;
            least = least;
            no_cycle = (no_cycle_exactly program classes groups even least each).1
                (λ proc x y cx cy. c.are_contended_in_one.ensures.0 t proc (contended_there program classes proc x cx).procedure x y cx cy);
          },
      λ is. c.are_contended_in_one.ensures.1 (λ proc l. contended_together program classes groups is proc),
    )
