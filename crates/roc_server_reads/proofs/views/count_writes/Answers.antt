use Rattle.std.proofs.Common.{◌+◌, ◌∷◌, drop, ◌∙◌, ap, sym, arith}
use Rattle.roc_sequence.proofs.Fronts.{no_rest, rest_at}
use Rattle.roc_step.specs.Reads.{with_accesses}
use Rattle.roc_server_reads.proofs.CountedWrites.{one_has_room, rest_counted, rest_has_room}
use Rattle.roc_server_reads.proofs.views.count_writes.Goals as goal

pub count_write-requires : goal.count_write-requires
count_write-requires c =
    let ran = c.args.ran.now in
    let at = c.loop-access.access-index in
    let left = rest_at ran at c.access-item.result (omega arith) ∙ ap (λ a. a ∷ drop (at + 1) ran) (sym c.access-item.is) in
    one_has_room c.loop-access.versions.spare c.access-item.result (drop at ran) (drop (at + 1) ran) left c.loop-access.invariant.room

pub loop-access-preserved : goal.loop-access-preserved
loop-access-preserved c =
    let ran = c.args.ran.now in
    let at = c.loop-access.access-index in
    let left = rest_at ran at c.access-item.result (omega arith) ∙ ap (λ a. a ∷ drop (at + 1) ran) (sym c.access-item.is) in
    record {
      counts = rest_counted c.loop-access.versions.counts c.count_write.new.versions.counts _ c.access-item.result (drop at ran) (drop (at + 1) ran)
          left c.count_write.ensures.counts c.loop-access.invariant.counts;
      room = rest_has_room c.loop-access.versions.spare c.count_write.new.versions.spare c.access-item.result (drop at ran) (drop (at + 1) ran)
          left c.loop-access.invariant.room c.count_write.ensures.spare;
    }

pub returns : goal.returns
returns c = ap (with_accesses c.loop-access.versions.counts) (sym (no_rest c.args.ran.now c.loop-access.access-index (omega arith))) ∙ c.loop-access.invariant.counts
