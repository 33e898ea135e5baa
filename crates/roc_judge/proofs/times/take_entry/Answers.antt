use Rattle.std.proofs.Common.{◌++◌, ◌∷◌, sym, ap, ◌∙◌}
use Rattle.roc_audit.specs.declared.entry.Entry.{Entry}
use Rattle.roc_judge.specs.Inner.Times.{open_in, time_walk}
use Rattle.roc_judge.proofs.Timed.{on_ok_three, submitted_walk}
use Rattle.roc_judge.proofs.times.take_entry.Goals as goal

pub returns-in-Submitted : goal.returns-in-Submitted
returns-in-Submitted c =
    on_ok_three c.submit.result c.submit.ensures.pairs c.submit.ensures.begun c.submit.ensures.rest (λ p b r es.
    submitted_walk (open_in c.args.timing.now.begun.entries)
    (open_in c.submit.new.timing.begun.entries) c.args.timing.now.answers.items c.submit.new.timing.answers.items c.args.timing.now.low c.submit.new.timing.low
    c.in-Submitted.id c.in-Submitted.proc c.in-Submitted.args es c.args.pairs.now.items c.submit.new.pairs.items p b r.0 r.1
    ∙ ap (λ (e : Entry). c.args.pairs.now.items ++ time_walk (open_in c.args.timing.now.begun.entries) c.args.timing.now.answers.items c.args.timing.now.low (e ∷ es)) (sym c.in-Submitted.is))
