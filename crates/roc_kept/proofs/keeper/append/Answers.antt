use Rattle.std.proofs.Common.{◌∙◌}
use Rattle.roc_journal.specs.declared.record.Record.{Record}
use Rattle.roc_kept.proofs.keeper.append.Goals as goal

pub returns-in-Err-Disk-clause-any_moment : goal.returns-in-Err-Disk-clause-any_moment
returns-in-Err-Disk-clause-any_moment g c = λ tells name tag records k same.
    let added : Record = record { header = c.args.header.now; msg = c.args.msg.now } in
    c.append.ensures.any_moment tells name tag records added k.1 (same, c.requires.spelling) (c.deref.ensures.value ∙ c.in-Ok.ensures)

pub returns-clause-kept : goal.returns-clause-kept
returns-clause-kept g c = λ tells name tag records k same.
    let added : Record = record { header = c.args.header.now; msg = c.args.msg.now } in
    (k.0, c.in-Ok-append.ensures.appended tells name tag records added k.1 (same, c.requires.spelling) (c.deref.ensures.value ∙ c.in-Ok.ensures))

pub returns-clause-any_moment : goal.returns-clause-any_moment
returns-clause-any_moment g c = λ tells name tag records k same.
    let added : Record = record { header = c.args.header.now; msg = c.args.msg.now } in
    c.append.ensures.any_moment tells name tag records added k.1 (same, c.requires.spelling) (c.deref.ensures.value ∙ c.in-Ok.ensures)
