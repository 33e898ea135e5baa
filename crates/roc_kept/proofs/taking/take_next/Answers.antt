use Rattle.std.proofs.Common.{ℕ, refl, sym, subst, Ok, Err}
use Rattle.roc_journal.specs.Reading.{ReadsNext}
use Rattle.roc_kept.specs.Opening.{IsRefusedAt, record_is_ignored, TakesAgain}
use Rattle.roc_kept.proofs.Opened.{gives_more, no_record, one_taken, one_ignored}
use Rattle.roc_kept.proofs.taking.take_next.Goals as goal

pub returns-in-Err-Journal-clause-taken : goal.returns-in-Err-Journal-clause-taken
returns-in-Err-Journal-clause-taken g c = λ tells name file shard records taken.
    let bytes = g.D.Disk.content c.args.disk.now name in
    let read = subst (λ fault. ReadsNext bytes records c.args.reader c.next.new.self (Err fault)) c.in-Err-Journal.field-0-is (c.in-Err-Journal.ensures.read tells name file records taken.read) in
    subst (λ (at : ℕ). IsRefusedAt c.args.plan.now c.args.reader.tag shard bytes at) (sym c.in-Err-Journal.at-is)
    (no_record c.args.plan.now shard bytes records c.args.reader c.args.server.now.state c.args.server.now.viewing taken _ read)

pub returns-in-Ok-None-clause-taken : goal.returns-in-Ok-None-clause-taken
returns-in-Ok-None-clause-taken g c = λ tells name file shard records taken.
    (subst (λ found. ReadsNext (g.D.Disk.content c.args.disk.now name) records c.args.reader c.next.new.self (Ok found)) c.in-Ok-None.field-0-is (c.in-Ok-None.ensures.read tells name file records taken.read), refl, refl)

pub returns-in-Ok-true-clause-taken : goal.returns-in-Ok-true-clause-taken
returns-in-Ok-true-clause-taken g c = λ tells name file shard records taken.
    let bytes = g.D.Disk.content c.args.disk.now name in
    let read = subst (λ found. ReadsNext bytes records c.args.reader c.next.new.self (Ok found)) c.in-Ok-Some.field-0-is (c.in-Ok-Some.ensures.read tells name file records taken.read) in (
      c.in-Ok-Some.found,
      one_taken c.args.plan.now shard bytes records c.in-Ok-Some.found c.args.reader c.next.new.self c.args.server.now.state c.take_found.new.server.state c.args.server.now.viewing c.take_found.new.server.viewing c.in-Ok-Some.at
          taken read (subst (TakesAgain c.args.plan.now c.in-Ok-Some.found.msg c.args.server.now.state c.args.server.now.viewing c.take_found.new.server.state c.take_found.new.server.viewing) c.in-Ok-true.field-0-test c.in-Ok-true.ensures.step),
    )

pub returns-in-Ok-false-clause-taken : goal.returns-in-Ok-false-clause-taken
returns-in-Ok-false-clause-taken g c = λ tells name file shard records taken.
    let bytes = g.D.Disk.content c.args.disk.now name in
    let read = subst (λ found. ReadsNext bytes records c.args.reader c.next.new.self (Ok found)) c.in-Ok-Some.field-0-is (c.in-Ok-Some.ensures.read tells name file records taken.read) in
    subst (λ (at : ℕ). IsRefusedAt c.args.plan.now c.args.reader.tag shard bytes at) c.in-Ok-Some.at-is
    (record_is_ignored (one_ignored c.args.plan.now shard bytes records c.in-Ok-Some.found c.args.reader c.next.new.self c.args.server.now.state c.take_found.new.server.state c.args.server.now.viewing c.take_found.new.server.viewing c.in-Ok-Some.at
    taken c.next.ensures.same.0 read (subst (TakesAgain c.args.plan.now c.in-Ok-Some.found.msg c.args.server.now.state c.args.server.now.viewing c.take_found.new.server.state c.take_found.new.server.viewing) c.in-Ok-false.field-0-test c.in-Ok-false.ensures.step)))

pub returns-in-Ok-true-clause-gives : goal.returns-in-Ok-true-clause-gives
returns-in-Ok-true-clause-gives g c = λ shard.
    gives_more c.args.plan.now shard c.in-Ok-Some.found.msg c.args.server.now.state c.take_found.new.server.state c.args.server.now.viewing c.take_found.new.server.viewing
    (subst (TakesAgain c.args.plan.now c.in-Ok-Some.found.msg c.args.server.now.state c.args.server.now.viewing c.take_found.new.server.state c.take_found.new.server.viewing) c.in-Ok-true.field-0-test c.in-Ok-true.ensures.step)
