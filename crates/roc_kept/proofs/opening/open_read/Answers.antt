use Rattle.std.proofs.Common.{sym, subst}
use Rattle.roc_journal.specs.declared.journal.Journal.{Journal}
use Rattle.roc_journal.specs.declared.reader.Reader.{Reader}
use Rattle.roc_journal.specs.Format.{IsJournal}
use Rattle.roc_kept.proofs.Opened.{err_cause, err_opens, only_read, still_durable, settled, then_cut}
use Rattle.roc_kept.proofs.opening.open_read.Goals as goal

pub returns-in-Err-clause-cause : goal.returns-in-Err-clause-cause
returns-in-Err-clause-cause g c = err_cause Reader Journal c.in-Err.fault (g.D.Disk.faults c.args.disk.now) (g.D.Disk.faults c.args.disk.now) (g.D.Disk.faults c.take_records.new.disk) (λ i. g.D.Disk.faults c.args.disk.now) c.in-Err.ensures.cause

pub returns-in-Err-clause-opened : goal.returns-in-Err-clause-opened
returns-in-Err-clause-opened g c = λ tells name durable shard first.
    err_opens g.D.Disk c.take_records.new.disk c.args.plan.now name c.args.reader.tag shard (g.D.Disk.content c.args.disk.now name) c.take_records.new.server.state c.take_records.new.server.viewing c.in-Err.fault
    (c.in-Err.ensures.taken tells name durable.file shard first)

pub returns-in-Err-clause-any_moment : goal.returns-in-Err-clause-any_moment
returns-in-Err-clause-any_moment g c = λ tells name durable shard first.
    only_read g.D.Disk c.args.disk.now c.take_records.new.disk c.take_records.new.disk name c.args.plan.now shard c.args.reader.tag c.args.reader c.args.server.now.state c.args.server.now.viewing (c.take_records.ensures.stays tells)

pub returns-in-None-clause-any_moment : goal.returns-in-None-clause-any_moment
returns-in-None-clause-any_moment g c = λ tells name durable shard first.
    let D = g.D.Disk in
    let mid = c.into_journal.ensures.told tells in
    let stays = c.take_records.ensures.stays mid in
    let a = c.in-Ok.ensures.taken mid name durable.file shard first in
    let d = still_durable D c.args.disk.now c.take_records.new.disk c.into_journal.new.disk name c.args.plan.now shard c.args.reader.tag c.in-Ok.last c.take_records.new.server.state c.take_records.new.server.viewing stays durable in
    then_cut D c.args.disk.now c.take_records.new.disk c.into_journal.new.disk name c.args.plan.now shard c.args.reader.tag c.in-Ok.last c.take_records.new.server.state c.take_records.new.server.viewing stays c.in-Ok.ensures.further.0 a
    (c.into_journal.ensures.any_moment tells name (D.content c.args.disk.now name) a.records d a.taken.read (subst (λ tag. IsJournal tag (D.content c.args.disk.now name) a.records) (sym c.in-Ok.ensures.further.0) a.journal))

pub returns-in-Some-clause-opened : goal.returns-in-Some-clause-opened
returns-in-Some-clause-opened g c = λ tells name durable shard first.
    let D = g.D.Disk in
    let mid = c.into_journal.ensures.told tells in
    let stays = c.take_records.ensures.stays mid in
    let a = c.in-Ok.ensures.taken mid name durable.file shard first in
    let d = still_durable D c.args.disk.now c.take_records.new.disk c.into_journal.new.disk name c.args.plan.now shard c.args.reader.tag c.in-Ok.last c.take_records.new.server.state c.take_records.new.server.viewing stays durable in
    settled D c.args.disk.now c.take_records.new.disk c.into_journal.new.disk name c.args.plan.now shard c.args.reader.tag c.in-Ok.last c.take_records.new.server.state c.take_records.new.server.viewing c.in-Some.journal c.in-Ok.ensures.further.0 a
    (c.in-Some.ensures.settled tells name (D.content c.args.disk.now name) a.records d a.taken.read (subst (λ tag. IsJournal tag (D.content c.args.disk.now name) a.records) (sym c.in-Ok.ensures.further.0) a.journal))

pub returns-in-Some-clause-any_moment : goal.returns-in-Some-clause-any_moment
returns-in-Some-clause-any_moment g c = λ tells name durable shard first.
    let D = g.D.Disk in
    let mid = c.into_journal.ensures.told tells in
    let stays = c.take_records.ensures.stays mid in
    let a = c.in-Ok.ensures.taken mid name durable.file shard first in
    let d = still_durable D c.args.disk.now c.take_records.new.disk c.into_journal.new.disk name c.args.plan.now shard c.args.reader.tag c.in-Ok.last c.take_records.new.server.state c.take_records.new.server.viewing stays durable in
    then_cut D c.args.disk.now c.take_records.new.disk c.into_journal.new.disk name c.args.plan.now shard c.args.reader.tag c.in-Ok.last c.take_records.new.server.state c.take_records.new.server.viewing stays c.in-Ok.ensures.further.0 a
    (c.into_journal.ensures.any_moment tells name (D.content c.args.disk.now name) a.records d a.taken.read (subst (λ tag. IsJournal tag (D.content c.args.disk.now name) a.records) (sym c.in-Ok.ensures.further.0) a.journal))
