use Rattle.std.proofs.Common.{◌≡◌, ◌∙◌, ℕ, List, [], length, refl, sym, ap, subst, Ok, Err}
use Rattle.roc_disk.specs.Over.{LeavesOnly}
use Rattle.roc_disk.specs.Stops.{Only}
use Rattle.roc_journal.specs.Reading.{IsReadTo, Opens, OpensRight}
use Rattle.roc_kept.specs.Opening.{head_is_bad, IsRefusedAt, IsTakenTo, LeftByOpening}
use Rattle.roc_kept.proofs.Opened.{only_stayed, then_made, then_left, made_settled, opens_there, durable_here}
use Rattle.roc_kept.proofs.opening.open_named.Goals as goal

pub returns-in-Err-Journal-clause-opened : goal.returns-in-Err-Journal-clause-opened
returns-in-Err-Journal-clause-opened g c = λ tells name file shard first.
    let bytes = g.D.Disk.content c.args.disk.now name in
    let found = subst (λ fault. Opens c.args.tag bytes (Err fault)) c.in-Err-Journal.field-0-is (c.in-Err-Journal.ensures.started tells name file) in
    let within = subst (λ fault. OpensRight c.args.tag (Err fault)) c.in-Err-Journal.field-0-is c.in-Err-Journal.ensures.right in
    subst (λ (at : ℕ). IsRefusedAt c.args.plan.now c.args.tag shard bytes at) (sym c.in-Err-Journal.at-is) (head_is_bad found.0 found.1 within)

pub returns-in-Err-Journal-clause-any_moment : goal.returns-in-Err-Journal-clause-any_moment
returns-in-Err-Journal-clause-any_moment g c = λ tells name file shard first.
    only_stayed g.D.Disk c.args.disk.now c.open.new.disk c.open.new.disk name c.args.tag (c.open.ensures.stays tells)

pub returns-in-Err-Disk-clause-any_moment : goal.returns-in-Err-Disk-clause-any_moment
returns-in-Err-Disk-clause-any_moment g c = λ tells name file shard first.
    only_stayed g.D.Disk c.args.disk.now c.open.new.disk c.open.new.disk name c.args.tag (c.open.ensures.stays tells)

pub returns-in-Err-NoMemory-clause-any_moment : goal.returns-in-Err-NoMemory-clause-any_moment
returns-in-Err-NoMemory-clause-any_moment g c = λ tells name file shard first.
    only_stayed g.D.Disk c.args.disk.now c.open.new.disk c.open.new.disk name c.args.tag (c.open.ensures.stays tells)

pub returns-in-None-clause-any_moment : goal.returns-in-None-clause-any_moment
returns-in-None-clause-any_moment g c = λ tells name file shard first.
    let D = g.D.Disk in
    let mid = c.create.ensures.told tells in
    let stays = c.open.ensures.stays mid in
    let bytes = D.content c.args.disk.now name in
    let none : bytes ≡ [] = subst (λ found. Opens c.args.tag bytes (Ok found)) c.in-Ok-None.field-0-is (c.in-Ok-None.ensures.started mid name file) in
    let durable = c.in-Ok-None.ensures.durable mid name file refl in
    let only = subst (λ (held : List ℕ). Only held (D.may_leave c.open.new.disk name)) none durable.only in
    then_made D c.args.disk.now c.open.new.disk c.create.new.disk name c.args.tag stays none (c.create.ensures.any_moment tells name (stays.file ∙ file) (stays.content name ∙ none) only)

pub returns-in-Some-clause-opened : goal.returns-in-Some-clause-opened
returns-in-Some-clause-opened g c = λ tells name file shard first.
    let D = g.D.Disk in
    let mid = c.create.ensures.told tells in
    let stays = c.open.ensures.stays mid in
    let bytes = D.content c.args.disk.now name in
    let none : bytes ≡ [] = subst (λ found. Opens c.args.tag bytes (Ok found)) c.in-Ok-None.field-0-is (c.in-Ok-None.ensures.started mid name file) in
    let durable = c.in-Ok-None.ensures.durable mid name file refl in
    let only = subst (λ (held : List ℕ). Only held (D.may_leave c.open.new.disk name)) none durable.only in
    made_settled D c.create.new.disk c.args.plan.now name c.args.tag shard bytes c.args.server.now.state c.args.server.now.viewing c.in-Some.journal none first
    (c.in-Some.ensures.made tells name (stays.file ∙ file) (stays.content name ∙ none) only)

pub returns-in-Some-clause-any_moment : goal.returns-in-Some-clause-any_moment
returns-in-Some-clause-any_moment g c = λ tells name file shard first.
    let D = g.D.Disk in
    let mid = c.create.ensures.told tells in
    let stays = c.open.ensures.stays mid in
    let bytes = D.content c.args.disk.now name in
    let none : bytes ≡ [] = subst (λ found. Opens c.args.tag bytes (Ok found)) c.in-Ok-None.field-0-is (c.in-Ok-None.ensures.started mid name file) in
    let durable = c.in-Ok-None.ensures.durable mid name file refl in
    let only = subst (λ (held : List ℕ). Only held (D.may_leave c.open.new.disk name)) none durable.only in
    then_made D c.args.disk.now c.open.new.disk c.create.new.disk name c.args.tag stays none (c.create.ensures.any_moment tells name (stays.file ∙ file) (stays.content name ∙ none) only)

pub open_read-requires-clause-within : goal.open_read-requires-clause-within
open_read-requires-clause-within g c = (subst (λ found. OpensRight c.args.tag (Ok found)) c.in-Ok-Some.field-0-is c.in-Ok-Some.ensures.right).1

pub open_read-requires-clause-len : goal.open_read-requires-clause-len
open_read-requires-clause-len g c = λ mid name file.
    let D = g.D.Disk in
    let stays = c.open.ensures.stays mid in
    let started = subst (λ found. Opens c.args.tag (D.content c.args.disk.now name) (Ok found)) c.in-Ok-Some.field-0-is (c.in-Ok-Some.ensures.started mid name (sym stays.file ∙ file)) in
    started.0 ∙ ap length (sym (stays.content name))

pub returns-in-Ok-Some-clause-opened : goal.returns-in-Ok-Some-clause-opened
returns-in-Ok-Some-clause-opened g c = λ tells name file shard first.
    let D = g.D.Disk in
    let mid = c.open_read.ensures.told tells in
    let stays = c.open.ensures.stays mid in
    let bytes = D.content c.args.disk.now name in
    let held = D.content c.open.new.disk name in
    let right = subst (λ found. OpensRight c.args.tag (Ok found)) c.in-Ok-Some.field-0-is c.in-Ok-Some.ensures.right in
    let started = subst (λ found. Opens c.args.tag bytes (Ok found)) c.in-Ok-Some.field-0-is (c.in-Ok-Some.ensures.started mid name file) in
    let durable = durable_here D c.args.disk.now c.open.new.disk c.open.new.disk name c.args.tag stays (c.in-Ok-Some.ensures.durable mid name file refl) in
    let taken : IsTakenTo c.args.plan.now shard held [] c.in-Ok-Some.reader c.args.server.now.state c.args.server.now.viewing =
    record { read = subst (λ bytes. IsReadTo bytes [] c.in-Ok-Some.reader) (sym (stays.content name)) started.1; fold = first } in
    opens_there D c.open_read.new.disk c.args.plan.now name c.args.tag c.in-Ok-Some.reader.tag shard bytes held c.open_read.new.server.state c.open_read.new.server.viewing c.open_read.result right.0 (stays.content name)
    (c.open_read.ensures.opened tells name durable shard taken)

pub returns-in-Ok-Some-clause-any_moment : goal.returns-in-Ok-Some-clause-any_moment
returns-in-Ok-Some-clause-any_moment g c = λ tells name file shard first.
    let D = g.D.Disk in
    let mid = c.open_read.ensures.told tells in
    let stays = c.open.ensures.stays mid in
    let bytes = D.content c.args.disk.now name in
    let held = D.content c.open.new.disk name in
    let right = subst (λ found. OpensRight c.args.tag (Ok found)) c.in-Ok-Some.field-0-is c.in-Ok-Some.ensures.right in
    let started = subst (λ found. Opens c.args.tag bytes (Ok found)) c.in-Ok-Some.field-0-is (c.in-Ok-Some.ensures.started mid name file) in
    let durable = durable_here D c.args.disk.now c.open.new.disk c.open.new.disk name c.args.tag stays (c.in-Ok-Some.ensures.durable mid name file refl) in
    let taken : IsTakenTo c.args.plan.now shard held [] c.in-Ok-Some.reader c.args.server.now.state c.args.server.now.viewing =
    record { read = subst (λ bytes. IsReadTo bytes [] c.in-Ok-Some.reader) (sym (stays.content name)) started.1; fold = first } in
    then_left D c.args.disk.now c.open.new.disk c.open_read.new.disk name c.args.tag (stays.content name) (stays.no_more name) (only_stayed D c.args.disk.now c.open.new.disk c.open.new.disk name c.args.tag stays)
    (subst (λ tag. LeavesOnly D c.open.new.disk c.open_read.new.disk name (LeftByOpening tag held (D.may_leave c.open.new.disk name))) right.0 (c.open_read.ensures.any_moment tells name durable shard taken))
