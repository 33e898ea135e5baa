use Rattle.std.proofs.Common.{◌∙◌, [], Option, Ok, refl, subst, IfSome}
use Rattle.roc_journal.specs.declared.reader.Reader.{Reader}
use Rattle.roc_kept.specs.Opening.{IsFurther, TakesNext}
use Rattle.roc_kept.proofs.Opened.{stays_here, stays_on, len_on, further_on, err_cause, err_taken, all_taken, more_taken, taken_there}
use Rattle.roc_kept.proofs.taking.take_records.Goals as goal

pub each-init : goal.each-init
each-init g c = record {
  fits = c.requires.fits;
  shard = refl;
  further = (refl, refl, c.requires.within);
  faults = refl;
  told = λ t. t;
  stays = λ t. stays_here g.D.Disk c.args.disk.now t (λ name image left. g.met.D.Disk.only_now c.args.disk.now name image t left);
  gives = λ shard some. some;
  taken = λ tells name file shard first. ([], first);
}

pub take_next-requires-clause-fits : goal.take_next-requires-clause-fits
take_next-requires-clause-fits g c = c.each.invariant.fits

pub take_next-requires-clause-within : goal.take_next-requires-clause-within
take_next-requires-clause-within g c = c.each.invariant.further.2

pub take_next-requires-clause-len : goal.take_next-requires-clause-len
take_next-requires-clause-len g c = λ tells.
    len_on g.D.Disk c.args.disk.now c.each.disk c.args.reader c.each.last (c.each.invariant.stays tells) c.each.invariant.further (c.requires.len (c.each.invariant.told tells))

pub returns-in-Err-clause-cause : goal.returns-in-Err-clause-cause
returns-in-Err-clause-cause g c = err_cause (Option Reader) Reader c.in-Err.fault (g.D.Disk.faults c.args.disk.now) (g.D.Disk.faults c.each.disk) (g.D.Disk.faults c.take_next.new.disk) c.each.invariant.faults c.in-Err.ensures.cause

pub returns-in-Err-clause-told : goal.returns-in-Err-clause-told
returns-in-Err-clause-told g c = λ tells. c.each.invariant.told (c.take_next.ensures.told tells)

pub returns-in-Err-clause-stays : goal.returns-in-Err-clause-stays
returns-in-Err-clause-stays g c = λ tells. stays_on g.D.Disk c.args.disk.now c.each.disk c.take_next.new.disk (c.each.invariant.stays (c.take_next.ensures.told tells)) (c.take_next.ensures.stays tells)

pub returns-in-Err-clause-taken : goal.returns-in-Err-clause-taken
returns-in-Err-clause-taken g c = λ tells name file shard first.
    let D = g.D.Disk in
    let inv = c.each.invariant in
    let t = c.take_next.ensures.told tells in
    let st = inv.stays t in
    let so = inv.taken t name file shard first in
    let plan = c.args.plan.now in
    let bytes = D.content c.args.disk.now name in
    let held = D.content c.each.disk name in
    err_taken plan shard bytes held (st.content name) c.args.reader.tag so.0 c.each.last inv.further.0 c.each.server.state c.take_next.new.server.state c.each.server.viewing c.take_next.new.server.viewing c.in-Err.fault
    (c.in-Err.ensures.taken tells name (st.file ∙ file) shard so.0 (taken_there plan shard bytes held (st.content name) c.args.reader.tag so.0 c.each.last inv.further.0 c.each.server.state c.take_next.new.server.state c.each.server.viewing c.take_next.new.server.viewing so.1))

pub returns-in-Ok-None-clause-cause : goal.returns-in-Ok-None-clause-cause
returns-in-Ok-None-clause-cause g c = c.in-Ok-None.ensures.cause ∙ c.each.invariant.faults

pub returns-in-Ok-None-clause-told : goal.returns-in-Ok-None-clause-told
returns-in-Ok-None-clause-told g c = λ tells. c.each.invariant.told (c.take_next.ensures.told tells)

pub returns-in-Ok-None-clause-stays : goal.returns-in-Ok-None-clause-stays
returns-in-Ok-None-clause-stays g c = λ tells. stays_on g.D.Disk c.args.disk.now c.each.disk c.take_next.new.disk (c.each.invariant.stays (c.take_next.ensures.told tells)) (c.take_next.ensures.stays tells)

pub returns-in-Ok-None-clause-further : goal.returns-in-Ok-None-clause-further
returns-in-Ok-None-clause-further g c = c.each.invariant.further

pub returns-in-Ok-None-clause-taken : goal.returns-in-Ok-None-clause-taken
returns-in-Ok-None-clause-taken g c = λ tells name file shard first.
    let D = g.D.Disk in
    let inv = c.each.invariant in
    let t = c.take_next.ensures.told tells in
    let st = inv.stays t in
    let so = inv.taken t name file shard first in
    let plan = c.args.plan.now in
    let bytes = D.content c.args.disk.now name in
    let held = D.content c.each.disk name in
    all_taken plan shard bytes held (st.content name) c.args.reader.tag so.0 c.each.last inv.further.0 c.each.server.state c.take_next.new.server.state c.each.server.viewing c.take_next.new.server.viewing so.1
    (subst (λ found. TakesNext plan shard held so.0 c.each.last c.each.server.state c.each.server.viewing c.take_next.new.server.state c.take_next.new.server.viewing (Ok found)) c.in-Ok-None.field-0-is
    (c.in-Ok-None.ensures.taken tells name (st.file ∙ file) shard so.0 (taken_there plan shard bytes held (st.content name) c.args.reader.tag so.0 c.each.last inv.further.0 c.each.server.state c.take_next.new.server.state c.each.server.viewing c.take_next.new.server.viewing so.1)))

pub each-preserved : goal.each-preserved
each-preserved g c = record {
  fits = c.take_next.ensures.fits;
  shard = c.take_next.ensures.shard ∙ c.each.invariant.shard;
  further = further_on c.args.reader c.each.last c.in-Ok-Some.next c.each.invariant.further (subst (λ found. IfSome found (IsFurther c.each.last)) c.in-Ok-Some.field-0-is c.in-Ok-Some.ensures.further);
  faults = c.in-Ok-Some.ensures.cause ∙ c.each.invariant.faults;
  told = λ tells. c.each.invariant.told (c.take_next.ensures.told tells);
  stays = λ tells. stays_on g.D.Disk c.args.disk.now c.each.disk c.take_next.new.disk (c.each.invariant.stays (c.take_next.ensures.told tells)) (c.take_next.ensures.stays tells);
  gives = λ shard some. c.in-Ok-Some.ensures.gives shard (c.each.invariant.gives shard some);
  taken = λ tells name file shard first.
      let D = g.D.Disk in
      let inv = c.each.invariant in
      let t = c.take_next.ensures.told tells in
      let st = inv.stays t in
      let so = inv.taken t name file shard first in
      let plan = c.args.plan.now in
      let bytes = D.content c.args.disk.now name in
      let held = D.content c.each.disk name in
      more_taken plan shard bytes held (st.content name) c.args.reader.tag so.0 c.each.last inv.further.0 c.each.server.state c.take_next.new.server.state c.each.server.viewing c.take_next.new.server.viewing c.in-Ok-Some.next
      (subst (λ found. TakesNext plan shard held so.0 c.each.last c.each.server.state c.each.server.viewing c.take_next.new.server.state c.take_next.new.server.viewing (Ok found)) c.in-Ok-Some.field-0-is
      (c.in-Ok-Some.ensures.taken tells name (st.file ∙ file) shard so.0 (taken_there plan shard bytes held (st.content name) c.args.reader.tag so.0 c.each.last inv.further.0 c.each.server.state c.take_next.new.server.state c.each.server.viewing c.take_next.new.server.viewing so.1)));
}

pub returns-in-Err-clause-shard : goal.returns-in-Err-clause-shard
returns-in-Err-clause-shard g c = c.take_next.ensures.shard ∙ c.each.invariant.shard

pub returns-in-Ok-None-clause-shard : goal.returns-in-Ok-None-clause-shard
returns-in-Ok-None-clause-shard g c = c.take_next.ensures.shard ∙ c.each.invariant.shard

pub returns-in-Ok-None-clause-gives : goal.returns-in-Ok-None-clause-gives
returns-in-Ok-None-clause-gives g c = λ shard some. c.in-Ok-None.ensures.gives shard (c.each.invariant.gives shard some)
