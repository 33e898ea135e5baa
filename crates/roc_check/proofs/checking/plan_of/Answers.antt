use Rattle.roc_check.proofs.checking.plan_of.Goals as goal

pub apart-requires-clause-apart : goal.apart-requires-clause-apart
apart-requires-clause-apart c = (c.in-Err-Apart.ensures.apart c.in-Err-Apart.p c.in-Err-Apart.q).0 (cc)

pub blocked-requires-clause-blocked : goal.blocked-requires-clause-blocked
blocked-requires-clause-blocked c = (c.in-Err-Blocked.ensures.blocked c.in-Err-Blocked.p c.in-Err-Blocked.q c.in-Err-Blocked.x).0 (cc)
