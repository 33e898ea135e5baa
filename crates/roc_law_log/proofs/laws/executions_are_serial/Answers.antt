use Rattle.roc_law_log.proofs.laws.executions_are_serial.Goals as goal

pub returns : goal.returns
returns c S start log sound h r ran listed =
    let i = c.logs_keep_invariants.ensures.reached S start log sound h in
    c.runs_are_serial.ensures S.behaviour start log.past.ran log.order sound.lawful (c.logs_follow.ensures.real S start log sound i) (c.logs_follow.ensures.follows S start log sound i) r ran listed
