use Rattle.roc_test_audit.proofs.witnesses.judged.Goals as goal

pub is_witness-requires : goal.is_witness-requires
is_witness-requires c = c.names_procedures.ensures.0 c.if-names_procedures.true
