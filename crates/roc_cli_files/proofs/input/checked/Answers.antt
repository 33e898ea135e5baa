use Rattle.roc_cli_files.proofs.input.checked.Goals as goal

pub returns-in-Err-clause-ends : goal.returns-in-Err-clause-ends
returns-in-Err-clause-ends g c = c.fault_of_check.ensures.ends _ c.in-Err.ensures.checked
