use Rattle.roc_cli_files.proofs.Reading.{print_ends, unprinted}
use Rattle.roc_cli_files.proofs.text.print_file.Goals as goal

-- the print
pub returns-in-Ok-clause-ends : goal.returns-in-Ok-clause-ends
returns-in-Ok-clause-ends g c = print_ends _ _ _ _ c.in-Ok.ensures.held c.deref.ensures.value _ _ _ c.print_text.ensures.ends

-- there are no bytes
pub returns-in-Err-clause-ends : goal.returns-in-Err-clause-ends
returns-in-Err-clause-ends g c = unprinted (g.F.Files.content c.args.files.now) c.args.name.now _ c.in-Err.fault c.in-Err.ensures.fault
