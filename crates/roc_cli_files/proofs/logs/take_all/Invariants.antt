-- the logs of the files so far were taken, and the files are as they were
use Rattle.std.proofs.Common.{◌≡◌, ℕ, List, take}
use Rattle.roc_cli_files.specs.Listed.{names_listed, HasTakenNamed}
use Rattle.roc_cli_files.proofs.logs.take_all.Given as goal

abbrev pub invariant-loop-name : goal.invariant-loop-name
invariant-loop-name g l = record {
  taken : HasTakenNamed (g.F.Files.content l.fn.files) (names_listed (take l.name-index l.names)) l.plan l.tag l.auditor;
  content : (other : List ℕ) → g.F.Files.content l.files other ≡ g.F.Files.content l.fn.files other;
  failed : g.F.Files.failed_names l.files ≡ g.F.Files.failed_names l.fn.files;
  faults : g.F.Files.faults l.files ≡ g.F.Files.faults l.fn.files;
}
