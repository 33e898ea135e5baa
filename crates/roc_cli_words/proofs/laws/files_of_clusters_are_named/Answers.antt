use Rattle.roc_cli_words.proofs.NodeWords.{stops, locals, gens}
use Rattle.roc_cli_words.proofs.laws.files_of_clusters_are_named.Goals as goal

pub returns-clause-stop : goal.returns-clause-stop
returns-clause-stop c = stops

pub returns-clause-local : goal.returns-clause-local
returns-clause-local c = locals

pub returns-clause-load : goal.returns-clause-load
returns-clause-load c = gens
