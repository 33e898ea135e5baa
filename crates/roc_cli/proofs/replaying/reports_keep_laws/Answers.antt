use Rattle.roc_cli.proofs.replaying.reports_keep_laws.Goals as goal

pub returns : goal.returns
returns c = record { names = c.programs_of_texts_have_names.ensures; read = c.reports_are_read_in_one_way.ensures; accepted = c.plans_are_accepted.ensures }
