use Rattle.roc_merge_groups.proofs.Accepting.{one_group_contended, one_class, siblings_apart, contended_together, pieces_apart}
use Rattle.roc_merge_groups.proofs.laws.accepted_groups_meet_others_alone.Goals as goal

pub returns-clause-one_contended : goal.returns-clause-one_contended
returns-clause-one_contended c = one_group_contended

pub returns-clause-one_class : goal.returns-clause-one_class
returns-clause-one_class c = one_class

pub returns-clause-siblings : goal.returns-clause-siblings
returns-clause-siblings c = siblings_apart

pub returns-clause-contended_pieces : goal.returns-clause-contended_pieces
returns-clause-contended_pieces c = contended_together

pub returns-clause-pieces_apart : goal.returns-clause-pieces_apart
returns-clause-pieces_apart c = pieces_apart
