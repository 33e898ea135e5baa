use Rattle.roc_component.proofs.OneChange.{is_there}
use Rattle.roc_component.specs.Inner.Search.{met_of}
use Rattle.roc_component.proofs.search.unmet.Goals as goal

pub returns-then-contains_key : goal.returns-then-contains_key
returns-then-contains_key c = is_there (met_of c.args.met.now c.args.id) c.if-contains_key.ensures
