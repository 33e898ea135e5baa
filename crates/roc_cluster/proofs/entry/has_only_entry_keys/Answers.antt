use Rattle.std.proofs.Common.{◌∙◌, rules, tests}
use Rattle.std.proofs.lemmas.Iterator.Consumers.{YieldsList-from_rest}
use Rattle.std.proofs.lemmas.Iterator.Search.{all_from_yields_List}
use Rattle.std.specs.Map.{keys_of}
use Rattle.roc_cluster.specs.Entries.{entry_keys}
use Rattle.roc_cluster.proofs.Keys.{is_one_of, has_only_keys}
use Rattle.roc_cluster.proofs.entry.has_only_entry_keys.Goals as goal

pub returns : goal.returns
returns c =
    let all = all_from_yields_List (is_one_of entry_keys) _ _ c.all.result c.all.ensures.ran (YieldsList-from_rest (keys_of c.args.table.now.entries) c.keys.ensures.rest) (λ x b q k. search (rules, tests)) in
    all ∙ has_only_keys entry_keys c.args.table.now.entries
