use Rattle.std.proofs.Common.{◌∙◌, rules, tests}
use Rattle.std.proofs.lemmas.Iterator.Consumers.{YieldsList-from_rest}
use Rattle.std.proofs.lemmas.Iterator.Search.{all_from_yields_List}
use Rattle.std.specs.Map.{keys_of}
use Rattle.roc_cluster.specs.Entries.{top_keys}
use Rattle.roc_cluster.proofs.Keys.{is_one_of, has_only_keys}
use Rattle.roc_cluster.proofs.document.has_only_top_keys.Goals as goal

pub returns : goal.returns
returns c =
    let all = all_from_yields_List (is_one_of top_keys) _ _ c.all.result c.all.ensures.ran (YieldsList-from_rest (keys_of c.args.document.now.entries) c.keys.ensures.rest) (λ x b q k. search (rules, tests)) in
    all ∙ has_only_keys top_keys c.args.document.now.entries
