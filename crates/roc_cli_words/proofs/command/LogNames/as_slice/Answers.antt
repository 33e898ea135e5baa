use Rattle.std.proofs.Common.{◌≡◌, ◌∙◌, map, take, sym, ap}
use Rattle.std.specs.Prelude.{min}
use Rattle.std.proofs.lemmas.List.{take-map}
use Rattle.roc_cli_words.proofs.command.LogNames.as_slice.Goals as goal

pub returns : goal.returns
returns c =
    let names = c.args.self.now.names in
    let count : c.min.result ≡ min c.args.self.now.count 80 = c.min.ensures ∙ ap (λ n. min n 80) c.from.ensures in
    ap (λ n. map (λ name. name.now) (take n names)) count ∙ sym (take-map (λ name. name.now) (min c.args.self.now.count 80) names)
