use Rattle.std.proofs.Common.{◌≡◌, ◌++◌, map, take}
use Rattle.std.specs.String.{string_bytes}
use Rattle.roc_report.specs.Text.{facts_text}
use Rattle.roc_report.proofs.text.push_facts.Given as goal

abbrev pub invariant-loop-fact : goal.invariant-loop-fact
invariant-loop-fact l = string_bytes l.text ≡ string_bytes l.fn.text ++ facts_text (map (λ fact. fact.of) (take l.fact-index l.facts))
