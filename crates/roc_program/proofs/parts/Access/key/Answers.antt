use Rattle.std.proofs.Common.{◌≡◌, ◌∙◌, ℕ, ◌≤◌, List, length, map, take, ℤ, sym, ap, rules, arith}
use Rattle.std.proofs.Math.Seq.{take-length}
use Rattle.roc_program.specs.Parts.{expression}
use Rattle.roc_program.specs.Values.{Environment, value}
use Rattle.roc_program.specs.declared.parts.Expression.{Expression}
use Rattle.roc_program.proofs.Ranges.{map_map}
use Rattle.roc_program.proofs.parts.Access.key.Goals as goal

whole : (xs : List Expression) (integers : List ℤ) (env : Environment) (at count : ℕ) → count ≤ at → at ≤ count → count ≡ length xs → take at integers ≡ map (λ e. value (expression e) env) (take at xs)
    → take count integers ≡ map (λ e. value e env) (map expression xs)
whole xs integers env at count low high is front =
    let same : count ≡ at = omega arith in
    let all : at ≡ length xs = omega arith in
    ap (λ n. take n integers) same ∙ front ∙ ap (λ n. map (λ e. value (expression e) env) (take n xs)) all
    ∙ ap (map (λ e. value (expression e) env)) (take-length xs)
    ∙ sym (map_map (λ e. value e env) expression xs)

pub returns : goal.returns
returns c =
    c.from_slice.ensures
    ∙ whole c.args.self.now.id.items c.loop-at.integers c.args.names.now c.loop-at.at c.len-count.result c.loop-at-test.false c.loop-at.auto.at-end (search rules) c.loop-at.invariant.front
