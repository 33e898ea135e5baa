-- The value is the one at the place in what the group bound, of the startok that was found
use Rattle.std.proofs.Common.{◌≡◌, ◌≤◌, ℕ, Option, Some, List, ℤ, pos, SFits, w64, get_or, ap, refl, sym, ◌∙◌, rules, arith, unwrap_or}
use Rattle.std.proofs.lemmas.Int.{to_z-of_z}
use Rattle.roc_plan.specs.declared.group.Input.{Input}
use Rattle.roc_coord.specs.declared.transaction.TakenStart.{TakenStart}
use Rattle.roc_coord.specs.declared.transaction.Transaction.{Transaction}
use Rattle.roc_coord.specs.State.{find_startok}
use Rattle.roc_coord.specs.Starts.{input_value}
use Rattle.roc_coord.proofs.starts.input_value.Goals as goal

found : (x : Transaction) (input : Input) (ok : TakenStart) → find_startok input.group x.startoks ≡ Some ok → get_or ok.bound input.at (pos 0) ≡ input_value x input
found x input ok e = rw e refl

pub returns-in-Some : goal.returns-in-Some
returns-in-Some c =
    let fits : SFits w64 c.unwrap_or.result = search rules in
    let least : c.from.result ≤ c.from.result = omega arith in
    let or_zero : Option ℤ → ℤ = λ o. unwrap_or o (pos 0) in
    let at_place : ℕ → ℤ = λ n. get_or c.as_slice-bound.result.now n (pos 0) in
    let of_list : List ℤ → ℤ = λ xs. get_or xs c.args.input.at (pos 0) in
    let found_in : List TakenStart → Option TakenStart = λ oks. find_startok c.args.input.group oks in
    to_z-of_z w64 c.unwrap_or.result fits ∙ c.unwrap_or.ensures ∙ ap or_zero c.copied.ensures ∙ c.get.ensures.lookup.4 least (pos 0) ∙ ap at_place c.from.ensures ∙ ap of_list c.as_slice-bound.ensures
    ∙ found c.args.x.now c.args.input c.in-Some.ok.now (ap found_in (sym c.as_slice.ensures) ∙ sym c.in-Some.ensures)
