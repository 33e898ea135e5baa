use Rattle.std.proofs.Common.{◌≡◌, ℕ, suc, ◌+◌, ◌-◌, ◌≤◌, List, [], ◌∷◌, ◌++◌, append_assoc, length, take, refl, sym, ap, subst, ◌∙◌, arith, length-append}
use Rattle.std.proofs.lemmas.List.{map-append}
use Rattle.std.specs.Borrow.{Bor}
use Rattle.roc_sched.specs.Lines.{lines_of}
use Rattle.roc_sched.specs.Schedule.{most_lines}
use Rattle.roc_sched.specs.Inner.Reading.{views}
use Rattle.roc_sched.proofs.parts.lines_of.Goals as goal

-- one line more was taken
one_more : (front new : List (Bor (List ℕ))) (line : Bor (List ℕ)) (rest behind : List ℕ) (all : List (List ℕ))
    → new ≡ front ++ line ∷ [] → length front ≤ most_lines → lines_of rest ≡ line.now ∷ lines_of behind
    → views front ++ take (most_lines + 1 - length front) (lines_of rest) ≡ all
    → (views new ++ take (most_lines + 1 - length new) (lines_of behind) ≡ all) × (length new ≤ most_lines + 1)
one_more front new line rest behind all e few is so_far =
    let taken : views new ≡ views front ++ line.now ∷ [] = ap views e ∙ map-append (λ (part : Bor (List ℕ)). part.now) front (line ∷ []) in
    let count : length new ≡ length front + 1 = ap length e ∙ length-append front (line ∷ []) in
    let before : most_lines + 1 - length front ≡ suc (most_lines - length front) = omega arith in
    let after : most_lines + 1 - length new ≡ most_lines - length front = omega arith in
    let step : take (most_lines + 1 - length front) (lines_of rest) ≡ line.now ∷ take (most_lines - length front) (lines_of behind) =
    ap (λ n. take n (lines_of rest)) before ∙ ap (λ (ls : List (List ℕ)). take (suc (most_lines - length front)) ls) is
    in (
      ap (λ ls. ls ++ take (most_lines + 1 - length new) (lines_of behind)) taken
          ∙ (ap (λ n. (views front ++ line.now ∷ []) ++ take n (lines_of behind)) after
          ∙ (append_assoc (views front) (line.now ∷ []) (take (most_lines - length front) (lines_of behind))
          ∙ (ap (λ (ls : List (List ℕ)). views front ++ ls) (sym step) ∙ so_far))),
      omega (arith, count),
    )

pub loop-rest-init : goal.loop-rest-init
loop-rest-init c =
    let none = c.new-lines.ensures.items in
    record {
      taken = subst (λ (items : List (Bor (List ℕ))). views items ++ take (most_lines + 1 - length items) (lines_of c.args.text.now) ≡ take (most_lines + 1) (lines_of c.args.text.now)) (sym none) refl;
      few = subst (λ (items : List (Bor (List ℕ))). length items ≤ most_lines + 1) (sym none) (omega arith);
    }

pub loop-rest-preserved : goal.loop-rest-preserved
loop-rest-preserved c =
    let few : length c.loop-rest.lines.items ≤ most_lines = omega arith in
    let more = one_more c.loop-rest.lines.items c.push.new.self.items c.in-Some.line c.loop-rest.rest.now c.in-Some.behind.now (take (most_lines + 1) (lines_of c.args.text.now))
    c.in_ok-push-in-Some.ensures.items few c.in-Some.ensures.lines c.loop-rest.invariant.taken in
    record { taken = more.0; few = more.1 }
