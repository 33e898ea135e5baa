-- The plan of the generated workload, and that the generated schedule is one for it.
use Rattle.std.proofs.Common.{◌≡◌, ℕ, zero, suc, pos, ◌+◌, ◌*◌, ◌%◌, ◌<◌, ◌≤◌, Bool, true, false, cond, ◌==◌, List, [], ◌∷◌, ◌++◌, map, refl, subst, arith}
use Rattle.std.specs.List.{AllByRecursion}
use lib.Chars.{codes}
use Rattle.roc_program.specs.Program.{Workload}
use Rattle.roc_lang_resolve.specs.Resolve.{table, init, resolved}
use Rattle.roc_conflict.specs.Classes.{is_immediate}
use Rattle.roc_plan.specs.Groups.{Plan}
use Rattle.roc_plan.specs.Accepted.{grouped_plan}
use Rattle.roc_check.specs.Checked.{IsPlanOf, IsPlanOfText}
use Rattle.roc_sched.specs.declared.line.Act.{Act}
use Rattle.roc_sched.specs.declared.line.Act.TheVariants.{Submit}
use Rattle.roc_sched.specs.declared.line.Line.{Line}
use Rattle.roc_generate.specs.Draws.{next_state, draw, state_after}
use Rattle.roc_generate.specs.Drawn.{drawn_choices, drawn_call, drawn_calls, drawn_acts}
use Rattle.roc_generate.specs.WorkloadText.{generated_workload}
use Rattle.roc_generate.specs.ScheduleText.{generated_schedule, numbered_acts, generated_lines}
use Rattle.roc_generate.specs.Load.{IsCanonicalText, IsCallOrChoice, IsLoadOf}
use Rattle.roc_generate.proofs.Trees.{tables_tree, account_trees, line_behind, workload_tree}
use Rattle.roc_generate.proofs.Parsed.{workload_parsed, workload_in_scope}
use Rattle.roc_generate.proofs.CanonicalText.{workload_shown}
use Rattle.roc_generate.proofs.Planned.{classes, program, groups, are_immediate, acceptable, merged}
use Rattle.roc_generate.proofs.Read.{schedule_read}

pub canonical_text : (shards : ℕ) → 0 < shards → shards ≤ 64 → IsCanonicalText (generated_workload shards)
canonical_text shards some few = record { tree = workload_tree shards; text = workload_parsed shards few; canonical = workload_shown shards }

-- ---- the plan

abbrev load_program : (shards : ℕ) → Workload
load_program shards = program shards (line_behind 4 shards) (map table (tables_tree 2)) (map (init (tables_tree 2)) (account_trees 4 0 shards))

abbrev load_plan : (shards : ℕ) → Plan
load_plan shards =
    grouped_plan (load_program shards) (is_immediate classes) (groups shards (line_behind 4 shards) (map table (tables_tree 2)) (map (init (tables_tree 2)) (account_trees 4 0 shards)))

program_resolved : (shards : ℕ) → load_program shards ≡ resolved (workload_tree shards)
unfolding workload_tree
program_resolved shards = refl

has_plan : (shards : ℕ) → IsPlanOf (load_program shards) (load_plan shards)
has_plan shards =
    let line : ℕ = line_behind 4 shards in
    let tables = map table (tables_tree 2) in
    let inits = map (init (tables_tree 2)) (account_trees 4 0 shards) in
    record {
      immediate = is_immediate classes;
      groups = groups shards line tables inits;
      are_immediate = are_immediate shards line tables inits;
      acceptable = acceptable shards line tables inits;
      merged = merged shards line tables inits;
      is = refl;
    }

is_planned : (shards : ℕ) → 0 < shards → shards ≤ 64 → IsPlanOfText (generated_workload shards) (load_plan shards)
is_planned shards some few = record {
  text = record { tree = workload_tree shards; text = workload_parsed shards few; in_scope = workload_in_scope shards some few; is = program_resolved shards };
  has = has_plan shards;
}

pub planned : (shards : ℕ) → 0 < shards → shards ≤ 64 → (plan : Plan) × IsPlanOfText (generated_workload shards) plan
planned shards some few = (load_plan shards, is_planned shards some few)

-- ---- submissions

module _ (shards : ℕ) where
  abbrev Fits : Act → Type 0
  Fits = IsCallOrChoice (load_program shards)

  choices_fit : (count x : ℕ) → AllByRecursion Fits (drawn_choices count x)
  choices_fit zero x = tt
  choices_fit (suc count) x = (tt, choices_fit count (next_state x))

  call_fits : (k x : ℕ) → Fits (drawn_call shards k x)
  call_fits k x = go (draw x 2 == 0)
    where
      at : k % 16 < 16
      at = omega arith

      go : (t : Bool) → Fits (cond t (Submit (k % 16) (codes "pay") (pos (draw (state_after 1 x) shards) ∷ pos (draw (state_after 2 x) shards) ∷ pos (draw (state_after 3 x) 100) ∷ []))
          (Submit (k % 16) (codes "mark") (pos (draw (state_after 1 x) shards) ∷ pos (draw (state_after 2 x) shards) ∷ [])))
      go true = (at, (0, refl, refl))
      go false = (at, (1, refl, refl))

  both_fit : (some others : List Act) → AllByRecursion Fits some → AllByRecursion Fits others → AllByRecursion Fits (some ++ others)
  both_fit [] others all behind = behind
  both_fit (act ∷ some) others all behind = (all.0, both_fit some others all.1 behind)

  calls_fit : (k count x : ℕ) → AllByRecursion Fits (drawn_calls shards k count x)
  calls_fit k zero x = tt
  calls_fit k (suc count) x =
      (call_fits k x, both_fit (drawn_choices 4 (state_after 4 x)) (drawn_calls shards (k + 1) count (state_after 8 x)) (choices_fit 4 (state_after 4 x)) (calls_fit (k + 1) count (state_after 8 x)))

  acts_fit : (seed txns : ℕ) → AllByRecursion Fits (drawn_acts seed shards txns)
  unfolding drawn_acts
  acts_fit seed txns = both_fit (drawn_calls shards 0 txns seed) (drawn_choices (16 * txns) (state_after (8 * txns) seed)) (calls_fit 0 txns seed) (choices_fit (16 * txns) (state_after (8 * txns) seed))

  lines_fit : (number : ℕ) (acts : List Act) → AllByRecursion Fits acts → AllByRecursion (λ (line : Line). Fits line.act) (numbered_acts number acts)
  lines_fit number [] all = tt
  lines_fit number (act ∷ acts) all = (all.0, lines_fit (number + 1) acts all.1)

  generated_fit : (seed txns : ℕ) → AllByRecursion (λ (line : Line). Fits line.act) (generated_lines seed shards txns)
  unfolding generated_lines
  generated_fit seed txns = lines_fit 1 (drawn_acts seed shards txns) (acts_fit seed txns)

pub load_fits : ((bytes : List ℕ) (one other : Plan) → IsPlanOfText bytes one → IsPlanOfText bytes other → one ≡ other) → (seed shards txns : ℕ) (plan : Plan) → 0 < shards → shards ≤ 64 → txns ≤ 1000
    → IsPlanOfText (generated_workload shards) plan → IsLoadOf plan.program (generated_schedule seed shards txns) (generated_lines seed shards txns)
load_fits unique seed shards txns plan some few most has =
    subst (λ (p : Plan). IsLoadOf p.program (generated_schedule seed shards txns) (generated_lines seed shards txns)) (unique (generated_workload shards) (load_plan shards) plan (is_planned shards some few) has)
    (record { read = schedule_read seed shards txns some few most; fits = generated_fit shards seed txns })
