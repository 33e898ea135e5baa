-- A procedure's groups that run one after another on one store, with nothing else between: docs/PROTOCOL.md, "Groups in turn"
use Rattle.std.specs.Prelude.{◌≡◌, ℕ, ℤ, pos, ◌==◌, List, [], ◌∷◌, ◌++◌, map, slice_index_or, if◌then◌else◌}
use Rattle.std.specs.List.{AllByRecursion}
use Rattle.roc_rows.specs.Store.{Store}
use Rattle.roc_plan.specs.declared.group.Input.{Input}
use Rattle.roc_plan.specs.Groups.{Plan, inputs_of, outs_of}
use Rattle.roc_whole.specs.Run.{Progress}
use Rattle.roc_group.specs.GroupRun.{GroupCall, call, group_run, bound_by_run}

-- what a group gave when it ran: the values that it bound, in the order in which they are bound, and what it added to the reply
pub record Given : Type 0 where
  pub group : ℕ
  pub bound : List ℤ
  pub outs : List ℤ

-- where the groups stand: the cells, and what each gave so far
pub record TurnStage : Type 0 where
  pub store : Store
  pub given : List Given

-- what a group bound; nothing where it has not run
abbrev pub bound_by : List Given → ℕ → List ℤ
bound_by [] group = []
bound_by (g ∷ gs) group = if g.group == group then g.bound else bound_by gs group

-- the value that a group takes
abbrev pub taken : List Given → Input → ℤ
taken given input = slice_index_or (bound_by given input.group) input.at (pos 0)

-- a group with what it takes from those that ran
abbrev pub call_of : Plan → (proc : ℕ) → List ℤ → List Given → ℕ → GroupCall
call_of plan proc args given group = call proc group args (map (taken given) (inputs_of plan proc group))

abbrev pub after_turn : Plan → (proc : ℕ) → List ℤ → TurnStage → ℕ → TurnStage
after_turn plan proc args s group =
    let c = call_of plan proc args s.given group in
    record {
      store = (group_run plan c s.store).store;
      given = s.given ++ record { group = group; bound = bound_by_run plan c s.store; outs = (group_run plan c s.store).reply } ∷ [];
    }

abbrev pub after_turns : Plan → (proc : ℕ) → List ℤ → TurnStage → List ℕ → TurnStage
after_turns plan proc args s [] = s
after_turns plan proc args s (g ∷ gs) = after_turns plan proc args (after_turn plan proc args s g) gs

-- the groups did what this run does: they left the same cells, and each gave what stands in its places of the reply
pub record DoAs (plan : Plan) (proc : ℕ) (whole : Progress) (s : TurnStage) : Type 0 where
  pub cells : s.store ≡ whole.store
  pub outs : AllByRecursion (λ g. g.outs ≡ map (λ k. slice_index_or whole.reply k (pos 0)) (outs_of plan proc g.group)) s.given
