-- In every world of a run what is of a component that a server took, and keeps, is decided there
use Rattle.std.proofs.Common.{◌≡◌, inl, inr, ℕ, Some, List, subst}
use Rattle.std.specs.Prelude.{slice_get}
use Rattle.roc_sequence.specs.Lists.{Has}
use Rattle.roc_base.specs.declared.id.TxnId.{TxnId}
use Rattle.roc_depgraph.specs.Deps.{IsDecided}
use Rattle.roc_plan.specs.Groups.{Plan}
use Rattle.roc_law_log.specs.Scheme.{Scheme, IsSoundScheme}
use Rattle.roc_step.specs.State.{ServerState}
use Rattle.roc_law_protocol.specs.Beginnings.{Beginning, IsBeginning}
use Rattle.roc_law_protocol.specs.Beside.{IsRunBeside}
use Rattle.roc_law_protocol.specs.Inner.Given.{LogLaws, StoreLaws}
use Rattle.roc_law_protocol.specs.PlanAssumptions.{HasSchemesFrom}
use Rattle.roc_law_protocol.specs.Run.{Stepped}
use Rattle.roc_law_protocol.specs.World.{World}
use Rattle.roc_law_protocol.proofs.Idle.{run_idle}
use Rattle.roc_law_protocol.proofs.Serial.{logged}
use Rattle.roc_law_protocol.proofs.Transactions.{transaction_or_none}

pub taken_decided : (plan : Plan) (b : Beginning) → IsBeginning plan b → HasSchemesFrom plan b.store → ((S : Scheme) → IsSoundScheme S → LogLaws S b.store) → StoreLaws
    → (coords : ℕ) (steps : List Stepped) (w : World) → IsRunBeside plan b coords steps w
    → (n : ℕ) (s : ServerState) → slice_get w.servers n ≡ Some s → (c : List TxnId) (t : TxnId) → Has c s.lists.taken → Has t c → IsDecided s.lists.links t
taken_decided plan b begins schemes laws stores coords steps w run n s there c t has member = elim (transaction_or_none plan) [
  | inl some ↦ ((logged plan b begins schemes laws stores coords steps w run some).1.means.servers n s there).taken.decided c t has member
  | inr none ↦ absurd (subst (Has c) ((run_idle plan none b begins coords steps w run).servers n s there).taken has)
]
