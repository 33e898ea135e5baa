-- The accesses of groups that are noted one after another
use Rattle.std.proofs.Common.{◌≡◌, ℕ, ◌+◌, ◌<◌, List, ◌++◌, map, sym, ap, ◌∙◌, append_assoc}
use Rattle.std.proofs.lemmas.List.Concat.{flat_map-append}
use Rattle.std.specs.Option.{option_to_list}
use Rattle.roc_base.specs.declared.id.TxnId.{TxnId}
use Rattle.roc_msg.specs.declared.outbox.Ran.{Ran}
use Rattle.roc_msg.specs.Outbox.{Collected, HasRun}
use Rattle.roc_plan.specs.Groups.{Plan}
use Rattle.roc_group.specs.declared.access.Access.{Access}
use Rattle.roc_step.specs.declared.started.StartedGroup.{StartedGroup}
use Rattle.roc_step.specs.Runs.{accesses_of}
use Rattle.roc_server_groups.specs.Inner.Runs.{buffered}
use Rattle.roc_step.specs.State.{find_group}
use Rattle.roc_server_groups.proofs.GroupRuns.{buffered-append, groups_from, groups_from-more}

abbrev pub noted : TxnId → Access → Ran
noted id a = record { id = id; cell = a.cell; writes = a.writes }

-- what is noted by now, and what is left to be noted
pub record NotesRest (first now : Collected) (left all : List Ran) : Type 0 where
  pub messages : now.messages ≡ first.messages
  pub decided : now.decided ≡ first.decided
  pub ran : now.ran ++ left ≡ first.ran ++ all

pub notes_more : (first now next : Collected) (some left before all : List Ran) → NotesRest first now before all → HasRun now next some → before ≡ some ++ left → NotesRest first next left all
notes_more first now next some left before all h more parts = record {
  messages = more.0 ∙ h.messages;
  decided = more.1 ∙ h.decided;
  ran = ap (λ ran. ran ++ left) more.2 ∙ append_assoc now.ran some left ∙ ap (λ rest. now.ran ++ rest) (sym parts) ∙ h.ran;
}

-- of the group of a number and of those behind it
pub number_parts : (plan : Plan) (id : TxnId) (started : List StartedGroup) (number count : ℕ) → number < count
    → accesses_of (buffered plan (groups_from id started number count)) ≡ accesses_of (buffered plan (option_to_list (find_group id number started))) ++ accesses_of (buffered plan (groups_from id started (number + 1) count))
number_parts plan id started number count l =
    let one = option_to_list (find_group id number started) in
    let rest = groups_from id started (number + 1) count in
    ap (λ es. accesses_of (buffered plan es)) (groups_from-more id started number count l)
    ∙ ap accesses_of (buffered-append plan one rest)
    ∙ flat_map-append (λ (e : StartedGroup). map (noted e.id) e.cells) (buffered plan one) (buffered plan rest)
