-- What a round of a view comes to where the watermarks around its answer are at hand
use Rattle.std.specs.Prelude.{ℤ, List, [], Option, Some, None}
use Rattle.roc_msg.specs.declared.outbox.Outgoing.{Outgoing}
use Rattle.roc_plan.specs.Groups.{Plan}
use Rattle.roc_readonly.specs.declared.view.Round.{Round}
use Rattle.roc_readonly.specs.declared.view.Round.TheVariants.{Waits, Ends, GoesOn}
use Rattle.roc_readonly.specs.declared.view.View.{View}
use Rattle.roc_readonly.specs.Round.{next_round, reads_of}
use Rattle.roc_coord.specs.declared.marks.Rise.{Rise}
use Rattle.roc_coord.specs.Inner.Rises.{rise_sends}

abbrev pub view_after : Round → View → View
view_after Waits v = v
view_after (Ends reply) v = v
view_after GoesOn v = next_round v

abbrev pub round_reply : Round → Option (List ℤ)
round_reply Waits = None
round_reply (Ends reply) = Some reply
round_reply GoesOn = None

abbrev pub round_sends : Plan → Rise → Round → View → List Outgoing
round_sends plan rise Waits v = []
round_sends plan rise (Ends reply) v = rise_sends plan rise
round_sends plan rise GoesOn v = reads_of plan (next_round v)
