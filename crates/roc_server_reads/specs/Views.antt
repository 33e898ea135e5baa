-- What a server keeps for views, and what it keeps behind a step
use Rattle.std.specs.Prelude.{◌≤◌, List, Option, Some, None, length, filter, if◌then◌else◌}
use Rattle.roc_msg.specs.declared.outbox.Ran.{Ran}
use Rattle.roc_server_index.specs.declared.group_ref.GroupRef.{GroupRef}
use Rattle.roc_server_reads.specs.declared.views.StayingReads.{StayingReads}
use Rattle.roc_server_reads.specs.declared.views.Views.{Views}
use Rattle.roc_step.specs.declared.handled.Handled.{Handled}
use Rattle.roc_step.specs.declared.kept_read.KeptRead.{KeptRead}
use Rattle.roc_step.specs.Reads.{is_taken, with_accesses}
use Rattle.roc_step.specs.State.{Viewing}

abbrev pub viewing_of : Views → Viewing
viewing_of v = record { versions = v.versions.counts; reads = v.reads.items }

-- the reads that stay, where others stay than were kept
abbrev pub reads_then : List KeptRead → Option StayingReads → List KeptRead
reads_then reads None = reads
reads_then reads (Some stays) = stays.reads.items

-- and what holds each of them up
abbrev pub holders_then : List (Option GroupRef) → Option StayingReads → List (Option GroupRef)
holders_then holders None = holders
holders_then holders (Some stays) = stays.holders.items

-- behind a step that was answered so, in which this ran, and behind which these reads stay
abbrev pub viewing_then : Viewing → Handled → List Ran → Option StayingReads → Viewing
viewing_then v answer ran stays = if is_taken answer then record { versions = with_accesses v.versions ran; reads = reads_then v.reads stays } else v

-- there is room to count what these write
abbrev pub HasRoomToCount : List Ran → Views → Type 0
HasRoomToCount ran v = length (filter (λ a. a.writes) ran) ≤ v.versions.spare
