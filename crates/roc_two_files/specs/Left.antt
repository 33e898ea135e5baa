-- What a world leaves in which nothing is unanswered, and where the next run begins: docs/PROOF.md, "Beginnings"
use Rattle.std.specs.Prelude.{◌≡◌, ℕ, List, [], Option, Some, None, slice_get}
use Rattle.roc_plan.specs.Groups.{Plan}
use Rattle.roc_rows.specs.Versions.{Counts}
use Rattle.roc_whole.specs.Serial.{serial_store}
use Rattle.roc_step.specs.State.{Viewing}
use Rattle.roc_coord.specs.State.{CoordState}
use Rattle.roc_audit.specs.Witness.{submitted_calls}
use Rattle.roc_law_protocol.specs.Beginnings.{left_by}
use Rattle.roc_law_world.specs.World.{World, Beginning}
use Rattle.roc_law_world.specs.Bare.{bare}
use Rattle.roc_law_world.specs.Witness.{witness_of}

-- no coordinator has anything unanswered
abbrev pub AreDrained : List CoordState → Type 0
AreDrained coords = (n : ℕ) (c : CoordState) → slice_get coords n ≡ Some c → c.unanswered ≡ []

-- how often the cells of a shard were written, where its server has that, or else this
abbrev pub versions_in : Counts → Option Viewing → Counts
versions_in other (Some v) = v.versions
versions_in other None = other

-- each server's cells, watermarks and versions and each coordinator's next sequence, as a run from b left them, and in all the cells what its witness leaves
abbrev pub left_behind : Plan → Beginning → World → Beginning
left_behind plan b w =
    record {
      of_transactions = left_by b.of_transactions (bare w) (serial_store plan.program b.of_transactions.store (submitted_calls w.history (witness_of w)));
      versions = λ n. versions_in (b.versions n) (slice_get w.viewing n);
    }
