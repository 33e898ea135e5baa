-- Which forms of lines are taken, and which coordinators there are: docs/FORMATS.md, "Schedule".
use Rattle.std.specs.Prelude.{ℕ, false, Option, Some, None}
use Rattle.roc_sched.specs.declared.forms.Forms.{Forms}

-- no forms but those that any schedule has
abbrev pub plain_forms : Forms
plain_forms = record { stops = false; coords = None }

abbrev pub sixteen_unless : Option ℕ → ℕ
sixteen_unless None = 16
sixteen_unless (Some coords) = coords

-- how many coordinators there are
abbrev pub coordinators : Forms → ℕ
coordinators forms = sixteen_unless forms.coords
