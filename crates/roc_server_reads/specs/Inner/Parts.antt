-- What comes of a step for reads, part by part
use Rattle.std.specs.Prelude.{◌≡◌, ℕ, take, drop, List, [], ◌∷◌, ◌++◌, Option, Some, None, if◌then◌else◌}
use Rattle.std.specs.List.{list_any}
use Rattle.roc_server_index.specs.declared.group_ref.GroupRef.{GroupRef}
use Rattle.roc_step.specs.declared.kept_read.KeptRead.{KeptRead}
use Rattle.roc_step.specs.Reads.{is_same_read, put_read}

-- a read that comes, unless it is kept
abbrev pub unless_kept : List KeptRead → Option KeptRead → Option KeptRead
unless_kept reads None = None
unless_kept reads (Some q) = if list_any (is_same_read q) reads then None else Some q

abbrev pub one_more : Option KeptRead → List KeptRead
one_more None = []
one_more (Some q) = q ∷ []

-- how many reads at the front are before this one
abbrev pub IsPlaceIn : KeptRead → List KeptRead → ℕ → Type 0
IsPlaceIn q turn at = put_read q turn ≡ take at turn ++ q ∷ drop at turn

-- ---- reads with their holders: the read that nobody holds up, the one that somebody does, and who does

abbrev pub if_unheld : Option GroupRef → KeptRead → List KeptRead
if_unheld None q = q ∷ []
if_unheld (Some r) q = []

abbrev pub if_held : Option GroupRef → KeptRead → List KeptRead
if_held None q = []
if_held (Some r) q = q ∷ []

abbrev pub who_holds : Option GroupRef → KeptRead → List (Option GroupRef)
who_holds None q = []
who_holds (Some r) q = Some r ∷ []

-- what comes of each read with its holder, in their order
abbrev pub of_each : {A : Type 0} → (Option GroupRef → KeptRead → List A) → List (Option GroupRef) → List KeptRead → List A
of_each f [] qs = []
of_each f (h ∷ hs) [] = []
of_each f (h ∷ hs) (q ∷ qs) = f h q ++ of_each f hs qs
