-- The versions that files had, the newest first, and what a stop may leave of them.
use Rattle.std.proofs.Common.{◌≡◌, ◌⊎◌, inl, inr, ℕ, ◌≤◌, List, [], ◌∷◌, length, arith}
use Rattle.std.specs.Prelude.{Option, Some, None, option_map, unwrap_or, if◌then◌else◌, bytes_eq}
use Rattle.roc_disk_memory.specs.declared.store.Version.{Version}

-- the newest version of a name
abbrev pub held : List Version → List ℕ → Option Version
held [] name = None
held (version ∷ versions) name = if bytes_eq version.name.items name then Some version else held versions name

-- what a read of the name gives
abbrev pub seen_in : List Version → List ℕ → List ℕ
seen_in versions name = unwrap_or (option_map (λ version. version.seen.items) (held versions name)) []

-- what is left once all that was not synced is torn
abbrev pub stable_in : List Version → List ℕ → List ℕ
stable_in versions name = unwrap_or (option_map (λ version. version.stable.items) (held versions name)) []

-- a stop leaves one of the two
abbrev pub MayLeave : List Version → List ℕ → List ℕ → Type 0
MayLeave versions name image = (image ≡ seen_in versions name) ⊎ (image ≡ stable_in versions name)

-- what a stop might have left since there were t versions
abbrev pub LeftSince : List Version → List ℕ → ℕ → List ℕ → Type 0
LeftSince [] name t image = MayLeave [] name image
LeftSince (version ∷ versions) name t image = MayLeave (version ∷ versions) name image ⊎ ((t ≤ length versions) × LeftSince versions name t image)

-- ---- the laws of a disk

pub now_counts : (versions : List Version) (name : List ℕ) (t : ℕ) (image : List ℕ) → MayLeave versions name image → LeftSince versions name t image
now_counts [] name t image now = now
now_counts (version ∷ versions) name t image now = inl now

pub now_only : (versions : List Version) (name image : List ℕ) → LeftSince versions name (length versions) image → MayLeave versions name image
now_only [] name image now = now
now_only (version ∷ versions) name image (inl now) = now
now_only (version ∷ versions) name image (inr past) = absurd (omega (arith, past.0))
