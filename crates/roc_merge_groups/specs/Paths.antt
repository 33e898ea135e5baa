-- Paths between few numbers, found by allowing more and more of them on the way
use Rattle.std.specs.Prelude.{ℕ, zero, suc, Bool, ◌&&◌, ◌||◌}

-- a path leads from a to b, and of what it goes through all are below k
unfoldable pub leads_below : (ℕ → ℕ → Bool) → (k a b : ℕ) → Bool
leads_below step zero a b = step a b
leads_below step (suc k) a b = leads_below step k a b || (leads_below step k a k && leads_below step k k b)
