-- The values of names before anything is read
use Rattle.std.proofs.Common.{◌≡◌, ℕ, ◌+◌, ◌-◌, ◌≤◌, ℤ, pos, List, [], ◌∷◌, ◌++◌, length, replicate, ap, ◌∙◌, append_assoc, arith}
use Rattle.std.proofs.lemmas.List.{replicate-append-replicate}

-- one more 0 at the end
pub zeros_more : (args : List ℤ) (k : ℕ) → length args ≤ k → (args ++ replicate (k - length args) (pos 0)) ++ pos 0 ∷ [] ≡ args ++ replicate (k + 1 - length args) (pos 0)
zeros_more args k h =
    append_assoc args _ _ ∙ ap (λ zs. args ++ zs) (replicate-append-replicate (k - length args) 1 (pos 0) ∙ ap (λ n. replicate n (pos 0)) (let e : (k - length args) + 1 ≡ k + 1 - length args = omega arith in e))
