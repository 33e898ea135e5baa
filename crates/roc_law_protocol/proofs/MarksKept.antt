-- Watermarks that a server keeps, and those that it hears
use Rattle.std.proofs.Common.{◌≡◌, ℕ, zero, suc, ◌<◌, ◌≤◌, true, List, [], ◌∷◌, length, arith}
use Rattle.std.proofs.lemmas.Bool.Decides.{nat_tests}
use Rattle.roc_base.specs.declared.id.TxnId.{TxnId}
use Rattle.roc_step.specs.Below.{is_ended, mark_of, raised}

-- of no coordinator past the last one a watermark is kept
kept_within : (below : List ℕ) (coord : ℕ) → 0 < mark_of below coord → coord < length below
kept_within [] coord l = absurd (omega arith)
kept_within (x ∷ xs) zero l = omega arith
kept_within (x ∷ xs) (suc n) l = let k = kept_within xs n l in omega arith

-- what has ended is below the watermark that is kept of its coordinator
pub below_mark : (below : List ℕ) (id : TxnId) → is_ended below id ≡ true → (id.seq < mark_of below id.coord) × (id.coord < length below)
below_mark below id e = let l : id.seq < mark_of below id.coord = grind (arith, nat_tests) in (l, kept_within below id.coord (omega arith))

raised_at : (below : List ℕ) (coord mark : ℕ) → coord < length below → mark ≤ mark_of (raised below coord mark) coord
raised_at [] coord mark l = absurd (omega arith)
raised_at (x ∷ xs) zero mark l = omega arith
raised_at (x ∷ xs) (suc n) mark l = raised_at xs n mark (omega arith)

-- and once a watermark is heard that can be kept, all below it have ended
pub ended_by : (below : List ℕ) (id : TxnId) (mark : ℕ) → id.seq < mark → id.coord < length below → is_ended (raised below id.coord mark) id ≡ true
ended_by below id mark l k = let m = raised_at below id.coord mark k in grind (arith, nat_tests)
