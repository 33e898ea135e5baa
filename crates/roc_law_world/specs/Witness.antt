-- The serial order that a world shows: that of its transactions, with each answered view put in where it looked last
use Rattle.std.specs.Prelude.{Bool, false, not, ◌&&◌, ◌||◌, List, [], ◌∷◌, if◌then◌else◌}
use Rattle.std.specs.List.{list_any}
use Rattle.roc_base.specs.declared.id.TxnId.{TxnId}
use Rattle.roc_base.specs.TxnId.{is_txn}
use Rattle.roc_audit.specs.declared.entry.Entry.{Entry}
use Rattle.roc_audit.specs.declared.entry.Entry.TheVariants.{Submitted, Answered}
use Rattle.roc_audit.specs.Woven.{Look, woven}
use Rattle.roc_law_world.specs.World.{World}

-- the history has an answer to this id
abbrev pub was_answered : List Entry → TxnId → Bool
was_answered [] t = false
was_answered (Submitted u proc args ∷ es) t = was_answered es t
was_answered (Answered u reply ∷ es) t = is_txn u t || was_answered es t

-- the view of this look looks again
abbrev pub looks_again : Look → List Look → Bool
looks_again l ls = list_any (λ k. is_txn k.id l.id) ls

-- the last look of each view that passes, in the order of the looks
abbrev pub last_looks : (TxnId → Bool) → List Look → List Look
last_looks passes [] = []
last_looks passes (l ∷ ls) = if passes l.id && not (looks_again l ls) then l ∷ last_looks passes ls else last_looks passes ls

-- the order with each answered view put in where it looked last
abbrev pub witness_in : List Entry → List TxnId → List Look → List TxnId
witness_in history order looks = woven 0 order (last_looks (was_answered history) looks)

abbrev pub shown : World → List Look
shown w = last_looks (was_answered w.history) w.looks

abbrev pub witness_of : World → List TxnId
witness_of w = witness_in w.history w.order w.looks
