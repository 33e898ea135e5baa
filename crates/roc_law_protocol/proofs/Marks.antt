-- What coordinators tell of what they have answered, and what servers hear of it
use Rattle.std.proofs.Common.{◌≡◌, ◌<◌, ◌≤◌, ◌∙◌, ◌==◌, ℕ, Bool, true, false, cond, nat_lt, max, List, [], ◌∷◌, zero, suc, refl, sym, ap, arith, slice_index_or, map, ◌⊎◌, inl, inr, replicate}
use Rattle.std.proofs.lemmas.Bool.Decides.{nat_tests}
use Rattle.std.specs.List.{range_with_len}
use Rattle.roc_sequence.specs.Lists.{Has}
use Rattle.roc_sequence.proofs.Members.{from_has_map}
use Rattle.roc_base.specs.declared.id.TxnId.{TxnId}
use Rattle.roc_msg.specs.declared.msg.Msg.{Msg}
use Rattle.roc_msg.specs.declared.msg.Msg.TheVariants.{Ended}
use Rattle.roc_msg.specs.declared.outbox.Outgoing.{Outgoing}
use Rattle.roc_plan.specs.Groups.{Plan}
use Rattle.roc_step.specs.Below.{none_below, mark_of, is_ended, raised}
use Rattle.roc_step.proofs.Raised.{set_cases}
use Rattle.roc_coord.specs.State.{CoordState}
use Rattle.roc_coord.specs.Marks.{least_seq, watermark, ended_to, ended_sends, passes_mark}
use Rattle.roc_coord.specs.Step.{answered_sends}

abbrev pub IsMark : Msg → Type 0
IsMark (Ended coord mark) = Unit {0}
IsMark msg = ⊥

-- it tells the coordinator's watermark to a shard
pub record IsMarkOf (plan : Plan) (s : CoordState) (out : Outgoing) : Type 0 where
  pub shard : ℕ
  pub there : Has shard (range_with_len 0 plan.program.shards)
  pub is : out ≡ ended_to s shard

mark_among : (plan : Plan) (s : CoordState) (out : Outgoing) (b : Bool) → Has out (cond b [] (map (ended_to s) (range_with_len 0 plan.program.shards))) → IsMarkOf plan s out
mark_among plan s out true h = absurd h
mark_among plan s out false h =
    let q = from_has_map (ended_to s) out (range_with_len 0 plan.program.shards) h in
    record { shard = q.0; there = q.1; is = q.2 }

pub mark_sent : (plan : Plan) (s : CoordState) (out : Outgoing) → Has out (ended_sends plan s) → IsMarkOf plan s out
mark_sent plan s out h = mark_among plan s out (watermark s == 0) h

pub mark_told : (plan : Plan) (old new : CoordState) (out : Outgoing) → Has out (answered_sends plan old new) → IsMarkOf plan new out
mark_told plan old new out h = go (passes_mark old new) h
  where
    go : (b : Bool) → Has out (cond b (ended_sends plan new) []) → IsMarkOf plan new out
    go true k = mark_sent plan new out k
    go false k = absurd k

-- none without a reply is below the watermark
pub least_of : (id : TxnId) (ids : List TxnId) (next : ℕ) → Has id ids → least_seq ids next ≤ id.seq
least_of id [] next h = elim h [ ]
least_of id (u ∷ us) next (inl e) = let same : id.seq ≡ u.seq = ap (λ (t : TxnId). t.seq) e in omega arith
least_of id (u ∷ us) next (inr h) = let rest = least_of id us next h in omega arith

pub least_next : (ids : List TxnId) (next : ℕ) → least_seq ids next ≤ next
least_next [] next = omega arith
least_next (u ∷ us) next = let rest = least_next us next in omega arith

pub mark_least : (s : CoordState) (id : TxnId) → Has id s.unanswered → watermark s ≤ id.seq
mark_least s id h = least_of id s.unanswered s.next h

pub mark_next : (s : CoordState) → watermark s ≤ s.next
mark_next s = least_next s.unanswered s.next

-- what is below a watermark that was heard was so before, or is below the new one
pub ended_cases : (below : List ℕ) (coord mark : ℕ) (t : TxnId) → is_ended (raised below coord mark) t ≡ true → (is_ended below t ≡ true) ⊎ ((t.coord ≡ coord) × (t.seq < mark))
ended_cases below coord mark t h = elim (set_cases below coord t.coord (max (mark_of below coord) mark)) [
  | inl same ↦ inl (ap (nat_lt t.seq) (sym same) ∙ h)
  | inr new ↦ go (is_ended below t) refl new.0 (ap (nat_lt t.seq) (sym new.1) ∙ h)
]
  where
    go : (b : Bool) → is_ended below t ≡ b → t.coord ≡ coord → nat_lt t.seq (max (mark_of below coord) mark) ≡ true → (is_ended below t ≡ true) ⊎ ((t.coord ≡ coord) × (t.seq < mark))
    go true e same k = inl e
    go false e same k =
        let above : nat_lt t.seq (mark_of below coord) ≡ false = ap (λ c. nat_lt t.seq (mark_of below c)) (sym same) ∙ e in
        inr (same, grind (arith, nat_tests))

all_zero : (n c : ℕ) → ◌≡◌ {A = ℕ} (slice_index_or {A = ℕ} (replicate n 0) c 0) 0
all_zero zero c = refl
all_zero (suc n) zero = refl
all_zero (suc n) (suc c) = all_zero n c

pub none_ended : (t : TxnId) → is_ended none_below t ≡ false
none_ended t = go (mark_of none_below t.coord) (all_zero 16 t.coord)
  where
    go : (mark : ℕ) → mark ≡ 0 → nat_lt t.seq mark ≡ false
    go mark e = grind (arith, nat_tests)
