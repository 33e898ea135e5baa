-- What is gone from a server
use Rattle.std.proofs.Common.{◌≡◌, ℕ, true, false, not, List, [], ◌∷◌, ◌++◌, sym, subst, ◌∙◌, inl, inr}
use Rattle.std.proofs.lemmas.Bool.{false≢true, false_from_ne_true}
use Rattle.roc_sequence.proofs.Holds.{any_has, has_any}
use Rattle.roc_sequence.specs.Places.{is_listed}
use Rattle.roc_sequence.proofs.Members.{from_has_filter}
use Rattle.roc_base.specs.declared.id.TxnId.{TxnId}
use Rattle.roc_base.specs.TxnId.{is_txn}
use Rattle.roc_plan.specs.Groups.{Plan}
use Rattle.roc_step.specs.declared.started.StartedGroup.{StartedGroup}
use Rattle.roc_step.specs.State.{is_here, Lists, ServerState, hearing}
use Rattle.roc_step.specs.Below.{is_ended}
use Rattle.roc_step.specs.Forgets.{without}
use Rattle.roc_step.specs.Runs.{take_all}
use Rattle.roc_step.proofs.Raised.{ended_still}
use Rattle.roc_law_protocol.proofs.OneGroupMore.{here_cases}
use Rattle.roc_law_protocol.proofs.KeptGroups.{take_keeps, take_same, same_here}

-- The transaction has no group here, and is below a watermark. So it is with what the server has forgotten, and with what never had a group here
pub record IsGone (v : ServerState) (t : TxnId) : Type 0 where
  pub nowhere : is_here t v.started ≡ false
  pub ended : is_ended v.below t ≡ true

-- who has a group here is not gone
pub here_stays : (v : ServerState) (t : TxnId) → is_here t v.started ≡ true → ¬ IsGone v t
here_stays v t here g = false≢true (sym g.nowhere ∙ here)

-- ---- what is gone stays gone

gone_later : (v z : ServerState) (t : TxnId) → (is_here t z.started ≡ true → is_here t v.started ≡ true) → (is_ended v.below t ≡ true → is_ended z.below t ≡ true) → IsGone v t → IsGone z t
gone_later v z t groups marks g = record { nowhere = false_from_ne_true (is_here t z.started) (λ h. false≢true (sym g.nowhere ∙ groups h)); ended = marks g.ended }

-- in a state with the same groups and watermarks
pub gone_same : (v z : ServerState) (t : TxnId) → z.started ≡ v.started → z.below ≡ v.below → IsGone v t → IsGone z t
gone_same v z t started below = gone_later v z t (λ h. subst (λ es. is_here t es ≡ true) started h) (λ h. subst (λ marks. is_ended marks t ≡ true) (sym below) h)

-- where a watermark is heard
pub gone_hears : (v : ServerState) (coord mark : ℕ) (t : TxnId) → IsGone v t → IsGone (hearing v coord mark) t
gone_hears v coord mark t = gone_later v (hearing v coord mark) t (λ h. h) (ended_still v.below coord mark t)

-- where transactions are forgotten
pub gone_without : (v : ServerState) (forgotten : List TxnId) (t : TxnId) → IsGone v t → IsGone (without forgotten v) t
gone_without v forgotten t = gone_later v (without forgotten v) t (λ h.
    let q = any_has (λ (e : StartedGroup). is_txn e.id t) (without forgotten v).started h in
    has_any (λ (e : StartedGroup). is_txn e.id t) v.started q.0 (from_has_filter (λ (e : StartedGroup). not (is_listed is_txn forgotten e.id)) q.0 v.started q.1).0 q.2) (λ h. h)

-- where a group begins of a transaction that is not gone
pub gone_begins : (v z : ServerState) (e : StartedGroup) → ¬ IsGone v e.id → (t : TxnId) → z.started ≡ v.started ++ e ∷ [] → z.below ≡ v.below → IsGone v t → IsGone z t
gone_begins v z e kept t started below g =
    gone_later v z t
    (λ h. elim (here_cases v.started e t (subst (λ es. is_here t es ≡ true) started h)) [ inl was ↦ was | inr same ↦ absurd (kept (subst (IsGone v) same g)) ])
    (λ h. subst (λ marks. is_ended marks t ≡ true) (sym below) h) g

-- where lists are taught, and buffered groups run
pub gone_taught : (plan : Plan) (v : ServerState) (lists : Lists) (ts : List TxnId) (t : TxnId) → IsGone v t → IsGone (take_all plan (record v { lists = lists }) ts) t
gone_taught plan v lists ts t =
    let before : ServerState = record v { lists = lists } in
    gone_later v (take_all plan before ts) t (same_here v.started (take_all plan before ts).started (take_same plan ts before) t) (λ h. subst (λ marks. is_ended marks t ≡ true) (sym (take_keeps plan ts before).2) h)
