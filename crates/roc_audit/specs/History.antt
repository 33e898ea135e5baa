-- What a history tells: docs/PROTOCOL.md, "Serial witness"
use Rattle.std.specs.Prelude.{◌≡◌, ℕ, ℤ, List, [], ◌∷◌, ◌++◌, ◌⊎◌}
use Rattle.roc_sequence.specs.Lists.{Has}
use Rattle.roc_base.specs.declared.id.TxnId.{TxnId}
use Rattle.roc_audit.specs.declared.entry.Entry.{Entry}
use Rattle.roc_audit.specs.declared.entry.Entry.TheVariants.{Submitted, Answered}

-- t was submitted
abbrev pub WasSubmitted : List Entry → TxnId → Type 0
WasSubmitted history t = (proc : ℕ) × (args : List ℤ) × Has (Submitted t proc args) history

-- t was answered with this reply
abbrev pub WasAnswered : List Entry → TxnId → List ℤ → Type 0
WasAnswered history t reply = Has (Answered t reply) history

-- t's answer stands before u's submission
abbrev pub IsAnsweredBefore : List Entry → TxnId → TxnId → Type 0
IsAnsweredBefore [] t u = ⊥
IsAnsweredBefore (e ∷ es) t u = ((reply : List ℤ) × (e ≡ Answered t reply) × WasSubmitted es u) ⊎ IsAnsweredBefore es t u

-- what may stand behind these entries: the submission of an id that is new, or the first answer to one that was submitted
abbrev pub MayFollow : List Entry → Entry → Type 0
MayFollow before (Submitted t proc args) = ¬ WasSubmitted before t
MayFollow before (Answered t reply) = WasSubmitted before t × ((other : List ℤ) → ¬ WasAnswered before t other)

-- no two submissions have one id, and an id has at most one answer, which stands behind its submission
pub record IsToldOnce (history : List Entry) : Type 0 where
  pub each : (front behind : List Entry) (e : Entry) → history ≡ front ++ e ∷ behind → MayFollow front e
