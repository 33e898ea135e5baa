-- What lines of a log tell, one behind another
use Rattle.std.proofs.Common.{◌≡◌, ℕ, ◌+◌, List, [], ◌∷◌, ◌++◌, filter, map, refl, sym, ap, ◌∙◌, inl, inr, append-nil, arith}
use Rattle.roc_base.specs.declared.id.TxnId.{TxnId}
use Rattle.roc_msg.specs.declared.outbox.Outgoing.{Outgoing}
use Rattle.roc_wire.specs.declared.header.Header.{Header}
use Rattle.roc_wire.specs.Spelling.{spelling}
use Rattle.roc_coord.specs.declared.handled.Handled.{Handled}
use Rattle.roc_coord.specs.declared.handled.Handled.TheVariants as handled
use Rattle.roc_log.specs.Sent.{outs_logged}
use Rattle.roc_log.specs.Spellable.{has_spelling}
use Rattle.roc_log.specs.declared.line.LogLine.{LogLine}
use Rattle.roc_log.specs.declared.line.LogLine.TheVariants.{Submit, In, Tick, Out, Answer}
use Rattle.roc_audit.specs.declared.entry.Entry.{Entry}
use Rattle.roc_audit.specs.declared.entry.Entry.TheVariants.{Submitted, Answered}
use Rattle.roc_audit.specs.History.{WasSubmitted}
use Rattle.roc_fold.specs.Sent.{answer_logged}
use Rattle.roc_fold.specs.Told.{told_from, submissions}

pub told_append : (c n : ℕ) (xs ys : List LogLine) → told_from c n (xs ++ ys) ≡ told_from c n xs ++ told_from c (n + submissions xs) ys
told_append c n [] ys = ap (λ (m : ℕ). told_from c m ys) (omega arith)
told_append c n (Submit proc args ∷ xs) ys =
    let same : n + 1 + submissions xs ≡ n + (submissions xs + 1) = omega arith in
    ap (λ (es : List Entry). Submitted (record { coord = c; seq = n }) proc args ∷ es) (told_append c (n + 1) xs ys ∙ ap (λ (m : ℕ). told_from c (n + 1) xs ++ told_from c m ys) same)
told_append c n (Answer id reply ∷ xs) ys = ap (λ (es : List Entry). Answered id reply ∷ es) (told_append c n xs ys)
told_append c n (In bytes ∷ xs) ys = told_append c n xs ys
told_append c n (Tick ∷ xs) ys = told_append c n xs ys
told_append c n (Out bytes ∷ xs) ys = told_append c n xs ys

spelled_tell : (header : Header) (c n : ℕ) (outs : List Outgoing) (ys : List LogLine) → told_from c n (map (λ o. Out (spelling header o.msg)) outs ++ ys) ≡ told_from c n ys
spelled_tell header c n [] ys = refl
spelled_tell header c n (o ∷ outs) ys = spelled_tell header c n outs ys

pub outs_tell : (header : Header) (c n : ℕ) (outs : List Outgoing) (ys : List LogLine) → told_from c n (outs_logged header outs ++ ys) ≡ told_from c n ys
outs_tell header c n outs ys = spelled_tell header c n (filter (λ o. has_spelling o.msg) outs) ys

pub outs_alone : (header : Header) (c n : ℕ) (outs : List Outgoing) → told_from c n (outs_logged header outs) ≡ []
outs_alone header c n outs = ap (told_from c n) (sym (append-nil (outs_logged header outs))) ∙ outs_tell header c n outs []

abbrev pub answers_told : Handled → List Entry
answers_told (handled.Answered id reply) = Answered id reply ∷ []
answers_told handled.Done = []
answers_told (handled.Ignored reason) = []

pub answer_tells : (c n : ℕ) (a : Handled) → told_from c n (answer_logged a) ≡ answers_told a
answer_tells c n (handled.Answered id reply) = refl
answer_tells c n handled.Done = refl
answer_tells c n (handled.Ignored reason) = refl

-- all submissions have the coordinator's number
pub all_own : (c n : ℕ) (lines : List LogLine) (t : TxnId) → WasSubmitted (told_from c n lines) t → t.coord ≡ c
all_own c n [] t (proc, args, h) = elim h [ ]
all_own c n (Submit p a ∷ lines) t (proc, args, inl e) = let same : t ≡ record { coord = c; seq = n } = cc in ap (λ (u : TxnId). u.coord) same
all_own c n (Submit p a ∷ lines) t (proc, args, inr h) = all_own c (n + 1) lines t (proc, args, h)
all_own c n (Answer id reply ∷ lines) t (proc, args, inl e) = absurd (cc)
all_own c n (Answer id reply ∷ lines) t (proc, args, inr h) = all_own c n lines t (proc, args, h)
all_own c n (In bytes ∷ lines) t h = all_own c n lines t h
all_own c n (Tick ∷ lines) t h = all_own c n lines t h
all_own c n (Out bytes ∷ lines) t h = all_own c n lines t h
