-- Bytes have at most one first fault, and a workload text has none.
use Rattle.std.proofs.Common.{◌≡◌, ℕ, ◌<◌, ◌≤◌, Bool, true, false, cond, List, [], ◌∷◌, ◌++◌, length, Option, Some, None, refl, sym, ap, subst, ◌∙◌, append_assoc, ◌⊎◌, inl, inr, arith}
use Rattle.std.specs.Prelude.{Result, Ok, Err, nat_le}
use Rattle.std.proofs.lemmas.Bool.{leb-true}
use Rattle.std.proofs.lemmas.Bool.Decides.{nat_tests}
use Rattle.std.proofs.lemmas.List.{append-nil}
use Rattle.roc_lang.specs.Syntax.{Tree}
use Rattle.roc_lang.specs.Tokens.{Token, IsTokens}
use Rattle.roc_lang.specs.Grammar.{Limits, standard, IsText, text_limit}
use Rattle.roc_lang.specs.declared.fault.LangError.{LangError}
use Rattle.roc_lang.specs.declared.fault.LangError.TheVariants as errors
use Rattle.roc_lang.specs.declared.fault.What.{What}
use Rattle.roc_lang.specs.declared.fault.What.TheVariants as whats
use Rattle.roc_lang_parse.specs.Stuck.{Stuck}
use Rattle.roc_lang_parse.specs.Reading.{whole_at}
use Rattle.roc_lang_parse.specs.Inner.Views.{IsScanned}
use Rattle.roc_lang_parse.specs.Fault.{IsWorkloadText, GoesOn, last_line, IsFirstFault, too_long, broken, misplaced, wrong, beyond, stops}
use Rattle.roc_lang_parse.specs.Answer.{TellsFirstFault}
use Rattle.roc_lang_parse.specs.Inner.Told.{stop_fault, what_of, answer_of}
use Rattle.roc_lang_parse.proofs.Exact.{Why, Refused, ok_same, err_same, ok-err}
use Rattle.roc_lang_parse.proofs.Texts.{Whole, at_end}
use Rattle.roc_lang_parse.proofs.Further.{past, past_all, further_text}
use Rattle.roc_lang_parse.proofs.Answers.{read_is, stops_at, front_goes_on, none_further, none_at_all, same_front, text_tokens, answer_only, answer_text, answer_fault}
use Rattle.roc_lang_parse.proofs.Scans.{Scan, scan, scanned_before, scanned_broken}

-- ---- lists that are equal, cut at two places

data Cut (xs : List Token) (t : Token) (ys ws bs : List Token) : Type 0 where
  equal : ws ≡ xs → bs ≡ t ∷ ys → Cut xs t ys ws bs
  sooner : (u : Token) (k l : List Token) → xs ≡ ws ++ u ∷ k → bs ≡ u ∷ l → Cut xs t ys ws bs
  later : (k : List Token) → ws ≡ xs ++ t ∷ k → Cut xs t ys ws bs

abbrev head_of : Token → List Token → Token
head_of d [] = d
head_of d (t ∷ ts) = t

abbrev tail_of : List Token → List Token
tail_of [] = []
tail_of (t ∷ ts) = ts

cut : (xs : List Token) (t : Token) (ys ws bs : List Token) → xs ++ t ∷ ys ≡ ws ++ bs → Cut xs t ys ws bs
cut [] t ys [] bs e = equal refl (sym e)
cut [] t ys (u ∷ ws) bs e = later ws (ap (λ z. z ∷ ws) (sym (ap (head_of t) e)))
cut (x ∷ xs) t ys [] bs e = sooner x xs (xs ++ t ∷ ys) refl (sym e)
cut (x ∷ xs) t ys (u ∷ ws) bs e = go (cut xs t ys ws bs (ap tail_of e))
  where
    here : x ≡ u
    here = ap (head_of x) e

    go : Cut xs t ys ws bs → Cut (x ∷ xs) t ys (u ∷ ws) bs
    go (equal p q) = equal (ap (λ z. u ∷ z) p ∙ ap (λ z. z ∷ xs) (sym here)) q
    go (sooner v k l p q) = sooner v k l (ap (λ z. x ∷ z) p ∙ ap (λ z. z ∷ (ws ++ v ∷ k)) here) q
    go (later k p) = later k (ap (λ z. u ∷ z) p ∙ ap (λ z. z ∷ (xs ++ t ∷ k)) (sym here))

-- ---- where reading stops

-- what reading takes goes on to no text with the next token
none_next : (taken : List Token) (p : Bool) (rest : List Token) (u : Token) (l : List Token) → Why (Whole standard) (Whole (past standard)) at_end taken p rest → rest ≡ u ∷ l → GoesOn standard (taken ++ u ∷ []) → ⊥
none_next taken p [] u l why e g = let n = ap length e in absurd (omega arith)
none_next taken false (v ∷ rest) u l why e g =
    let same = ap (head_of v) e in
    none_further (past standard) taken v why (subst (λ z. GoesOn (past standard) (taken ++ z ∷ [])) (sym same) (record { more = g.more; tree = g.tree; is = further_text standard (past standard) (past_all standard) g.is }))
none_next taken true (v ∷ rest) u l why e g = none_further standard taken v why.0 (subst (λ z. GoesOn standard (taken ++ z ∷ [])) (sym (ap (head_of v) e)) g)

-- a front of what goes on goes on
shorter : (l : Limits) (xs ys : List Token) → GoesOn l (xs ++ ys) → GoesOn l xs
shorter l xs ys g = record { more = ys ++ g.more; tree = g.tree; is = subst (λ z. IsText l z g.tree) (append_assoc xs ys g.more) g.is }

one_shorter : (l : Limits) (xs : List Token) (u : Token) (k : List Token) → GoesOn l (xs ++ u ∷ k) → GoesOn l (xs ++ u ∷ [])
one_shorter l xs u k g = shorter l (xs ++ u ∷ []) k (subst (λ z. GoesOn l z) (sym (append_assoc xs (u ∷ []) k)) g)

-- tokens that go on, behind which a token does not, are those at which reading stops
stops_there : (ts before : List Token) (t : Token) (behind : List Token) (s : Stuck) → ts ≡ before ++ t ∷ behind → GoesOn standard before → (GoesOn standard (before ++ t ∷ []) → ⊥) → whole_at standard ts ≡ Err s → s.rest ≡ t ∷ behind
stops_there ts before t behind s split on never e =
    let r = stops_at ts s e standard in
    go r (cut before t behind r.taken s.rest (sym split ∙ r.split))
  where
    go : (r : Refused (Whole standard) (Whole (past standard)) at_end ts s) → Cut before t behind r.taken s.rest → s.rest ≡ t ∷ behind
    go r (equal p q) = q
    go r (sooner u k l p q) = absurd (none_next r.taken s.past s.rest u l r.why q (one_shorter standard r.taken u k (subst (λ z. GoesOn standard z) p on)))
    go r (later k p) = absurd (never (one_shorter standard before t k (subst (λ z. GoesOn standard z) p (front_goes_on standard r.taken r.front))))

-- tokens that go on are no place where reading stops
stops_behind : (all : List Token) (s : Stuck) → GoesOn standard all → whole_at standard all ≡ Err s → s.rest ≡ []
stops_behind all s on e =
    let r = stops_at all s e standard in
    go s.rest refl r
  where
    go : (rest : List Token) → s.rest ≡ rest → Refused (Whole standard) (Whole (past standard)) at_end all s → s.rest ≡ []
    go [] f r = f
    go (u ∷ k) f r = absurd (none_next r.taken s.past s.rest u k r.why f (one_shorter standard r.taken u k (subst (λ z. GoesOn standard z) (r.split ∙ ap (λ z. r.taken ++ z) f) on)))

stuck_parts : (s : Stuck) (rest : List Token) → s.rest ≡ rest → s ≡ record { past = s.past; rest = rest }
stuck_parts s rest e = ap (λ (z : List Token). let b : Stuck = record { past = s.past; rest = z } in b) e

-- where none goes on for any limits, reading stops at no limit; where some does, it stops at one
no_limit : (ts before : List Token) (t : Token) (behind : List Token) (p : Bool) → ts ≡ before ++ t ∷ behind → whole_at standard ts ≡ Err (record { past = p; rest = t ∷ behind }) → ((l : Limits) → GoesOn l (before ++ t ∷ []) → ⊥) → p ≡ false
no_limit ts before t behind false split e never = refl
no_limit ts before t behind true split e never =
    let r = stops_at ts (record { past = true; rest = t ∷ behind }) e standard in
    let here = same_front r.taken before (t ∷ behind) (sym r.split ∙ split) in
    absurd (never (past standard) (subst (λ z. GoesOn (past standard) (z ++ t ∷ [])) here (front_goes_on (past standard) (r.taken ++ t ∷ []) r.why.1)))

at_limit : (ts before : List Token) (t : Token) (behind : List Token) (p : Bool) → ts ≡ before ++ t ∷ behind → whole_at standard ts ≡ Err (record { past = p; rest = t ∷ behind }) → (l : Limits) → GoesOn l (before ++ t ∷ []) → p ≡ true
at_limit ts before t behind true split e l g = refl
at_limit ts before t behind false split e l g = absurd (none_at_all ts behind t e before split l g)

-- ---- a fault is what is answered

-- reading either gives a text or stops
data Read (ts : List Token) : Type 0 where
  read : (t : Tree) → whole_at standard ts ≡ Ok t → Read ts
  stuck : (s : Stuck) → whole_at standard ts ≡ Err s → Read ts

reading : (ts : List Token) → Read ts
reading ts = go (whole_at standard ts) refl
  where
    go : (r : Result Tree Stuck) → whole_at standard ts ≡ r → Read ts
    go (Ok t) e = read t e
    go (Err s) e = stuck s e

-- the answer where reading stops at a token
token_answer : (bytes : List ℕ) (ts : List Token) (o : Option ℕ) (p : Bool) (t : Token) (rest : List Token) → whole_at standard ts ≡ Err (record { past = p; rest = t ∷ rest }) → answer_of bytes o (whole_at standard ts) ≡ Err (errors.At t.line (what_of p t.kind))
token_answer bytes ts None p t rest e = ap (answer_of bytes None) e
token_answer bytes ts (Some line) p t rest e = ap (answer_of bytes (Some line)) e

-- the tokens that were read go on behind a place
split_of : (ts before : List Token) (t : Token) (behind more : List Token) → ts ≡ (before ++ t ∷ behind) ++ more → ts ≡ before ++ t ∷ (behind ++ more)
split_of ts before t behind more e = e ∙ append_assoc before (t ∷ behind) more

at_token : (ts before : List Token) (t : Token) (behind : List Token) → ts ≡ before ++ t ∷ behind → GoesOn standard before → (GoesOn standard (before ++ t ∷ []) → ⊥) → (p : Bool) × (whole_at standard ts ≡ Err (record { past = p; rest = t ∷ behind }))
at_token ts before t behind split on never = go (reading ts)
  where
    go : Read ts → (p : Bool) × (whole_at standard ts ≡ Err (record { past = p; rest = t ∷ behind }))
    go (read x e) =
        let i = subst (λ z. IsText standard z x) split (read_is ts x e) in
        let g : GoesOn standard (before ++ t ∷ behind) = record { more = []; tree = x; is = subst (λ z. IsText standard z x) (sym (append-nil (before ++ t ∷ behind))) i } in
        absurd (never (one_shorter standard before t behind g))
    go (stuck s e) = (s.past, e ∙ ap (λ z. Err z) (stuck_parts s (t ∷ behind) (stops_there ts before t behind s split on never e)))

end_answer : (bytes : List ℕ) (o : Option ℕ) (p : Bool) → answer_of bytes o (Err (record { past = p; rest = [] })) ≡ Err (stop_fault bytes o p [])
end_answer bytes None p = refl
end_answer bytes (Some line) p = refl

fault_answered : (bytes : List ℕ) (ts : List Token) (o : Option ℕ) → IsScanned bytes ts o → length bytes ≤ text_limit → {line : ℕ} {what : What} → IsFirstFault bytes line what → answer_of bytes o (whole_at standard ts) ≡ Err (errors.At line what)
fault_answered bytes ts o s size (too_long h) = absurd (omega arith)
fault_answered bytes ts o s size (broken {line = line} {rest = rest} {before = before} h p b on) =
    let w = scanned_broken bytes ts o s before line rest p b in
    ap (λ z. answer_of bytes z (whole_at standard ts)) w.1 ∙ go (reading ts) (subst (λ z. GoesOn standard z) (sym w.0) on)
  where
    go : Read ts → GoesOn standard ts → answer_of bytes (Some line) (whole_at standard ts) ≡ Err (errors.At line whats.Word)
    go (read t e) on = ap (answer_of bytes (Some line)) e
    go (stuck b e) on = ap (answer_of bytes (Some line)) (e ∙ ap (λ z. Err z) (stuck_parts b [] (stops_behind ts b on e)))
fault_answered bytes ts o s size (misplaced {after = after} {rest = rest} {before = before} t behind h p on never a) =
    let b = scanned_before bytes ts o s (before ++ t ∷ behind) after rest p in
    let split = split_of ts before t behind b.0 b.1 in
    let r = at_token ts before t (behind ++ b.0) split on (never standard) in
    let n = no_limit ts before t (behind ++ b.0) r.0 split r.1 never in
    token_answer bytes ts o r.0 t (behind ++ b.0) r.1 ∙ ap (λ z. Err (errors.At t.line (what_of z t.kind))) n ∙ ap (λ z. Err (errors.At t.line (cond z whats.Word whats.Token))) a
fault_answered bytes ts o s size (wrong {after = after} {rest = rest} {before = before} t behind h p on never a) =
    let b = scanned_before bytes ts o s (before ++ t ∷ behind) after rest p in
    let split = split_of ts before t behind b.0 b.1 in
    let r = at_token ts before t (behind ++ b.0) split on (never standard) in
    let n = no_limit ts before t (behind ++ b.0) r.0 split r.1 never in
    token_answer bytes ts o r.0 t (behind ++ b.0) r.1 ∙ ap (λ z. Err (errors.At t.line (what_of z t.kind))) n ∙ ap (λ z. Err (errors.At t.line (cond z whats.Word whats.Token))) a
fault_answered bytes ts o s size (beyond {after = after} {rest = rest} {before = before} t behind h p on never l g) =
    let b = scanned_before bytes ts o s (before ++ t ∷ behind) after rest p in
    let split = split_of ts before t behind b.0 b.1 in
    let r = at_token ts before t (behind ++ b.0) split on never in
    let n = at_limit ts before t (behind ++ b.0) r.0 split r.1 l g in
    token_answer bytes ts o r.0 t (behind ++ b.0) r.1 ∙ ap (λ z. Err (errors.At t.line (what_of z t.kind))) n
fault_answered bytes ts o s size (stops {all = all} h i on never) =
    let w = text_tokens bytes ts o s all i in
    ap (λ z. answer_of bytes z (whole_at standard ts)) w.0 ∙ go w.1 (reading ts)
  where
    go : all ≡ ts → Read ts → answer_of bytes None (whole_at standard ts) ≡ Err (errors.At (last_line bytes) whats.End)
    go same (read t e) = absurd (never t (subst (λ z. IsText standard z t) (sym same) (read_is ts t e)))
    go same (stuck b e) = ap (answer_of bytes None) (e ∙ ap (λ z. Err z) (stuck_parts b [] (stops_behind ts b (subst (λ z. GoesOn standard z) same on) e)))

-- ---- laws

abbrev line_of : LangError → ℕ
line_of errors.NoMemory = 0
line_of (errors.At line what) = line

abbrev kind_of : LangError → What
kind_of errors.NoMemory = whats.End
kind_of (errors.At line what) = what

long_fault : (bytes : List ℕ) → text_limit < length bytes → {line : ℕ} {what : What} → IsFirstFault bytes line what → (line ≡ 1) × (what ≡ whats.Limit)
long_fault bytes l (too_long h) = (refl, refl)
long_fault bytes l (broken h p b on) = absurd (omega arith)
long_fault bytes l (misplaced t behind h p on never a) = absurd (omega arith)
long_fault bytes l (wrong t behind h p on never a) = absurd (omega arith)
long_fault bytes l (beyond t behind h p on never m g) = absurd (omega arith)
long_fault bytes l (stops h i on never) = absurd (omega arith)

-- within the limit or not
sized : (bytes : List ℕ) → (length bytes ≤ text_limit) ⊎ (text_limit < length bytes)
sized bytes = go (nat_le (length bytes) text_limit) refl
  where
    go : (b : Bool) → nat_le (length bytes) text_limit ≡ b → (length bytes ≤ text_limit) ⊎ (text_limit < length bytes)
    go true e = inl (leb-true (length bytes) text_limit e)
    go false e = inr (grind (arith, nat_tests))

pub one_fault : (bytes : List ℕ) (line other : ℕ) (what another : What) → IsFirstFault bytes line what → IsFirstFault bytes other another → (line ≡ other) × (what ≡ another)
one_fault bytes line other what another f g = go (sized bytes)
  where
    go : (length bytes ≤ text_limit) ⊎ (text_limit < length bytes) → (line ≡ other) × (what ≡ another)
    go (inl size) =
        let s = scan bytes in
        let same = err_same (errors.At line what) (errors.At other another) (sym (fault_answered bytes s.tokens s.broken s.is size f) ∙ fault_answered bytes s.tokens s.broken s.is size g) in
        (ap line_of same, ap kind_of same)
    go (inr long) = let a = long_fault bytes long f in let b = long_fault bytes long g in (a.0 ∙ sym b.0, a.1 ∙ sym b.1)

pub text_has_none : (bytes : List ℕ) (t : Tree) (line : ℕ) (what : What) → IsWorkloadText bytes t → IsFirstFault bytes line what → ⊥
text_has_none bytes t line what w f =
    let s = scan bytes in
    ok-err t (errors.At line what) (sym (answer_only bytes s.tokens s.broken t s.is w) ∙ fault_answered bytes s.tokens s.broken s.is w.size f)

pub one_spelling : (bytes : List ℕ) (some others : List Token) → IsTokens 1 bytes some → IsTokens 1 bytes others → some ≡ others
one_spelling bytes some others p q =
    let s = scan bytes in
    (text_tokens bytes s.tokens s.broken s.is some p).1 ∙ sym (text_tokens bytes s.tokens s.broken s.is others q).1

pub one_tree : (bytes : List ℕ) (t u : Tree) → IsWorkloadText bytes t → IsWorkloadText bytes u → t ≡ u
one_tree bytes t u w v =
    let s = scan bytes in
    ok_same t u (sym (answer_only bytes s.tokens s.broken t s.is w) ∙ answer_only bytes s.tokens s.broken u s.is v)

-- a fault is no want of memory
abbrev is_at : LangError → Bool
is_at errors.NoMemory = false
is_at (errors.At line what) = true

at_some : (line : ℕ) (what : What) → errors.At line what ≡ errors.NoMemory → ⊥
at_some line what e = let b : true ≡ false = ap is_at e in absurd cc

fault_some : (bytes : List ℕ) (o : Option ℕ) (p : Bool) (rest : List Token) → stop_fault bytes o p rest ≡ errors.NoMemory → ⊥
fault_some bytes None p [] e = at_some _ _ e
fault_some bytes (Some line) p [] e = at_some _ _ e
fault_some bytes None p (t ∷ ts) e = at_some _ _ e
fault_some bytes (Some line) p (t ∷ ts) e = at_some _ _ e

-- bytes are a text, or have a fault
pub text_or_fault : (bytes : List ℕ) → ((t : Tree) × IsWorkloadText bytes t) ⊎ ((line : ℕ) × (what : What) × IsFirstFault bytes line what)
text_or_fault bytes = go (sized bytes)
  where
    told : (e : LangError) → (e ≡ errors.NoMemory → ⊥) → TellsFirstFault bytes e → (line : ℕ) × (what : What) × IsFirstFault bytes line what
    told errors.NoMemory n f = absurd (n refl)
    told (errors.At line what) n f = (line, what, f)

    no_memory : (o : Option ℕ) (r : Result Tree Stuck) (e : LangError) → answer_of bytes o r ≡ Err e → e ≡ errors.NoMemory → ⊥
    no_memory None (Ok t) e a n = ok-err t e a
    no_memory (Some line) (Ok t) e a n = at_some line whats.Word (err_same (errors.At line whats.Word) e a ∙ n)
    no_memory None (Err s) e a n = fault_some bytes None s.past s.rest (err_same (stop_fault bytes None s.past s.rest) e a ∙ n)
    no_memory (Some line) (Err s) e a n = fault_some bytes (Some line) s.past s.rest (err_same (stop_fault bytes (Some line) s.past s.rest) e a ∙ n)

    go : (length bytes ≤ text_limit) ⊎ (text_limit < length bytes) → ((t : Tree) × IsWorkloadText bytes t) ⊎ ((line : ℕ) × (what : What) × IsFirstFault bytes line what)
    go (inr long) = inr (1, whats.Limit, too_long long)
    go (inl size) = let s = scan bytes in answered s (answer_of bytes s.broken (whole_at standard s.tokens)) refl
      where
        answered : (s : Scan bytes) (a : Result Tree LangError) → answer_of bytes s.broken (whole_at standard s.tokens) ≡ a → ((t : Tree) × IsWorkloadText bytes t) ⊎ ((line : ℕ) × (what : What) × IsFirstFault bytes line what)
        answered s (Ok t) e = inl (t, answer_text bytes s.tokens s.broken (whole_at standard s.tokens) t size s.is refl e)
        answered s (Err x) e = inr (told x (no_memory s.broken (whole_at standard s.tokens) x e) (answer_fault bytes s.tokens s.broken (whole_at standard s.tokens) x size s.is refl e))
