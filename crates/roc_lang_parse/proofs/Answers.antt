-- What is read is a workload text, what is one is read, and where reading stops is the first fault.
use Rattle.std.proofs.Common.{◌≡◌, ℕ, ◌-◌, ◌≤◌, Bool, true, false, cond, List, [], ◌∷◌, ◌++◌, length, take, append_assoc, length-append, Option, Some, None, refl, sym, ap, subst, ◌∙◌, arith}
use Rattle.std.specs.Prelude.{Result, Ok, Err, IfOk, IfErr}
use Rattle.std.proofs.lemmas.List.{append-nil}
use Rattle.roc_lang.specs.Syntax.{Tree}
use Rattle.roc_lang.specs.Tokens as tokens
use Rattle.roc_lang.specs.Tokens.{Token, IsTokens}
use Rattle.roc_lang.specs.Grammar.{Limits, standard, IsText, text_limit}
use Rattle.roc_lang.specs.declared.source.Source.{Source}
use Rattle.roc_lang.specs.declared.fault.LangError.{LangError}
use Rattle.roc_lang.specs.declared.fault.LangError.TheVariants as errors
use Rattle.roc_lang.specs.declared.fault.What.TheVariants as whats
use Rattle.roc_lang_parse.specs.Stuck.{Stuck, Reading, ◌>>=◌}
use Rattle.roc_lang_parse.specs.Reading.{text_at, whole_at}
use Rattle.roc_lang_parse.specs.Lexed.{IsLexed}
use Rattle.roc_lang_parse.specs.Inner.Views.{IsScanned}
use Rattle.roc_lang_parse.specs.Fault.{IsWorkloadText, GoesOn, is_above, IsFirstFault, broken, misplaced, wrong, beyond, stops}
use Rattle.roc_lang_parse.specs.Answer.{IsSourceOf, TellsFirstFault}
use Rattle.roc_lang_parse.specs.Inner.Told.{what_of, stop_fault, answer_of, IsAnswer}
use Rattle.roc_lang_parse.proofs.Exact.{Front, NoneThrough, Refused, Exact, ok_same, err_same, ok-err}
use Rattle.roc_lang_parse.proofs.Texts.{Whole, at_end, exact_text, text_ends}
use Rattle.roc_lang_parse.proofs.Further.{past, past_all, past_standard, further_text}
use Rattle.roc_lang_parse.proofs.Places.{all_tokens, no_step, lexed_left, broken_tokens}

-- ---- the tree alone

whole_ok : (limits : Limits) (ts : List Token) (t : Tree) → whole_at limits ts ≡ Ok t → (us : List Token) × (text_at limits ts ≡ Ok (t, us))
unfolding whole_at
whole_ok limits ts t e = go (text_at limits ts) refl e
  where
    go : (r : Reading Tree) → text_at limits ts ≡ r → (r >>= λ x. Ok x.0) ≡ Ok t → (us : List Token) × (text_at limits ts ≡ Ok (t, us))
    go (Ok x) f g = (x.1, f ∙ ap (λ z. Ok (z, x.1)) (ok_same x.0 t g))
    go (Err s) f g = absurd (ok-err t s (sym g))

whole_err : (limits : Limits) (ts : List Token) (s : Stuck) → whole_at limits ts ≡ Err s → text_at limits ts ≡ Err s
unfolding whole_at
whole_err limits ts s e = go (text_at limits ts) refl e
  where
    go : (r : Reading Tree) → text_at limits ts ≡ r → (r >>= λ x. Ok x.0) ≡ Err s → text_at limits ts ≡ Err s
    go (Ok x) f g = absurd (ok-err x.0 s g)
    go (Err b) f g = f ∙ ap (λ z. Err z) (err_same b s g)

text_exact : (l : Limits) → Exact (Whole standard) (Whole (past l)) at_end (text_at standard) (text_at (past l))
text_exact l = exact_text standard (past l) (past_standard l)

-- what was read is a text, and what is one is read
pub text_read_is : (ts us : List Token) (t : Tree) → text_at standard ts ≡ Ok (t, us) → IsText standard ts t
text_read_is ts us t e =
    let c = (text_exact standard).reads ts us t e in
    let nothing = text_ends standard ts us t e in
    let i = c.is [] refl in
    subst (λ z. IsText standard z t) (sym (c.split ∙ ap (λ z. c.taken ++ z) nothing)) i.is

pub read_is : (ts : List Token) (t : Tree) → whole_at standard ts ≡ Ok t → IsText standard ts t
read_is ts t e = let w = whole_ok standard ts t e in text_read_is ts w.0 t w.1

pub is_read : (ts : List Token) (t : Tree) → IsText standard ts t → whole_at standard ts ≡ Ok t
unfolding whole_at
is_read ts t i = ap (λ r. r >>= λ x. Ok x.0) ((text_exact standard).all ts [] t (record { is = i; nothing_left = refl }) refl)

-- ---- where reading stops

pub stops_at : (ts : List Token) (s : Stuck) → whole_at standard ts ≡ Err s → (l : Limits) → Refused (Whole standard) (Whole (past l)) at_end ts s
stops_at ts s e l = (text_exact l).stuck ts s (whole_err standard ts s e)

take_front : (xs zs : List Token) → take (length (xs ++ zs) - length zs) (xs ++ zs) ≡ xs
take_front xs zs =
    let n : length (xs ++ zs) - length zs ≡ length xs = omega (arith, length-append xs zs) in
    ap (λ k. take k (xs ++ zs)) n ∙ whole xs
  where
    whole : (ys : List Token) → take (length ys) (ys ++ zs) ≡ ys
    whole [] = refl
    whole (y ∷ ys) = ap (λ k. y ∷ k) (whole ys)

pub same_front : (xs ys zs : List Token) → xs ++ zs ≡ ys ++ zs → xs ≡ ys
same_front xs ys zs e = sym (take_front xs zs) ∙ ap (λ z. take (length z - length zs) z) e ∙ take_front ys zs

pub front_goes_on : (l : Limits) (before : List Token) → Front (Whole l) at_end before → GoesOn l before
front_goes_on l before f = record { more = f.more ++ []; tree = f.value; is = (f.is [] refl).is }

-- no text goes on, for a further limit
pub none_further : (m : Limits) (before : List Token) (t : Token) → NoneThrough (Whole m) at_end before t → GoesOn m (before ++ t ∷ []) → ⊥
none_further m before t never g =
    let moved : (before ++ t ∷ []) ++ g.more ≡ before ++ t ∷ g.more = append_assoc before (t ∷ []) g.more in
    never g.more [] g.tree refl (record { is = subst (λ z. IsText m z g.tree) moved g.is; nothing_left = refl })

-- the same token stops in all limits
pub none_at_all : (ts : List Token) (us : List Token) (t : Token) → whole_at standard ts ≡ Err (record { past = false; rest = t ∷ us }) → (before : List Token) → ts ≡ before ++ t ∷ us → (l : Limits) → GoesOn l (before ++ t ∷ []) → ⊥
none_at_all ts us t e before split l g =
    let r = stops_at ts (record { past = false; rest = t ∷ us }) e l in
    let same = same_front r.taken before (t ∷ us) (sym r.split ∙ split) in
    let never = subst (λ z. NoneThrough (Whole (past l)) at_end z t) same r.why in
    none_further (past l) before t never (record { more = g.more; tree = g.tree; is = further_text l (past l) (past_all l) g.is })

-- ---- faults

-- the tokens of the text, up to a place
pub record Scanned (bytes : List ℕ) (ts : List Token) : Type 0 where
  pub line : ℕ
  pub rest : List ℕ
  pub is : IsLexed 1 bytes ts line rest

scanned : (bytes : List ℕ) (ts : List Token) (o : Option ℕ) → IsScanned bytes ts o → Scanned bytes ts
scanned bytes ts None s = record { line = s.0; rest = []; is = s.1 }
scanned bytes ts (Some line) s = record { line = line; rest = s.0; is = s.1 }

token_fault : (bytes : List ℕ) (ts us : List Token) (t : Token) → length bytes ≤ text_limit → Scanned bytes ts → whole_at standard ts ≡ Err (record { past = false; rest = t ∷ us }) → IsFirstFault bytes t.line (what_of false t.kind)
token_fault bytes ts us t size s e =
    let r = stops_at ts (record { past = false; rest = t ∷ us }) e standard in
    let lexed = subst (λ z. IsLexed 1 bytes z s.line s.rest) r.split s.is in
    let on = front_goes_on standard r.taken r.front in
    go lexed on (none_at_all ts us t e r.taken r.split) (is_above t.kind) refl
  where
    go : {before : List Token} → IsLexed 1 bytes (before ++ t ∷ us) s.line s.rest → GoesOn standard before → ((l : Limits) → GoesOn l (before ++ t ∷ []) → ⊥) → (b : Bool) → is_above t.kind ≡ b → IsFirstFault bytes t.line (cond b whats.Word whats.Token)
    go lexed on never true h = misplaced t us size lexed on never h
    go lexed on never false h = wrong t us size lexed on never h

limit_fault : (bytes : List ℕ) (ts us : List Token) (t : Token) → length bytes ≤ text_limit → Scanned bytes ts → whole_at standard ts ≡ Err (record { past = true; rest = t ∷ us }) → IsFirstFault bytes t.line whats.Limit
limit_fault bytes ts us t size s e =
    let r = stops_at ts (record { past = true; rest = t ∷ us }) e standard in
    let lexed = subst (λ z. IsLexed 1 bytes z s.line s.rest) r.split s.is in
    beyond t us size lexed (front_goes_on standard r.taken r.front) (none_further standard r.taken t r.why.0) (past standard) (front_goes_on (past standard) (r.taken ++ t ∷ []) r.why.1)

-- reading stops behind all tokens
end_goes_on : (ts : List Token) (p : Bool) → whole_at standard ts ≡ Err (record { past = p; rest = [] }) → GoesOn standard ts
end_goes_on ts p e =
    let r = stops_at ts (record { past = p; rest = [] }) e standard in
    subst (λ z. GoesOn standard z) (sym (r.split ∙ append-nil r.taken)) (front_goes_on standard r.taken r.front)

-- a text goes on with nothing
whole_goes_on : (ts : List Token) (t : Tree) → IsText standard ts t → GoesOn standard ts
whole_goes_on ts t i = record { more = []; tree = t; is = subst (λ z. IsText standard z t) (sym (append-nil ts)) i }

stuck_fault : (bytes : List ℕ) (ts : List Token) (o : Option ℕ) → length bytes ≤ text_limit → IsScanned bytes ts o → (p : Bool) (rest : List Token) → whole_at standard ts ≡ Err (record { past = p; rest = rest }) → TellsFirstFault bytes (stop_fault bytes o p rest)
stuck_fault bytes ts None size s p [] e = stops size (all_tokens s.1) (end_goes_on ts p e) (λ t i. ok-err t (record { past = p; rest = [] }) (sym (is_read ts t i) ∙ e))
stuck_fault bytes ts (Some line) size s p [] e = broken size s.1 s.2 (end_goes_on ts p e)
stuck_fault bytes ts None size s false (t ∷ us) e = token_fault bytes ts us t size (scanned bytes ts None s) e
stuck_fault bytes ts None size s true (t ∷ us) e = limit_fault bytes ts us t size (scanned bytes ts None s) e
stuck_fault bytes ts (Some line) size s false (t ∷ us) e = token_fault bytes ts us t size (scanned bytes ts (Some line) s) e
stuck_fault bytes ts (Some line) size s true (t ∷ us) e = limit_fault bytes ts us t size (scanned bytes ts (Some line) s) e

-- ---- answers

pub answer_fault : (bytes : List ℕ) (ts : List Token) (o : Option ℕ) (r : Result Tree Stuck) (e : LangError) → length bytes ≤ text_limit → IsScanned bytes ts o → whole_at standard ts ≡ r → answer_of bytes o r ≡ Err e → TellsFirstFault bytes e
answer_fault bytes ts None (Ok t) e size s read a = absurd (ok-err t e a)
answer_fault bytes ts (Some line) (Ok t) e size s read a = subst (λ z. TellsFirstFault bytes z) (err_same (errors.At line whats.Word) e a) (broken size s.1 s.2 (whole_goes_on ts t (read_is ts t read)))
answer_fault bytes ts None (Err b) e size s read a = subst (λ z. TellsFirstFault bytes z) (err_same (stop_fault bytes None b.past b.rest) e a) (stuck_fault bytes ts None size s b.past b.rest read)
answer_fault bytes ts (Some line) (Err b) e size s read a = subst (λ z. TellsFirstFault bytes z) (err_same (stop_fault bytes (Some line) b.past b.rest) e a) (stuck_fault bytes ts (Some line) size s b.past b.rest read)

pub answer_text : (bytes : List ℕ) (ts : List Token) (o : Option ℕ) (r : Result Tree Stuck) (t : Tree) → length bytes ≤ text_limit → IsScanned bytes ts o → whole_at standard ts ≡ r → answer_of bytes o r ≡ Ok t → IsWorkloadText bytes t
answer_text bytes ts None (Ok u) t size s read a = record { size = size; tokens = ts; spelt = all_tokens s.1; text = read_is ts t (read ∙ ap (λ z. Ok z) (ok_same u t a)) }
answer_text bytes ts (Some line) (Ok u) t size s read a = absurd (ok-err t (errors.At line whats.Word) (sym a))
answer_text bytes ts None (Err b) t size s read a = absurd (ok-err t (stop_fault bytes None b.past b.rest) (sym a))
answer_text bytes ts (Some line) (Err b) t size s read a = absurd (ok-err t (stop_fault bytes (Some line) b.past b.rest) (sym a))

-- no bytes have no tokens
no_more : {line : ℕ} {us : List Token} → IsTokens line [] us → us ≡ []
no_more tokens.nothing = refl
no_more (tokens.step n t) = absurd (no_step n)

-- a workload text has these tokens, and no broken place
pub text_tokens : (bytes : List ℕ) (ts : List Token) (o : Option ℕ) → IsScanned bytes ts o → (all : List Token) → IsTokens 1 bytes all → (o ≡ None) × (all ≡ ts)
text_tokens bytes ts None s all i =
    let l = lexed_left s.1 all i in
    (refl, l.parts ∙ ap (λ z. ts ++ z) (no_more l.is) ∙ append-nil ts)
text_tokens bytes ts (Some line) s all i = let l = lexed_left s.1 all i in absurd (broken_tokens l.is s.2)

pub answer_only : (bytes : List ℕ) (ts : List Token) (o : Option ℕ) (t : Tree) → IsScanned bytes ts o → IsWorkloadText bytes t → answer_of bytes o (whole_at standard ts) ≡ Ok t
answer_only bytes ts o t s w =
    let p = text_tokens bytes ts o s w.tokens w.spelt in
    let read = is_read ts t (subst (λ z. IsText standard z t) p.1 w.text) in
    ap (λ z. answer_of bytes z (whole_at standard ts)) p.0 ∙ ap (answer_of bytes None) read

-- ---- what the code tells

pub found_in : (bytes : List ℕ) (ts : List Token) (o : Option ℕ) (r : Result Source LangError) → length bytes ≤ text_limit → IsScanned bytes ts o → IsAnswer r (answer_of bytes o (whole_at standard ts)) → IfOk r (λ source. IsWorkloadText bytes source)
found_in bytes ts o (Ok source) size s a = answer_text bytes ts o (whole_at standard ts) source size s refl a
found_in bytes ts o (Err e) size s a = tt

pub only_in : (bytes : List ℕ) (ts : List Token) (o : Option ℕ) (r : Result Source LangError) → IsScanned bytes ts o → IsAnswer r (answer_of bytes o (whole_at standard ts)) → (t : Tree) → IsWorkloadText bytes t → IsSourceOf t r
only_in bytes ts o (Ok source) s a t w = ok_same source t (sym a ∙ answer_only bytes ts o t s w)
only_in bytes ts o (Err errors.NoMemory) s a t w = tt
only_in bytes ts o (Err (errors.At line what)) s a t w = ok-err t (errors.At line what) (sym (answer_only bytes ts o t s w) ∙ a)

pub fault_in : (bytes : List ℕ) (ts : List Token) (o : Option ℕ) (r : Result Source LangError) → length bytes ≤ text_limit → IsScanned bytes ts o → IsAnswer r (answer_of bytes o (whole_at standard ts)) → IfErr r (TellsFirstFault bytes)
fault_in bytes ts o (Ok source) size s a = tt
fault_in bytes ts o (Err errors.NoMemory) size s a = tt
fault_in bytes ts o (Err (errors.At line what)) size s a = answer_fault bytes ts o (whole_at standard ts) (errors.At line what) size s refl a
