-- Exact readers of several, one behind the other.
use Rattle.std.proofs.Common.{◌≡◌, ℕ, zero, suc, ◌<◌, ◌≤◌, Bool, true, false, cond, List, [], ◌∷◌, length, Some, None, refl, sym, ap, subst, ◌∙◌, inl, inr, arith}
use Rattle.std.specs.Prelude.{Ok}
use Rattle.roc_lang.specs.Tokens.{Kind, Token}
use Rattle.roc_lang.specs.Grammar.{Each, none, first}
use Rattle.roc_lang_parse.specs.Stuck.{Reading, refuse, exceed, head_is}
use Rattle.roc_lang_parse.specs.Parts.{many_at, some_at}
use Rattle.roc_lang_parse.proofs.Exact.{Rule, Stop, IsStopAt, any, Front, Exact, ok_same, when_ok, Then, bind, exact_then, front_then}
use Rattle.roc_lang_parse.proofs.Choices.{when_chosen, Mapped, mapped, exact_mapped, Given, exact_given, Either, Chooses, exact_either, exact_same}

-- so many at most
pub record Upto {A : Type 0} (R : Rule A) (n : ℕ) (ts us : List Token) (xs : List A) : Type 0 where
  pub each : Each R ts us xs
  pub fits : length xs ≤ n

-- what does not begin so
abbrev pub other_than : (Kind → Bool) → Stop
other_than test None = true
other_than test (Some k) = cond (test k) false true

pub ended : (test : Kind → Bool) (ts : List Token) → head_is test ts ≡ false → IsStopAt (other_than test) ts
ended test [] e = refl
ended test (t ∷ ts) e = rw e refl

not_true : (b : Bool) → cond b false true ≡ true → b ≡ false
not_true true e = absurd cc
not_true false e = refl

pub unended : (test : Kind → Bool) (ts : List Token) → IsStopAt (other_than test) ts → head_is test ts ≡ false
unended test [] e = refl
unended test (t ∷ ts) e = not_true (test t.kind) e

ends_given : {A : Type 0} (starts : Kind → Bool) (ts us : List Token) (xs : List A) → head_is starts ts ≡ false → ◌≡◌ {A = Reading (List A)} (Ok ([], ts)) (Ok (xs, us)) → head_is starts us ≡ false
ends_given starts ts us xs e read = subst (λ z. head_is starts z ≡ false) (ap (λ z. z.1) (ok_same ([], ts) (xs, us) read)) e

follows_given : {A : Type 0} (within : Stop) (ts us : List Token) (xs : List A) → IsStopAt within ts → ◌≡◌ {A = Reading (List A)} (Ok ([], ts)) (Ok (xs, us)) → IsStopAt within us
follows_given within ts us xs h read = subst (λ z. IsStopAt within z) (ap (λ z. z.1) (ok_same ([], ts) (xs, us) read)) h

pub many_ends : {A : Type 0} (starts : Kind → Bool) (item : List Token → Reading A) (n : ℕ) (ts us : List Token) (xs : List A) → many_at starts item n ts ≡ Ok (xs, us) → head_is starts us ≡ false
unfolding many_at
many_ends {A = A} starts item zero ts us xs read = when_chosen (head_is starts ts) false (refuse ts) (Ok ([], ts)) ts (xs, us) read (λ begun may e. absurd cc) (λ e r. ends_given starts ts us xs e r)
many_ends {A = A} starts item (suc n) ts us xs read = when_chosen (head_is starts ts) true (bind item (λ x. mapped (λ ys. x ∷ ys) (many_at starts item n)) ts) (Ok ([], ts)) ts (xs, us) read
    (λ begun may e. when_ok (item ts) _ (xs, us) e (λ x i others. when_ok (many_at starts item n x.1) _ (xs, us) others (λ zs j made.
    many_ends starts item n x.1 us zs.0 (j ∙ ap (λ z. Ok (zs.0, z)) (ap (λ z. z.1) (ok_same (x.0 ∷ zs.0, zs.1) (xs, us) made))))))
    (λ e r. ends_given starts ts us xs e r)

-- ---- one, and those behind it

abbrev pub OneMore : {A : Type 0} → Rule A → ℕ → Rule (List A)
OneMore R n = Then R (λ x. Mapped (λ xs. x ∷ xs) (Upto R n))

abbrev Nothing : {A : Type 0} → Rule A
Nothing ts us x = ⊥

step_to : {A : Type 0} (R : Rule A) (n : ℕ) (ts us : List Token) (xs : List A) → Either (OneMore R n) (Given []) ts us xs → Upto R (suc n) ts us xs
step_to R n ts us xs (inl s) = subst (λ z. Upto R (suc n) ts us z) (sym s.right.value) (record { each = first s.left s.right.is.each; fits = omega (arith, s.right.is.fits) })
step_to R n ts us xs (inr g) = rw (g.value, g.same) (record { each = none; fits = omega arith })

step_each : {A : Type 0} (R : Rule A) (n : ℕ) {ts us : List Token} {xs : List A} → Each R ts us xs → length xs ≤ suc n → Either (OneMore R n) (Given []) ts us xs
step_each R n none fits = inr (record { same = refl; value = refl })
step_each R n (first {b = ms} {x = x} {xs = xs} i others) fits = inl (record { first = x; between = ms; left = i; right = record { from = xs; is = record { each = others; fits = omega arith }; value = refl } })

step_from : {A : Type 0} (R : Rule A) (n : ℕ) (ts us : List Token) (xs : List A) → Upto R (suc n) ts us xs → Either (OneMore R n) (Given []) ts us xs
step_from R n ts us xs u = step_each R n u.each u.fits

none_to : {A : Type 0} (R : Rule A) (ts us : List Token) (xs : List A) → Either Nothing (Given []) ts us xs → Upto R zero ts us xs
none_to R ts us xs (inl s) = absurd s
none_to R ts us xs (inr g) = rw (g.value, g.same) (record { each = none; fits = omega arith })

none_each : {A : Type 0} (R : Rule A) {ts us : List Token} {xs : List A} → Each R ts us xs → length xs ≤ zero → Either Nothing (Given []) ts us xs
none_each R none fits = inr (record { same = refl; value = refl })
none_each R (first i others) fits = absurd (omega arith)

none_from : {A : Type 0} (R : Rule A) (ts us : List Token) (xs : List A) → Upto R zero ts us xs → Either Nothing (Given []) ts us xs
none_from R ts us xs u = none_each R u.each u.fits

-- What is asked of a rule of which several come: within is what may follow one of them, stop what may follow all.
pub record Repeats {A : Type 0} (In Any : Rule A) (starts : Kind → Bool) (within stop : Stop) (item item' : List Token → Reading A) : Type 0 where
  pub exact : Exact In Any within item item'
  pub ends : (ts us : List Token) (x : A) → item ts ≡ Ok (x, us) → IsStopAt within us
  pub starts_any : (ts us : List Token) (x : A) → Any ts us x → head_is starts ts ≡ true
  pub apart : (us : List Token) → IsStopAt stop us → head_is starts us ≡ false
  pub weaken : (us : List Token) → IsStopAt stop us → IsStopAt within us
  pub starts_stop : (us : List Token) → head_is starts us ≡ true → IsStopAt within us
  pub end : IsStopAt within []
  pub opens : (t : Token) → starts t.kind ≡ true → Front Any within (t ∷ [])

-- where anything may follow one of them
pub freely : {A : Type 0} {In Any : Rule A} {starts : Kind → Bool} {stop : Stop} {item item' : List Token → Reading A} → Exact In Any any item item'
    → ((ts us : List Token) (x : A) → Any ts us x → head_is starts ts ≡ true) → ((us : List Token) → IsStopAt stop us → head_is starts us ≡ false) → ((t : Token) → starts t.kind ≡ true → Front Any any (t ∷ []))
    → Repeats In Any starts any stop item item'
freely e starts apart opens = record { exact = e; ends = λ ts us x read. refl; starts_any = starts; apart = apart; weaken = λ us a. refl; starts_stop = λ us a. refl; end = refl; opens = opens }

-- what follows one of them, before the others
others_follow : {A : Type 0} {In Any : Rule A} {starts : Kind → Bool} {within stop : Stop} {item item' : List Token → Reading A} → Repeats In Any starts within stop item item' → {ms us : List Token} {xs : List A} → Each Any ms us xs → IsStopAt stop us → IsStopAt within ms
others_follow r none a = r.weaken _ a
others_follow r (first i others) a = r.starts_stop _ (r.starts_any _ _ _ i)

complete_many : {A : Type 0} {In Any : Rule A} {starts : Kind → Bool} {within stop : Stop} {item item' : List Token → Reading A} → Repeats In Any starts within stop item item'
    → (n : ℕ) {ts us : List Token} {xs : List A} → Each Any ts us xs → length xs ≤ n → IsStopAt stop us → many_at starts item' n ts ≡ Ok (xs, us)
unfolding many_at
complete_many r zero {us = us} none fits a = rw (r.apart us a) refl
complete_many r zero (first i others) fits a = absurd (omega arith)
complete_many r (suc n) {us = us} none fits a = rw (r.apart us a) refl
complete_many r (suc n) {ts = ts} {us = us} (first {b = ms} {x = x} {xs = xs} i others) fits a =
    let rest = complete_many r n others (omega arith) a in
    rw (r.starts_any ts ms x i) (rw (r.exact.all_any ts ms x i (others_follow r others a)) (rw rest refl))

complete_step : {A : Type 0} {In Any : Rule A} {starts : Kind → Bool} {within stop : Stop} {item item' : List Token → Reading A} → Repeats In Any starts within stop item item' → (m : ℕ) (ts us : List Token) (xs : List A)
    → OneMore Any m ts us xs → IsStopAt stop us → bind item' (λ x. mapped (λ xs. x ∷ xs) (many_at starts item' m)) ts ≡ Ok (xs, us)
complete_step r m ts us xs s a =
    let one = r.exact.all_any ts s.between s.first s.left (others_follow r s.right.is.each a) in
    let others = complete_many r m s.right.is.each s.right.is.fits a in
    rw (one, others, s.right.value) refl

step_opens : {A : Type 0} {In Any : Rule A} {starts : Kind → Bool} {within stop : Stop} {item item' : List Token → Reading A} → Repeats In Any starts within stop item item' → (m : ℕ) (t : Token) → starts t.kind ≡ true → Front (OneMore Any m) stop (t ∷ [])
step_opens {within = within} r m t st = front_then {stop = within} (t ∷ []) (r.opens t st) r.end (λ x v. record { more = []; value = x ∷ []; is = λ rest a. record { from = []; is = record { each = none; fits = omega arith }; value = refl } }) (λ x v ms us y s a. others_follow r s.is.each a)

given_other : {A : Type 0} (starts : Kind → Bool) (ts us : List Token) (xs : List A) → Given [] ts us xs → head_is starts us ≡ false → head_is starts ts ≡ false
given_other starts ts us xs g e = ap (head_is starts) g.same ∙ e

pub exact_many : {A : Type 0} {In Any : Rule A} {starts : Kind → Bool} {within stop : Stop} {item item' : List Token → Reading A} → Repeats In Any starts within stop item item' → (n n' : ℕ) → n < n'
    → Exact (Upto In n) (Upto Any n') stop (many_at starts item n) (many_at starts item' n')
unfolding many_at
exact_many r zero zero lt = absurd (omega arith)
exact_many r (suc n) zero lt = absurd (omega arith)
exact_many {In = In} {Any = Any} {starts = starts} {stop = stop} {item = item} {item' = item'} r zero (suc m) lt =
    let choice : Chooses starts false true Nothing (OneMore Any m) (Given []) (Given []) stop exceed (bind item' (λ x. mapped (λ xs. x ∷ xs) (many_at starts item' m))) (λ ts. Ok ([], ts)) (λ ts. Ok ([], ts)) = record {
      first = λ f. absurd cc;
      second = exact_given [] stop;
      starts = λ ts us xs s. r.starts_any ts s.between s.first s.left;
      other = λ ts us xs g a. given_other starts ts us xs g (r.apart us a);
      may = λ ts us xs s. absurd s;
      may_any = refl;
      full = λ f t st. step_opens r m t st;
      all_any = λ ts us xs s a. complete_step r m ts us xs s a;
    } in
    exact_same (none_to In) (none_from In) (step_to Any m) (step_from Any m) (exact_either choice)
exact_many {In = In} {Any = Any} {starts = starts} {stop = stop} {item = item} {item' = item'} r (suc n) (suc m) lt =
    let others = exact_many r n m (omega arith) in
    let choice : Chooses starts true true (OneMore In n) (OneMore Any m) (Given []) (Given []) stop (bind item (λ x. mapped (λ xs. x ∷ xs) (many_at starts item n))) (bind item' (λ x. mapped (λ xs. x ∷ xs) (many_at starts item' m))) (λ ts. Ok ([], ts)) (λ ts. Ok ([], ts)) = record {
      first = λ f. exact_then r.exact (λ x. exact_mapped (λ xs. x ∷ xs) others) r.ends (record { is = λ x ms us y o a. others_follow r o.is.each a; end = r.end });
      second = exact_given [] stop;
      starts = λ ts us xs s. r.starts_any ts s.between s.first s.left;
      other = λ ts us xs g a. given_other starts ts us xs g (r.apart us a);
      may = λ ts us xs s. refl;
      may_any = refl;
      full = λ f t st. absurd cc;
      all_any = λ ts us xs s a. complete_step r m ts us xs s a;
    } in
    exact_same (step_to In n) (step_from In n) (step_to Any m) (step_from Any m) (exact_either choice)

-- one that must come, and those behind it
abbrev pub Some' : {A : Type 0} → (P R : Rule A) → ℕ → Rule (List A)
Some' P R n = Then P (λ x. Mapped (λ xs. x ∷ xs) (Upto R n))

pub exact_some : {A : Type 0} {P P' In Any : Rule A} {starts : Kind → Bool} {within stop : Stop} {one one' item item' : List Token → Reading A}
    → Exact P P' within one one' → ((ts us : List Token) (x : A) → one ts ≡ Ok (x, us) → IsStopAt within us) → Repeats In Any starts within stop item item' → (n n' : ℕ) → n < n'
    → Exact (Some' P In n) (Some' P' Any n') stop (some_at starts one item n) (some_at starts one' item' n')
unfolding some_at
exact_some e ends r n n' lt = exact_then e (λ x. exact_mapped (λ xs. x ∷ xs) (exact_many r n n' lt)) ends (record { is = λ x ms us y o a. others_follow r o.is.each a; end = r.end })

pub some_ends : {A : Type 0} (starts : Kind → Bool) (one item : List Token → Reading A) (n : ℕ) (ts us : List Token) (xs : List A) → some_at starts one item n ts ≡ Ok (xs, us) → head_is starts us ≡ false
unfolding some_at
some_ends starts one item n ts us xs read = when_ok (one ts) _ (xs, us) read (λ x i others. when_ok (many_at starts item n x.1) _ (xs, us) others (λ zs j made.
    many_ends starts item n x.1 us zs.0 (j ∙ ap (λ z. Ok (zs.0, z)) (ap (λ z. z.1) (ok_same (x.0 ∷ zs.0, zs.1) (xs, us) made)))))

-- what follows each of them follows the last
many_follow : {A : Type 0} (starts : Kind → Bool) (item : List Token → Reading A) (within : Stop) → ((ts us : List Token) (x : A) → item ts ≡ Ok (x, us) → IsStopAt within us)
    → (n : ℕ) (ts us : List Token) (xs : List A) → IsStopAt within ts → many_at starts item n ts ≡ Ok (xs, us) → IsStopAt within us
unfolding many_at
many_follow {A = A} starts item within ends zero ts us xs h read = when_chosen (head_is starts ts) false (refuse ts) (Ok ([], ts)) ts (xs, us) read (λ begun may e. absurd cc) (λ e r. follows_given within ts us xs h r)
many_follow {A = A} starts item within ends (suc n) ts us xs h read = when_chosen (head_is starts ts) true (bind item (λ x. mapped (λ ys. x ∷ ys) (many_at starts item n)) ts) (Ok ([], ts)) ts (xs, us) read
    (λ begun may e. when_ok (item ts) _ (xs, us) e (λ x i others. when_ok (many_at starts item n x.1) _ (xs, us) others (λ zs j made.
    many_follow starts item within ends n x.1 us zs.0 (ends ts x.1 x.0 i) (j ∙ ap (λ z. Ok (zs.0, z)) (ap (λ z. z.1) (ok_same (x.0 ∷ zs.0, zs.1) (xs, us) made))))))
    (λ e r. follows_given within ts us xs h r)

pub some_follow : {A : Type 0} (starts : Kind → Bool) (one item : List Token → Reading A) (within : Stop) → ((ts us : List Token) (x : A) → one ts ≡ Ok (x, us) → IsStopAt within us) → ((ts us : List Token) (x : A) → item ts ≡ Ok (x, us) → IsStopAt within us)
    → (n : ℕ) (ts us : List Token) (xs : List A) → some_at starts one item n ts ≡ Ok (xs, us) → IsStopAt within us
unfolding some_at
some_follow starts one item within begun ends n ts us xs read = when_ok (one ts) _ (xs, us) read (λ x i others. when_ok (many_at starts item n x.1) _ (xs, us) others (λ zs j made.
    many_follow starts item within ends n x.1 us zs.0 (begun ts x.1 x.0 i) (j ∙ ap (λ z. Ok (zs.0, z)) (ap (λ z. z.1) (ok_same (x.0 ∷ zs.0, zs.1) (xs, us) made)))))
