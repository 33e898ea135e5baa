-- Exact readers of single tokens, of values that are made of others, of one of two rules, and of several.
use Rattle.std.proofs.Common.{◌≡◌, Bool, true, false, cond, List, [], ◌∷◌, ◌++◌, Option, Some, None, refl, sym, ap, subst, ◌∙◌, ◌⊎◌, inl, inr}
use Rattle.std.specs.Prelude.{Ok, Err}
use Rattle.std.specs.Option.{option_map_or}
use Rattle.roc_lang.specs.Tokens.{Kind, Token}
use Rattle.roc_lang_parse.specs.Stuck.{Stuck, Reading, ◌>>=◌, refuse, exceed, head_is}
use Rattle.roc_lang_parse.specs.Parts.{first_at}
use Rattle.roc_lang_parse.proofs.Exact.{Rule, Stop, IsStopAt, any, Consumed, Front, NoneThrough, Why, Refused, Exact, ok_same, err_same, ok-err, when_ok, when_err, same_start}

-- ---- the same rule, said otherwise

same_why : {A : Type 0} (P P' In Any : Rule A) (stop : Stop)
    → ((ts us : List Token) (x : A) → In ts us x → P ts us x) → ((ts us : List Token) (x : A) → P' ts us x → Any ts us x) → ((ts us : List Token) (x : A) → Any ts us x → P' ts us x)
    → (taken : List Token) (past : Bool) (rest : List Token) → Why P P' stop taken past rest → Why In Any stop taken past rest
same_why P P' In Any stop from to' from' taken past [] why = tt
same_why P P' In Any stop from to' from' taken false (t ∷ us) why = λ ws rest x a is. why ws rest x a (from' _ _ _ is)
same_why P P' In Any stop from to' from' taken true (t ∷ us) why = ((λ ws rest x a is. why.0 ws rest x a (from _ _ _ is)), record { more = why.1.more; value = why.1.value; is = λ rest a. to' _ _ _ (why.1.is rest a) })

pub exact_same : {A : Type 0} {P P' In Any : Rule A} {stop : Stop} {r s : List Token → Reading A}
    → ((ts us : List Token) (x : A) → P ts us x → In ts us x) → ((ts us : List Token) (x : A) → In ts us x → P ts us x)
    → ((ts us : List Token) (x : A) → P' ts us x → Any ts us x) → ((ts us : List Token) (x : A) → Any ts us x → P' ts us x)
    → Exact P P' stop r s → Exact In Any stop r s
exact_same {P = P} {P' = P'} {In = In} {Any = Any} {stop = stop} to from to' from' e = record {
  weaker = λ ts us x is. to' _ _ _ (e.weaker _ _ _ (from _ _ _ is));
  some = record { more = e.some.more; value = e.some.value; is = λ rest a. to _ _ _ (e.some.is rest a) };
  all = λ ts us x is a. e.all ts us x (from _ _ _ is) a;
  all_any = λ ts us x is a. e.all_any ts us x (from' _ _ _ is) a;
  reads = λ ts us x read. let c = e.reads ts us x read in record { taken = c.taken; split = c.split; is = λ rest a. to _ _ _ (c.is rest a) };
  stuck = λ ts b read. let c = e.stuck ts b read in record {
    taken = c.taken;
    split = c.split;
    front = record { more = c.front.more; value = c.front.value; is = λ rest a. to _ _ _ (c.front.is rest a) };
    why = same_why P P' In Any stop from to' from' c.taken b.past b.rest c.why;
  };
}

-- ---- a value made of another

pub record Mapped {A B : Type 0} (f : A → B) (P : Rule A) (ts us : List Token) (y : B) : Type 0 where
  pub from : A
  pub is : P ts us from
  pub value : y ≡ f from

abbrev pub mapped : {A B : Type 0} → (A → B) → (List Token → Reading A) → List Token → Reading B
mapped f p ts = p ts >>= λ x. Ok (f x.0, x.1)

map_why : {A B : Type 0} (f : A → B) (P P' : Rule A) (stop : Stop) (taken : List Token) (past : Bool) (rest : List Token) → Why P P' stop taken past rest → Why (Mapped f P) (Mapped f P') stop taken past rest
map_why f P P' stop taken past [] why = tt
map_why f P P' stop taken false (t ∷ us) why = λ ws rest x a m. why ws rest m.from a m.is
map_why f P P' stop taken true (t ∷ us) why = ((λ ws rest x a m. why.0 ws rest m.from a m.is), record { more = why.1.more; value = f why.1.value; is = λ rest a. record { from = why.1.value; is = why.1.is rest a; value = refl } })

pub exact_mapped : {A B : Type 0} (f : A → B) {P P' : Rule A} {stop : Stop} {p p' : List Token → Reading A} → Exact P P' stop p p' → Exact (Mapped f P) (Mapped f P') stop (mapped f p) (mapped f p')
exact_mapped f {P = P} {P' = P'} {stop = stop} {p = p} e = record {
  weaker = λ ts us y m. record { from = m.from; is = e.weaker _ _ _ m.is; value = m.value };
  some = record { more = e.some.more; value = f e.some.value; is = λ rest a. record { from = e.some.value; is = e.some.is rest a; value = refl } };
  all = λ ts us y m a. ap (λ z. z >>= λ x. Ok (f x.0, x.1)) (e.all ts us m.from m.is a) ∙ ap (λ v. Ok (v, us)) (sym m.value);
  all_any = λ ts us y m a. ap (λ z. z >>= λ x. Ok (f x.0, x.1)) (e.all_any ts us m.from m.is a) ∙ ap (λ v. Ok (v, us)) (sym m.value);
  reads = λ ts us y read. when_ok (p ts) (λ x. Ok (f x.0, x.1)) (y, us) read (λ x first made.
      let same = ok_same (f x.0, x.1) (y, us) made in
      let c = e.reads ts x.1 x.0 first in
      record { taken = c.taken; split = c.split ∙ ap (λ z. c.taken ++ z.1) same; is = λ rest a. record { from = x.0; is = c.is rest a; value = ap (λ z. z.0) (sym same) } });
  stuck = λ ts b read. when_err (p ts) (λ x. Ok (f x.0, x.1)) b read
      (λ first. let c = e.stuck ts b first in record {
        taken = c.taken;
        split = c.split;
        front = record { more = c.front.more; value = f c.front.value; is = λ rest a. record { from = c.front.value; is = c.front.is rest a; value = refl } };
        why = map_why f P P' stop c.taken b.past b.rest c.why;
      })
      (λ x first made. absurd (ok-err (f x.0, x.1) b made));
}

-- ---- nothing

pub record Given {A : Type 0} (v : A) (ts us : List Token) (y : A) : Type 0 where
  pub same : ts ≡ us
  pub value : y ≡ v

pub exact_given : {A : Type 0} (v : A) (stop : Stop) → Exact (Given v) (Given v) stop (λ ts. Ok (v, ts)) (λ ts. Ok (v, ts))
exact_given v stop = record {
  weaker = λ ts us y g. g;
  some = record { more = []; value = v; is = λ rest a. record { same = refl; value = refl } };
  all = λ ts us y g a. rw (g.same, g.value) refl;
  all_any = λ ts us y g a. rw (g.same, g.value) refl;
  reads = λ ts us y read. let same = ok_same (v, ts) (y, us) read in record { taken = []; split = ap (λ z. z.1) same; is = λ rest a. record { same = refl; value = ap (λ z. z.0) (sym same) } };
  stuck = λ ts b read. absurd (ok-err (v, ts) b read);
}

-- ---- a token

pub record First {A : Type 0} (taken : Token → Option A) (ts us : List Token) (x : A) : Type 0 where
  pub token : Token
  pub is : ts ≡ token ∷ us
  pub takes : taken token ≡ Some x

token_of : Token → List Token → Token
token_of d [] = d
token_of d (t ∷ ts) = t

first_reads : {A : Type 0} (f : Token → Option A) (t : Token) (ts us : List Token) (x : A) (o : Option A) → f t ≡ o → ◌≡◌ {A = Reading A} (option_map_or (λ y. Ok (y, ts)) o (refuse (t ∷ ts))) (Ok (x, us)) → Consumed (First f) any (t ∷ ts) us x
first_reads f t ts us x (Some y) e read =
    let same = ok_same (y, ts) (x, us) read in
    record { taken = t ∷ []; split = ap (λ z. t ∷ z.1) same; is = λ rest a. record { token = t; is = refl; takes = e ∙ ap (λ z. Some z.0) same } }
first_reads f t ts us x None e read = absurd (ok-err (x, us) (record { past = false; rest = t ∷ ts }) (sym read))

first_stuck : {A : Type 0} (f : Token → Option A) (s : Front (First f) any []) (t : Token) (ts : List Token) (b : Stuck) (o : Option A) → f t ≡ o → ◌≡◌ {A = Reading A} (option_map_or (λ y. Ok (y, ts)) o (refuse (t ∷ ts))) (Err b) → Refused (First f) (First f) any (t ∷ ts) b
first_stuck f s t ts b (Some y) e read = absurd (ok-err (y, ts) b read)
first_stuck f s t ts b None e read =
    let made : Refused (First f) (First f) any (t ∷ ts) (record { past = false; rest = t ∷ ts }) = record { taken = []; split = refl; front = s; why = λ ws rest x a is. let same = ap (token_of t) is.is in absurd (cc (same, is.takes, e)) } in
    subst (λ z. Refused (First f) (First f) any (t ∷ ts) z) (err_same (record { past = false; rest = t ∷ ts }) b read) made

first_front : {A : Type 0} (f : Token → Option A) (t : Token) (x : A) → f t ≡ Some x → Front (First f) any []
first_front f t x e = record { more = t ∷ []; value = x; is = λ rest a. record { token = t; is = refl; takes = e } }

all_first : {A : Type 0} (f : Token → Option A) (ts us : List Token) (x : A) → First f ts us x → first_at f ts ≡ Ok (x, us)
unfolding first_at
all_first f ts us x g = rw g.is (rw g.takes refl)

reads_first : {A : Type 0} (f : Token → Option A) (ts us : List Token) (x : A) → first_at f ts ≡ Ok (x, us) → Consumed (First f) any ts us x
unfolding first_at
reads_first f [] us y read = absurd (ok-err (y, us) (record { past = false; rest = [] }) (sym read))
reads_first f (u ∷ ts) us y read = first_reads f u ts us y (f u) refl read

stuck_first : {A : Type 0} (f : Token → Option A) (s : Front (First f) any []) (ts : List Token) (b : Stuck) → first_at f ts ≡ Err b → Refused (First f) (First f) any ts b
unfolding first_at
stuck_first f s [] b read = subst (λ z. Refused (First f) (First f) any [] z) (err_same (record { past = false; rest = [] }) b read) (record { taken = []; split = refl; front = s; why = tt })
stuck_first f s (u ∷ ts) b read = first_stuck f s u ts b (f u) refl read

-- a token is taken, such as t
pub exact_first : {A : Type 0} (f : Token → Option A) (t : Token) (x : A) → f t ≡ Some x → Exact (First f) (First f) any (first_at f) (first_at f)
exact_first f t x e = record {
  weaker = λ ts us y g. g;
  some = first_front f t x e;
  all = λ ts us y g a. all_first f ts us y g;
  all_any = λ ts us y g a. all_first f ts us y g;
  reads = reads_first f;
  stuck = stuck_first f (first_front f t x e);
}

-- ---- one of two, by the first token

abbrev pub choose : {A : Type 0} (begun allowed : Bool) (p q : Reading A) (ts : List Token) → Reading A
choose begun allowed p q ts = cond begun (cond allowed p (exceed ts)) q

pub when_chosen : {A R : Type 0} (begun allowed : Bool) (p q : Reading A) (ts : List Token) (y : A × List Token) → choose begun allowed p q ts ≡ Ok y → (begun ≡ true → allowed ≡ true → p ≡ Ok y → R) → (begun ≡ false → q ≡ Ok y → R) → R
when_chosen true true p q ts y e k l = k refl refl e
when_chosen true false p q ts y e k l = absurd (ok-err y (record { past = true; rest = ts }) (sym e))
when_chosen false allowed p q ts y e k l = l refl e

when_stuck : {A R : Type 0} (begun allowed : Bool) (p q : Reading A) (ts : List Token) (b : Stuck) → choose begun allowed p q ts ≡ Err b
    → (begun ≡ true → allowed ≡ true → p ≡ Err b → R) → (begun ≡ true → allowed ≡ false → record { past = true; rest = ts } ≡ b → R) → (begun ≡ false → q ≡ Err b → R) → R
when_stuck true true p q ts b e k l m = k refl refl e
when_stuck true false p q ts b e k l m = l refl refl (err_same (record { past = true; rest = ts }) b e)
when_stuck false allowed p q ts b e k l m = m refl e

abbrev pub Either : {A : Type 0} → Rule A → Rule A → Rule A
Either P Q ts us x = P ts us x ⊎ Q ts us x

pub record Chooses {A : Type 0} (test : Kind → Bool) (allowed allowed' : Bool) (P P' Q Q' : Rule A) (stop : Stop) (p p' q q' : List Token → Reading A) : Type 0 where
  pub first : allowed ≡ true → Exact P P' stop p p'
  pub second : Exact Q Q' stop q q'
  pub starts : (ts us : List Token) (x : A) → P' ts us x → head_is test ts ≡ true
  pub other : (ts us : List Token) (x : A) → Q' ts us x → IsStopAt stop us → head_is test ts ≡ false
  pub may : (ts us : List Token) (x : A) → P ts us x → allowed ≡ true
  pub may_any : allowed' ≡ true
  pub full : allowed ≡ false → (t : Token) → test t.kind ≡ true → Front P' stop (t ∷ [])
  pub all_any : (ts us : List Token) (x : A) → P' ts us x → IsStopAt stop us → p' ts ≡ Ok (x, us)

left_front : {A : Type 0} {P Q : Rule A} {stop : Stop} {ts : List Token} → Front P stop ts → Front (Either P Q) stop ts
left_front f = record { more = f.more; value = f.value; is = λ rest a. inl (f.is rest a) }

right_front : {A : Type 0} {P Q : Rule A} {stop : Stop} {ts : List Token} → Front Q stop ts → Front (Either P Q) stop ts
right_front f = record { more = f.more; value = f.value; is = λ rest a. inr (f.is rest a) }

both : {R : Type 0} (b : Bool) → b ≡ true → b ≡ false → R
both b t f = absurd cc

-- no sentence of a choice, where there is none of the one that is chosen
only_left : {A : Type 0} {test : Kind → Bool} {allowed allowed' : Bool} {P P' Q Q' : Rule A} {stop : Stop} {p p' q q' : List Token → Reading A} → Chooses test allowed allowed' P P' Q Q' stop p p' q q'
    → (taken us : List Token) (t : Token) → head_is test (taken ++ t ∷ us) ≡ true → NoneThrough P' stop taken t → NoneThrough (Either P' Q') stop taken t
only_left c taken us t begun never ws rest x a (inl is) = never ws rest x a is
only_left {test = test} c taken us t begun never ws rest x a (inr is) = both _ (same_start test taken t ws us ∙ begun) (c.other _ _ _ is a)

only_right : {A : Type 0} {test : Kind → Bool} {allowed allowed' : Bool} {P P' Q Q' : Rule A} {stop : Stop} {p p' q q' : List Token → Reading A} → Chooses test allowed allowed' P P' Q Q' stop p p' q q'
    → (taken us : List Token) (t : Token) → head_is test (taken ++ t ∷ us) ≡ false → NoneThrough Q' stop taken t → NoneThrough (Either P' Q') stop taken t
only_right {test = test} c taken us t begun never ws rest x a (inl is) = both _ (c.starts _ _ _ is) (same_start test taken t ws us ∙ begun)
only_right c taken us t begun never ws rest x a (inr is) = never ws rest x a is

left_why : {A : Type 0} {test : Kind → Bool} {allowed allowed' : Bool} {P P' Q Q' : Rule A} {stop : Stop} {p p' q q' : List Token → Reading A} → Chooses test allowed allowed' P P' Q Q' stop p p' q q'
    → (taken : List Token) (past : Bool) (rest : List Token) → head_is test (taken ++ rest) ≡ true → Why P P' stop taken past rest → Why (Either P Q) (Either P' Q') stop taken past rest
left_why c taken past [] begun why = tt
left_why c taken false (t ∷ us) begun why = only_left c taken us t begun why
left_why {P = P} {P' = P'} {Q = Q} {stop = stop} c taken true (t ∷ us) begun why = (λ ws rest x a is. never ws rest x a is, left_front why.1)
  where
    never : NoneThrough (Either P Q) stop taken t
    never ws rest x a (inl is) = why.0 ws rest x a is
    never ws rest x a (inr is) = both _ (same_start _ taken t ws us ∙ begun) (c.other _ _ _ (c.second.weaker _ _ _ is) a)

right_why : {A : Type 0} {test : Kind → Bool} {allowed allowed' : Bool} {P P' Q Q' : Rule A} {stop : Stop} {p p' q q' : List Token → Reading A} → Chooses test allowed allowed' P P' Q Q' stop p p' q q'
    → (taken : List Token) (past : Bool) (rest : List Token) → head_is test (taken ++ rest) ≡ false → Why Q Q' stop taken past rest → Why (Either P Q) (Either P' Q') stop taken past rest
right_why c taken past [] begun why = tt
right_why c taken false (t ∷ us) begun why = only_right c taken us t begun why
right_why {P = P} {P' = P'} {Q = Q} {stop = stop} c taken true (t ∷ us) begun why = (λ ws rest x a is. never ws rest x a is, right_front why.1)
  where
    never : NoneThrough (Either P Q) stop taken t
    never ws rest x a (inl is) = both _ (c.starts _ _ _ ((c.first (c.may _ _ _ is)).weaker _ _ _ is)) (same_start _ taken t ws us ∙ begun)
    never ws rest x a (inr is) = why.0 ws rest x a is

full_refused : {A : Type 0} {test : Kind → Bool} {allowed allowed' : Bool} {P P' Q Q' : Rule A} {stop : Stop} {p p' q q' : List Token → Reading A} → Chooses test allowed allowed' P P' Q Q' stop p p' q q'
    → (ts : List Token) → head_is test ts ≡ true → allowed ≡ false → Refused (Either P Q) (Either P' Q') stop ts (record { past = true; rest = ts })
full_refused c [] begun full = absurd cc
full_refused {P = P} {Q = Q} {stop = stop} c (t ∷ us) begun full = record { taken = []; split = refl; front = right_front c.second.some; why = (λ ws rest x a is. never ws rest x a is, left_front (c.full full t begun)) }
  where
    never : NoneThrough (Either P Q) stop [] t
    never ws rest x a (inl is) = both _ (c.may _ _ _ is) full
    never ws rest x a (inr is) = both _ begun (c.other _ _ _ (c.second.weaker _ _ _ is) a)

abbrev pub chosen_by : {A : Type 0} → (Kind → Bool) → Bool → (p q : List Token → Reading A) → List Token → Reading A
chosen_by test allowed p q ts = choose (head_is test ts) allowed (p ts) (q ts) ts

pub all_left : {A : Type 0} (test : Kind → Bool) (allowed : Bool) (p q : List Token → Reading A) (ts : List Token) (y : A × List Token) → head_is test ts ≡ true → allowed ≡ true → p ts ≡ Ok y → chosen_by test allowed p q ts ≡ Ok y
all_left test allowed p q ts y b a e = rw (b, a) e

pub all_right : {A : Type 0} (test : Kind → Bool) (allowed : Bool) (p q : List Token → Reading A) (ts : List Token) (y : A × List Token) → head_is test ts ≡ false → q ts ≡ Ok y → chosen_by test allowed p q ts ≡ Ok y
all_right test allowed p q ts y b e = rw b e

pub exact_either : {A : Type 0} {test : Kind → Bool} {allowed allowed' : Bool} {P P' Q Q' : Rule A} {stop : Stop} {p p' q q' : List Token → Reading A} → Chooses test allowed allowed' P P' Q Q' stop p p' q q'
    → Exact (Either P Q) (Either P' Q') stop (chosen_by test allowed p q) (chosen_by test allowed' p' q')
exact_either {A = A} {test = test} {allowed = allowed} {allowed' = allowed'} {P = P} {P' = P'} {Q = Q} {Q' = Q'} {stop = stop} {p = p} {p' = p'} {q = q} {q' = q'} c = record {
  weaker = weaken;
  some = right_front c.second.some;
  all = all;
  all_any = all_any;
  reads = λ ts us x read. when_chosen (head_is test ts) allowed (p ts) (q ts) ts (x, us) read
      (λ begun may e. let d = (c.first may).reads ts us x e in record { taken = d.taken; split = d.split; is = λ rest a. inl (d.is rest a) })
      (λ begun e. let d = c.second.reads ts us x e in record { taken = d.taken; split = d.split; is = λ rest a. inr (d.is rest a) });
  stuck = λ ts b read. when_stuck (head_is test ts) allowed (p ts) (q ts) ts b read
      (λ begun may e. let d = (c.first may).stuck ts b e in record { taken = d.taken; split = d.split; front = left_front d.front; why = left_why c d.taken b.past b.rest (subst (λ z. head_is test z ≡ true) d.split begun) d.why })
      (λ begun full e. subst (λ z. Refused (Either P Q) (Either P' Q') stop ts z) e (full_refused c ts begun full))
      (λ begun e. let d = c.second.stuck ts b e in record { taken = d.taken; split = d.split; front = right_front d.front; why = right_why c d.taken b.past b.rest (subst (λ z. head_is test z ≡ false) d.split begun) d.why });
}
  where
    weaken : (ts us : List Token) (x : A) → Either P Q ts us x → Either P' Q' ts us x
    weaken ts us x (inl is) = inl ((c.first (c.may _ _ _ is)).weaker _ _ _ is)
    weaken ts us x (inr is) = inr (c.second.weaker _ _ _ is)

    all : (ts us : List Token) (x : A) → Either P Q ts us x → IsStopAt stop us → chosen_by test allowed p q ts ≡ Ok (x, us)
    all ts us x (inl is) a = let may = c.may _ _ _ is in all_left test allowed p q ts (x, us) (c.starts _ _ _ ((c.first may).weaker _ _ _ is)) may ((c.first may).all ts us x is a)
    all ts us x (inr is) a = all_right test allowed p q ts (x, us) (c.other _ _ _ (c.second.weaker _ _ _ is) a) (c.second.all ts us x is a)

    all_any : (ts us : List Token) (x : A) → Either P' Q' ts us x → IsStopAt stop us → chosen_by test allowed' p' q' ts ≡ Ok (x, us)
    all_any ts us x (inl is) a = all_left test allowed' p' q' ts (x, us) (c.starts _ _ _ is) c.may_any (c.all_any ts us x is a)
    all_any ts us x (inr is) a = all_right test allowed' p' q' ts (x, us) (c.other _ _ _ is a) (c.second.all_any ts us x is a)

-- where a value made of another ends
pub mapped_ends : {A B : Type 0} (f : A → B) (p : List Token → Reading A) (stop : Stop) → ((ts us : List Token) (x : A) → p ts ≡ Ok (x, us) → IsStopAt stop us) → (ts us : List Token) (y : B) → mapped f p ts ≡ Ok (y, us) → IsStopAt stop us
mapped_ends f p stop ends ts us y read = when_ok (p ts) (λ x. Ok (f x.0, x.1)) (y, us) read (λ x first made. ends ts us x.0 (first ∙ ap (λ z. Ok (x.0, z)) (ap (λ z. z.1) (ok_same (f x.0, x.1) (y, us) made))))
