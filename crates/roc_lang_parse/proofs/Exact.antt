-- When a reader is exact for a rule of the grammar. A rule is a relation, In within the limits and Any within further ones. Of what
-- follows it is asked that it does not go on (stop). Readers of rules one behind the other, and of one of two, are exact where theirs are.
use Rattle.std.proofs.Common.{◌≡◌, Bool, true, false, List, [], ◌∷◌, ◌++◌, append_assoc, Option, Some, None, refl, sym, ap, subst, ◌∙◌}
use Rattle.std.specs.Prelude.{Result, Ok, Err}
use Rattle.roc_lang.specs.Tokens.{Kind, Token}
use Rattle.roc_lang_parse.specs.Stuck.{Stuck, Reading, and_then, ◌>>=◌, head_is}

abbrev pub Rule : Type 0 → Type 1
Rule A = List Token → List Token → A → Type 0

abbrev pub Stop : Type 0
Stop = Option Kind → Bool

abbrev pub head : List Token → Option Kind
head [] = None
head (t ∷ ts) = Some t.kind

abbrev pub IsStopAt : Stop → List Token → Type 0
IsStopAt stop ts = stop (head ts) ≡ true

abbrev pub any : Stop
any h = true

-- a sentence that was taken, whatever follows
pub record Consumed {A : Type 0} (In : Rule A) (stop : Stop) (ts us : List Token) (x : A) : Type 0 where
  pub taken : List Token
  pub split : ts ≡ taken ++ us
  pub is : (rest : List Token) → IsStopAt stop rest → In (taken ++ rest) rest x

-- tokens with which a sentence begins
pub record Front {A : Type 0} (In : Rule A) (stop : Stop) (ts : List Token) : Type 0 where
  pub more : List Token
  pub value : A
  pub is : (rest : List Token) → IsStopAt stop rest → In (ts ++ (more ++ rest)) rest value

-- no sentence goes on with this token
abbrev pub NoneThrough : {A : Type 0} (R : Rule A) (stop : Stop) (taken : List Token) (t : Token) → Type 0
NoneThrough R stop taken t = (ws rest : List Token) (x : _) → IsStopAt stop rest → R (taken ++ t ∷ ws) rest x → ⊥

abbrev pub Why : {A : Type 0} (In Any : Rule A) (stop : Stop) (taken : List Token) (past : Bool) (rest : List Token) → Type 0
Why In Any stop taken past [] = Unit {0}
Why In Any stop taken false (t ∷ us) = NoneThrough Any stop taken t
Why In Any stop taken true (t ∷ us) = NoneThrough In stop taken t × Front Any stop (taken ++ t ∷ [])

pub record Refused {A : Type 0} (In Any : Rule A) (stop : Stop) (ts : List Token) (s : Stuck) : Type 0 where
  pub taken : List Token
  pub split : ts ≡ taken ++ s.rest
  pub front : Front In stop taken
  pub why : Why In Any stop taken s.past s.rest

pub record Exact {A : Type 0} (In Any : Rule A) (stop : Stop) (r s : List Token → Reading A) : Type 0 where
  pub weaker : (ts us : List Token) (x : A) → In ts us x → Any ts us x
  pub some : Front In stop []
  pub all : (ts us : List Token) (x : A) → In ts us x → IsStopAt stop us → r ts ≡ Ok (x, us)
  pub all_any : (ts us : List Token) (x : A) → Any ts us x → IsStopAt stop us → s ts ≡ Ok (x, us)
  pub reads : (ts us : List Token) (x : A) → r ts ≡ Ok (x, us) → Consumed In stop ts us x
  pub stuck : (ts : List Token) (b : Stuck) → r ts ≡ Err b → Refused In Any stop ts b

-- ---- results

pub ok_same : {A E : Type 0} (x y : A) → ◌≡◌ {A = Result A E} (Ok x) (Ok y) → x ≡ y
ok_same x y e = ap (from_ok x) e
  where
    from_ok : {A E : Type 0} → A → Result A E → A
    from_ok d (Ok z) = z
    from_ok d (Err z) = d

pub err_same : {A E : Type 0} (x y : E) → ◌≡◌ {A = Result A E} (Err x) (Err y) → x ≡ y
err_same x y e = ap (from_err x) e
  where
    from_err : {A E : Type 0} → E → Result A E → E
    from_err d (Err z) = z
    from_err d (Ok z) = d

pub ok-err : {A E : Type 0} (x : A) (y : E) → ◌≡◌ {A = Result A E} (Ok x) (Err y) → ⊥
ok-err x y e = absurd cc

pub when_ok : {A B P : Type 0} (r : Result A Stuck) (f : A → Result B Stuck) (y : B) → and_then r f ≡ Ok y → ((x : A) → r ≡ Ok x → f x ≡ Ok y → P) → P
when_ok (Ok x) f y e k = k x refl e
when_ok (Err s) f y e k = absurd (ok-err y s (sym e))

pub when_err : {A B P : Type 0} (r : Result A Stuck) (f : A → Result B Stuck) (s : Stuck) → and_then r f ≡ Err s → (r ≡ Err s → P) → ((x : A) → r ≡ Ok x → f x ≡ Err s → P) → P
when_err (Ok x) f s e k l = l x refl e
when_err (Err t) f s e k l = k (ap (λ z. Err z) (err_same t s e))

-- ---- heads

pub same_head : (xs : List Token) (t : Token) (us ws : List Token) → head (xs ++ t ∷ us) ≡ head (xs ++ t ∷ ws)
same_head [] t us ws = refl
same_head (x ∷ xs) t us ws = refl

pub same_end : (stop : Stop) (xs : List Token) (t : Token) (us ws : List Token) → IsStopAt stop (xs ++ t ∷ us) → IsStopAt stop (xs ++ t ∷ ws)
same_end stop xs t us ws e = ap stop (same_head xs t ws us) ∙ e

pub same_start : (test : Kind → Bool) (xs : List Token) (t : Token) (us ws : List Token) → head_is test (xs ++ t ∷ us) ≡ head_is test (xs ++ t ∷ ws)
same_start test [] t us ws = refl
same_start test (x ∷ xs) t us ws = refl

-- ---- one behind the other

pub record Then {A B : Type 0} (P : Rule A) (Q : A → Rule B) (ts us : List Token) (y : B) : Type 0 where
  pub first : A
  pub between : List Token
  pub left : P ts between first
  pub right : Q first between us y

abbrev pub bind : {A B : Type 0} → (List Token → Reading A) → (A → List Token → Reading B) → List Token → Reading B
bind p q ts = p ts >>= λ x. q x.0 x.1

pub record Followed {A B : Type 0} (Q' : A → Rule B) (stop stop' : Stop) : Type 0 where
  pub is : (x : A) (ms us : List Token) (y : B) → Q' x ms us y → IsStopAt stop' us → IsStopAt stop ms
  pub end : IsStopAt stop []

-- a value of a rule
pub record Value {A : Type 0} (P : Rule A) (x : A) : Type 0 where
  pub tokens : List Token
  pub rest : List Token
  pub is : P tokens rest x

-- a front of the first rule, and a sentence of the second
pub front_then : {A B : Type 0} {P : Rule A} {Q : A → Rule B} {stop stop' : Stop} (taken : List Token)
    → Front P stop taken → IsStopAt stop [] → ((x : A) → Value P x → Front (Q x) stop' []) → ((x : A) → Value P x → (ms us : List Token) (y : B) → Q x ms us y → IsStopAt stop' us → IsStopAt stop ms) → Front (Then P Q) stop' taken
front_then {P = P} {Q = Q} {stop' = stop'} taken p end some follow =
    let v : Value P p.value = record { tokens = taken ++ (p.more ++ []); rest = []; is = p.is [] end } in
    let q = some p.value v in
    record {
      more = p.more ++ q.more;
      value = q.value;
      is = λ rest ends.
          let right = q.is rest ends in
          let left = p.is (q.more ++ rest) (follow p.value v (q.more ++ rest) rest q.value right ends) in
          let R : List Token → Type 0 = λ z. Then P Q (taken ++ z) rest q.value in
          subst R (sym (append_assoc p.more q.more rest)) (record { first = p.value; between = q.more ++ rest; left = left; right = right });
    }

-- a sentence of the first rule, and a front of the second
then_front : {A B : Type 0} {P : Rule A} {Q : A → Rule B} (stop stop' : Stop) (x : A) (taken further : List Token)
    → ((rest : List Token) → IsStopAt stop rest → P (taken ++ rest) rest x) → Front (Q x) stop' further
    → ((ms us : List Token) (y : B) → Q x ms us y → IsStopAt stop' us → IsStopAt stop ms) → Front (Then P Q) stop' (taken ++ further)
then_front {P = P} {Q = Q} stop stop' x taken further p q follow =
    record {
      more = q.more;
      value = q.value;
      is = λ rest ends.
          let right = q.is rest ends in
          let left = p (further ++ (q.more ++ rest)) (follow (further ++ (q.more ++ rest)) rest q.value right ends) in
          let R : List Token → Type 0 = λ z. Then P Q z rest q.value in
          subst R (sym (append_assoc taken further (q.more ++ rest))) (record { first = x; between = further ++ (q.more ++ rest); left = left; right = right });
    }

-- a rule whose sentences are not gone on with has one of them in front of what follows
pub one_sentence : {A : Type 0} {In Any : Rule A} {stop : Stop} {r s : List Token → Reading A} → Exact In Any stop r s → (ts us vs : List Token) (x y : A) → Any ts us x → Any ts vs y → IsStopAt stop us → IsStopAt stop vs → (x ≡ y) × (us ≡ vs)
one_sentence e ts us vs x y p q a b =
    let same = ok_same (x, us) (y, vs) (sym (e.all_any ts us x p a) ∙ e.all_any ts vs y q b) in
    (ap (λ z. z.0) same, ap (λ z. z.1) same)

-- the second rule stops, behind the first
none_behind : {A B : Type 0} {P P' : Rule A} {Q' : A → Rule B} {stop stop' : Stop} {p p' : List Token → Reading A} → Exact P P' stop p p' → Followed Q' stop stop'
    → (x : A) (taken further us : List Token) (t : Token) → ((rest : List Token) → IsStopAt stop rest → P' (taken ++ rest) rest x) → IsStopAt stop (further ++ t ∷ us)
    → NoneThrough (Q' x) stop' further t → NoneThrough (Then P' Q') stop' (taken ++ further) t
none_behind {P' = P'} {Q' = Q'} {stop = stop} e follow x taken further us t is ends none ws rest y after through =
    let here = same_end stop further t us ws ends in
    let moved : (taken ++ further) ++ t ∷ ws ≡ taken ++ (further ++ t ∷ ws) = append_assoc taken further (t ∷ ws) in
    let left = subst (λ z. P' z through.between through.first) moved through.left in
    let same = one_sentence e _ _ _ _ _ left (is (further ++ t ∷ ws) here) (follow.is _ _ _ _ through.right after) here in
    let right = subst (λ z. Q' z through.between rest y) same.0 through.right in
    let right' = subst (λ z. Q' x z rest y) same.1 right in
    none ws rest y after right'

-- what is asked of the second rule, at the values of the first
pub record Second {A B : Type 0} (P P' : Rule A) (Q Q' : A → Rule B) (stop' : Stop) (q q' : A → List Token → Reading B) : Type 0 where
  pub exact : (ts us : List Token) (x : A) → P ts us x → Exact (Q x) (Q' x) stop' (q x) (q' x)
  pub some : (ts us : List Token) (x : A) → P' ts us x → Front (Q' x) stop' []
  pub all : (ts us : List Token) (x : A) → P' ts us x → (ms vs : List Token) (y : B) → Q' x ms vs y → IsStopAt stop' vs → q' x ms ≡ Ok (y, vs)

weaker_then : {A B : Type 0} {P P' : Rule A} {Q Q' : A → Rule B} {stop stop' : Stop} {p p' : List Token → Reading A} {q q' : A → List Token → Reading B}
    → Exact P P' stop p p' → Second P P' Q Q' stop' q q' → (ts us : List Token) (y : B) → Then P Q ts us y → Then P' Q' ts us y
weaker_then e f ts us y t = record { first = t.first; between = t.between; left = e.weaker _ _ _ t.left; right = (f.exact _ _ _ t.left).weaker _ _ _ t.right }

-- the first rule stops
first_why : {A B : Type 0} {P P' : Rule A} {Q Q' : A → Rule B} {stop stop' : Stop} {p p' : List Token → Reading A} {q q' : A → List Token → Reading B}
    → Exact P P' stop p p' → Second P P' Q Q' stop' q q' → Followed Q' stop stop'
    → (taken : List Token) (past : Bool) (rest : List Token) → Why P P' stop taken past rest → Why (Then P Q) (Then P' Q') stop' taken past rest
first_why e f follow taken past [] why = tt
first_why e f follow taken false (t ∷ us) why = λ ws rest y after through. why ws through.between through.first (follow.is _ _ _ _ through.right after) through.left
first_why e f follow taken true (t ∷ us) why = (
  (λ ws rest y after through. why.0 ws through.between through.first (follow.is _ _ _ _ ((f.exact _ _ _ through.left).weaker _ _ _ through.right) after) through.left),
  front_then (taken ++ t ∷ []) why.1 follow.end (λ x v. f.some v.tokens v.rest x v.is) (λ x v ms us y r a. follow.is x ms us y r a),
)

-- the second rule stops
second_why : {A B : Type 0} {P P' : Rule A} {Q Q' : A → Rule B} {stop stop' : Stop} {p p' : List Token → Reading A} {q q' : A → List Token → Reading B}
    → Exact P P' stop p p' → Second P P' Q Q' stop' q q' → Followed Q' stop stop'
    → (x : A) (taken further : List Token) (past : Bool) (rest : List Token) → ((after : List Token) → IsStopAt stop after → P (taken ++ after) after x) → IsStopAt stop (further ++ rest)
    → Why (Q x) (Q' x) stop' further past rest → Why (Then P Q) (Then P' Q') stop' (taken ++ further) past rest
second_why e f follow x taken further past [] is ends why = tt
second_why e f follow x taken further false (t ∷ us) is ends why = none_behind e follow x taken further us t (λ rest a. e.weaker _ _ _ (is rest a)) ends why
second_why {P = P} {P' = P'} {Q = Q} {Q' = Q'} {stop = stop} {stop' = stop'} e f follow x taken further true (t ∷ us) is ends why =
    let front = then_front {P = P'} {Q = Q'} stop stop' x taken (further ++ t ∷ []) (λ rest a. e.weaker _ _ _ (is rest a)) why.1 (λ ms vs y r a. follow.is x ms vs y r a) in
    (never, subst (λ z. Front (Then P' Q') stop' z) (sym (append_assoc taken further (t ∷ []))) front)
  where
    never : NoneThrough (Then P Q) stop' (taken ++ further) t
    never ws rest y after through =
        let here = same_end stop further t us ws ends in
        let moved : (taken ++ further) ++ t ∷ ws ≡ taken ++ (further ++ t ∷ ws) = append_assoc taken further (t ∷ ws) in
        let left = subst (λ z. P' z through.between through.first) moved (e.weaker _ _ _ through.left) in
        let same = one_sentence e _ _ _ _ _ left (e.weaker _ _ _ (is (further ++ t ∷ ws) here)) (follow.is _ _ _ _ ((f.exact _ _ _ through.left).weaker _ _ _ through.right) after) here in
        let right = subst (λ z. Q z through.between rest y) same.0 through.right in
        why.0 ws rest y after (subst (λ z. Q x z rest y) same.1 right)

pub exact_bind : {A B : Type 0} {P P' : Rule A} {Q Q' : A → Rule B} {stop stop' : Stop} {p p' : List Token → Reading A} {q q' : A → List Token → Reading B}
    → Exact P P' stop p p' → Second P P' Q Q' stop' q q' → ((ts us : List Token) (x : A) → p ts ≡ Ok (x, us) → IsStopAt stop us) → Followed Q' stop stop'
    → Exact (Then P Q) (Then P' Q') stop' (bind p q) (bind p' q')
exact_bind {P = P} {P' = P'} {Q = Q} {Q' = Q'} {stop = stop} {stop' = stop'} {p = p} {p' = p'} {q = q} {q' = q'} e f ends follow = record {
  weaker = weaker_then e f;
  some = front_then [] e.some follow.end (λ x v. (f.exact v.tokens v.rest x v.is).some) (λ x v ms us y r a. follow.is x ms us y ((f.exact v.tokens v.rest x v.is).weaker _ _ _ r) a);
  all = λ ts us y t a. let g = f.exact _ _ _ t.left in ap (λ z. z >>= λ x. q x.0 x.1) (e.all _ _ _ t.left (follow.is _ _ _ _ (g.weaker _ _ _ t.right) a)) ∙ g.all _ _ _ t.right a;
  all_any = λ ts us y t a. ap (λ z. z >>= λ x. q' x.0 x.1) (e.all_any _ _ _ t.left (follow.is _ _ _ _ t.right a)) ∙ f.all _ _ _ t.left _ _ _ t.right a;
  reads = λ ts us y read. when_ok (p ts) (λ x. q x.0 x.1) (y, us) read (λ x first second.
      let c = e.reads ts x.1 x.0 first in
      let g = f.exact _ _ _ (c.is [] follow.end) in
      let d = g.reads x.1 us y second in
      record {
        taken = c.taken ++ d.taken;
        split = c.split ∙ ap (λ z. c.taken ++ z) d.split ∙ sym (append_assoc c.taken d.taken us);
        is = λ rest a.
            let right = d.is rest a in
            let R : List Token → Type 0 = λ z. Then P Q z rest y in
            subst R (sym (append_assoc c.taken d.taken rest)) (record { first = x.0; between = d.taken ++ rest; left = c.is (d.taken ++ rest) (follow.is _ _ _ _ (g.weaker _ _ _ right) a); right = right });
      });
  stuck = λ ts b read. when_err (p ts) (λ x. q x.0 x.1) b read
      (λ first. let c = e.stuck ts b first in record {
        taken = c.taken;
        split = c.split;
        front = front_then c.taken c.front follow.end (λ x v. (f.exact v.tokens v.rest x v.is).some) (λ x v ms us y r a. follow.is x ms us y ((f.exact v.tokens v.rest x v.is).weaker _ _ _ r) a);
        why = first_why e f follow c.taken b.past b.rest c.why;
      })
      (λ x first second.
      let c = e.reads ts x.1 x.0 first in
      let g = f.exact _ _ _ (c.is [] follow.end) in
      let d = g.stuck x.1 b second in
      record {
        taken = c.taken ++ d.taken;
        split = c.split ∙ ap (λ z. c.taken ++ z) d.split ∙ sym (append_assoc c.taken d.taken b.rest);
        front = then_front {P = P} {Q = Q} stop stop' x.0 c.taken d.taken c.is d.front (λ ms us y r a. follow.is x.0 ms us y (g.weaker _ _ _ r) a);
        why = second_why e f follow x.0 c.taken d.taken b.past b.rest c.is (subst (λ z. IsStopAt stop z) d.split (ends ts x.1 x.0 first)) d.why;
      });
}

pub some_any : {A : Type 0} {In Any : Rule A} {stop : Stop} {r s : List Token → Reading A} → Exact In Any stop r s → Front Any stop []
some_any e = record { more = e.some.more; value = e.some.value; is = λ rest ends. e.weaker _ _ _ (e.some.is rest ends) }

-- where the second rule is exact at every value
pub exact_then : {A B : Type 0} {P P' : Rule A} {Q Q' : A → Rule B} {stop stop' : Stop} {p p' : List Token → Reading A} {q q' : A → List Token → Reading B}
    → Exact P P' stop p p' → ((x : A) → Exact (Q x) (Q' x) stop' (q x) (q' x))
    → ((ts us : List Token) (x : A) → p ts ≡ Ok (x, us) → IsStopAt stop us) → Followed Q' stop stop'
    → Exact (Then P Q) (Then P' Q') stop' (bind p q) (bind p' q')
exact_then e f ends follow = exact_bind e (record { exact = λ ts us x i. f x; some = λ ts us x i. some_any (f x); all = λ ts us x i ms vs y r a. (f x).all_any ms vs y r a }) ends follow

-- where the first rule needs nothing behind it
pub exact_next : {A B : Type 0} {P P' : Rule A} {Q Q' : A → Rule B} {stop' : Stop} {p p' : List Token → Reading A} {q q' : A → List Token → Reading B}
    → Exact P P' any p p' → ((x : A) → Exact (Q x) (Q' x) stop' (q x) (q' x)) → Exact (Then P Q) (Then P' Q') stop' (bind p q) (bind p' q')
exact_next e f = exact_then e f (λ ts us x read. refl) (record { is = λ x ms us y r a. refl; end = refl })

-- where rules one behind the other end
pub bind_ends : {A B : Type 0} (p : List Token → Reading A) (q : A → List Token → Reading B) (stop : Stop) → ((x : A) (ts us : List Token) (y : B) → q x ts ≡ Ok (y, us) → IsStopAt stop us) → (ts us : List Token) (y : B) → bind p q ts ≡ Ok (y, us) → IsStopAt stop us
bind_ends p q stop ends ts us y read = when_ok (p ts) (λ x. q x.0 x.1) (y, us) read (λ x first others. ends x.0 x.1 us y others)
