-- Exact readers of operators in a row: each makes what has begun deeper, up to the room.
use Rattle.std.proofs.Common.{◌≡◌, ℕ, zero, suc, ◌+◌, ◌-◌, ◌<◌, ◌≤◌, Bool, true, false, List, [], ◌∷◌, refl, ap, subst, ◌∙◌, inl, inr, arith}
use Rattle.std.specs.Prelude.{Ok, nat_lt}
use Rattle.std.proofs.lemmas.Bool.{ltb-true, lt-ltb}
use Rattle.std.proofs.lemmas.Bool.Decides.{nat_tests}
use Rattle.roc_lang.specs.Tokens.{Kind, Token}
use Rattle.roc_lang_parse.specs.Stuck.{Reading, refuse, exceed, head_is}
use Rattle.roc_lang_parse.specs.Reading.{Deep, deeper, loop_at}
use Rattle.roc_lang_parse.proofs.Exact.{Rule, Stop, IsStopAt, Front, Exact, ok_same, when_ok, Then, bind, exact_bind}
use Rattle.roc_lang_parse.proofs.Choices.{when_chosen, Given, exact_given, Either, Chooses, exact_either, exact_same}

-- a rule's sentences that are no deeper
pub record Within {A : Type 0} (P : Rule A) (depth : A → ℕ) (room : ℕ) (ts us : List Token) (x : A) : Type 0 where
  pub is : P ts us x
  pub fits : depth x ≤ room

abbrev pub depth_of : Deep → ℕ
depth_of v = v.1

-- what is behind a value that has begun, and what it becomes
pub data Tail {B : Type 0} (P : List Token → List Token → B → Type 0) (join : Deep → B → Deep) : (begun : Deep) (ts us : List Token) (all : Deep) → Type 0 where
  stays : {v : Deep} {ts : List Token} → Tail P join v ts ts v
  goes : {v w : Deep} {ts ms us : List Token} {x : B} → P ts ms x → Tail P join (join v x) ms us w → Tail P join v ts us w

-- what is asked of operators
pub record Looping {B : Type 0} (P : Rule B) (depth : B → ℕ) (join : Deep → B → Deep) (starts : Kind → Bool) (within stop : Stop) : Type 0 where
  pub join_deep : (v : Deep) (x : B) → (join v x).1 ≡ deeper v.1 (depth x)
  pub starts_item : (ts us : List Token) (x : B) → P ts us x → head_is starts ts ≡ true
  pub apart : (us : List Token) → IsStopAt stop us → head_is starts us ≡ false
  pub weaken : (us : List Token) → IsStopAt stop us → IsStopAt within us
  pub starts_stop : (us : List Token) → head_is starts us ≡ true → IsStopAt within us
  pub end : IsStopAt within []
  pub opens : (t : Token) → starts t.kind ≡ true → Front (Within P depth 1) within (t ∷ [])

pub tail_deep : {B : Type 0} {P : Rule B} {depth : B → ℕ} {join : Deep → B → Deep} {starts : Kind → Bool} {within stop : Stop} → Looping P depth join starts within stop → {v w : Deep} {ts us : List Token} → Tail P join v ts us w → v.1 ≤ w.1
tail_deep l stays = omega arith
tail_deep l (goes {v = v} {x = x} p t) = let h = tail_deep l t in let e = l.join_deep v x in omega arith

-- a tail with an operator
goes_deep : {B : Type 0} {P : Rule B} {depth : B → ℕ} {join : Deep → B → Deep} {starts : Kind → Bool} {within stop : Stop} → Looping P depth join starts within stop → (v w : Deep) (x : B) (ms us : List Token) → Tail P join (join v x) ms us w → deeper v.1 (depth x) ≤ w.1
goes_deep l v w x ms us t = let h = tail_deep l t in let e = l.join_deep v x in omega arith

abbrev pub IsRead : {B : Type 0} (P : Rule B) (depth : B → ℕ) (room : ℕ) (within : Stop) (item : List Token → Reading B) → Type 0
IsRead P depth room within item = (ts us : List Token) (x : _) → P ts us x → depth x ≤ room → IsStopAt within us → item ts ≡ Ok (x, us)

tail_follows : {B : Type 0} {P : Rule B} {depth : B → ℕ} {join : Deep → B → Deep} {starts : Kind → Bool} {within stop : Stop} → Looping P depth join starts within stop → {v w : Deep} {ts us : List Token} → Tail P join v ts us w → IsStopAt stop us → IsStopAt within ts
tail_follows l stays a = l.weaken _ a
tail_follows l (goes p t) a = l.starts_stop _ (l.starts_item _ _ _ p)

pub complete_loop : {B : Type 0} {P : Rule B} {depth : B → ℕ} {join : Deep → B → Deep} {starts : Kind → Bool} {within stop : Stop} (item : List Token → Reading B) (room : ℕ) → Looping P depth join starts within stop → IsRead P depth (room - 1) within item
    → (turns : ℕ) {v w : Deep} {ts us : List Token} → Tail P join v ts us w → w.1 ≤ room → room ≤ v.1 + turns → IsStopAt stop us → loop_at starts item join room turns v ts ≡ Ok (w, us)
unfolding loop_at
complete_loop item room l read zero (stays {ts = ts}) fits enough a = rw (l.apart ts a) refl
complete_loop item room l read zero {us = us} (goes {v = v} {w = w} {ms = ms} {x = x} p t) fits enough a = let h = goes_deep l v w x ms us t in absurd (omega arith)
complete_loop item room l read (suc turns) (stays {ts = ts}) fits enough a = rw (l.apart ts a) refl
complete_loop {join = join} item room l read (suc turns) {us = us} (goes {v = v} {w = w} {ts = ts} {ms = ms} {x = x} p t) fits enough a =
    let h = goes_deep l v w x ms us t in
    let e = l.join_deep v x in
    let lower : v.1 < room = omega arith in
    let one = read ts ms x p (omega arith) (tail_follows l t a) in
    let others = complete_loop item room l read turns t fits (omega arith) a in
    rw (l.starts_item ts ms x p) (rw (lt-ltb v.1 room lower) (rw one others))

-- ---- one operator, and those behind it

abbrev pub Loop : {B : Type 0} (P : Rule B) (join : Deep → B → Deep) (room : ℕ) → Deep → Rule Deep
Loop P join room v = Within (Tail P join v) depth_of room

abbrev OneMore : {B : Type 0} (P : Rule B) (depth : B → ℕ) (join : Deep → B → Deep) (room : ℕ) → Deep → Rule Deep
OneMore P depth join room v = Then (Within P depth (room - 1)) (λ x. Loop P join room (join v x))

step_to : {B : Type 0} (P : Rule B) (depth : B → ℕ) (join : Deep → B → Deep) (room : ℕ) (v : Deep) → v.1 ≤ room → (ts us : List Token) (w : Deep) → Either (OneMore P depth join room v) (Given v) ts us w → Loop P join room v ts us w
step_to P depth join room v fits ts us w (inl s) = record { is = goes s.left.is s.right.is; fits = s.right.fits }
step_to P depth join room v fits ts us w (inr g) = rw (g.value, g.same) (record { is = stays; fits = fits })

step_tail : {B : Type 0} {P : Rule B} {depth : B → ℕ} {join : Deep → B → Deep} {starts : Kind → Bool} {within stop : Stop} → Looping P depth join starts within stop → (room : ℕ) {v w : Deep} {ts us : List Token} → Tail P join v ts us w → w.1 ≤ room → Either (OneMore P depth join room v) (Given v) ts us w
step_tail l room stays fits = inr (record { same = refl; value = refl })
step_tail l room {us = us} (goes {v = v} {w = w} {ms = ms} {x = x} p t) fits =
    let h = goes_deep l v w x ms us t in
    inl (record { first = x; between = ms; left = record { is = p; fits = omega arith }; right = record { is = t; fits = fits } })

step_lower : {B : Type 0} {P : Rule B} {depth : B → ℕ} {join : Deep → B → Deep} {starts : Kind → Bool} {within stop : Stop} → Looping P depth join starts within stop → (room : ℕ) (v : Deep) (ts us : List Token) (w : Deep) → OneMore P depth join room v ts us w → v.1 < room
step_lower l room v ts us w s = let h = goes_deep l v w s.first s.between us s.right.is in let f = s.right.fits in omega arith

pub stay_front : {B : Type 0} (P : Rule B) (join : Deep → B → Deep) (room : ℕ) (v : Deep) (stop : Stop) → v.1 ≤ room → Front (Loop P join room v) stop []
stay_front P join room v stop fits = record { more = []; value = v; is = λ rest a. record { is = stays; fits = fits } }

complete_step : {B : Type 0} {P : Rule B} {depth : B → ℕ} {join : Deep → B → Deep} {starts : Kind → Bool} {within stop : Stop} (item : List Token → Reading B) (room : ℕ) → Looping P depth join starts within stop → IsRead P depth (room - 1) within item
    → (turns : ℕ) (v : Deep) (ts us : List Token) (w : Deep) → OneMore P depth join room v ts us w → room ≤ v.1 + suc turns → IsStopAt stop us → bind item (λ x. loop_at starts item join room turns (join v x)) ts ≡ Ok (w, us)
complete_step {depth = depth} item room l read turns v ts us w s enough a =
    let e = l.join_deep v s.first in
    let one = read ts s.between s.first s.left.is s.left.fits (tail_follows l s.right.is a) in
    let others = complete_loop item room l read turns s.right.is s.right.fits (omega arith) a in
    rw one others

full_front : {B : Type 0} {P : Rule B} {depth : B → ℕ} {join : Deep → B → Deep} {starts : Kind → Bool} {within stop : Stop} → Looping P depth join starts within stop → (room : ℕ) (v : Deep) → 1 ≤ v.1 → v.1 < room → (t : Token) → starts t.kind ≡ true → Front (OneMore P depth join room v) stop (t ∷ [])
full_front {join = join} l room v deep lower t st =
    let o = l.opens t st in
    let e = l.join_deep v o.value in
    record {
      more = o.more;
      value = join v o.value;
      is = λ rest a.
          let i = o.is rest (l.weaken rest a) in
          let f = i.fits in
          record { first = o.value; between = rest; left = record { is = i.is; fits = omega arith }; right = record { is = stays; fits = omega arith } };
    }

not_lower : (v room : ℕ) → nat_lt v room ≡ false → room ≤ v
not_lower v room e = grind (arith, nat_tests)

pub exact_loop : {B : Type 0} {P : Rule B} {depth : B → ℕ} {join : Deep → B → Deep} {starts : Kind → Bool} {within stop : Stop} {item item' : List Token → Reading B} (room room' : ℕ) → room < room' → Looping P depth join starts within stop
    → (2 ≤ room → Exact (Within P depth (room - 1)) (Within P depth (room' - 1)) within item item') → IsRead P depth (room' - 1) within item' → ((ts us : List Token) (x : B) → item ts ≡ Ok (x, us) → IsStopAt within us)
    → (turns turns' : ℕ) (v : Deep) → 1 ≤ v.1 → v.1 ≤ room → room ≤ v.1 + turns → room' ≤ v.1 + turns' → Exact (Loop P join room v) (Loop P join room' v) stop (loop_at starts item join room turns v) (loop_at starts item' join room' turns' v)
unfolding loop_at
exact_loop room room' lt l e read ends turns zero v deep fits enough enough' = absurd (omega arith)
exact_loop {P = P} {depth = depth} {join = join} {starts = starts} {within = within} {stop = stop} {item = item} {item' = item'} room room' lt l e read ends zero (suc turns') v deep fits enough enough' =
    let below : v.1 < room' = omega arith in
    let same : v.1 ≡ room = omega arith in
    let full : nat_lt v.1 room ≡ false = grind (arith, nat_tests) in
    let choice : Chooses starts false (nat_lt v.1 room') (OneMore P depth join room v) (OneMore P depth join room' v) (Given v) (Given v) stop exceed (bind item' (λ x. loop_at starts item' join room' turns' (join v x))) (λ ts. Ok (v, ts)) (λ ts. Ok (v, ts)) = record {
      first = λ f. absurd cc;
      second = exact_given v stop;
      starts = λ ts us w s. l.starts_item ts s.between s.first s.left.is;
      other = λ ts us w g a. ap (head_is starts) g.same ∙ l.apart us a;
      may = λ ts us w s. let h = step_lower l room v ts us w s in absurd (omega arith);
      may_any = lt-ltb v.1 room' below;
      full = λ f t st. full_front l room' v deep below t st;
      all_any = λ ts us w s a. complete_step item' room' l read turns' v ts us w s enough' a;
    } in
    exact_same (step_to P depth join room v fits) (λ ts us w i. step_tail l room i.is i.fits) (step_to P depth join room' v (omega arith)) (λ ts us w i. step_tail l room' i.is i.fits) (exact_either choice)
exact_loop {P = P} {depth = depth} {join = join} {starts = starts} {within = within} {stop = stop} {item = item} {item' = item'} room room' lt l e read ends (suc turns) (suc turns') v deep fits enough enough' =
    let below : v.1 < room' = omega arith in
    let choice : Chooses starts (nat_lt v.1 room) (nat_lt v.1 room') (OneMore P depth join room v) (OneMore P depth join room' v) (Given v) (Given v) stop (bind item (λ x. loop_at starts item join room turns (join v x))) (bind item' (λ x. loop_at starts item' join room' turns' (join v x))) (λ ts. Ok (v, ts)) (λ ts. Ok (v, ts)) = record {
      first = λ may.
          let lower = ltb-true v.1 room may in
          exact_bind (e (omega arith)) (record {
            exact = λ ts us x i. let d = l.join_deep v x in let f = i.fits in exact_loop room room' lt l e read ends turns turns' (join v x) (omega arith) (omega arith) (omega arith) (omega arith);
            some = λ ts us x i. let d = l.join_deep v x in let f = i.fits in stay_front P join room' (join v x) stop (omega arith);
            all = λ ts us x i ms vs w t a. let d = l.join_deep v x in complete_loop item' room' l read turns' t.is t.fits (omega arith) a;
          }) ends (record { is = λ x ms us w t a. tail_follows l t.is a; end = l.end });
      second = exact_given v stop;
      starts = λ ts us w s. l.starts_item ts s.between s.first s.left.is;
      other = λ ts us w g a. ap (head_is starts) g.same ∙ l.apart us a;
      may = λ ts us w s. lt-ltb v.1 room (step_lower l room v ts us w s);
      may_any = lt-ltb v.1 room' below;
      full = λ f t st. full_front l room' v deep below t st;
      all_any = λ ts us w s a. complete_step item' room' l read turns' v ts us w s enough' a;
    } in
    exact_same (step_to P depth join room v fits) (λ ts us w i. step_tail l room i.is i.fits) (step_to P depth join room' v (omega arith)) (λ ts us w i. step_tail l room' i.is i.fits) (exact_either choice)

pub tail_snoc : {B : Type 0} {P : Rule B} {join : Deep → B → Deep} {v w : Deep} {ts us : List Token} → Tail P join v ts us w → {vs : List Token} {x : B} → P us vs x → Tail P join v ts vs (join w x)
tail_snoc stays p = goes p stays
tail_snoc (goes q t) p = goes q (tail_snoc t p)

-- where a row of operators ends
pub loop_ends : {B : Type 0} (starts : Kind → Bool) (item : List Token → Reading B) (join : Deep → B → Deep) (room : ℕ) (within : Stop) → ((ts us : List Token) (x : B) → item ts ≡ Ok (x, us) → IsStopAt within us)
    → (turns : ℕ) (v w : Deep) (ts us : List Token) → IsStopAt within ts → loop_at starts item join room turns v ts ≡ Ok (w, us) → (head_is starts us ≡ false) × IsStopAt within us
unfolding loop_at
loop_ends starts item join room within ends zero v w ts us a read =
    when_chosen (head_is starts ts) false (refuse ts) (Ok (v, ts)) ts (w, us) read (λ begun may e. absurd cc)
    (λ e r. let same = ap (λ z. z.1) (ok_same (v, ts) (w, us) r) in (subst (λ z. head_is starts z ≡ false) same e, subst (λ z. IsStopAt within z) same a))
loop_ends {B = B} starts item join room within ends (suc turns) v w ts us a read =
    when_chosen (head_is starts ts) (nat_lt v.1 room) (bind item (λ x. loop_at starts item join room turns (join v x)) ts) (Ok (v, ts)) ts (w, us) read
    (λ begun may e. when_ok {A = B × List Token} (item ts) _ (w, us) e (λ x first others. loop_ends starts item join room within ends turns (join v x.0) w x.1 us (ends ts x.1 x.0 first) others))
    (λ e r. let same = ap (λ z. z.1) (ok_same (v, ts) (w, us) r) in (subst (λ z. head_is starts z ≡ false) same e, subst (λ z. IsStopAt within z) same a))
