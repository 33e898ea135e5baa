-- The reader of atoms is exact where that of the expressions in them is.
use Rattle.std.proofs.Common.{◌≡◌, ℕ, ◌+◌, ◌-◌, ◌≤◌, max, Bool, false, ◌||◌, List, refl, sym, ap, subst, ◌∙◌, inl, inr, arith}
use Rattle.std.specs.Prelude.{Ok, pos}
use lib.Chars.{codes}
use Rattle.roc_lang.specs.Syntax.{Expression, Number, Variable, Minimum, Maximum, Less, Pick}
use Rattle.roc_lang.specs.Tokens.{Kind, Word, Mark, Token}
use Rattle.roc_lang.specs.Grammar.{IsToken, IsName, open_parenthesis, close_parenthesis, comma, plus, minus, star}
use Rattle.roc_lang_parse.specs.Stuck.{Reading}
use Rattle.roc_lang_parse.specs.Parts.{has_mark, behind_comma_at}
use Rattle.roc_lang_parse.specs.Reading.{Deep, number_at, variable_at, enclosed_at, pair_at, function_at, pick_at}
use Rattle.roc_lang_parse.proofs.Exact.{Rule, Stop, IsStopAt, any, Exact, Then, Followed, exact_then, exact_next}
use Rattle.roc_lang_parse.proofs.Choices.{Mapped, exact_mapped, Either}
use Rattle.roc_lang_parse.proofs.Several.{other_than}
use Rattle.roc_lang_parse.proofs.Terminals.{Tokens, exact_word, exact_mark, exact_name, Plain, exact_plain}
use Rattle.roc_lang_parse.proofs.Separated.{BehindComma, exact_behind_comma, behind_comma_ends}
use Rattle.roc_lang_parse.proofs.Depths.{Summed, Single, Paired, number, variable, parentheses, minimum, maximum, less, pick, pair}
use Rattle.roc_lang_parse.proofs.Loops.{Within, depth_of, IsRead}

abbrev pub SumRule : Rule Deep
SumRule ts us v = Summed ts us v.0 v.1

abbrev pub AtomRule : Rule Deep
AtomRule ts us v = Single ts us v.0 v.1

abbrev pub Sums : ℕ → Rule Deep
Sums room = Within SumRule depth_of room

abbrev pub Atoms : ℕ → Rule Deep
Atoms room = Within AtomRule depth_of room

abbrev pub is_operator : Kind → Bool
is_operator kind = has_mark plus kind || has_mark minus kind || has_mark star kind

abbrev pub sum_stop : Stop
sum_stop = other_than is_operator

-- a token stops what it does not go on with
pub stops_at : (test : Kind → Bool) (k : Kind) (ts us : List Token) → IsToken k ts us → test k ≡ false → IsStopAt (other_than test) ts
stops_at test k ts us i e = rw (i.is, e) refl

-- ---- rules

abbrev pub Enclosed : ℕ → Rule Deep
Enclosed k = Then (Tokens (Mark open_parenthesis)) (λ o. Then (Sums k) (λ x. Mapped (λ c. (x.0, x.1 + 1)) (Tokens (Mark close_parenthesis))))

abbrev pub Next : ℕ → Rule Deep
Next k = BehindComma (Sums k)

abbrev pub Pairs : ℕ → Rule (Expression × Expression × ℕ)
Pairs k = Then (Tokens (Mark open_parenthesis)) (λ o. Then (Sums k) (λ x. Then (Next k) (λ y. Mapped (λ c. (x.0, y.0, max x.1 y.1)) (Tokens (Mark close_parenthesis)))))

abbrev pub Function : (word : List ℕ) (make : Expression → Expression → Expression) → ℕ → Rule Deep
Function word make k = Then (Tokens (Word word)) (λ w. Mapped (λ p. (make p.0 p.1, p.2 + 1)) (Pairs k))

abbrev pub Picks : ℕ → Rule Deep
Picks k = Then (Tokens (Word (codes "pick"))) (λ w. Then (Tokens (Mark open_parenthesis)) (λ o. Then (Sums k) (λ x. Then (Next k) (λ y. Then (Next k) (λ z. Mapped (λ c. (Pick x.0 y.0 z.0, max x.1 (max y.1 z.1) + 1)) (Tokens (Mark close_parenthesis)))))))

abbrev pub Numbers : Rule Deep
Numbers = Mapped (λ z. (Number z, 1)) (Plain pos)

abbrev pub Variables : Rule Deep
Variables = Mapped (λ n. (Variable n, 1)) IsName

-- ---- what is a rule's is read

complete_next : (inner : List Token → Reading Deep) (k : ℕ) → IsRead SumRule depth_of k sum_stop inner → (ts us : List Token) (v : Deep) → Next k ts us v → IsStopAt sum_stop us → behind_comma_at inner ts ≡ Ok (v, us)
unfolding behind_comma_at
complete_next inner k read ts us v t a = rw ((exact_mark comma).all ts t.between tt t.left refl) (read t.between us v t.right.is t.right.fits a)

next_stops : (k : ℕ) (ts us : List Token) (v : Deep) → Next k ts us v → IsStopAt sum_stop ts
next_stops k ts us v t = stops_at is_operator (Mark comma) ts t.between t.left refl

pub complete_enclosed : (inner : List Token → Reading Deep) (k : ℕ) → IsRead SumRule depth_of k sum_stop inner → (ts us : List Token) (v : Deep) → Enclosed k ts us v → enclosed_at inner ts ≡ Ok (v, us)
unfolding enclosed_at
complete_enclosed inner k read ts us v t =
    let s = t.right in
    let m = s.right in
    let x = read t.between s.between s.first s.left.is s.left.fits (stops_at is_operator (Mark close_parenthesis) s.between us m.is refl) in
    rw ((exact_mark open_parenthesis).all ts t.between tt t.left refl, x, (exact_mark close_parenthesis).all s.between us tt m.is refl, m.value) refl

complete_pair : (inner : List Token → Reading Deep) (k : ℕ) → IsRead SumRule depth_of k sum_stop inner → (ts us : List Token) (v : Expression × Expression × ℕ) → Pairs k ts us v → pair_at inner ts ≡ Ok (v, us)
unfolding pair_at
complete_pair inner k read ts us v t =
    let s = t.right in
    let n = s.right in
    let m = n.right in
    let x = read t.between s.between s.first s.left.is s.left.fits (next_stops k s.between n.between n.first n.left) in
    let y = complete_next inner k read s.between n.between n.first n.left (stops_at is_operator (Mark close_parenthesis) n.between us m.is refl) in
    rw ((exact_mark open_parenthesis).all ts t.between tt t.left refl, x, y, (exact_mark close_parenthesis).all n.between us tt m.is refl, m.value) refl

pub complete_function : (word : List ℕ) (make : Expression → Expression → Expression) (inner : List Token → Reading Deep) (k : ℕ) → IsRead SumRule depth_of k sum_stop inner → (ts us : List Token) (v : Deep) → Function word make k ts us v → function_at word make inner ts ≡ Ok (v, us)
unfolding function_at
complete_function word make inner k read ts us v t =
    let p = complete_pair inner k read t.between us t.right.from t.right.is in
    rw ((exact_word word).all ts t.between tt t.left refl, p, t.right.value) refl

pub complete_pick : (inner : List Token → Reading Deep) (k : ℕ) → IsRead SumRule depth_of k sum_stop inner → (ts us : List Token) (v : Deep) → Picks k ts us v → pick_at inner ts ≡ Ok (v, us)
unfolding pick_at
complete_pick inner k read ts us v t =
    let o = t.right in
    let s = o.right in
    let n = s.right in
    let q = n.right in
    let m = q.right in
    let x = read o.between s.between s.first s.left.is s.left.fits (next_stops k s.between n.between n.first n.left) in
    let y = complete_next inner k read s.between n.between n.first n.left (next_stops k n.between q.between q.first q.left) in
    let z = complete_next inner k read n.between q.between q.first q.left (stops_at is_operator (Mark close_parenthesis) q.between us m.is refl) in
    rw ((exact_word (codes "pick")).all ts t.between tt t.left refl, (exact_mark open_parenthesis).all t.between o.between tt o.left refl, x, y, z, (exact_mark close_parenthesis).all q.between us tt m.is refl, m.value) refl

-- ---- exact readers of them

-- what is exact of the expressions inside
pub record Inner (k k' : ℕ) (inner inner' : List Token → Reading Deep) : Type 0 where
  pub exact : Exact (Sums k) (Sums k') sum_stop inner inner'
  pub ends : (ts us : List Token) (v : Deep) → inner ts ≡ Ok (v, us) → IsStopAt sum_stop us

closes : {A B : Type 0} (f : A → Unit {0} → B) → Followed (λ x. Mapped (f x) (Tokens (Mark close_parenthesis))) sum_stop any
closes f = record { is = λ x ms us y m a. stops_at is_operator (Mark close_parenthesis) ms us m.is refl; end = refl }

pub exact_enclosed : (k k' : ℕ) (inner inner' : List Token → Reading Deep) → Inner k k' inner inner' → Exact (Enclosed k) (Enclosed k') any (enclosed_at inner) (enclosed_at inner')
unfolding enclosed_at
exact_enclosed k k' inner inner' i = exact_next (exact_mark open_parenthesis) (λ o. exact_then i.exact (λ x. exact_mapped (λ c. (x.0, x.1 + 1)) (exact_mark close_parenthesis)) i.ends (closes (λ x c. (x.0, x.1 + 1))))

exact_pair : (k k' : ℕ) (inner inner' : List Token → Reading Deep) → Inner k k' inner inner' → Exact (Pairs k) (Pairs k') any (pair_at inner) (pair_at inner')
unfolding pair_at
exact_pair k k' inner inner' i = exact_next (exact_mark open_parenthesis) (λ o. exact_then i.exact (λ x.
    exact_then (exact_behind_comma i.exact) (λ y. exact_mapped (λ c. (x.0, y.0, max x.1 y.1)) (exact_mark close_parenthesis)) (behind_comma_ends inner sum_stop i.ends) (closes (λ y c. (x.0, y.0, max x.1 y.1))))
    i.ends (record { is = λ x ms us y t a. next_stops k' ms t.between t.first t.left; end = refl }))

pub exact_function : (word : List ℕ) (make : Expression → Expression → Expression) (k k' : ℕ) (inner inner' : List Token → Reading Deep) → Inner k k' inner inner' → Exact (Function word make k) (Function word make k') any (function_at word make inner) (function_at word make inner')
unfolding function_at
exact_function word make k k' inner inner' i = exact_next (exact_word word) (λ w. exact_mapped (λ p. (make p.0 p.1, p.2 + 1)) (exact_pair k k' inner inner' i))

pub exact_pick : (k k' : ℕ) (inner inner' : List Token → Reading Deep) → Inner k k' inner inner' → Exact (Picks k) (Picks k') any (pick_at inner) (pick_at inner')
unfolding pick_at
exact_pick k k' inner inner' i = exact_next (exact_word (codes "pick")) (λ w. exact_next (exact_mark open_parenthesis) (λ o. exact_then i.exact (λ x.
    exact_then (exact_behind_comma i.exact) (λ y.
    exact_then (exact_behind_comma i.exact) (λ z. exact_mapped (λ c. (Pick x.0 y.0 z.0, max x.1 (max y.1 z.1) + 1)) (exact_mark close_parenthesis)) (behind_comma_ends inner sum_stop i.ends) (closes (λ z c. (Pick x.0 y.0 z.0, max x.1 (max y.1 z.1) + 1))))
    (behind_comma_ends inner sum_stop i.ends) (record { is = λ y ms us v t a. next_stops k' ms t.between t.first t.left; end = refl }))
    i.ends (record { is = λ x ms us v t a. next_stops k' ms t.between t.first t.left; end = refl })))

pub exact_variable : Exact Variables Variables any variable_at variable_at
unfolding variable_at
exact_variable = exact_mapped (λ n. (Variable n, 1)) exact_name

pub exact_number : Exact Numbers Numbers any number_at number_at
unfolding number_at
exact_number = exact_mapped (λ z. (Number z, 1)) (exact_plain pos)

-- ---- all of them

abbrev pub Words : ℕ → Rule Deep
Words k = Either (Function (codes "min") Minimum k) (Either (Function (codes "max") Maximum k) (Either (Function (codes "less") Less k) (Either (Picks k) Variables)))

abbrev pub AnyAtom : ℕ → Rule Deep
AnyAtom k = Either Numbers (Either (Enclosed k) (Words k))

atom_made : (ts us : List Token) (v w : Deep) → v ≡ w → Single ts us w.0 w.1 → Single ts us v.0 v.1
atom_made ts us v w e s = subst (λ z. Single ts us z.0 z.1) (sym e) s

pair_made : (k : ℕ) (ts us : List Token) (p : Expression × Expression × ℕ) → Pairs k ts us p → Paired ts us p.0 p.1 p.2
pair_made k ts us p t = let s = t.right in let n = s.right in let m = n.right in subst (λ z. Paired ts us z.0 z.1 z.2) (sym m.value) (pair t.left s.left.is n.left.left n.left.right.is m.is)

pair_fits : (k : ℕ) (ts us : List Token) (p : Expression × Expression × ℕ) → Pairs k ts us p → p.2 ≤ k
pair_fits k ts us p t =
    let s = t.right in
    let n = s.right in
    let a = s.left.fits in
    let b = n.left.right.fits in
    let e = ap (λ z. z.2) n.right.value in
    omega arith

function_fits : (word : List ℕ) (make : Expression → Expression → Expression) (room : ℕ) (ts us : List Token) (v : Deep) → 1 ≤ room → Function word make (room - 1) ts us v → v.1 ≤ room
function_fits word make room ts us v h t = let f = pair_fits (room - 1) t.between us t.right.from t.right.is in let e = ap (λ z. z.1) t.right.value in omega arith

enclosed_fits : (room : ℕ) (ts us : List Token) (v : Deep) → 1 ≤ room → Enclosed (room - 1) ts us v → v.1 ≤ room
enclosed_fits room ts us v h t = let f = t.right.left.fits in let e = ap (λ z. z.1) t.right.right.value in omega arith

picks_fits : (room : ℕ) (ts us : List Token) (v : Deep) → 1 ≤ room → Picks (room - 1) ts us v → v.1 ≤ room
picks_fits room ts us v h t =
    let s = t.right.right in
    let a = s.left.fits in
    let b = s.right.left.right.fits in
    let c = s.right.right.left.right.fits in
    let e = ap (λ z. z.1) s.right.right.right.value in
    omega arith

pub atom_to : (room : ℕ) → 1 ≤ room → (ts us : List Token) (v : Deep) → AnyAtom (room - 1) ts us v → Atoms room ts us v
atom_to room h ts us v (inl p) = let e = ap (λ z. z.1) p.value in record { is = atom_made ts us v (Number (pos p.is.number), 1) (p.value ∙ ap (λ z. (Number z, 1)) p.is.value) (number p.is.is); fits = omega arith }
atom_to room h ts us v (inr (inl t)) = record { is = atom_made ts us v _ t.right.right.value (parentheses t.left t.right.left.is t.right.right.is); fits = enclosed_fits room ts us v h t }
atom_to room h ts us v (inr (inr (inl t))) = record { is = atom_made ts us v _ t.right.value (minimum t.left (pair_made (room - 1) t.between us t.right.from t.right.is)); fits = function_fits (codes "min") Minimum room ts us v h t }
atom_to room h ts us v (inr (inr (inr (inl t)))) = record { is = atom_made ts us v _ t.right.value (maximum t.left (pair_made (room - 1) t.between us t.right.from t.right.is)); fits = function_fits (codes "max") Maximum room ts us v h t }
atom_to room h ts us v (inr (inr (inr (inr (inl t))))) = record { is = atom_made ts us v _ t.right.value (less t.left (pair_made (room - 1) t.between us t.right.from t.right.is)); fits = function_fits (codes "less") Less room ts us v h t }
atom_to room h ts us v (inr (inr (inr (inr (inr (inl t)))))) =
    let s = t.right.right in
    record { is = atom_made ts us v _ s.right.right.right.value (pick t.left t.right.left s.left.is s.right.left.left s.right.left.right.is s.right.right.left.left s.right.right.left.right.is s.right.right.right.is); fits = picks_fits room ts us v h t }
atom_to room h ts us v (inr (inr (inr (inr (inr (inr i)))))) = let e = ap (λ z. z.1) i.value in record { is = atom_made ts us v _ i.value (variable i.is); fits = omega arith }

pair_from : (k : ℕ) {ts us : List Token} {e f : Expression} {d : ℕ} → Paired ts us e f d → d ≤ k → Pairs k ts us (e, f, d)
pair_from k (pair {a = a} {b = b} {c = c} {d = d} {e = e} {f = f} {x = x} {y = y} {l = l} {m = m} o i s j p) fits =
    record {
      first = tt;
      between = b;
      left = o;
      right = record {
        first = (x, l);
        between = c;
        left = record { is = i; fits = omega arith };
        right = record {
          first = (y, m);
          between = e;
          left = record { first = tt; between = d; left = s; right = record { is = j; fits = omega arith } };
          right = record { from = tt; is = p; value = refl };
        };
      };
    }

function_from : (word : List ℕ) (make : Expression → Expression → Expression) (k : ℕ) (ts ms us : List Token) (e f : Expression) (d : ℕ) → IsToken (Word word) ts ms → Paired ms us e f d → d ≤ k → Function word make k ts us (make e f, d + 1)
function_from word make k ts ms us e f d w p fits = record { first = tt; between = ms; left = w; right = record { from = (e, f, d); is = pair_from k p fits; value = refl } }

atom_from_single : (room : ℕ) {ts us : List Token} {e : Expression} {d : ℕ} → Single ts us e d → d ≤ room → AnyAtom (room - 1) ts us (e, d)
atom_from_single room (number {n = n} i) fits = inl (record { from = pos n; is = record { number = n; is = i; value = refl }; value = refl })
atom_from_single room (variable {name = n} i) fits = inr (inr (inr (inr (inr (inr (record { from = n; is = i; value = refl }))))))
atom_from_single room (parentheses {b = b} {c = c} {e = e} {d = d} o x p) fits = inr (inl (record { first = tt; between = b; left = o; right = record { first = (e, d); between = c; left = record { is = x; fits = omega arith }; right = record { from = tt; is = p; value = refl } } }))
atom_from_single room (minimum {a = a} {b = b} {c = c} {e = e} {f = f} {d = d} w p) fits = inr (inr (inl (function_from (codes "min") Minimum (room - 1) a b c e f d w p (omega arith))))
atom_from_single room (maximum {a = a} {b = b} {c = c} {e = e} {f = f} {d = d} w p) fits = inr (inr (inr (inl (function_from (codes "max") Maximum (room - 1) a b c e f d w p (omega arith)))))
atom_from_single room (less {a = a} {b = b} {c = c} {e = e} {f = f} {d = d} w p) fits = inr (inr (inr (inr (inl (function_from (codes "less") Less (room - 1) a b c e f d w p (omega arith))))))
atom_from_single room (pick {b = b} {c = c} {d = d} {e = e} {f = f} {g = g} {h = h} {x = x} {y = y} {z = z} {l = l} {m = m} {n = n} w o i s j t k p) fits = inr (inr (inr (inr (inr (inl (
    record {
      first = tt;
      between = b;
      left = w;
      right = record {
        first = tt;
        between = c;
        left = o;
        right = record {
          first = (x, l);
          between = d;
          left = record { is = i; fits = omega arith };
          right = record {
            first = (y, m);
            between = f;
            left = record { first = tt; between = e; left = s; right = record { is = j; fits = omega arith } };
            right = record {
              first = (z, n);
              between = h;
              left = record { first = tt; between = g; left = t; right = record { is = k; fits = omega arith } };
              right = record { from = tt; is = p; value = refl };
            };
          };
        };
      };
    }))))))

pub atom_from : (room : ℕ) (ts us : List Token) (v : Deep) → Atoms room ts us v → AnyAtom (room - 1) ts us v
atom_from room ts us v i = atom_from_single room i.is i.fits
