-- Which atom comes is told by its first token.
use Rattle.std.proofs.Common.{◌≡◌, ℕ, ◌-◌, ◌<◌, ◌≤◌, Bool, true, false, List, [], ◌∷◌, refl, ap, ◌∙◌, inl, inr, arith}
use Rattle.std.specs.Prelude.{Ok, nat_lt, IsFalse}
use Rattle.std.specs.Str.{bytes_eq}
use Rattle.std.proofs.lemmas.Bool.{ltb-true, lt-ltb}
use Rattle.std.proofs.lemmas.Slice.Eq.{bytes_eq-Decides}
use lib.Chars.{codes}
use Rattle.roc_lang.specs.Syntax.{Name, Expression, Variable, Minimum, Maximum, Less, Pick}
use Rattle.roc_lang.specs.Tokens.{Word, Integer, Mark, Token}
use Rattle.roc_lang.specs.Grammar.{IsMark, IsName, is_reserved, open_parenthesis, close_parenthesis, comma}
use Rattle.roc_lang_parse.specs.Stuck.{Reading, head_is}
use Rattle.roc_lang_parse.specs.Parts.{has_word, has_mark, has_integer}
use Rattle.roc_lang_parse.specs.Reading.{Deep, number_at, variable_at, enclosed_at, function_at, pick_at, atom_with}
use Rattle.roc_lang_parse.proofs.Exact.{any, Front, Exact}
use Rattle.roc_lang_parse.proofs.Choices.{Either, Chooses, exact_either, exact_same, chosen_by, all_left, all_right}
use Rattle.roc_lang_parse.proofs.Terminals.{token_made, word_kind, mark_kind, token_begins, a_name}
use Rattle.roc_lang_parse.proofs.Depths.{atom, term, variable, summed_deep}
use Rattle.roc_lang_parse.proofs.Loops.{depth_of, IsRead}
use Rattle.roc_lang_parse.proofs.Atoms.{SumRule, AtomRule, Sums, Atoms, sum_stop, Enclosed, Pairs, Function, Picks, Numbers, Variables, Words, AnyAtom, complete_enclosed, complete_function, complete_pick, Inner, exact_enclosed, exact_function, exact_pick, exact_number, exact_variable, atom_to, atom_from}

-- ---- first tokens

-- a name is no word of the grammar
pub not_word : (m : List ℕ) → is_reserved m ≡ true → (w : List ℕ) → IsFalse (is_reserved w) → bytes_eq w m ≡ false
not_word m r w free = go (bytes_eq w m) refl
  where
    go : (b : Bool) → bytes_eq w m ≡ b → b ≡ false
    go true e = absurd (cc (ap is_reserved ((bytes_eq-Decides w m).0 e), r, free))
    go false e = refl

pub name_begins : (m : List ℕ) → is_reserved m ≡ true → (ts us : List Token) (n : Name) → IsName ts us n → head_is (has_word m) ts ≡ false
name_begins m r ts us n i = ap (head_is (has_word m)) i.is ∙ not_word m r n.text i.free

other_0 : (k : ℕ) (ts us : List Token) (v : Deep) → Either (Enclosed k) (Either (Function (codes "min") Minimum k) (Either (Function (codes "max") Maximum k) (Either (Function (codes "less") Less k) (Either (Picks k) Variables)))) ts us v → head_is has_integer ts ≡ false
other_0 k ts us v (inl i) = token_begins has_integer (Mark open_parenthesis) false ts i.between i.left refl
other_0 k ts us v (inr (inl i)) = token_begins has_integer (Word (codes "min")) false ts i.between i.left refl
other_0 k ts us v (inr (inr (inl i))) = token_begins has_integer (Word (codes "max")) false ts i.between i.left refl
other_0 k ts us v (inr (inr (inr (inl i)))) = token_begins has_integer (Word (codes "less")) false ts i.between i.left refl
other_0 k ts us v (inr (inr (inr (inr (inl i))))) = token_begins has_integer (Word (codes "pick")) false ts i.between i.left refl
other_0 k ts us v (inr (inr (inr (inr (inr i))))) = token_begins has_integer (Word i.from.text) false ts us (record { line = i.from.line; is = i.is.is }) refl

other_1 : (k : ℕ) (ts us : List Token) (v : Deep) → Either (Function (codes "min") Minimum k) (Either (Function (codes "max") Maximum k) (Either (Function (codes "less") Less k) (Either (Picks k) Variables))) ts us v → head_is (has_mark open_parenthesis) ts ≡ false
other_1 k ts us v (inl i) = token_begins (has_mark open_parenthesis) (Word (codes "min")) false ts i.between i.left refl
other_1 k ts us v (inr (inl i)) = token_begins (has_mark open_parenthesis) (Word (codes "max")) false ts i.between i.left refl
other_1 k ts us v (inr (inr (inl i))) = token_begins (has_mark open_parenthesis) (Word (codes "less")) false ts i.between i.left refl
other_1 k ts us v (inr (inr (inr (inl i)))) = token_begins (has_mark open_parenthesis) (Word (codes "pick")) false ts i.between i.left refl
other_1 k ts us v (inr (inr (inr (inr i)))) = token_begins (has_mark open_parenthesis) (Word i.from.text) false ts us (record { line = i.from.line; is = i.is.is }) refl

other_2 : (k : ℕ) (ts us : List Token) (v : Deep) → Either (Function (codes "max") Maximum k) (Either (Function (codes "less") Less k) (Either (Picks k) Variables)) ts us v → head_is (has_word (codes "min")) ts ≡ false
other_2 k ts us v (inl i) = token_begins (has_word (codes "min")) (Word (codes "max")) false ts i.between i.left refl
other_2 k ts us v (inr (inl i)) = token_begins (has_word (codes "min")) (Word (codes "less")) false ts i.between i.left refl
other_2 k ts us v (inr (inr (inl i))) = token_begins (has_word (codes "min")) (Word (codes "pick")) false ts i.between i.left refl
other_2 k ts us v (inr (inr (inr i))) = name_begins (codes "min") refl ts us i.from i.is

other_3 : (k : ℕ) (ts us : List Token) (v : Deep) → Either (Function (codes "less") Less k) (Either (Picks k) Variables) ts us v → head_is (has_word (codes "max")) ts ≡ false
other_3 k ts us v (inl i) = token_begins (has_word (codes "max")) (Word (codes "less")) false ts i.between i.left refl
other_3 k ts us v (inr (inl i)) = token_begins (has_word (codes "max")) (Word (codes "pick")) false ts i.between i.left refl
other_3 k ts us v (inr (inr i)) = name_begins (codes "max") refl ts us i.from i.is

other_4 : (k : ℕ) (ts us : List Token) (v : Deep) → Either (Picks k) Variables ts us v → head_is (has_word (codes "less")) ts ≡ false
other_4 k ts us v (inl i) = token_begins (has_word (codes "less")) (Word (codes "pick")) false ts i.between i.left refl
other_4 k ts us v (inr i) = name_begins (codes "less") refl ts us i.from i.is

other_5 : (k : ℕ) (ts us : List Token) (v : Deep) → Variables ts us v → head_is (has_word (codes "pick")) ts ≡ false
other_5 k ts us v i = name_begins (codes "pick") refl ts us i.from i.is

-- ---- a bound is passed at the first token of what has operands

abbrev pub a : List Token → List Token
a ts = a_name ∷ ts

abbrev pub mark : ℕ → List Token → List Token
mark b ts = let t : Token = record { kind = Mark b; line = 1 } in t ∷ ts

abbrev pub named : Deep
named = (Variable (record { text = codes "a"; line = 1 }), 1)

one_name : (k : ℕ) → 1 ≤ k → (us : List Token) → Sums k (a us) us named
one_name k h us = record { is = term (atom (variable (record { is = refl; free = refl }))); fits = h }

pub a_mark : (b : ℕ) (us : List Token) → IsMark b (mark b us) us
a_mark b us = record { line = 1; is = refl }

enclosed_front : (k : ℕ) → 1 ≤ k → (t : Token) → has_mark open_parenthesis t.kind ≡ true → Front (Enclosed k) any (t ∷ [])
enclosed_front k h t e = record {
  more = a (mark close_parenthesis []);
  value = (named.0, 2);
  is = λ rest end.
      record {
        first = tt;
        between = a (mark close_parenthesis rest);
        left = token_made t (Mark open_parenthesis) _ (mark_kind open_parenthesis t.kind e);
        right =
            record { first = named; between = mark close_parenthesis rest; left = one_name k h _; right = record { from = tt; is = a_mark close_parenthesis rest; value = refl } };
      };
}

a_pair : (k : ℕ) → 1 ≤ k → (rest : List Token) → Pairs k (mark open_parenthesis (a (mark comma (a (mark close_parenthesis rest))))) rest (named.0, named.0, 1)
a_pair k h rest =
    record {
      first = tt;
      between = a (mark comma (a (mark close_parenthesis rest)));
      left = a_mark open_parenthesis _;
      right =
          record {
            first = named;
            between = mark comma (a (mark close_parenthesis rest));
            left = one_name k h _;
            right =
                record { first = named; between = mark close_parenthesis rest; left = record { first = tt; between = a (mark close_parenthesis rest); left = a_mark comma _; right = one_name k h _ }; right = record { from = tt; is = a_mark close_parenthesis rest; value = refl } };
          };
    }

function_front : (word : List ℕ) (make : Expression → Expression → Expression) (k : ℕ) → 1 ≤ k → (t : Token) → has_word word t.kind ≡ true → Front (Function word make k) any (t ∷ [])
function_front word make k h t e = record {
  more = mark open_parenthesis (a (mark comma (a (mark close_parenthesis []))));
  value = (make named.0 named.0, 2);
  is = λ rest end.
      record { first = tt; between = mark open_parenthesis (a (mark comma (a (mark close_parenthesis rest)))); left = token_made t (Word word) _ (word_kind word t.kind e); right = record { from = (named.0, named.0, 1); is = a_pair k h rest; value = refl } };
}

pick_front : (k : ℕ) → 1 ≤ k → (t : Token) → has_word (codes "pick") t.kind ≡ true → Front (Picks k) any (t ∷ [])
pick_front k h t e = record {
  more = mark open_parenthesis (a (mark comma (a (mark comma (a (mark close_parenthesis []))))));
  value = (Pick named.0 named.0 named.0, 2);
  is = λ rest end.
      record {
        first = tt;
        between = mark open_parenthesis (a (mark comma (a (mark comma (a (mark close_parenthesis rest))))));
        left = token_made t (Word (codes "pick")) _ (word_kind (codes "pick") t.kind e);
        right =
            record {
              first = tt;
              between = a (mark comma (a (mark comma (a (mark close_parenthesis rest)))));
              left = a_mark open_parenthesis _;
              right =
                  record {
                    first = named;
                    between = mark comma (a (mark comma (a (mark close_parenthesis rest))));
                    left = one_name k h _;
                    right =
                        record {
                          first = named;
                          between = mark comma (a (mark close_parenthesis rest));
                          left = record { first = tt; between = a (mark comma (a (mark close_parenthesis rest))); left = a_mark comma _; right = one_name k h _ };
                          right =
                              record { first = named; between = mark close_parenthesis rest; left = record { first = tt; between = a (mark close_parenthesis rest); left = a_mark comma _; right = one_name k h _ }; right = record { from = tt; is = a_mark close_parenthesis rest; value = refl } };
                        };
                  };
            };
      };
}

-- ---- the choice

deep_room : (room : ℕ) (ts us : List Token) (v : Deep) → Sums (room - 1) ts us v → nat_lt 1 room ≡ true
deep_room room ts us v i = let d = summed_deep i.is in let f = i.fits in lt-ltb 1 room (omega arith)

room_two : (room : ℕ) → nat_lt 1 room ≡ true → 2 ≤ room
room_two room e = let h = ltb-true 1 room e in omega arith

-- what is asked of the room and of the expressions inside
pub record Roomy (room room' : ℕ) (inner inner' : List Token → Reading Deep) : Type 0 where
  pub above : 1 ≤ room
  pub further : room < room'
  pub inside : 2 ≤ room → Inner (room - 1) (room' - 1) inner inner'
  pub read : IsRead SumRule depth_of (room' - 1) sum_stop inner'

further_true : (room room' : ℕ) → 1 ≤ room → room < room' → nat_lt 1 room' ≡ true
further_true room room' h l = lt-ltb 1 room' (omega arith)

inner_room : (room room' : ℕ) → 1 ≤ room → room < room' → 1 ≤ room' - 1
inner_room room room' h l = omega arith

choice_5 : (room room' : ℕ) (inner inner' : List Token → Reading Deep) → Roomy room room' inner inner' → Chooses (has_word (codes "pick")) (nat_lt 1 room) (nat_lt 1 room') (Picks (room - 1)) (Picks (room' - 1)) Variables Variables any (pick_at inner) (pick_at inner') variable_at variable_at
choice_5 room room' inner inner' r = record {
  first = λ m. exact_pick (room - 1) (room' - 1) inner inner' (r.inside (room_two room m));
  second = exact_variable;
  starts = λ ts us v i. token_begins (has_word (codes "pick")) (Word (codes "pick")) true ts i.between i.left refl;
  other = λ ts us v i end. other_5 (room' - 1) ts us v i;
  may = λ ts us v i. deep_room room _ _ _ i.right.right.left;
  may_any = further_true room room' r.above r.further;
  full = λ f t st. pick_front (room' - 1) (inner_room room room' r.above r.further) t st;
  all_any = λ ts us v i end. complete_pick inner' (room' - 1) r.read ts us v i;
}

exact_5 : (room room' : ℕ) (inner inner' : List Token → Reading Deep) → Roomy room room' inner inner' → Exact (Either (Picks (room - 1)) Variables) (Either (Picks (room' - 1)) Variables) any (chosen_by (has_word (codes "pick")) (nat_lt 1 room) (pick_at inner) variable_at) (chosen_by (has_word (codes "pick")) (nat_lt 1 room') (pick_at inner') variable_at)
exact_5 room room' inner inner' r = exact_either (choice_5 room room' inner inner' r)

choice_4 : (room room' : ℕ) (inner inner' : List Token → Reading Deep) → Roomy room room' inner inner' → Chooses (has_word (codes "less")) (nat_lt 1 room) (nat_lt 1 room') (Function (codes "less") Less (room - 1)) (Function (codes "less") Less (room' - 1)) (Either (Picks (room - 1)) Variables) (Either (Picks (room' - 1)) Variables) any (function_at (codes "less") Less inner) (function_at (codes "less") Less inner') (chosen_by (has_word (codes "pick")) (nat_lt 1 room) (pick_at inner) variable_at) (chosen_by (has_word (codes "pick")) (nat_lt 1 room') (pick_at inner') variable_at)
choice_4 room room' inner inner' r = record {
  first = λ m. exact_function (codes "less") Less (room - 1) (room' - 1) inner inner' (r.inside (room_two room m));
  second = exact_5 room room' inner inner' r;
  starts = λ ts us v i. token_begins (has_word (codes "less")) (Word (codes "less")) true ts i.between i.left refl;
  other = λ ts us v i end. other_4 (room' - 1) ts us v i;
  may = λ ts us v i. deep_room room _ _ _ i.right.is.right.left;
  may_any = further_true room room' r.above r.further;
  full = λ f t st. function_front (codes "less") Less (room' - 1) (inner_room room room' r.above r.further) t st;
  all_any = λ ts us v i end. complete_function (codes "less") Less inner' (room' - 1) r.read ts us v i;
}

exact_4 : (room room' : ℕ) (inner inner' : List Token → Reading Deep) → Roomy room room' inner inner' → Exact (Either (Function (codes "less") Less (room - 1)) (Either (Picks (room - 1)) Variables)) (Either (Function (codes "less") Less (room' - 1)) (Either (Picks (room' - 1)) Variables)) any (chosen_by (has_word (codes "less")) (nat_lt 1 room) (function_at (codes "less") Less inner) (chosen_by (has_word (codes "pick")) (nat_lt 1 room) (pick_at inner) variable_at)) (chosen_by (has_word (codes "less")) (nat_lt 1 room') (function_at (codes "less") Less inner') (chosen_by (has_word (codes "pick")) (nat_lt 1 room') (pick_at inner') variable_at))
exact_4 room room' inner inner' r = exact_either (choice_4 room room' inner inner' r)

choice_3 : (room room' : ℕ) (inner inner' : List Token → Reading Deep) → Roomy room room' inner inner' → Chooses (has_word (codes "max")) (nat_lt 1 room) (nat_lt 1 room') (Function (codes "max") Maximum (room - 1)) (Function (codes "max") Maximum (room' - 1)) (Either (Function (codes "less") Less (room - 1)) (Either (Picks (room - 1)) Variables)) (Either (Function (codes "less") Less (room' - 1)) (Either (Picks (room' - 1)) Variables)) any (function_at (codes "max") Maximum inner) (function_at (codes "max") Maximum inner') (chosen_by (has_word (codes "less")) (nat_lt 1 room) (function_at (codes "less") Less inner) (chosen_by (has_word (codes "pick")) (nat_lt 1 room) (pick_at inner) variable_at)) (chosen_by (has_word (codes "less")) (nat_lt 1 room') (function_at (codes "less") Less inner') (chosen_by (has_word (codes "pick")) (nat_lt 1 room') (pick_at inner') variable_at))
choice_3 room room' inner inner' r = record {
  first = λ m. exact_function (codes "max") Maximum (room - 1) (room' - 1) inner inner' (r.inside (room_two room m));
  second = exact_4 room room' inner inner' r;
  starts = λ ts us v i. token_begins (has_word (codes "max")) (Word (codes "max")) true ts i.between i.left refl;
  other = λ ts us v i end. other_3 (room' - 1) ts us v i;
  may = λ ts us v i. deep_room room _ _ _ i.right.is.right.left;
  may_any = further_true room room' r.above r.further;
  full = λ f t st. function_front (codes "max") Maximum (room' - 1) (inner_room room room' r.above r.further) t st;
  all_any = λ ts us v i end. complete_function (codes "max") Maximum inner' (room' - 1) r.read ts us v i;
}

exact_3 : (room room' : ℕ) (inner inner' : List Token → Reading Deep) → Roomy room room' inner inner' → Exact (Either (Function (codes "max") Maximum (room - 1)) (Either (Function (codes "less") Less (room - 1)) (Either (Picks (room - 1)) Variables))) (Either (Function (codes "max") Maximum (room' - 1)) (Either (Function (codes "less") Less (room' - 1)) (Either (Picks (room' - 1)) Variables))) any (chosen_by (has_word (codes "max")) (nat_lt 1 room) (function_at (codes "max") Maximum inner) (chosen_by (has_word (codes "less")) (nat_lt 1 room) (function_at (codes "less") Less inner) (chosen_by (has_word (codes "pick")) (nat_lt 1 room) (pick_at inner) variable_at))) (chosen_by (has_word (codes "max")) (nat_lt 1 room') (function_at (codes "max") Maximum inner') (chosen_by (has_word (codes "less")) (nat_lt 1 room') (function_at (codes "less") Less inner') (chosen_by (has_word (codes "pick")) (nat_lt 1 room') (pick_at inner') variable_at)))
exact_3 room room' inner inner' r = exact_either (choice_3 room room' inner inner' r)

choice_2 : (room room' : ℕ) (inner inner' : List Token → Reading Deep) → Roomy room room' inner inner' → Chooses (has_word (codes "min")) (nat_lt 1 room) (nat_lt 1 room') (Function (codes "min") Minimum (room - 1)) (Function (codes "min") Minimum (room' - 1)) (Either (Function (codes "max") Maximum (room - 1)) (Either (Function (codes "less") Less (room - 1)) (Either (Picks (room - 1)) Variables))) (Either (Function (codes "max") Maximum (room' - 1)) (Either (Function (codes "less") Less (room' - 1)) (Either (Picks (room' - 1)) Variables))) any (function_at (codes "min") Minimum inner) (function_at (codes "min") Minimum inner') (chosen_by (has_word (codes "max")) (nat_lt 1 room) (function_at (codes "max") Maximum inner) (chosen_by (has_word (codes "less")) (nat_lt 1 room) (function_at (codes "less") Less inner) (chosen_by (has_word (codes "pick")) (nat_lt 1 room) (pick_at inner) variable_at))) (chosen_by (has_word (codes "max")) (nat_lt 1 room') (function_at (codes "max") Maximum inner') (chosen_by (has_word (codes "less")) (nat_lt 1 room') (function_at (codes "less") Less inner') (chosen_by (has_word (codes "pick")) (nat_lt 1 room') (pick_at inner') variable_at)))
choice_2 room room' inner inner' r = record {
  first = λ m. exact_function (codes "min") Minimum (room - 1) (room' - 1) inner inner' (r.inside (room_two room m));
  second = exact_3 room room' inner inner' r;
  starts = λ ts us v i. token_begins (has_word (codes "min")) (Word (codes "min")) true ts i.between i.left refl;
  other = λ ts us v i end. other_2 (room' - 1) ts us v i;
  may = λ ts us v i. deep_room room _ _ _ i.right.is.right.left;
  may_any = further_true room room' r.above r.further;
  full = λ f t st. function_front (codes "min") Minimum (room' - 1) (inner_room room room' r.above r.further) t st;
  all_any = λ ts us v i end. complete_function (codes "min") Minimum inner' (room' - 1) r.read ts us v i;
}

exact_2 : (room room' : ℕ) (inner inner' : List Token → Reading Deep) → Roomy room room' inner inner' → Exact (Either (Function (codes "min") Minimum (room - 1)) (Either (Function (codes "max") Maximum (room - 1)) (Either (Function (codes "less") Less (room - 1)) (Either (Picks (room - 1)) Variables)))) (Either (Function (codes "min") Minimum (room' - 1)) (Either (Function (codes "max") Maximum (room' - 1)) (Either (Function (codes "less") Less (room' - 1)) (Either (Picks (room' - 1)) Variables)))) any (chosen_by (has_word (codes "min")) (nat_lt 1 room) (function_at (codes "min") Minimum inner) (chosen_by (has_word (codes "max")) (nat_lt 1 room) (function_at (codes "max") Maximum inner) (chosen_by (has_word (codes "less")) (nat_lt 1 room) (function_at (codes "less") Less inner) (chosen_by (has_word (codes "pick")) (nat_lt 1 room) (pick_at inner) variable_at)))) (chosen_by (has_word (codes "min")) (nat_lt 1 room') (function_at (codes "min") Minimum inner') (chosen_by (has_word (codes "max")) (nat_lt 1 room') (function_at (codes "max") Maximum inner') (chosen_by (has_word (codes "less")) (nat_lt 1 room') (function_at (codes "less") Less inner') (chosen_by (has_word (codes "pick")) (nat_lt 1 room') (pick_at inner') variable_at))))
exact_2 room room' inner inner' r = exact_either (choice_2 room room' inner inner' r)

choice_1 : (room room' : ℕ) (inner inner' : List Token → Reading Deep) → Roomy room room' inner inner' → Chooses (has_mark open_parenthesis) (nat_lt 1 room) (nat_lt 1 room') (Enclosed (room - 1)) (Enclosed (room' - 1)) (Either (Function (codes "min") Minimum (room - 1)) (Either (Function (codes "max") Maximum (room - 1)) (Either (Function (codes "less") Less (room - 1)) (Either (Picks (room - 1)) Variables)))) (Either (Function (codes "min") Minimum (room' - 1)) (Either (Function (codes "max") Maximum (room' - 1)) (Either (Function (codes "less") Less (room' - 1)) (Either (Picks (room' - 1)) Variables)))) any (enclosed_at inner) (enclosed_at inner') (chosen_by (has_word (codes "min")) (nat_lt 1 room) (function_at (codes "min") Minimum inner) (chosen_by (has_word (codes "max")) (nat_lt 1 room) (function_at (codes "max") Maximum inner) (chosen_by (has_word (codes "less")) (nat_lt 1 room) (function_at (codes "less") Less inner) (chosen_by (has_word (codes "pick")) (nat_lt 1 room) (pick_at inner) variable_at)))) (chosen_by (has_word (codes "min")) (nat_lt 1 room') (function_at (codes "min") Minimum inner') (chosen_by (has_word (codes "max")) (nat_lt 1 room') (function_at (codes "max") Maximum inner') (chosen_by (has_word (codes "less")) (nat_lt 1 room') (function_at (codes "less") Less inner') (chosen_by (has_word (codes "pick")) (nat_lt 1 room') (pick_at inner') variable_at))))
choice_1 room room' inner inner' r = record {
  first = λ m. exact_enclosed (room - 1) (room' - 1) inner inner' (r.inside (room_two room m));
  second = exact_2 room room' inner inner' r;
  starts = λ ts us v i. token_begins (has_mark open_parenthesis) (Mark open_parenthesis) true ts i.between i.left refl;
  other = λ ts us v i end. other_1 (room' - 1) ts us v i;
  may = λ ts us v i. deep_room room _ _ _ i.right.left;
  may_any = further_true room room' r.above r.further;
  full = λ f t st. enclosed_front (room' - 1) (inner_room room room' r.above r.further) t st;
  all_any = λ ts us v i end. complete_enclosed inner' (room' - 1) r.read ts us v i;
}

exact_1 : (room room' : ℕ) (inner inner' : List Token → Reading Deep) → Roomy room room' inner inner' → Exact (Either (Enclosed (room - 1)) (Either (Function (codes "min") Minimum (room - 1)) (Either (Function (codes "max") Maximum (room - 1)) (Either (Function (codes "less") Less (room - 1)) (Either (Picks (room - 1)) Variables))))) (Either (Enclosed (room' - 1)) (Either (Function (codes "min") Minimum (room' - 1)) (Either (Function (codes "max") Maximum (room' - 1)) (Either (Function (codes "less") Less (room' - 1)) (Either (Picks (room' - 1)) Variables))))) any (chosen_by (has_mark open_parenthesis) (nat_lt 1 room) (enclosed_at inner) (chosen_by (has_word (codes "min")) (nat_lt 1 room) (function_at (codes "min") Minimum inner) (chosen_by (has_word (codes "max")) (nat_lt 1 room) (function_at (codes "max") Maximum inner) (chosen_by (has_word (codes "less")) (nat_lt 1 room) (function_at (codes "less") Less inner) (chosen_by (has_word (codes "pick")) (nat_lt 1 room) (pick_at inner) variable_at))))) (chosen_by (has_mark open_parenthesis) (nat_lt 1 room') (enclosed_at inner') (chosen_by (has_word (codes "min")) (nat_lt 1 room') (function_at (codes "min") Minimum inner') (chosen_by (has_word (codes "max")) (nat_lt 1 room') (function_at (codes "max") Maximum inner') (chosen_by (has_word (codes "less")) (nat_lt 1 room') (function_at (codes "less") Less inner') (chosen_by (has_word (codes "pick")) (nat_lt 1 room') (pick_at inner') variable_at)))))
exact_1 room room' inner inner' r = exact_either (choice_1 room room' inner inner' r)

pub exact_atom : (room room' : ℕ) (inner inner' : List Token → Reading Deep) → Roomy room room' inner inner' → Exact (Atoms room) (Atoms room') any (atom_with inner room) (atom_with inner' room')
unfolding atom_with
exact_atom room room' inner inner' r =
    let higher : 1 ≤ room' = omega (arith, r.above, r.further) in
    let choice : Chooses has_integer true true Numbers Numbers (Either (Enclosed (room - 1)) (Words (room - 1))) (Either (Enclosed (room' - 1)) (Words (room' - 1))) any number_at number_at (chosen_by (has_mark open_parenthesis) (nat_lt 1 room) (enclosed_at inner) (chosen_by (has_word (codes "min")) (nat_lt 1 room) (function_at (codes "min") Minimum inner) (chosen_by (has_word (codes "max")) (nat_lt 1 room) (function_at (codes "max") Maximum inner) (chosen_by (has_word (codes "less")) (nat_lt 1 room) (function_at (codes "less") Less inner) (chosen_by (has_word (codes "pick")) (nat_lt 1 room) (pick_at inner) variable_at))))) (chosen_by (has_mark open_parenthesis) (nat_lt 1 room') (enclosed_at inner') (chosen_by (has_word (codes "min")) (nat_lt 1 room') (function_at (codes "min") Minimum inner') (chosen_by (has_word (codes "max")) (nat_lt 1 room') (function_at (codes "max") Maximum inner') (chosen_by (has_word (codes "less")) (nat_lt 1 room') (function_at (codes "less") Less inner') (chosen_by (has_word (codes "pick")) (nat_lt 1 room') (pick_at inner') variable_at))))) = record {
      first = λ m. exact_number;
      second = exact_1 room room' inner inner' r;
      starts = λ ts us v i. token_begins has_integer (Integer i.is.number) true ts us i.is.is.is refl;
      other = λ ts us v i end. other_0 (room' - 1) ts us v i;
      may = λ ts us v i. refl;
      may_any = refl;
      full = λ f t st. absurd cc;
      all_any = λ ts us v i end. exact_number.all ts us v i end;
    } in
    exact_same (atom_to room r.above) (atom_from room) (atom_to room' higher) (atom_from room') (exact_either choice)

-- ---- each atom is read

read_5 : (ts us : List Token) (v : Deep) → Variables ts us v → variable_at ts ≡ Ok (v, us)
read_5 ts us v i = exact_variable.all ts us v i refl

read_4 : (room : ℕ) (inner : List Token → Reading Deep) → IsRead SumRule depth_of (room - 1) sum_stop inner → (ts us : List Token) (v : Deep) → Either (Picks (room - 1)) Variables ts us v → (chosen_by (has_word (codes "pick")) (nat_lt 1 room) (pick_at inner) variable_at) ts ≡ Ok (v, us)
read_4 room inner read ts us v (inl i) = all_left (has_word (codes "pick")) (nat_lt 1 room) (pick_at inner) variable_at ts (v, us) (token_begins (has_word (codes "pick")) (Word (codes "pick")) true ts i.between i.left refl) (deep_room room _ _ _ i.right.right.left) (complete_pick inner (room - 1) read ts us v i)
read_4 room inner read ts us v (inr i) = all_right (has_word (codes "pick")) (nat_lt 1 room) (pick_at inner) variable_at ts (v, us) (other_5 (room - 1) ts us v i) (read_5 ts us v i)

read_3 : (room : ℕ) (inner : List Token → Reading Deep) → IsRead SumRule depth_of (room - 1) sum_stop inner → (ts us : List Token) (v : Deep) → Either (Function (codes "less") Less (room - 1)) (Either (Picks (room - 1)) Variables) ts us v → (chosen_by (has_word (codes "less")) (nat_lt 1 room) (function_at (codes "less") Less inner) (chosen_by (has_word (codes "pick")) (nat_lt 1 room) (pick_at inner) variable_at)) ts ≡ Ok (v, us)
read_3 room inner read ts us v (inl i) = all_left (has_word (codes "less")) (nat_lt 1 room) (function_at (codes "less") Less inner) (chosen_by (has_word (codes "pick")) (nat_lt 1 room) (pick_at inner) variable_at) ts (v, us) (token_begins (has_word (codes "less")) (Word (codes "less")) true ts i.between i.left refl) (deep_room room _ _ _ i.right.is.right.left) (complete_function (codes "less") Less inner (room - 1) read ts us v i)
read_3 room inner read ts us v (inr i) = all_right (has_word (codes "less")) (nat_lt 1 room) (function_at (codes "less") Less inner) (chosen_by (has_word (codes "pick")) (nat_lt 1 room) (pick_at inner) variable_at) ts (v, us) (other_4 (room - 1) ts us v i) (read_4 room inner read ts us v i)

read_2 : (room : ℕ) (inner : List Token → Reading Deep) → IsRead SumRule depth_of (room - 1) sum_stop inner → (ts us : List Token) (v : Deep) → Either (Function (codes "max") Maximum (room - 1)) (Either (Function (codes "less") Less (room - 1)) (Either (Picks (room - 1)) Variables)) ts us v → (chosen_by (has_word (codes "max")) (nat_lt 1 room) (function_at (codes "max") Maximum inner) (chosen_by (has_word (codes "less")) (nat_lt 1 room) (function_at (codes "less") Less inner) (chosen_by (has_word (codes "pick")) (nat_lt 1 room) (pick_at inner) variable_at))) ts ≡ Ok (v, us)
read_2 room inner read ts us v (inl i) = all_left (has_word (codes "max")) (nat_lt 1 room) (function_at (codes "max") Maximum inner) (chosen_by (has_word (codes "less")) (nat_lt 1 room) (function_at (codes "less") Less inner) (chosen_by (has_word (codes "pick")) (nat_lt 1 room) (pick_at inner) variable_at)) ts (v, us) (token_begins (has_word (codes "max")) (Word (codes "max")) true ts i.between i.left refl) (deep_room room _ _ _ i.right.is.right.left) (complete_function (codes "max") Maximum inner (room - 1) read ts us v i)
read_2 room inner read ts us v (inr i) = all_right (has_word (codes "max")) (nat_lt 1 room) (function_at (codes "max") Maximum inner) (chosen_by (has_word (codes "less")) (nat_lt 1 room) (function_at (codes "less") Less inner) (chosen_by (has_word (codes "pick")) (nat_lt 1 room) (pick_at inner) variable_at)) ts (v, us) (other_3 (room - 1) ts us v i) (read_3 room inner read ts us v i)

read_1 : (room : ℕ) (inner : List Token → Reading Deep) → IsRead SumRule depth_of (room - 1) sum_stop inner → (ts us : List Token) (v : Deep) → Either (Function (codes "min") Minimum (room - 1)) (Either (Function (codes "max") Maximum (room - 1)) (Either (Function (codes "less") Less (room - 1)) (Either (Picks (room - 1)) Variables))) ts us v → (chosen_by (has_word (codes "min")) (nat_lt 1 room) (function_at (codes "min") Minimum inner) (chosen_by (has_word (codes "max")) (nat_lt 1 room) (function_at (codes "max") Maximum inner) (chosen_by (has_word (codes "less")) (nat_lt 1 room) (function_at (codes "less") Less inner) (chosen_by (has_word (codes "pick")) (nat_lt 1 room) (pick_at inner) variable_at)))) ts ≡ Ok (v, us)
read_1 room inner read ts us v (inl i) = all_left (has_word (codes "min")) (nat_lt 1 room) (function_at (codes "min") Minimum inner) (chosen_by (has_word (codes "max")) (nat_lt 1 room) (function_at (codes "max") Maximum inner) (chosen_by (has_word (codes "less")) (nat_lt 1 room) (function_at (codes "less") Less inner) (chosen_by (has_word (codes "pick")) (nat_lt 1 room) (pick_at inner) variable_at))) ts (v, us) (token_begins (has_word (codes "min")) (Word (codes "min")) true ts i.between i.left refl) (deep_room room _ _ _ i.right.is.right.left) (complete_function (codes "min") Minimum inner (room - 1) read ts us v i)
read_1 room inner read ts us v (inr i) = all_right (has_word (codes "min")) (nat_lt 1 room) (function_at (codes "min") Minimum inner) (chosen_by (has_word (codes "max")) (nat_lt 1 room) (function_at (codes "max") Maximum inner) (chosen_by (has_word (codes "less")) (nat_lt 1 room) (function_at (codes "less") Less inner) (chosen_by (has_word (codes "pick")) (nat_lt 1 room) (pick_at inner) variable_at))) ts (v, us) (other_2 (room - 1) ts us v i) (read_2 room inner read ts us v i)

read_0 : (room : ℕ) (inner : List Token → Reading Deep) → IsRead SumRule depth_of (room - 1) sum_stop inner → (ts us : List Token) (v : Deep) → Either (Enclosed (room - 1)) (Either (Function (codes "min") Minimum (room - 1)) (Either (Function (codes "max") Maximum (room - 1)) (Either (Function (codes "less") Less (room - 1)) (Either (Picks (room - 1)) Variables)))) ts us v → (chosen_by (has_mark open_parenthesis) (nat_lt 1 room) (enclosed_at inner) (chosen_by (has_word (codes "min")) (nat_lt 1 room) (function_at (codes "min") Minimum inner) (chosen_by (has_word (codes "max")) (nat_lt 1 room) (function_at (codes "max") Maximum inner) (chosen_by (has_word (codes "less")) (nat_lt 1 room) (function_at (codes "less") Less inner) (chosen_by (has_word (codes "pick")) (nat_lt 1 room) (pick_at inner) variable_at))))) ts ≡ Ok (v, us)
read_0 room inner read ts us v (inl i) = all_left (has_mark open_parenthesis) (nat_lt 1 room) (enclosed_at inner) (chosen_by (has_word (codes "min")) (nat_lt 1 room) (function_at (codes "min") Minimum inner) (chosen_by (has_word (codes "max")) (nat_lt 1 room) (function_at (codes "max") Maximum inner) (chosen_by (has_word (codes "less")) (nat_lt 1 room) (function_at (codes "less") Less inner) (chosen_by (has_word (codes "pick")) (nat_lt 1 room) (pick_at inner) variable_at)))) ts (v, us) (token_begins (has_mark open_parenthesis) (Mark open_parenthesis) true ts i.between i.left refl) (deep_room room _ _ _ i.right.left) (complete_enclosed inner (room - 1) read ts us v i)
read_0 room inner read ts us v (inr i) = all_right (has_mark open_parenthesis) (nat_lt 1 room) (enclosed_at inner) (chosen_by (has_word (codes "min")) (nat_lt 1 room) (function_at (codes "min") Minimum inner) (chosen_by (has_word (codes "max")) (nat_lt 1 room) (function_at (codes "max") Maximum inner) (chosen_by (has_word (codes "less")) (nat_lt 1 room) (function_at (codes "less") Less inner) (chosen_by (has_word (codes "pick")) (nat_lt 1 room) (pick_at inner) variable_at)))) ts (v, us) (other_1 (room - 1) ts us v i) (read_1 room inner read ts us v i)

read_any : (room : ℕ) (inner : List Token → Reading Deep) → IsRead SumRule depth_of (room - 1) sum_stop inner → (ts us : List Token) (v : Deep) → AnyAtom (room - 1) ts us v → atom_with inner room ts ≡ Ok (v, us)
unfolding atom_with
read_any room inner read ts us v (inl i) = all_left has_integer true number_at (chosen_by (has_mark open_parenthesis) (nat_lt 1 room) (enclosed_at inner) (chosen_by (has_word (codes "min")) (nat_lt 1 room) (function_at (codes "min") Minimum inner) (chosen_by (has_word (codes "max")) (nat_lt 1 room) (function_at (codes "max") Maximum inner) (chosen_by (has_word (codes "less")) (nat_lt 1 room) (function_at (codes "less") Less inner) (chosen_by (has_word (codes "pick")) (nat_lt 1 room) (pick_at inner) variable_at))))) ts (v, us) (token_begins has_integer (Integer i.is.number) true ts us i.is.is.is refl) refl (exact_number.all ts us v i refl)
read_any room inner read ts us v (inr i) = all_right has_integer true number_at (chosen_by (has_mark open_parenthesis) (nat_lt 1 room) (enclosed_at inner) (chosen_by (has_word (codes "min")) (nat_lt 1 room) (function_at (codes "min") Minimum inner) (chosen_by (has_word (codes "max")) (nat_lt 1 room) (function_at (codes "max") Maximum inner) (chosen_by (has_word (codes "less")) (nat_lt 1 room) (function_at (codes "less") Less inner) (chosen_by (has_word (codes "pick")) (nat_lt 1 room) (pick_at inner) variable_at))))) ts (v, us) (other_0 (room - 1) ts us v i) (read_0 room inner read ts us v i)

pub complete_atom : (room : ℕ) (inner : List Token → Reading Deep) → IsRead SumRule depth_of (room - 1) sum_stop inner → IsRead AtomRule depth_of room any (atom_with inner room)
complete_atom room inner read ts us v i fits a = read_any room inner read ts us v (atom_from room ts us v (record { is = i; fits = fits }))
