-- What is written part by part is written as a whole
use Rattle.std.proofs.Common.{◌≡◌, ℕ, ◌+◌, ◌<◌, ◌≤◌, List, [], ◌∷◌, ◌++◌, length, get_or, take, sym, ap, ◌∙◌, append_assoc}
use Rattle.std.specs.List.{flat_map}
use Rattle.std.proofs.lemmas.List.{append-nil, take_more, take_all}
use Rattle.std.proofs.lemmas.List.Concat.{flat_map-cons}
use Rattle.std.proofs.lemmas.Grind.{flat_map-append}

-- one part, and four behind it
pub start_parts : (before after id whole a b c d : List ℕ) → after ≡ before ++ id → whole ≡ after ++ (a ++ b ++ c ++ d) → whole ≡ before ++ (id ++ a ++ b ++ c ++ d)
start_parts before after id whole a b c d h k = k ∙ ap (λ (l : List ℕ). l ++ (a ++ b ++ c ++ d)) h ∙ simp append_assoc

-- one part, four behind it, and two more
pub start_ok_parts : (before after id more whole a b c d e f : List ℕ) → after ≡ before ++ id → more ≡ after ++ (a ++ b ++ c ++ d) → whole ≡ more ++ (e ++ f) → whole ≡ before ++ (id ++ a ++ b ++ c ++ d ++ e ++ f)
start_ok_parts before after id more whole a b c d e f h k m =
    m ∙ ap (λ (l : List ℕ). l ++ (e ++ f)) (k ∙ ap (λ (l : List ℕ). l ++ (a ++ b ++ c ++ d)) h) ∙ simp append_assoc

-- three parts, and two or three behind them
pub read_parts : (before after more whole a b c d e : List ℕ) → after ≡ before ++ (a ++ b ++ c) → more ≡ after ++ d → whole ≡ more ++ e → whole ≡ before ++ (a ++ b ++ c ++ d ++ e)
read_parts before after more whole a b c d e h k m = m ∙ ap (λ (l : List ℕ). l ++ e) (k ∙ ap (λ (l : List ℕ). l ++ d) h) ∙ simp append_assoc

pub read_ok_parts : (before after whole a b c d e f : List ℕ) → after ≡ before ++ (a ++ b ++ c) → whole ≡ after ++ (d ++ e ++ f) → whole ≡ before ++ (a ++ b ++ c ++ d ++ e ++ f)
read_ok_parts before after whole a b c d e f h k = k ∙ ap (λ (l : List ℕ). l ++ (d ++ e ++ f)) h ∙ simp append_assoc

-- ---- elements, each behind those before it

-- their count is written before them
pub begun : (before after count : List ℕ) → after ≡ before ++ count → after ≡ (before ++ count) ++ []
begun before after count h = h ∙ sym (append-nil (before ++ count))

-- the text of the first and of one more
next : {A : Type 0} (spell : A → List ℕ) (xs : List A) (i : ℕ) (x d : A) → i < length xs → x ≡ get_or xs i d → flat_map spell (take (i + 1) xs) ≡ flat_map spell (take i xs) ++ spell x
next spell xs i x d lt is =
    ap (flat_map spell) (take_more xs i d lt)
    ∙ flat_map-append spell (take i xs) (get_or xs i d ∷ [])
    ∙ ap (λ (l : List ℕ). flat_map spell (take i xs) ++ l) (flat_map-cons spell (get_or xs i d) [] ∙ append-nil (spell (get_or xs i d)) ∙ ap spell (sym is))

pub one_more : {A : Type 0} (spell : A → List ℕ) (front before after : List ℕ) (xs : List A) (i : ℕ) (x d : A) → i < length xs → x ≡ get_or xs i d
    → before ≡ front ++ flat_map spell (take i xs) → after ≡ before ++ spell x → after ≡ front ++ flat_map spell (take (i + 1) xs)
one_more spell front before after xs i x d lt is h k =
    k ∙ ap (λ (l : List ℕ). l ++ spell x) h ∙ append_assoc front (flat_map spell (take i xs)) (spell x) ∙ ap (λ (l : List ℕ). front ++ l) (sym (next spell xs i x d lt is))

pub ended : {A : Type 0} (spell : A → List ℕ) (before count after : List ℕ) (xs : List A) (i : ℕ) → length xs ≤ i → after ≡ (before ++ count) ++ flat_map spell (take i xs) → after ≡ before ++ (count ++ flat_map spell xs)
ended {A} spell before count after xs i le h = h ∙ ap (λ (l : List A). (before ++ count) ++ flat_map spell l) (take_all i xs le) ∙ append_assoc before count (flat_map spell xs)
