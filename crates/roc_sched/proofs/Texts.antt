-- What is read of a text is what it is a text of, or its first fault, and the other way round.
use Rattle.std.proofs.Common.{◌≡◌, ℕ, ◌+◌, ◌≤◌, Bool, true, false, not, cond, List, [], ◌∷◌, ◌++◌, length, take, Option, Some, None, Result, Ok, Err, IfOk, IfErr, ◌⊎◌, inl, inr, refl, sym, ap, subst, ◌∙◌, arith}
use Rattle.std.specs.Prelude.{nat_le, nat_lt}
use Rattle.std.proofs.lemmas.Bool.{leb-true, leb-false, le-leb, lt-leb, ltb-false, le-ltb}
use Rattle.roc_sched.specs.declared.fault.What.{What}
use Rattle.roc_sched.specs.declared.fault.What.TheVariants.{Limit}
use Rattle.roc_sched.specs.declared.fault.TextFault.{TextFault}
use Rattle.roc_sched.specs.declared.fault.TextFault.TheVariants.{At, NoMemory}
use Rattle.roc_sched.specs.Each.{◌>>=◌, each}
use Rattle.roc_sched.specs.Lines.{lines_of}
use Rattle.roc_sched.specs.Words.{words_of, is_skipped}
use Rattle.roc_sched.specs.Schedule.{most_bytes, most_lines, Reader, item_of, fault_of, numbered, IsTextOfItems, line_fault, AreRight, IsFirstWrongLine, too_long, at_line}
use Rattle.roc_sched.specs.Answer.{AreItemsOf, IsFaultBy}
use Rattle.roc_sched.specs.Inner.Reading.{GivesAt, IsTooLong, some_at, line_item, before_items, line_items, text_items}
use Rattle.roc_sched.proofs.Items.{first_lines}

-- one fault has one line and one cause
err_parts : {A : Type 0} (a b : ℕ) (v w : What) → ◌≡◌ {A = Result A (ℕ × What)} (Err (a, v)) (Err (b, w)) → (a ≡ b) × (v ≡ w)
err_parts a b v w e =
    let same : ◌≡◌ {A = ℕ × What} (a, v) (b, w) = cc in
    (ap (λ (p : ℕ × What). p.0) same, ap (λ (p : ℕ × What). p.1) same)

module _ {B : Type 0} (read : Reader B) where
  -- ---- one line

  abbrev item_known : Bool → Bool → ℕ → Result B What → Result (Option B) (ℕ × What)
  item_known past skipped number words = cond past (Err (number, Limit)) (cond skipped (Ok None) (some_at number words))

  abbrev fault_known : Bool → Bool → Result B What → Option What
  fault_known past skipped words = cond past (Some Limit) (cond skipped None (fault_of words))

  -- a line that is read has no fault
  right_line : (number : ℕ) (line : List ℕ) (item : Option B) → line_item read number line ≡ Ok item → line_fault read number line ≡ None
  right_line number line item e = go (nat_lt most_lines number) (is_skipped line) (read number (words_of line)) e
    where
      go : (p q : Bool) (r : Result B What) → item_known p q number r ≡ Ok item → fault_known p q r ≡ None
      go true q r e = absurd (cc)
      go false true r e = refl
      go false false (Ok x) e = refl
      go false false (Err w) e = absurd (cc)

  -- and one that has none is read
  read_line : (number : ℕ) (line : List ℕ) → line_fault read number line ≡ None → (item : Option B) × (line_item read number line ≡ Ok item)
  read_line number line e = go (nat_lt most_lines number) (is_skipped line) (read number (words_of line)) e
    where
      go : (p q : Bool) (r : Result B What) → fault_known p q r ≡ None → (item : Option B) × (item_known p q number r ≡ Ok item)
      go true q r e = absurd (cc)
      go false true r e = (None, refl)
      go false false (Ok x) e = (Some x, refl)
      go false false (Err w) e = absurd (cc)

  -- a fault that is found is the line's
  wrong_line : (number m : ℕ) (line : List ℕ) (what : What) → line_item read number line ≡ Err (m, what) → (m ≡ number) × (line_fault read number line ≡ Some what)
  wrong_line number m line what e = go (nat_lt most_lines number) (is_skipped line) (read number (words_of line)) e
    where
      go : (p q : Bool) (r : Result B What) → item_known p q number r ≡ Err (m, what) → (m ≡ number) × (fault_known p q r ≡ Some what)
      go true q r e = let p = err_parts number m Limit what e in (sym p.0, ap (λ w. Some w) p.1)
      go false true r e = absurd (cc)
      go false false (Ok x) e = absurd (cc)
      go false false (Err w) e = let p = err_parts number m w what e in (sym p.0, ap (λ v. Some v) p.1)

  found_line : (number : ℕ) (line : List ℕ) (what : What) → line_fault read number line ≡ Some what → line_item read number line ≡ Err (number, what)
  found_line number line what e = go (nat_lt most_lines number) (is_skipped line) (read number (words_of line)) e
    where
      go : (p q : Bool) (r : Result B What) → fault_known p q r ≡ Some what → item_known p q number r ≡ Err (number, what)
      go true q r e = let same : Limit ≡ what = cc in ap (λ w. Err (number, w)) same
      go false true r e = absurd (cc)
      go false false (Ok x) e = absurd (cc)
      go false false (Err w) e = let same : w ≡ what = cc in ap (λ v. Err (number, v)) same

  -- ---- all lines

  abbrev written_item : ℕ × List ℕ → Option B
  written_item line = item_of (read line.0 (words_of line.1))

  items_right : (number : ℕ) (lines : List (List ℕ)) (items : List B) → number ≤ most_lines + 1 → line_items read number lines ≡ Ok items
      → (length lines + number ≤ most_lines + 1) × (each written_item (numbered number lines) ≡ Some items)
  items_right number [] items within e = (omega arith, let same : [] ≡ items = cc in ap (λ (xs : List B). Some xs) same)
  items_right number (line ∷ lines) items within e =
      go (nat_lt most_lines number) (is_skipped line) (read number (words_of line)) (line_items read (number + 1) lines) refl refl refl e (items_right (number + 1) lines)
    where
      go : (p q : Bool) (r : Result B What) (behind : Result (List B) (ℕ × What)) → nat_lt most_lines number ≡ p → read number (words_of line) ≡ r → line_items read (number + 1) lines ≡ behind
          → before_items (item_known p q number r) behind ≡ Ok items
          → ((others : List B) → number + 1 ≤ most_lines + 1 → line_items read (number + 1) lines ≡ Ok others → (length lines + (number + 1) ≤ most_lines + 1) × (each written_item (numbered (number + 1) lines) ≡ Some others))
          → (length (line ∷ lines) + number ≤ most_lines + 1) × (each written_item (cond (not q) ((number, line) ∷ numbered (number + 1) lines) (numbered (number + 1) lines)) ≡ Some items)
      go true q r behind hp hr hb e ih = absurd (cc)
      go false true r behind hp hr hb e ih =
          let few : number ≤ most_lines = ltb-false most_lines number hp in
          let rest = ih items (omega arith) (hb ∙ e) in
          (omega (arith, rest.0), rest.1)
      go false false (Err w) behind hp hr hb e ih = absurd (cc)
      go false false (Ok x) (Err fault) hp hr hb e ih = absurd (cc)
      go false false (Ok x) (Ok others) hp hr hb e ih =
          let few : number ≤ most_lines = ltb-false most_lines number hp in
          let rest = ih others (omega arith) hb in
          let all : x ∷ others ≡ items = cc in
          (omega (arith, rest.0), rw (hr, rest.1) (ap (λ (xs : List B). Some xs) all))

  -- what a first line and those behind it give
  abbrev first_given : ℕ → List (List ℕ) → Result B What → Option (List B)
  first_given number lines r = item_of r >>= λ x. each written_item (numbered (number + 1) lines) >>= λ xs. Some (x ∷ xs)

  right_items : (number : ℕ) (lines : List (List ℕ)) (items : List B) → length lines + number ≤ most_lines + 1 → each written_item (numbered number lines) ≡ Some items → line_items read number lines ≡ Ok items
  right_items number [] items few e = let same : [] ≡ items = cc in ap (λ (xs : List B). Ok xs) same
  right_items number (line ∷ lines) items few e =
      let within : nat_lt most_lines number ≡ false = le-ltb most_lines number (omega arith) in
      go (nat_lt most_lines number) (is_skipped line) (read number (words_of line)) (each written_item (numbered (number + 1) lines)) within refl refl e
      (λ others. right_items (number + 1) lines others (omega arith))
    where
      one : (r : Result B What) → read number (words_of line) ≡ r → each written_item ((number, line) ∷ numbered (number + 1) lines) ≡ Some items → first_given number lines r ≡ Some items
      one r hr e = ap (first_given number lines) (sym hr) ∙ e

      go : (p q : Bool) (r : Result B What) (rest : Option (List B)) → p ≡ false → read number (words_of line) ≡ r → each written_item (numbered (number + 1) lines) ≡ rest
          → each written_item (cond (not q) ((number, line) ∷ numbered (number + 1) lines) (numbered (number + 1) lines)) ≡ Some items
          → ((others : List B) → each written_item (numbered (number + 1) lines) ≡ Some others → line_items read (number + 1) lines ≡ Ok others)
          → before_items (item_known p q number r) (line_items read (number + 1) lines) ≡ Ok items
      go true q r rest hp hr hs e ih = absurd (cc)
      go false true r rest hp hr hs e ih = ih items e
      go false false (Err w) rest hp hr hs e ih = absurd (let n = one (Err w) hr e in cc)
      go false false (Ok x) None hp hr hs e ih = absurd (let n = sym (ap (λ (o : Option (List B)). o >>= λ xs. Some (x ∷ xs)) hs) ∙ one (Ok x) hr e in cc)
      go false false (Ok x) (Some others) hp hr hs e ih =
          let n = sym (ap (λ (o : Option (List B)). o >>= λ xs. Some (x ∷ xs)) hs) ∙ one (Ok x) hr e in
          let all : x ∷ others ≡ items = cc in
          ap (before_items (Ok (Some x))) (ih others hs) ∙ ap (λ (xs : List B). Ok xs) all

  -- ---- faults

  -- the first line that is wrong, and the lines before and behind it
  record IsWrong (number : ℕ) (lines : List (List ℕ)) (m : ℕ) (what : What) : Type 0 where
    before : List (List ℕ)
    line : List ℕ
    behind : List (List ℕ)
    parts : lines ≡ before ++ line ∷ behind
    right : AreRight read number before
    place : m ≡ number + length before
    fault : line_fault read m line ≡ Some what

  items_wrong : (number : ℕ) (lines : List (List ℕ)) (m : ℕ) (what : What) → line_items read number lines ≡ Err (m, what) → IsWrong number lines m what
  items_wrong number [] m what e = absurd (cc)
  items_wrong number (line ∷ lines) m what e = go (line_item read number line) (line_items read (number + 1) lines) refl refl e (items_wrong (number + 1) lines m what)
    where
      later : (item : Option B) → line_item read number line ≡ Ok item → IsWrong (number + 1) lines m what → IsWrong number (line ∷ lines) m what
      later item h w = record {
        before = line ∷ w.before;
        line = w.line;
        behind = w.behind;
        parts = ap (λ (ls : List (List ℕ)). line ∷ ls) w.parts;
        right = (right_line number line item h, w.right);
        place = (let p = w.place in omega arith);
        fault = w.fault;
      }

      go : (item : Result (Option B) (ℕ × What)) (behind : Result (List B) (ℕ × What)) → line_item read number line ≡ item → line_items read (number + 1) lines ≡ behind
          → before_items item behind ≡ Err (m, what) → (line_items read (number + 1) lines ≡ Err (m, what) → IsWrong (number + 1) lines m what) → IsWrong number (line ∷ lines) m what
      go (Err fault) behind h k e ih =
          let same : fault ≡ (m, what) = cc in
          let here = wrong_line number m line what (h ∙ ap (λ f. Err f) same) in
          record { before = []; line = line; behind = lines; parts = refl; right = tt; place = (let p = here.0 in omega arith); fault = subst (λ n. line_fault read n line ≡ Some what) (sym here.0) here.1 }
      go (Ok None) behind h k e ih = later None h (ih (k ∙ e))
      go (Ok (Some x)) (Ok items) h k e ih = absurd (cc)
      go (Ok (Some x)) (Err fault) h k e ih = later (Some x) h (ih (k ∙ (let same : fault ≡ (m, what) = cc in ap (λ f. Err f) same)))

  wrong_items : (number : ℕ) (before : List (List ℕ)) (line : List ℕ) (behind : List (List ℕ)) (what : What) → AreRight read number before → line_fault read (number + length before) line ≡ Some what
      → line_items read number (before ++ line ∷ behind) ≡ Err (number + length before, what)
  wrong_items number [] line behind what right e =
      let here : number + 0 ≡ number = omega arith in
      let fault : line_fault read number line ≡ Some what = subst (λ n. line_fault read n line ≡ Some what) here e in
      subst (λ n. line_items read number (line ∷ behind) ≡ Err (n, what)) (sym here) (ap (λ item. before_items item (line_items read (number + 1) behind)) (found_line number line what fault))
  wrong_items number (first ∷ before) line behind what right e =
      let r = read_line number first right.0 in
      let place : (number + 1) + length before ≡ number + length (first ∷ before) = omega arith in
      let ih = wrong_items (number + 1) before line behind what right.1 (subst (λ n. line_fault read n line ≡ Some what) (sym place) e) in
      subst (λ n. line_items read number (first ∷ (before ++ line ∷ behind)) ≡ Err (n, what)) place
      (ap (λ item. before_items item (line_items read (number + 1) (before ++ line ∷ behind))) r.1 ∙ passes r.0 ih)
    where
      passes : (item : Option B) {rest : Result (List B) (ℕ × What)} {fault : ℕ × What} → rest ≡ Err fault → before_items (Ok item) rest ≡ Err fault
      passes None e = e
      passes (Some x) e = ap (before_items (Ok (Some x))) e

  -- ---- texts

  module _ (text : List ℕ) where
    pub text_right : (items : List B) → text_items read text ≡ Ok items → IsTextOfItems read text items
    unfolding text_items
    text_right items e = go (nat_le (length text) most_bytes) refl e
      where
        go : (b : Bool) → nat_le (length text) most_bytes ≡ b → cond b (line_items read 1 (lines_of text)) (Err (1, Limit)) ≡ Ok items → IsTextOfItems read text items
        go true h e =
            let r = items_right 1 (lines_of text) items (omega arith) e in
            record { size = leb-true (length text) most_bytes h; few_lines = (let few = r.0 in omega arith); written = r.1 }
        go false h e = absurd (cc)

    pub right_text : (items : List B) → IsTextOfItems read text items → text_items read text ≡ Ok items
    unfolding text_items
    right_text items is =
        ap (λ b. cond b (line_items read 1 (lines_of text)) (Err (1, Limit))) (le-leb (length text) most_bytes is.size)
        ∙ right_items 1 (lines_of text) items (let few = is.few_lines in omega arith) is.written

    pub text_wrong : (line : ℕ) (what : What) → text_items read text ≡ Err (line, what) → IsFirstWrongLine read text line what
    unfolding text_items
    text_wrong line what e = go (nat_le (length text) most_bytes) refl e
      where
        go : (b : Bool) → nat_le (length text) most_bytes ≡ b → cond b (line_items read 1 (lines_of text)) (Err (1, Limit)) ≡ Err (line, what) → IsFirstWrongLine read text line what
        go true h e =
            let w = items_wrong 1 (lines_of text) line what e in
            subst (λ n. IsFirstWrongLine read text n what) (sym w.place)
            (at_line w.before w.line w.behind what (leb-true (length text) most_bytes h) w.parts w.right (subst (λ n. line_fault read n w.line ≡ Some what) w.place w.fault))
        go false h e =
            let p = err_parts 1 line Limit what e in
            subst (λ w. IsFirstWrongLine read text line w) p.1 (subst (λ n. IsFirstWrongLine read text n Limit) p.0 (too_long (leb-false (length text) most_bytes h)))

    pub wrong_text : (line : ℕ) (what : What) → IsFirstWrongLine read text line what → text_items read text ≡ Err (line, what)
    unfolding text_items
    wrong_text line what (too_long h) = ap (λ b. cond b (line_items read 1 (lines_of text)) (Err (1, Limit))) (lt-leb (length text) most_bytes h)
    wrong_text line what (at_line before one behind w size parts right fault) =
        ap (λ b. cond b (line_items read 1 (lines_of text)) (Err (1, Limit))) (le-leb (length text) most_bytes size)
        ∙ (ap (line_items read 1) parts ∙ wrong_items 1 before one behind w right fault)

    -- ---- laws

    pub items_are_one : (some others : List B) → IsTextOfItems read text some → IsTextOfItems read text others → some ≡ others
    items_are_one some others p q = let both : ◌≡◌ {A = Result (List B) (ℕ × What)} (Ok some) (Ok others) = sym (right_text some p) ∙ right_text others q in cc

    pub faults_are_one : (line other : ℕ) (what cause : What) → IsFirstWrongLine read text line what → IsFirstWrongLine read text other cause → (line ≡ other) × (what ≡ cause)
    faults_are_one line other what cause p q = err_parts line other what cause (sym (wrong_text line what p) ∙ wrong_text other cause q)

    pub not_both : (items : List B) (line : ℕ) (what : What) → IsTextOfItems read text items → IsFirstWrongLine read text line what → ⊥
    not_both items line what p q = let both : ◌≡◌ {A = Result (List B) (ℕ × What)} (Ok items) (Err (line, what)) = sym (right_text items p) ∙ wrong_text line what q in absurd (cc)

    pub one_of_both : ((items : List B) × IsTextOfItems read text items) ⊎ ((line : ℕ) × (what : What) × IsFirstWrongLine read text line what)
    one_of_both = go (text_items read text) refl
      where
        go : (r : Result (List B) (ℕ × What)) → text_items read text ≡ r → ((items : List B) × IsTextOfItems read text items) ⊎ ((line : ℕ) × (what : What) × IsFirstWrongLine read text line what)
        go (Ok items) e = inl (items, text_right items e)
        go (Err (line, what)) e = inr (line, what, text_wrong line what e)

    -- ---- steps of the reader

    -- too many bytes
    pub too_long_given : {X : Type 0} (view : X → List B) (e : TextFault) → IsTooLong text e → GivesAt view (Err e) (text_items read text)
    too_long_given view NoMemory long = tt
    too_long_given view (At number fault) (first, limit, long) =
        wrong_text 1 Limit (too_long long) ∙ (λ i. Err ((sym first) i, (sym limit) i))

    -- the lines that there may be, and one more
    pub lines_given : {X : Type 0} (view : X → List B) (r : Result X TextFault) (lines : List (List ℕ)) → lines ≡ take (most_lines + 1) (lines_of text) → length text ≤ most_bytes
        → GivesAt view r (line_items read 1 lines) → GivesAt view r (text_items read text)
    unfolding text_items
    lines_given view r lines same size given =
        let all : line_items read 1 lines ≡ line_items read 1 (lines_of text) = ap (line_items read 1) same ∙ first_lines read (most_lines + 1) 1 (lines_of text) (omega arith) (omega arith) in
        let whole : text_items read text ≡ line_items read 1 (lines_of text) = ap (λ b. cond b (line_items read 1 (lines_of text)) (Err (1, Limit))) (le-leb (length text) most_bytes size) in
        subst (GivesAt view r) (all ∙ sym whole) given

    -- ---- answers

    pub is_found : {X : Type 0} (view : X → List B) (r : Result X TextFault) → GivesAt view r (text_items read text) → IfOk r (λ x. IsTextOfItems read text (view x))
    is_found view (Ok x) e = text_right (view x) e
    is_found view (Err e) given = tt

    pub is_only : {X : Type 0} (view : X → List B) (r : Result X TextFault) → GivesAt view r (text_items read text) → (items : List B) → IsTextOfItems read text items → AreItemsOf view items r
    is_only view (Ok x) e items is = let both : ◌≡◌ {A = Result (List B) (ℕ × What)} (Ok (view x)) (Ok items) = sym e ∙ right_text items is in cc
    is_only view (Err NoMemory) given items is = tt
    is_only view (Err (At line what)) given items is = let both : ◌≡◌ {A = Result (List B) (ℕ × What)} (Ok items) (Err (line, what)) = sym (right_text items is) ∙ given in absurd (cc)

    pub is_fault : {X : Type 0} (view : X → List B) (r : Result X TextFault) → GivesAt view r (text_items read text) → IfErr r (IsFaultBy (IsFirstWrongLine read text))
    is_fault view (Ok x) e = tt
    is_fault view (Err NoMemory) given = tt
    is_fault view (Err (At line what)) given = text_wrong line what given
