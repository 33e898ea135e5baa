-- The words of rows that change
use Rattle.std.proofs.Common.{◌≡◌, ◌≢◌, ℕ, zero, suc, ◌+◌, ◌≤◌, ◌<◌, ◌^◌, max, Bool, true, false, ◌||◌, List, [], ◌∷◌, ◌++◌, length, get_or, set, Vec, Global, Result, Ok, Err, OnErr}
use Rattle.std.proofs.Common.{refl, sym, ap, ◌∙◌, subst, inl, inr, arith, map, slice_index_or, ◌/◌, zero-le}
use Rattle.std.proofs.lemmas.Bool.{cases_eq, cases_lt}
use Rattle.std.proofs.lemmas.List.{length-set}
use Rattle.roc_server_reach.specs.Bits.{bit_at, row_bit, AreSameBits, IsColumnCleared, IsEnded, IsPut, IsRowCleared, BitTable}
use Rattle.roc_server_reach.specs.Inner.Words.{words_but, IsBitPut, IsSetOf, IsWithout}
use Rattle.roc_server_reach.specs.Inner.Rows.{bits_in, words_at, AreRowsWithin, AreSameRows, KeepsWithin}
use Rattle.roc_server_reach.proofs.WordBits.{empty_bit}
use Rattle.roc_server_reach.proofs.StaleBits.{AreSmall, none_but, past_but, same_but, stale_bit, zeros_but}

-- ---- one row

row_but : (rows : List (Vec ℕ Global)) (stale : List ℕ) (n : ℕ) → slice_index_or (map (λ row. words_but row.items stale) rows) n [] ≡ words_but (words_at rows n) stale
row_but [] stale n = sym (none_but stale)
row_but (r ∷ rs) stale zero = refl
row_but (r ∷ rs) stale (suc n) = row_but rs stale n

pub bit_in : (rows : List (Vec ℕ Global)) (stale : List ℕ) (n m : ℕ) → bit_at (bits_in rows stale) n m ≡ row_bit (words_but (words_at rows n) stale) m
unfolding bit_at
bit_in rows stale n m = ap (λ ws. row_bit ws m) (row_but rows stale n)

-- where its words are the same, so are its bits
row_same : (old new : List (Vec ℕ Global)) (stale : List ℕ) (n m : ℕ) → words_at new n ≡ words_at old n → bit_at (bits_in new stale) n m ≡ bit_at (bits_in old stale) n m
row_same old new stale n m same = bit_in new stale n m ∙ (ap (λ ws. row_bit (words_but ws stale) m) same ∙ sym (bit_in old stale n m))

-- a row without words has no bits
row_empty : (rows : List (Vec ℕ Global)) (stale : List ℕ) (n m : ℕ) → words_at rows n ≡ [] → bit_at (bits_in rows stale) n m ≡ false
row_empty rows stale n m none = bit_in rows stale n m ∙ (ap (λ ws. row_bit (words_but ws stale) m) none ∙ past_but [] stale m zero-le)

pub set_there : (rows : List (Vec ℕ Global)) (i : ℕ) (v : Vec ℕ Global) → i < length rows → words_at (set rows i v) i ≡ v.items
set_there [] i v h = absurd (omega arith)
set_there (r ∷ rs) zero v h = refl
set_there (r ∷ rs) (suc i) v h = set_there rs i v (omega arith)

pub set_other : (rows : List (Vec ℕ Global)) (i n : ℕ) (v : Vec ℕ Global) → n ≢ i → words_at (set rows i v) n ≡ words_at rows n
set_other [] i n v apart = refl
set_other (r ∷ rs) zero zero v apart = absurd (apart refl)
set_other (r ∷ rs) zero (suc n) v apart = refl
set_other (r ∷ rs) (suc i) zero v apart = refl
set_other (r ∷ rs) (suc i) (suc n) v apart = set_other rs i n v (λ e. apart (ap suc e))

pub pushed : (rows : List (Vec ℕ Global)) (v : Vec ℕ Global) → v.items ≡ [] → (n : ℕ) → words_at (rows ++ v ∷ []) n ≡ words_at rows n
pushed [] v e zero = e
pushed [] v e (suc n) = refl
pushed (r ∷ rs) v e zero = refl
pushed (r ∷ rs) v e (suc n) = pushed rs v e n

pub row_there : (rows : List (Vec ℕ Global)) (n : ℕ) (v : Vec ℕ Global) → n < length rows → v ≡ get_or rows n v → words_at rows n ≡ v.items
row_there [] n v h e = absurd (omega arith)
row_there (r ∷ rs) zero v h e = ap (λ (x : Vec ℕ Global). x.items) (sym e)
row_there (r ∷ rs) (suc n) v h e = row_there rs n v (omega arith) e

pub row_at : (rows : List (Vec ℕ Global)) (n : ℕ) (d : Vec ℕ Global) → n < length rows → words_at rows n ≡ (get_or rows n d).items
row_at [] n d h = absurd (omega arith)
row_at (r ∷ rs) zero d h = refl
row_at (r ∷ rs) (suc n) d h = row_at rs n d (omega arith)

pub row_past : (rows : List (Vec ℕ Global)) (n : ℕ) → length rows ≤ n → words_at rows n ≡ []
row_past [] n h = refl
row_past (r ∷ rs) zero h = absurd (omega arith)
row_past (r ∷ rs) (suc n) h = row_past rs n (omega arith)

-- ---- what changes of all

pub same_bits : (old new : List (Vec ℕ Global)) (stale wider : List ℕ) → AreSameRows old new → ((words : List ℕ) → words_but words wider ≡ words_but words stale)
    → AreSameBits (bits_in old stale) (bits_in new wider)
same_bits old new stale wider same wide n m = bit_in new wider n m ∙ (ap (λ ws. row_bit ws m) (wide (words_at new n)) ∙ (sym (bit_in new stale n m) ∙ row_same old new stale n m (same n)))

pub same_within : (old new : List (Vec ℕ Global)) (width : ℕ) → AreSameRows old new → AreRowsWithin old width → AreRowsWithin new width
same_within old new width same w = record { each = λ n. subst (λ ws. length ws ≤ width) (sym (same n)) (w.each n); few = w.few }

pub kept_within : (old new : List (Vec ℕ Global)) (width : ℕ) → KeepsWithin old new → AreRowsWithin old width → AreRowsWithin new width
kept_within old new width keeps w = record { each = λ n. (let a = keeps n in let b = w.each n in omega arith); few = w.few }

pub wider_within : (old new : List (Vec ℕ Global)) (width words wider : ℕ) → AreSameRows old new → AreRowsWithin old width → words ≤ 2 ^ 58 → width ≤ wider → wider ≤ max width words
    → AreRowsWithin new wider
wider_within old new width words wider same w few more most =
    record {
      each = λ n. (let low : length (words_at new n) ≤ width = (same_within old new width same w).each n in omega arith);
      few = let low = w.few in omega arith;
    }

module _ (mid : List (Vec ℕ Global)) (row : ℕ) (v : Vec ℕ Global) (there : row < length mid) where
  pub put_bits : (old : BitTable) (stale names : List ℕ) → AreSameBits old (bits_in mid stale) → IsWithout stale v.items v.items → IsSetOf names v.items
      → IsPut row names old (bits_in (set mid row v) stale)
  put_bits old stale names before live is =
      record {
        own = λ m. bit_in (set mid row v) stale row m ∙ (ap (λ ws. row_bit (words_but ws stale) m) (set_there mid row v there) ∙ (sym (live.bits m) ∙ is m));
        others = λ n m apart. row_same mid (set mid row v) stale n m (set_other mid row n v apart) ∙ before n m;
      }

  pub put_within : (width : ℕ) → AreRowsWithin mid width → length v.items ≤ width → AreRowsWithin (set mid row v) width
  put_within width w fits = record { each = each; few = w.few }
    where
      each : (n : ℕ) → length (words_at (set mid row v) n) ≤ width
      each n = elim (cases_eq n row) [
        | inl e ↦ (let long : length (words_at (set mid row v) row) ≡ length v.items = ap length (set_there mid row v there) in
            subst (λ k. length (words_at (set mid row v) k) ≤ width) (sym e) (omega arith))
        | inr apart ↦ (let long : length (words_at (set mid row v) n) ≡ length (words_at mid n) = ap length (set_other mid row n v apart) in
            let low : length (words_at mid n) ≤ width = w.each n in omega arith)
      ]

-- a row loses its words
module _ (rows : List (Vec ℕ Global)) (row : ℕ) (v : Vec ℕ Global) (empty : v.items ≡ []) where
  pub row_cleared : row < length rows → (stale : List ℕ) → IsRowCleared row (bits_in rows stale) (bits_in (set rows row v) stale)
  row_cleared there stale =
      record {
        own = λ m. row_empty (set rows row v) stale row m (set_there rows row v there ∙ empty);
        others = λ n m apart. row_same rows (set rows row v) stale n m (set_other rows row n v apart);
      }

  pub row_keeps_within : row < length rows → KeepsWithin rows (set rows row v)
  row_keeps_within there n = elim (cases_eq n row) [
    | inl e ↦ (let short : length (words_at (set rows row v) row) ≡ 0 = ap length (set_there rows row v there ∙ empty) in
        subst (λ k. length (words_at (set rows row v) k) ≤ length (words_at rows k)) (sym e) (omega arith))
    | inr apart ↦ (let same : length (words_at (set rows row v) n) ≡ length (words_at rows n) = ap length (set_other rows row n v apart) in omega arith)
  ]

-- a row that is not there has no bits
pub row_absent : (rows : List (Vec ℕ Global)) (row : ℕ) → length rows ≤ row → (stale : List ℕ) → IsRowCleared row (bits_in rows stale) (bits_in rows stale)
row_absent rows row past stale =
    record {
      own = λ m. row_empty rows stale row m (row_past rows row past);
      others = λ n m apart. refl;
    }

-- ---- a column is cleared

module _ (rows : List (Vec ℕ Global)) (old : List ℕ) (column : ℕ) (w : AreRowsWithin rows (length old)) where
  pub column_cleared : (new : List ℕ) → AreSmall old → AreSmall new → IsBitPut column old new → IsColumnCleared column (bits_in rows old) (bits_in rows new)
  column_cleared new few few2 put =
      record {
        own = λ n. bit_in rows new n column ∙ stale_bit (words_at rows n) new few2 column put.own;
        others = λ n m apart. bit_in rows new n m ∙ (same_but (words_at rows n) old few m new few2 (put.others m apart) ∙ sym (bit_in rows old n m));
      }

  pub column_absent : length old ≤ column / 64 → IsColumnCleared column (bits_in rows old) (bits_in rows old)
  column_absent past =
      record {
        own = λ n. bit_in rows old n column ∙ past_but (words_at rows n) old column (let low = w.each n in omega arith);
        others = λ n m apart. refl;
      }

-- ---- stale bits are taken out row by row

pub record AreSweptBelow (stale : List ℕ) (place : ℕ) (old new : List (Vec ℕ Global)) : Type 0 where
  pub each : length new ≡ length old
  pub done : (n : ℕ) → n < place → IsWithout stale (words_at old n) (words_at new n)
  pub rest : (n : ℕ) → place ≤ n → words_at new n ≡ words_at old n

pub none_swept : (stale : List ℕ) (rows : List (Vec ℕ Global)) → AreSweptBelow stale 0 rows rows
none_swept stale rows = record { each = refl; done = λ n h. absurd (omega arith); rest = λ n h. refl }

pub more_swept : (stale : List ℕ) (place : ℕ) (old mid : List (Vec ℕ Global)) (d v : Vec ℕ Global) → AreSweptBelow stale place old mid → place < length mid
    → IsWithout stale (get_or mid place d).items v.items → AreSweptBelow stale (place + 1) old (set mid place v)
more_swept stale place old mid d v a there out =
    record {
      each = length-set mid place v ∙ a.each;
      done = λ n h. elim (cases_eq n place) [
        | inl e ↦
            subst (λ k. IsWithout stale (words_at old k) (words_at (set mid place v) k)) (sym e)
            (subst (λ ws. IsWithout stale (words_at old place) ws) (sym (set_there mid place v there))
            (subst (λ ws. IsWithout stale ws v.items) (sym (row_at mid place d there) ∙ a.rest place (omega arith)) out))
        | inr apart ↦ subst (λ ws. IsWithout stale (words_at old n) ws) (sym (set_other mid place n v apart)) (a.done n (omega arith))
      ];
      rest = λ n h. set_other mid place n v (λ e. omega arith) ∙ a.rest n (omega arith);
    }

module _ (stale : List ℕ) (place : ℕ) (old new : List (Vec ℕ Global)) (a : AreSweptBelow stale place old new) where
  -- none is stale behind that
  pub swept : (none : List ℕ) → length new ≤ place → ((k : ℕ) → get_or none k 0 ≡ 0) → AreSameBits (bits_in old stale) (bits_in new none)
  swept none past zeros n m =
      bit_in new none n m
      ∙ (sym ((zeros_but (words_at new n) none zeros).bits m)
      ∙ (elim (cases_lt n place) [
        | inl l ↦ (a.done n l).bits m
        | inr l ↦
            let gone : words_at new n ≡ [] = row_past new n (omega arith) in
            ap (λ ws. row_bit ws m) gone ∙ (empty_bit m ∙ sym (ap (λ ws. row_bit (words_but ws stale) m) (sym (a.rest n l) ∙ gone) ∙ past_but [] stale m zero-le))
      ]
      ∙ sym (bit_in old stale n m)))

  pub swept_within : KeepsWithin old new
  swept_within n = elim (cases_lt n place) [
    | inl l ↦ (let same : length (words_at new n) ≡ length (words_at old n) = (a.done n l).each in omega arith)
    | inr l ↦ (let same : length (words_at new n) ≡ length (words_at old n) = ap length (a.rest n l) in omega arith)
  ]

-- a row, and then a column
pub row_and_column : (number : ℕ) (old mid new : BitTable) → IsRowCleared number old mid → IsColumnCleared number mid new → IsEnded number old new
row_and_column number old mid new r c =
    record {
      row = λ m. elim (cases_eq m number) [ inl e ↦ ap (bit_at new number) e ∙ c.own number | inr apart ↦ c.others number m apart ∙ r.own m ];
      column = c.own;
      others = λ n m a b. c.others n m b ∙ r.others n m a;
    }

-- a row that is not there adds nothing to a set
pub nothing_joined : (rows : List (Vec ℕ Global)) (stale : List ℕ) (row : ℕ) → length rows ≤ row → (met : List ℕ) (m : ℕ)
    → row_bit met m ≡ (row_bit met m || bit_at (bits_in rows stale) row m)
nothing_joined rows stale row past met m = either (row_bit met m) (bit_at (bits_in rows stale) row m) (row_empty rows stale row m (row_past rows row past))
  where
    either : (a b : Bool) → b ≡ false → a ≡ (a || b)
    either true b e = refl
    either false b e = sym e

-- ---- as a table has them

-- what holds whether there is memory or not
pub on_err_always : {T E P : Type 0} (r : Result T E) → P → OnErr r P
on_err_always (Ok x) p = tt
on_err_always (Err e) p = p

pub no_rows : (rows : List (Vec ℕ Global)) (stale : List ℕ) → rows ≡ [] → (n m : ℕ) → bit_at (bits_in rows stale) n m ≡ false
no_rows rows stale e n m =
    let none : length rows ≡ 0 = ap length e in
    row_empty rows stale n m (row_past rows n (omega arith))

pub no_rows_within : (rows : List (Vec ℕ Global)) (stale : List ℕ) → rows ≡ [] → stale ≡ [] → AreRowsWithin rows (length stale)
no_rows_within rows stale e none = record { each = each; few = let short : length stale ≡ 0 = ap length none in omega arith }
  where
    each : (n : ℕ) → length (words_at rows n) ≤ length stale
    each n =
        let none : length rows ≡ 0 = ap length e in
        let past : length rows ≤ n = omega arith in
        let short : length (words_at rows n) ≡ 0 = ap length (row_past rows n past) in
        omega arith
