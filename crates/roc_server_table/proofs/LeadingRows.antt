-- Which rows lead to which as rows change, and the bits that say so
use Rattle.std.proofs.Common.{◌≡◌, ◌≢◌, ◌<◌, ◌+◌, inl, inr, ℕ, Bool, true, false, cond, List, [], ◌∷◌, ◌++◌, length, take, get_or, map, filter, Some, refl, sym, ap, ◌∙◌, subst, arith}
use Rattle.std.proofs.lemmas.Bool.{false≢true, cases_eq}
use Rattle.std.proofs.lemmas.Bool.Decides.{nat_tests}
use Rattle.std.specs.Prelude.{nat_eq}
use Rattle.roc_sequence.specs.Lists.{Has}
use Rattle.roc_sequence.specs.Places.{is_listed}
use Rattle.roc_sequence.proofs.Fronts.{front_more}
use Rattle.roc_sequence.proofs.Members.{from_has_filter, from_has_map, has_filter, has_map}
use Rattle.roc_server_reach.specs.Bits.{bit_at, AreSameBits, BitTable, IsColumnCleared, IsEnded, IsPut, IsRowCleared}
use Rattle.roc_server_reach.proofs.Numbers.{has_named, named_has}
use Rattle.roc_server_rows.specs.declared.rows.Link.{Link}
use Rattle.roc_server_rows.specs.declared.rows.Row.{Row}
use Rattle.roc_server_rows.specs.declared.rows.Parts.{Parts}
use Rattle.roc_server_rows.specs.Rows.{row_in, is_alive, is_told, Grows, AreWhole}
use Rattle.roc_server_rows.specs.Except.{is_except, rows_but}
use Rattle.roc_server_rows.specs.Marks.{IsLearnt, IsOut, IsTakenBack}
use Rattle.roc_server_table.specs.Inner.Leading.{live_numbers, AreBits, LeadsBut, LeadsTo}
use Rattle.roc_server_rows.proofs.Excepted.{alive_but, but_has, has_but, told_but}
use Rattle.roc_server_rows.proofs.KeptMarks.{born_link}
use Rattle.roc_server_rows.proofs.Alive.{told_live}

pub same_bits : (rows : List Row) (bits bits2 : BitTable) → AreBits rows bits → AreSameBits bits bits2 → AreBits rows bits2
same_bits rows bits bits2 a same = record { only = λ n m b. a.only n m (sym (same n m) ∙ b); all = λ n m x. same n m ∙ a.all n m x }

pub live_more : (rows : List Row) (ls : List Link) (i : ℕ) (l : Link) (old new : List ℕ) → i < length ls → l ≡ get_or ls i l → old ≡ live_numbers rows (take i ls)
    → new ≡ old ++ cond (is_alive rows l) (l.at ∷ []) []
    → new ≡ live_numbers rows (take (i + 1) ls)
live_more rows ls i l old new within is so_far e =
    e ∙ (ap (λ ns. ns ++ cond (is_alive rows l) (l.at ∷ []) []) so_far ∙ (sym (both (take i ls)) ∙ ap (live_numbers rows) (front_more ls i l within is)))
  where
    both : (xs : List Link) → live_numbers rows (xs ++ l ∷ []) ≡ live_numbers rows xs ++ cond (is_alive rows l) (l.at ∷ []) []
    both [] = elim (is_alive rows l) as (λ b. map (λ (x : Link). x.at) (cond b (l ∷ []) []) ≡ cond b (l.at ∷ []) []) [ true ↦ refl | false ↦ refl ]
    both (x ∷ xs) = go (is_alive rows x) (both xs)
      where
        go : (b : Bool) → live_numbers rows (xs ++ l ∷ []) ≡ live_numbers rows xs ++ cond (is_alive rows l) (l.at ∷ []) []
            → map (λ (y : Link). y.at) (cond b (x ∷ filter (is_alive rows) (xs ++ l ∷ [])) (filter (is_alive rows) (xs ++ l ∷ [])))
            ≡ map (λ (y : Link). y.at) (cond b (x ∷ filter (is_alive rows) xs) (filter (is_alive rows) xs)) ++ cond (is_alive rows l) (l.at ∷ []) []
        go true ih = ap (λ ns. x.at ∷ ns) ih
        go false ih = ih

-- a row that leads as it did
module _ (old new : List Row) (n : ℕ) (row : row_in new n ≡ row_in old n) where
  pub stays_leading : (m : ℕ) (x : LeadsTo old n m) → is_alive new x.link ≡ true → LeadsTo new n m
  stays_leading m x alive = record { told = ap is_told row ∙ x.told; link = x.link; has = subst (λ (r : Row). Has x.link r.names) (sym row) x.has; alive = alive; is = x.is }

  pub was_leading : (m : ℕ) (x : LeadsTo new n m) → is_alive old x.link ≡ true → LeadsTo old n m
  was_leading m x alive = record { told = ap is_told (sym row) ∙ x.told; link = x.link; has = subst (λ (r : Row). Has x.link r.names) row x.has; alive = alive; is = x.is }

-- ---- rows come

module _ (p : Parts) (new : List Row) (stamp : ℕ) (t : AreWhole p) (g : Grows p.rows.items new p.stamp stamp) where
  abbrev old : List Row
  old = p.rows.items

  born : (n : ℕ) (l : Link) → Has l (row_in old n).names → l.birth < p.stamp
  born n l has = born_link old p.stamp (row_in old n).edges (row_in old n).names (t.names n) l has

  pub grow_bits : (bits : BitTable) → AreBits old bits → AreBits new bits
  grow_bits bits a =
      record {
        only = λ n m b.
            let x = a.only n m b in
            stays_leading old new n (g.rows n (told_live p.numbers.entries old p.stamp t n x.told)) m x (g.links x.link (born n x.link x.has) ∙ x.alive);
        all = λ n m x.
            let row : row_in new n ≡ row_in old n = g.told n x.told in
            let has : Has x.link (row_in old n).names = subst (λ (r : Row). Has x.link r.names) row x.has in
            a.all n m (was_leading old new n row m x (sym (g.links x.link (born n x.link has)) ∙ x.alive));
      }

-- ---- a row gets its list

module _ (p q : Parts) (at : ℕ) (l : IsLearnt p q at) (t : AreWhole p) where
  abbrev new : List Row
  new = q.rows.items

  mid_bits : (bits : BitTable) → AreBits p.rows.items bits → AreBits l.mid bits
  mid_bits = grow_bits p l.mid l.stamp t l.grows

  -- the others lead as they did
  from_mid : (n m : ℕ) → LeadsTo l.mid n m → (n ≢ at) × LeadsTo new n m
  from_mid n m x =
      let other : n ≢ at = λ e. false≢true (sym l.told.untold ∙ (ap (λ j. is_told (row_in l.mid j)) (sym e) ∙ x.told)) in
      (other, stays_leading l.mid new n (l.told.others n other) m x (l.told.links x.link ∙ x.alive))

  to_mid : (n m : ℕ) → n ≢ at → LeadsTo new n m → LeadsTo l.mid n m
  to_mid n m d x = was_leading l.mid new n (l.told.others n d) m x (sym (l.told.links x.link) ∙ x.alive)

  live_named : (m : ℕ) → is_listed nat_eq (live_numbers new (row_in new at).names) m ≡ true → LeadsTo new at m
  live_named m h =
      let names = (row_in new at).names in
      let w = from_has_map (λ (x : Link). x.at) m (filter (is_alive new) names) (named_has (live_numbers new names) m h) in
      let k = from_has_filter (is_alive new) w.0 names w.1 in
      record { told = l.told.told; link = w.0; has = k.0; alive = k.1; is = sym w.2 }

  named_live : (m : ℕ) → LeadsTo new at m → is_listed nat_eq (live_numbers new (row_in new at).names) m ≡ true
  named_live m x =
      let names = (row_in new at).names in
      has_named (live_numbers new names) m
      (subst (λ j. Has j (live_numbers new names)) x.is (has_map (λ (y : Link). y.at) x.link (filter (is_alive new) names) (has_filter (is_alive new) x.link names x.has x.alive)))

  pub learnt_bits : (bits bits2 : BitTable) → AreBits p.rows.items bits → IsPut at (live_numbers new (row_in new at).names) bits bits2 → AreBits new bits2
  learnt_bits bits bits2 a put =
      let mid = mid_bits bits a in
      record {
        only = λ n m b. elim (cases_eq n at) [
          | inl e ↦ subst (λ j. LeadsTo new j m) (sym e) (live_named m (sym (put.own m) ∙ (ap (λ j. bit_at bits2 j m) (sym e) ∙ b)))
          | inr d ↦ (from_mid n m (mid.only n m (sym (put.others n m d) ∙ b))).1
        ];
        all = λ n m x. elim (cases_eq n at) [
          | inl e ↦ ap (λ j. bit_at bits2 j m) e ∙ (put.own m ∙ named_live m (subst (λ j. LeadsTo new j m) e x))
          | inr d ↦ put.others n m d ∙ mid.all n m (to_mid n m d x)
        ];
      }

  -- or loses it again
  pub unlearnt_bits : (last : List Row) (bits : BitTable) → IsTakenBack at new last → AreBits p.rows.items bits → AreBits last bits
  unlearnt_bits last bits b a =
      let mid = mid_bits bits a in
      record {
        only = λ n m h.
            let x = from_mid n m (mid.only n m h) in
            stays_leading new last n (b.others n x.0) m x.1 (b.links x.1.link ∙ x.1.alive);
        all = λ n m x.
            let other : n ≢ at = λ e. false≢true (sym b.own ∙ (ap (λ j. is_told (row_in last j)) (sym e) ∙ x.told)) in
            mid.all n m (to_mid n m other (was_leading new last n (b.others n other) m x (sym (b.links x.link) ∙ x.alive)));
      }

-- ---- a row loses its list

module _ (n : ℕ) (old new : List Row) (b : IsTakenBack n old new) where
  back_other : (k m : ℕ) → LeadsTo new k m → k ≢ n
  back_other k m x e = false≢true (sym b.own ∙ (ap (λ j. is_told (row_in new j)) (sym e) ∙ x.told))

  pub back_bits : (bits bits2 : BitTable) → AreBits old bits → IsRowCleared n bits bits2 → AreBits new bits2
  back_bits bits bits2 a cleared =
      record {
        only = λ k m h. elim (cases_eq k n) [
          | inl e ↦ absurd (false≢true (sym (cleared.own m) ∙ (ap (λ j. bit_at bits2 j m) (sym e) ∙ h)))
          | inr d ↦ (let x = a.only k m (sym (cleared.others k m d) ∙ h) in stays_leading old new k (b.others k d) m x (b.links x.link ∙ x.alive))
        ];
        all = λ k m x.
            let d = back_other k m x in
            cleared.others k m d ∙ a.all k m (was_leading old new k (b.others k d) m x (sym (b.links x.link) ∙ x.alive));
      }

-- ---- a row ends

module _ (n : ℕ) (old new : List Row) (o : IsOut n old new) where
  out_other : (k m : ℕ) → LeadsTo new k m → k ≢ n
  out_other k m x e = false≢true (sym o.own ∙ (ap (λ j. is_told (row_in new j)) (sym e) ∙ x.told))

  out_past : (k m : ℕ) (x : LeadsTo new k m) → x.link.at ≢ n
  out_past k m x e = false≢true (sym (o.dead x.link e) ∙ x.alive)

  out_old : (k m : ℕ) → LeadsTo new k m → LeadsTo old k m
  out_old k m x = was_leading old new k (o.others k (out_other k m x)) m x (sym (o.links x.link (out_past k m x)) ∙ x.alive)

  out_new : (k m : ℕ) → k ≢ n → m ≢ n → LeadsTo old k m → LeadsTo new k m
  out_new k m d f x = stays_leading old new k (o.others k d) m x (o.links x.link (λ e. f (sym x.is ∙ e)) ∙ x.alive)

  pub out_bits : (bits bits2 : BitTable) → AreBits old bits → IsEnded n bits bits2 → AreBits new bits2
  out_bits bits bits2 a ends =
      record {
        only = λ k m h. elim (cases_eq k n) [
          | inl e ↦ absurd (false≢true (sym (ends.row m) ∙ (ap (λ j. bit_at bits2 j m) (sym e) ∙ h)))
          | inr d ↦ elim (cases_eq m n) [
            | inl e ↦ absurd (false≢true (sym (ends.column k) ∙ (ap (bit_at bits2 k) (sym e) ∙ h)))
            | inr f ↦ out_new k m d f (a.only k m (sym (ends.others k m d f) ∙ h))
          ]
        ];
        all = λ k m x.
            let d = out_other k m x in
            let f : m ≢ n = λ e. out_past k m x (x.is ∙ e) in
            ends.others k m d f ∙ a.all k m (out_old k m x);
      }

  pub out_but : is_told (row_in old n) ≡ false → LeadsBut n old new
  out_but untold =
      record {
        only = λ k m x. (λ e. out_past k m x (x.is ∙ e), out_old k m x);
        all = λ k m f x. out_new k m (λ e. false≢true (sym untold ∙ (ap (λ j. is_told (row_in old j)) (sym e) ∙ x.told))) f x;
      }

-- ---- the links to a row are done

past_number : (n m : ℕ) → is_except (Some n) m ≡ false → m ≢ n
past_number n m h e = grind (arith, nat_tests)

number_past : (n m : ℕ) → m ≢ n → is_except (Some n) m ≡ false
number_past n m d = grind (arith, nat_tests)

pub cut_but : (n : ℕ) (old new : List Row) → new ≡ rows_but (Some n) old → LeadsBut n old new
cut_but n old new is =
    subst (LeadsBut n old) (sym is)
    (record {
      only = λ k m x.
          let w = has_but (Some n) old k x.link x.has x.alive in
          (λ e. past_number n x.link.at w.2 (x.is ∙ e), record { told = sym (told_but (Some n) old k) ∙ x.told; link = x.link; has = w.0; alive = w.1; is = x.is });
      all = λ k m f x. record {
        told = told_but (Some n) old k ∙ x.told;
        link = x.link;
        has = but_has (Some n) old k x.link x.has (number_past n x.link.at (λ e. f (sym x.is ∙ e)));
        alive = alive_but (Some n) old x.link ∙ x.alive;
        is = x.is;
      };
    })

pub but_bits : (n : ℕ) (old new : List Row) (bits bits2 : BitTable) → LeadsBut n old new → AreBits old bits → IsColumnCleared n bits bits2 → AreBits new bits2
but_bits n old new bits bits2 b a cleared =
    record {
      only = λ k m h. elim (cases_eq m n) [
        | inl e ↦ absurd (false≢true (sym (cleared.own k) ∙ (ap (bit_at bits2 k) (sym e) ∙ h)))
        | inr d ↦ b.all k m d (a.only k m (sym (cleared.others k m d) ∙ h))
      ];
      all = λ k m x. let w = b.only k m x in cleared.others k m w.0 ∙ a.all k m w.1;
    }
