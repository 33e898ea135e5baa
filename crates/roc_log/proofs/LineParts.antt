-- The lines of a text are its parts, but for an empty last one.
use Rattle.std.proofs.Common.{◌≡◌, ℕ, zero, suc, ◌+◌, Bool, true, false, cond, List, [], ◌∷◌, ◌++◌, length, take, refl, sym, ap, ◌∙◌}
use Rattle.std.proofs.lemmas.List.{map-append}
use Rattle.std.specs.Borrow.{Bor}
use Rattle.roc_sched.specs.Lines.{is_empty, parts_of}
use Rattle.roc_log.specs.Words.{without_empty_last, log_lines}
use Rattle.roc_log.specs.Inner.Given.{views}

-- the last part decides
pub last_decides : (front : List (List ℕ)) (last : List ℕ) → without_empty_last (front ++ last ∷ []) ≡ cond (is_empty last) front (front ++ last ∷ [])
last_decides [] last = refl
last_decides (part ∷ []) last = go (is_empty last)
  where
    go : (b : Bool) → part ∷ cond b [] (last ∷ []) ≡ cond b (part ∷ []) (part ∷ last ∷ [])
    go true = refl
    go false = refl
last_decides (part ∷ next ∷ front) last = ap (λ ps. part ∷ ps) (last_decides (next ∷ front) last) ∙ go (is_empty last)
  where
    go : (b : Bool) → part ∷ cond b (next ∷ front) ((next ∷ front) ++ last ∷ []) ≡ cond b (part ∷ next ∷ front) ((part ∷ next ∷ front) ++ last ∷ [])
    go true = refl
    go false = refl

take_front : (front behind : List (List ℕ)) → take (length front) (front ++ behind) ≡ front
take_front [] behind = refl
take_front (part ∷ front) behind = ap (λ ps. part ∷ ps) (take_front front behind)

take_whole : (parts : List (List ℕ)) → take (length parts) parts ≡ parts
take_whole [] = refl
take_whole (part ∷ parts) = ap (λ ps. part ∷ ps) (take_whole parts)

length_views : (parts : List (Bor (List ℕ))) → length (views parts) ≡ length parts
length_views [] = refl
length_views (part ∷ parts) = ap suc (length_views parts)

module _ (front : List (Bor (List ℕ))) (last : Bor (List ℕ)) where
  seen : views (front ++ last ∷ []) ≡ views front ++ last.now ∷ []
  seen = map-append (λ (part : Bor (List ℕ)). part.now) front (last ∷ [])

  pub empty_last : is_empty last.now ≡ true → take (length front) (views (front ++ last ∷ [])) ≡ without_empty_last (views (front ++ last ∷ []))
  empty_last e =
      ap (take (length front)) seen
      ∙ ap (λ n. take n (views front ++ last.now ∷ [])) (sym (length_views front))
      ∙ take_front (views front) (last.now ∷ [])
      ∙ sym (ap without_empty_last seen ∙ last_decides (views front) last.now ∙ ap (λ b. cond b (views front) (views front ++ last.now ∷ [])) e)

  pub full_last : is_empty last.now ≡ false → take (length (front ++ last ∷ [])) (views (front ++ last ∷ [])) ≡ without_empty_last (views (front ++ last ∷ []))
  full_last e =
      ap (λ n. take n (views (front ++ last ∷ []))) (sym (length_views (front ++ last ∷ [])))
      ∙ take_whole (views (front ++ last ∷ []))
      ∙ seen
      ∙ sym (ap without_empty_last seen ∙ last_decides (views front) last.now ∙ ap (λ b. cond b (views front) (views front ++ last.now ∷ [])) e)

-- ---- the first parts

pub take_views : (n : ℕ) (parts : List (Bor (List ℕ))) → views (take n parts) ≡ take n (views parts)
take_views zero parts = refl
take_views (suc n) [] = refl
take_views (suc n) (part ∷ parts) = ap (λ ps. part.now ∷ ps) (take_views n parts)

-- as many of the parts of a text as are lines
pub lines_counted : (text : List ℕ) (n : ℕ) (lent counted parts : List (Bor (List ℕ))) → lent ≡ parts → counted ≡ parts → views parts ≡ parts_of 10 text
    → take n (views counted) ≡ without_empty_last (views counted) → views (take n lent) ≡ log_lines text
unfolding log_lines
lines_counted text n lent counted parts same also are count =
    take_views n lent
    ∙ ap (λ (ps : List (Bor (List ℕ))). take n (views ps)) (same ∙ sym also)
    ∙ count
    ∙ ap without_empty_last (ap views also ∙ are)
