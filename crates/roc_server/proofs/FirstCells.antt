-- Start cells, line by line
use Rattle.std.proofs.Common.{◌≡◌, Bool, true, false, cond, List, ◌∷◌, filter, sym, ap, ◌∙◌}
use Rattle.roc_program.specs.Program.{Init}
use Rattle.roc_rows.specs.Store.{Store, write}
use Rattle.roc_whole.specs.Serial.{after_inits, init_cell}

module _ (p : Init → Bool) (store next all : Store) (x : Init) (xs left : List Init) (is : left ≡ x ∷ xs) (sofar : after_inits store (filter p left) ≡ all) where
  whole : after_inits store (filter p (x ∷ xs)) ≡ all
  whole = ap (λ ys. after_inits store (filter p ys)) (sym is) ∙ sofar

  -- a line that is set
  pub init_set : p x ≡ true → next ≡ write store (init_cell x) x.value → after_inits next (filter p xs) ≡ all
  init_set h e =
      ap (λ s. after_inits s (filter p xs)) e ∙ sym (ap (λ b. after_inits store (cond b (x ∷ filter p xs) (filter p xs))) h) ∙ whole

  -- a line of another shard
  pub init_left : p x ≡ false → next ≡ store → after_inits next (filter p xs) ≡ all
  init_left h e =
      ap (λ s. after_inits s (filter p xs)) e ∙ sym (ap (λ b. after_inits store (cond b (x ∷ filter p xs) (filter p xs))) h) ∙ whole
