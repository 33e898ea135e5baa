-- Messages that are added one by one
use Rattle.std.proofs.Common.{◌≡◌, ℕ, ◌+◌, List, [], ◌∷◌, ◌++◌, length, map, sym, ap, ◌∙◌, append_assoc, append-nil}
use Rattle.std.specs.List.{range_with_len}
use Rattle.roc_msg.specs.declared.outbox.Outgoing.{Outgoing}
use Rattle.roc_two_files.specs.Sealed.{Sealed}

module _ (sealed : Outgoing → Sealed) (left rest : List Outgoing) (m : Outgoing) (is_left : left ≡ m ∷ rest) where
  pub sent_turn : (now new all : List Sealed) → new ≡ now ++ sealed m ∷ [] → now ++ map sealed left ≡ all → new ++ map sealed rest ≡ all
  sent_turn now new all is_new h = ap (λ xs. xs ++ map sealed rest) is_new ∙ (append_assoc now (sealed m ∷ []) (map sealed rest) ∙ (ap (λ ms. now ++ map sealed ms) (sym is_left) ∙ h))

  pub numbers_turn : (count more : ℕ) (numbers after all : List ℕ) → more ≡ count + 1 → after ≡ numbers ++ (count + 1) ∷ [] → numbers ++ range_with_len (count + 1) (length left) ≡ all → after ++ range_with_len (more + 1) (length rest) ≡ all
  numbers_turn count more numbers after all is_more is_after h =
      ap (λ ns. ns ++ range_with_len (more + 1) (length rest)) is_after
      ∙ (append_assoc numbers ((count + 1) ∷ []) (range_with_len (more + 1) (length rest))
      ∙ (ap (λ n. numbers ++ (count + 1) ∷ range_with_len (n + 1) (length rest)) is_more
      ∙ (ap (λ ms. numbers ++ range_with_len (count + 1) (length ms)) (sym is_left) ∙ h)))

-- and so all was sent, and has its number
pub all_sent : (sealed : Outgoing → Sealed) (left start messages : List Outgoing) (now old : List Sealed) → left ≡ [] → start ≡ messages → now ++ map sealed left ≡ old ++ map sealed start → now ≡ old ++ map sealed messages
all_sent sealed left start messages now old none is h = sym (append-nil now) ∙ (ap (λ ms. now ++ map sealed ms) (sym none) ∙ (h ∙ ap (λ ms. old ++ map sealed ms) is))

pub all_numbered : (left start messages : List Outgoing) (now old : List ℕ) (a b : ℕ) → left ≡ [] → start ≡ messages → now ++ range_with_len a (length left) ≡ old ++ range_with_len b (length start) → now ≡ old ++ range_with_len b (length messages)
all_numbered left start messages now old a b none is h = sym (append-nil now) ∙ (ap (λ ms. now ++ range_with_len a (length ms)) (sym none) ∙ (h ∙ ap (λ ms. old ++ range_with_len b (length ms)) is))
