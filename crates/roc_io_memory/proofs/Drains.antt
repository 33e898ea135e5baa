-- What a drain took over several calls.
use Rattle.std.proofs.Common.{◌≡◌, ℕ, ◌+◌, List, [], ◌∷◌, ◌++◌, length, refl, sym, ◌∙◌, ap, append_assoc}
use Rattle.std.proofs.lemmas.List.{length-append}
use Rattle.std.specs.Prelude.{Option, Some, None, option_map}
use Rattle.roc_io.specs.Packet.{Packet}
use Rattle.roc_io_memory.specs.declared.callers.Drained.{Drained}
use Rattle.roc_io_memory.specs.declared.callers.Drained.TheVariants.{Turns}
use Rattle.roc_io_memory.specs.Callers.{Drains, EndsDrain}

-- a drain that ends where a turn takes nothing
pub Drains-stop : (end : Drained) (i turns : ℕ) (old mid new : Option (List Packet)) (before inside after : List Packet)
    → Drains Turns i old mid before inside → new ≡ mid → after ≡ inside → ((n : ℕ) → n ≡ i → EndsDrain end turns n new) → Drains end turns old new before after
Drains-stop end i turns old mid new before inside after so_far same kept ends = record {
  taken = so_far.taken;
  added = kept ∙ so_far.added;
  first = so_far.first ∙ ap (option_map (λ (left : List Packet). so_far.taken ++ left)) (sym same);
  ends = ends (length so_far.taken) so_far.ends;
}

moved : (taken : List Packet) (p : Packet) (new : Option (List Packet))
    → option_map (λ (left : List Packet). taken ++ left) (option_map (λ (left : List Packet). p ∷ left) new) ≡ option_map (λ (left : List Packet). (taken ++ p ∷ []) ++ left) new
moved taken p None = refl
moved taken p (Some left) = ap Some (sym (append_assoc taken (p ∷ []) left))

-- a drain after one more datagram
pub Drains-next : (i : ℕ) (old mid new : Option (List Packet)) (before inside after : List Packet) (p : Packet)
    → Drains Turns i old mid before inside → mid ≡ option_map (λ (left : List Packet). p ∷ left) new → after ≡ inside ++ p ∷ [] → Drains Turns (i + 1) old new before after
Drains-next i old mid new before inside after p so_far first added =
    let count : length so_far.taken ≡ i = so_far.ends in
    record {
      taken = so_far.taken ++ p ∷ [];
      added = added ∙ ap (λ (l : List Packet). l ++ p ∷ []) so_far.added ∙ append_assoc before so_far.taken (p ∷ []);
      first = so_far.first ∙ ap (option_map (λ (left : List Packet). so_far.taken ++ left)) first ∙ moved so_far.taken p new;
      ends = length-append so_far.taken (p ∷ []) ∙ ap (λ n. n + 1) count;
    }
