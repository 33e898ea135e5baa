-- What a spawner started and awaited over several calls.
use Rattle.std.proofs.Common.{◌≡◌, ℕ, ◌+◌, ◌<◌, List, [], ◌∷◌, ◌++◌, length, map, get_or, take, sym, ◌∙◌, ap, subst, append_assoc, arith}
use Rattle.std.specs.Prelude.{Option}
use Rattle.std.specs.List.{take-map}
use Rattle.std.proofs.Math.Seq.{take-length}
use Rattle.std.proofs.lemmas.List.{map-append, length-map, take_more, length-take-le}
use Rattle.roc_io.specs.declared.spawner.AllStarted.{AllStarted}
use Rattle.roc_io.specs.declared.spawner.AllStarted.TheVariants.{Ok}
use Rattle.roc_io.specs.Observed.{Adds}
use Rattle.roc_io.specs.Spawner.{StartsAll, EndsStarts}
use Rattle.roc_io.specs.Start.{Start}
use Rattle.roc_io.proofs.Told.{Adds-trans}

-- where all were started, these are the words
all_words : {old new : Option (List Start)} {commands : List (List (List ℕ))} {before after : List ℕ}
    → (all : StartsAll Ok old new commands before after) → map (λ start. start.words) all.starts ≡ commands
all_words {commands = commands} all = all.words ∙ ap (λ n. take n commands) all.ends ∙ take-length commands

front : {C D : Type 0} (f : C → D) (commands : List C) (i : ℕ) → i < length commands → length (map f (take i commands)) ≡ i
front f commands i inside = length-map (take i commands) f ∙ length-take-le i commands (omega arith)

-- one more was started
pub StartsAll-next : {C : Type 0} (f : C → List (List ℕ)) (commands : List C) (i : ℕ) (item : C) (old mid new : Option (List Start)) (before between after : List ℕ) (child : ℕ)
    → i < length commands → item ≡ get_or commands i item → StartsAll Ok old mid (map f (take i commands)) before between
    → Adds mid new (record { child = child; words = f item } ∷ []) → after ≡ between ++ child ∷ []
    → StartsAll Ok old new (map f (take (i + 1) commands)) before after
StartsAll-next f commands i item old mid new before between after child inside is so_far adds e =
    let one : List Start = record { child = child; words = f item } ∷ [] in
    let next : map f (take (i + 1) commands) ≡ map f (take i commands) ++ f item ∷ [] =
    ap (map f) (take_more commands i item inside ∙ ap (λ y. take i commands ++ y ∷ []) (sym is)) ∙ map-append f (take i commands) (item ∷ []) in
    let words : map (λ start. start.words) (so_far.starts ++ one) ≡ map f (take (i + 1) commands) =
    map-append (λ (start : Start). start.words) so_far.starts one ∙ ap (λ l. l ++ f item ∷ []) (all_words so_far) ∙ sym next in
    let count : length (so_far.starts ++ one) ≡ length (map f (take (i + 1) commands)) =
    sym (length-map (so_far.starts ++ one) (λ (start : Start). start.words)) ∙ ap length words in
    record {
      starts = so_far.starts ++ one;
      told = Adds-trans old mid new so_far.starts one so_far.told adds;
      added = e ∙ ap (λ l. l ++ child ∷ []) so_far.added ∙ append_assoc before _ (child ∷ []) ∙ ap (λ l. before ++ l) (sym (map-append (λ (start : Start). start.child) so_far.starts one));
      words = words ∙ sym (ap (λ n. take n (map f (take (i + 1) commands))) count ∙ take-length _);
      ends = count;
    }

-- the starts end before the one at i
pub StartsAll-stop : {C : Type 0} (f : C → List (List ℕ)) (commands : List C) (i : ℕ) (end : AllStarted) (old mid new : Option (List Start)) (before between after : List ℕ)
    → i < length commands → EndsStarts end i (length (map f commands)) → StartsAll Ok old mid (map f (take i commands)) before between
    → new ≡ mid → after ≡ between → StartsAll end old new (map f commands) before after
StartsAll-stop f commands i end old mid new before between after inside ends so_far same_told same_list =
    let count : length so_far.starts ≡ i = so_far.ends ∙ front f commands i inside in
    record {
      starts = so_far.starts;
      told = subst (λ o. Adds old o so_far.starts) (sym same_told) so_far.told;
      added = same_list ∙ so_far.added;
      words = all_words so_far ∙ sym (take-map f i commands) ∙ ap (λ n. take n (map f commands)) (sym count);
      ends = subst (λ n. EndsStarts end n (length (map f commands))) (sym count) ends;
    }
