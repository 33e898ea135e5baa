-- What of a network is of one file, as nodes send and messages come
use Rattle.std.proofs.Common.{◌≡◌, ◌≢◌, ◌↔◌, ◌∙◌, ℕ, suc, ◌+◌, ◌==◌, Bool, true, false, not, cond, List, [], ◌∷◌, ◌++◌, Some, length, map, refl, sym, ap, subst, append-nil}
use Rattle.std.proofs.lemmas.List.{length-map, map-append}
use Rattle.std.proofs.lemmas.Option.{slice_get-map}
use Rattle.std.proofs.lemmas.List.Elements.{filter-append}
use Rattle.std.specs.Prelude.{slice_get, Option, None, option_map}
use Rattle.std.specs.List.{filter, range_with_len}
use Rattle.roc_sequence.specs.Lists.{Has}
use Rattle.roc_sequence.proofs.Members.{from_has_map}
use Rattle.roc_base.specs.declared.node.Node.{Node}
use Rattle.roc_msg.specs.declared.msg.Envelope.{Envelope}
use Rattle.roc_msg.specs.declared.outbox.Outgoing.{Outgoing}
use Rattle.roc_law_protocol.specs.World.{sent_by}
use Rattle.roc_law_protocol.proofs.Rounds.{filter_none}
use Rattle.roc_law_protocol.proofs.Tells.{all_kept}
use Rattle.roc_law_world.specs.World.{World, sends, mark_delivered}
use Rattle.roc_law_world.proofs.Ranks.{rank_there, from_rank}
use Rattle.roc_law_world.proofs.RankedNumbers.{numbered_more, numbered_less, numbered_still}
use Rattle.roc_epoch.specs.declared.file.File.{File}
use Rattle.roc_epoch.specs.declared.file.File.TheVariants.{Neither}
use Rattle.roc_epoch.specs.Files.{is_between, own_file, is_file}
use Rattle.roc_epoch.proofs.Files.{same_file, other_file}
use Rattle.roc_two_files.specs.Sealed.{Sealed, is_of, of_file, sealed_by, place_in_file, numbers_behind, IsNetworkOf}

-- ---- what a node sends

-- each of these is of neither file, and none of them is
abbrev pub AreBetween : List Outgoing → Type 0
AreBetween outs = (out : Outgoing) → Has out outs → is_between out.msg ≡ true

abbrev pub AreNoneBetween : List Outgoing → Type 0
AreNoneBetween outs = (out : Outgoing) → Has out outs → is_between out.msg ≡ false

pub of_append : (f : File) (xs ys : List Sealed) → of_file f (xs ++ ys) ≡ of_file f xs ++ of_file f ys
of_append f xs ys = ap (map (λ (m : Sealed). m.message)) (filter-append (is_of f) xs ys) ∙ map-append (λ (m : Sealed). m.message) (filter (is_of f) xs) (filter (is_of f) ys)

module _ (switched : Bool) (from : Node) where
  abbrev sealed : List Outgoing → List Sealed
  sealed outs = map (sealed_by switched from) outs

  bare : (outs : List Outgoing) → map (λ (m : Sealed). m.message) (sealed outs) ≡ map (sent_by from) outs
  bare [] = refl
  bare (out ∷ outs) = ap (λ l. sent_by from out ∷ l) (bare outs)

  own_passes : (outs : List Outgoing) → AreNoneBetween outs → (m : Sealed) → Has m (sealed outs) → is_of (own_file switched) m ≡ true
  own_passes outs none m h =
      let q = from_has_map (sealed_by switched from) m outs h in
      ap (is_of (own_file switched)) q.2 ∙ (ap (λ b. is_file (own_file switched) (cond b Neither (own_file switched))) (none q.0 q.1) ∙ same_file (own_file switched))

  other_fails : (f : File) → f ≢ own_file switched → (outs : List Outgoing) → AreNoneBetween outs → (m : Sealed) → Has m (sealed outs) → is_of f m ≡ false
  other_fails f n outs none m h =
      let q = from_has_map (sealed_by switched from) m outs h in
      ap (is_of f) q.2 ∙ (ap (λ b. is_file f (cond b Neither (own_file switched))) (none q.0 q.1) ∙ other_file f (own_file switched) n)

  between_fails : (f : File) → f ≢ Neither → (outs : List Outgoing) → AreBetween outs → (m : Sealed) → Has m (sealed outs) → is_of f m ≡ false
  between_fails f n outs all m h =
      let q = from_has_map (sealed_by switched from) m outs h in
      ap (is_of f) q.2 ∙ (ap (λ b. is_file f (cond b Neither (own_file switched))) (all q.0 q.1) ∙ other_file f Neither n)

  some_file : own_file switched ≢ Neither
  some_file = go switched
    where
      go : (b : Bool) → own_file b ≢ Neither
      go true e = absurd (cc)
      go false e = absurd (cc)

  -- behind what its file's node sends stands what is of neither file: of its file is the first alone
  pub own_sent : (outs more : List Outgoing) → AreNoneBetween outs → AreBetween more → of_file (own_file switched) (sealed (outs ++ more)) ≡ map (sent_by from) outs
  own_sent outs more none all =
      ap (of_file (own_file switched)) (map-append (sealed_by switched from) outs more)
      ∙ (of_append (own_file switched) (sealed outs) (sealed more)
      ∙ (λ i. map (λ (m : Sealed). m.message) (own i) ++ map (λ (m : Sealed). m.message) (other i))
      ∙ (append-nil (map (λ (m : Sealed). m.message) (sealed outs)) ∙ bare outs))
    where
      own : filter (is_of (own_file switched)) (sealed outs) ≡ sealed outs
      own = all_kept (is_of (own_file switched)) (sealed outs) (own_passes outs none)

      other : filter (is_of (own_file switched)) (sealed more) ≡ []
      other = filter_none (is_of (own_file switched)) (sealed more) (between_fails (own_file switched) some_file more all)

  -- and of the other file there is nothing
  pub other_sent : (f : File) → f ≢ own_file switched → f ≢ Neither → (outs more : List Outgoing) → AreNoneBetween outs → AreBetween more → of_file f (sealed (outs ++ more)) ≡ []
  other_sent f n k outs more none all =
      ap (of_file f) (map-append (sealed_by switched from) outs more)
      ∙ (of_append f (sealed outs) (sealed more)
      ∙ (λ i. map (λ (m : Sealed). m.message) (own i) ++ map (λ (m : Sealed). m.message) (other i)))
    where
      own : filter (is_of f) (sealed outs) ≡ []
      own = filter_none (is_of f) (sealed outs) (other_fails f n outs none)

      other : filter (is_of f) (sealed more) ≡ []
      other = filter_none (is_of f) (sealed more) (between_fails f k more all)

-- ---- networks

module _ (f : File) (sent : List Sealed) (undelivered : List ℕ) (w : World) (o : IsNetworkOf f sent undelivered w) where
  count : length (filter (is_of f) sent) ≡ length w.sent
  count = sym (ap length o.messages ∙ length-map (filter (is_of f) sent) (λ (m : Sealed). m.message))

  -- nodes send what is of the file, so, and other things
  pub grows : (from : Node) (more : List Sealed) (own : List Outgoing) → of_file f more ≡ map (sent_by from) own
      → IsNetworkOf f (sent ++ more) (undelivered ++ numbers_behind sent (length more)) (sends w from own)
  grows from more own of =
      record {
        messages = ap (λ l. l ++ map (sent_by from) own) o.messages ∙ (ap (λ l. of_file f sent ++ l) (sym of) ∙ sym (of_append f sent more));
        numbers = λ k m there is.
            (let r = numbered_more (is_of f) sent more undelivered w.undelivered o.numbers k m there is in
            subst (λ l. Has (suc k) (undelivered ++ numbers_behind sent (length more)) ↔ Has (suc (place_in_file f (sent ++ more) k)) (w.undelivered ++ l)) ranges r);
      }
    where
      few : length (filter (is_of f) more) ≡ length own
      few = sym (length-map (filter (is_of f) more) (λ (m : Sealed). m.message)) ∙ (ap length of ∙ length-map own (sent_by from))

      ranges : range_with_len (length (filter (is_of f) sent) + 1) (length (filter (is_of f) more)) ≡ range_with_len (length w.sent + 1) (length own)
      ranges = λ i. range_with_len (count i + 1) (few i)

  -- what is sent is of no message of the file
  pub stays : (more : List Sealed) → of_file f more ≡ [] → IsNetworkOf f (sent ++ more) (undelivered ++ numbers_behind sent (length more)) w
  stays more none =
      record {
        messages = o.messages ∙ (sym (append-nil (of_file f sent)) ∙ (ap (λ l. of_file f sent ++ l) (sym none) ∙ sym (of_append f sent more)));
        numbers = λ k m there is.
            (let r = numbered_more (is_of f) sent more undelivered w.undelivered o.numbers k m there is in
            subst (λ l. Has (suc k) (undelivered ++ numbers_behind sent (length more)) ↔ Has (suc (place_in_file f (sent ++ more) k)) l)
            (ap (λ n. w.undelivered ++ range_with_len (length (filter (is_of f) sent) + 1) n) nothing ∙ append-nil w.undelivered) r);
      }
    where
      nothing : length (filter (is_of f) more) ≡ 0
      nothing = sym (length-map (filter (is_of f) more) (λ (m : Sealed). m.message)) ∙ ap length none

  -- a message of the file comes
  pub comes : (k : ℕ) (m : Sealed) → slice_get sent k ≡ Some m → is_of f m ≡ true
      → IsNetworkOf f sent (filter (λ n. not (n == suc k)) undelivered) (mark_delivered w (suc (place_in_file f sent k)))
  comes k m at is = record { messages = o.messages; numbers = numbered_less (is_of f) sent undelivered w.undelivered k m at is o.numbers }

  -- another one comes
  pub passes_by : (k : ℕ) (m : Sealed) → slice_get sent k ≡ Some m → is_of f m ≡ false → IsNetworkOf f sent (filter (λ n. not (n == suc k)) undelivered) w
  passes_by k m at is = record { messages = o.messages; numbers = numbered_still (is_of f) sent undelivered w.undelivered k m at is o.numbers }

  -- a message of the file has its place in the world
  pub there : (k : ℕ) (m : Sealed) → slice_get sent k ≡ Some m → is_of f m ≡ true → slice_get w.sent (place_in_file f sent k) ≡ Some m.message
  there k m at is =
      ap (λ l. slice_get l (place_in_file f sent k)) o.messages
      ∙ get-map (filter (is_of f) sent) (place_in_file f sent k) m (rank_there (is_of f) sent k m at is)
    where
      get-map : (xs : List Sealed) (i : ℕ) (x : Sealed) → slice_get xs i ≡ Some x → slice_get (map (λ (m : Sealed). m.message) xs) i ≡ Some x.message
      get-map xs i x e = slice_get-map (λ (m : Sealed). m.message) xs i ∙ ap (option_map (λ (m : Sealed). m.message)) e

  -- and each message of the world is one of them
  pub from_there : (i : ℕ) (m : Envelope) → slice_get w.sent i ≡ Some m
      → (k : ℕ) × (x : Sealed) × (slice_get sent k ≡ Some x) × (is_of f x ≡ true) × (x.message ≡ m) × (place_in_file f sent k ≡ i)
  from_there i m at =
      let q = from-map (filter (is_of f) sent) i (subst (λ l. slice_get l i ≡ Some m) o.messages at) in
      let r = from_rank (is_of f) sent i q.0 q.1 in
      (r.0, q.0, r.1, r.2, q.2, r.3)
    where
      from-map : (xs : List Sealed) (i : ℕ) → slice_get (map (λ (m : Sealed). m.message) xs) i ≡ Some m → (x : Sealed) × (slice_get xs i ≡ Some x) × (x.message ≡ m)
      from-map xs i e = go (slice_get xs i) refl (sym (slice_get-map (λ (m : Sealed). m.message) xs i) ∙ e)
        where
          go : (o : Option Sealed) → slice_get xs i ≡ o → option_map (λ (m : Sealed). m.message) o ≡ Some m → (x : Sealed) × (slice_get xs i ≡ Some x) × (x.message ≡ m)
          go None at is = absurd (cc)
          go (Some x) at is = (x, at, cc)
