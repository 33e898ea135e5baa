-- The nodes of the next world are those of the one before, begun anew
use Rattle.std.proofs.Common.{◌≡◌, ◌∙◌, ℕ, suc, ◌+◌, List, [], ◌∷◌, Option, Some, length, map, refl, sym, ap, arith}
use Rattle.std.specs.Prelude.{slice_get}
use Rattle.std.specs.List.{range_with_len}
use Rattle.roc_plan.specs.Groups.{Plan}
use Rattle.roc_step.specs.State.{ServerState, Viewing}
use Rattle.roc_step.specs.Renewed.{renewed, renewed_viewing}
use Rattle.roc_coord.specs.State.{CoordState}
use Rattle.roc_coord.specs.Renewed.{renewed_coord}
use Rattle.roc_rows.specs.Versions.{Counts}
use Rattle.roc_law_protocol.specs.Beginnings as protocol
use Rattle.roc_law_world.specs.World.{World, Beginning, begun_world, begun_viewing}
use Rattle.roc_law_world.specs.Run.{Stepped, IsRunFrom}
use Rattle.roc_law_world.specs.Fits.{FitsWorld}
use Rattle.roc_law_world.proofs.Numbered.{numbered}
use Rattle.roc_law_world.proofs.SameNodes.{run_count}
use Rattle.roc_two_files.specs.Left.{versions_in, left_behind}

-- each place of a list is made anew from its number
made_anew : {A : Type 0} (f : ℕ → A) (g : A → A) (xs : List A) (a : ℕ) → ((n : ℕ) (x : A) → slice_get xs n ≡ Some x → f (a + n) ≡ g x) → map f (range_with_len a (length xs)) ≡ map g xs
made_anew f g [] a h = refl
made_anew {A} f g (x ∷ xs) a h =
    let head : f a ≡ g x = ap f (none a) ∙ h 0 x refl in
    let tail = made_anew f g xs (a + 1) (λ n y e. ap f (next a n) ∙ h (suc n) y e) in
    let put : A → List A → List A = λ b bs. b ∷ bs in
    λ i. put (head i) (tail i)
  where
    none : (a : ℕ) → a ≡ a + 0
    none a = omega arith

    next : (a n : ℕ) → a + 1 + n ≡ a + suc n
    next a n = omega arith

module _ (plan grown : Plan) (b : Beginning) (coords : ℕ) (steps : List Stepped) (w : World) (run : IsRunFrom plan b coords steps w) (fits : FitsWorld plan w)
    (same : grown.program.shards ≡ plan.program.shards) where
  abbrev next : World
  next = begun_world grown (left_behind plan b w) coords

  zero_more : (n : ℕ) → 0 + n ≡ n
  zero_more n = omega arith

  abbrev with_shard : ServerState → ℕ → ServerState
  with_shard s n = record (renewed s) { shard = record { 0 = n } }

  pub servers_anew : next.servers ≡ map renewed w.servers
  servers_anew =
      ap (λ n. map (protocol.begun_server (left_behind plan b w).of_transactions) (range_with_len 0 n)) (same ∙ sym fits.shards)
      ∙ made_anew (protocol.begun_server (left_behind plan b w).of_transactions) renewed w.servers 0
      (λ n s at. ap (protocol.begun_server (left_behind plan b w).of_transactions) (zero_more n) ∙ one n s at)
    where
      one : (n : ℕ) (s : ServerState) → slice_get w.servers n ≡ Some s → protocol.begun_server (left_behind plan b w).of_transactions n ≡ renewed s
      one n s at =
          let made : Option ServerState → ServerState = λ o. record {
            shard = record { 0 = n };
            store = protocol.store_in (b.of_transactions.stores n) o;
            started = [];
            lists = (renewed s).lists;
            below = protocol.below_in (b.of_transactions.below n) o;
          } in
          ap made at ∙ ap (with_shard s) (sym (fits.numbers n s at))

  pub viewing_anew : next.viewing ≡ map renewed_viewing w.viewing
  viewing_anew =
      ap (λ n. map (begun_viewing (left_behind plan b w)) (range_with_len 0 n)) (same ∙ (sym fits.shards ∙ sym fits.each_views))
      ∙ made_anew (begun_viewing (left_behind plan b w)) renewed_viewing w.viewing 0 (λ n v at. ap (begun_viewing (left_behind plan b w)) (zero_more n) ∙ one n v at)
    where
      made : Counts → Viewing
      made versions = record { versions = versions; reads = [] }

      one : (n : ℕ) (v : Viewing) → slice_get w.viewing n ≡ Some v → begun_viewing (left_behind plan b w) n ≡ renewed_viewing v
      one n v at = ap (λ o. made (versions_in (b.versions n) o)) at

  pub coords_anew : next.coords ≡ map renewed_coord w.coords
  coords_anew =
      ap (λ n. map (protocol.begun_coord (left_behind plan b w).of_transactions) (range_with_len 0 n)) (sym (run_count plan b coords steps w run))
      ∙ made_anew (protocol.begun_coord (left_behind plan b w).of_transactions) renewed_coord w.coords 0
      (λ n c at. ap (protocol.begun_coord (left_behind plan b w).of_transactions) (zero_more n) ∙ one n c at)
    where
      made : ℕ → ℕ → CoordState
      made n next = record { number = n; next = next; pending = []; views = []; unanswered = [] }

      one : (n : ℕ) (c : CoordState) → slice_get w.coords n ≡ Some c → protocol.begun_coord (left_behind plan b w).of_transactions n ≡ renewed_coord c
      one n c at = ap (λ o. made n (protocol.next_in (b.of_transactions.nexts n) o)) at ∙ ap (λ k. made k c.next) (sym ((numbered plan b coords steps w run).numbers n c at))
