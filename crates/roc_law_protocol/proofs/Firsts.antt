-- Where runs begin
use Rattle.std.proofs.Common.{◌≡◌, ◌≢◌, ◌≤◌, ℕ, zero, suc, ◌+◌, ◌==◌, Bool, true, false, cond, List, [], ◌∷◌, Some, map, refl, sym, ap, subst, ◌∙◌, inl, inr, arith}
use Rattle.std.proofs.lemmas.Bool.{false≢true, eq-eqb, eqb-true}
use Rattle.std.specs.Prelude.{slice_get, filter}
use Rattle.std.specs.List.{range_with_len}
use Rattle.roc_base.specs.declared.id.TxnId.{TxnId}
use Rattle.roc_rows.specs.declared.cell.Cell.{Cell}
use Rattle.roc_rows.specs.Store.{Store, read, write, empty}
use Rattle.roc_rows.specs.Cells.{is_cell}
use Rattle.roc_rows.proofs.CellLaws.{is_cell-true, is_cell-false}
use Rattle.roc_program.specs.Program.{Init}
use Rattle.roc_plan.specs.Groups.{Plan, shard_of}
use Rattle.roc_whole.specs.Serial.{after_inits, init_cell}
use Rattle.roc_whole.specs.Serial as whole
use Rattle.roc_law_log.specs.Scheme.{Scheme}
use Rattle.roc_law_log.specs.Log.{first_log}
use Rattle.roc_law_log.specs.Steps.{no_steps}
use Rattle.roc_coord.specs.State.{CoordState}
use Rattle.roc_coord.specs.Submit.{most_transactions}
use Rattle.roc_law_protocol.specs.PlanAssumptions.{IsSchemeOf}
use Rattle.roc_law_protocol.specs.Beginnings.{Beginning, IsBeginning, begun_server, begun_coord, begun_world, first_beginning}
use Rattle.roc_law_protocol.proofs.Means.{ServerMeans, CoordMeans, WorldMeans}
use Rattle.roc_law_protocol.specs.Inner.Given.{StoreLaws}
use Rattle.roc_law_protocol.proofs.Submissions.{AreSubmissions}
use Rattle.roc_law_protocol.proofs.Marks.{none_ended}

-- each of numbered things
pub found_at : {A : Type 0} (f : ℕ → A) (a n number : ℕ) (x : A) → slice_get (map f (range_with_len a n)) number ≡ Some x → x ≡ f (a + number)
found_at f a zero number x e = absurd (cc)
found_at f a (suc n) zero x e = let same : a + 0 ≡ a = omega arith in let is : f a ≡ x = cc in sym is ∙ ap f (sym same)
found_at f a (suc n) (suc number) x e = let same : (a + 1) + number ≡ a + suc number = omega arith in found_at f (a + 1) n number x e ∙ ap f same

module _ (laws : StoreLaws) (plan : Plan) (n : ℕ) where
  -- a shard's start cells are those of its places
  pub start_cells : (inits : List Init) (s t : Store) (x : Cell) → shard_of plan x.place ≡ n → read s x ≡ read t x → read (after_inits s (filter (λ i. shard_of plan i.place == n) inits)) x ≡ read (after_inits t inits) x
  start_cells [] s t x e h = h
  start_cells (i ∷ inits) s t x e h = go (shard_of plan i.place == n) refl (start_cells inits)
    where
      written : (s t : Store) → read s x ≡ read t x → read (write s (init_cell i) i.value) x ≡ read (write t (init_cell i) i.value) x
      written s t h = two (is_cell (init_cell i) x) refl
        where
          two : (b : Bool) → is_cell (init_cell i) x ≡ b → read (write s (init_cell i) i.value) x ≡ read (write t (init_cell i) i.value) x
          two true f = subst (λ y. read (write s (init_cell i) i.value) y ≡ read (write t (init_cell i) i.value) y) (is_cell-true (init_cell i) x f) (laws.same s (init_cell i) i.value ∙ sym (laws.same t (init_cell i) i.value))
          two false f = laws.other s (init_cell i) i.value x (is_cell-false (init_cell i) x f) ∙ (h ∙ sym (laws.other t (init_cell i) i.value x (is_cell-false (init_cell i) x f)))

      go : (b : Bool) → shard_of plan i.place == n ≡ b → ((s t : Store) (x : Cell) → shard_of plan x.place ≡ n → read s x ≡ read t x → read (after_inits s (filter (λ i. shard_of plan i.place == n) inits)) x ≡ read (after_inits t inits) x)
          → read (after_inits s (cond b (i ∷ filter (λ i. shard_of plan i.place == n) inits) (filter (λ i. shard_of plan i.place == n) inits))) x ≡ read (after_inits t (i ∷ inits)) x
      go true f ih = ih (write s (init_cell i) i.value) (write t (init_cell i) i.value) x e (written s t h)
      go false f ih = ih s (write t (init_cell i) i.value) x e (h ∙ sym (laws.other t (init_cell i) i.value x (λ k. false≢true (sym f ∙ eq-eqb (shard_of plan i.place) n (ap (λ (c : Cell). shard_of plan c.place) k ∙ e)))))

module _ (laws : StoreLaws) (plan : Plan) (n : ℕ) where
  -- and those of other places are 0
  pub start_elsewhere : (inits : List Init) (s : Store) (x : Cell) → shard_of plan x.place ≢ n → read (after_inits s (filter (λ i. shard_of plan i.place == n) inits)) x ≡ read s x
  start_elsewhere [] s x apart = refl
  start_elsewhere (i ∷ inits) s x apart = go (shard_of plan i.place == n) refl (start_elsewhere inits)
    where
      go : (b : Bool) → shard_of plan i.place == n ≡ b → ((s : Store) (x : Cell) → shard_of plan x.place ≢ n → read (after_inits s (filter (λ i. shard_of plan i.place == n) inits)) x ≡ read s x)
          → read (after_inits s (cond b (i ∷ filter (λ i. shard_of plan i.place == n) inits) (filter (λ i. shard_of plan i.place == n) inits))) x ≡ read s x
      go true f ih = ih (write s (init_cell i) i.value) x apart ∙ laws.other s (init_cell i) i.value x (λ k. apart (ap (λ (c : Cell). shard_of plan c.place) (sym k) ∙ eqb-true (shard_of plan i.place) n f))
      go false f ih = ih s x apart

-- the first world begins so
pub first_begins : StoreLaws → (plan : Plan) → IsBeginning plan (first_beginning plan)
first_begins laws plan =
    record {
      cells = λ n x e. start_cells laws plan n plan.program.inits empty empty x e refl;
      elsewhere = λ n x apart. start_elsewhere laws plan n plan.program.inits empty x apart ∙ laws.zero x;
      marks = λ n. refl;
      ended = λ n t h. absurd (false≢true (sym (none_ended t) ∙ h));
      few = λ coord. let l : 0 ≤ most_transactions = omega arith in l;
    }

module _ (plan : Plan) (asked : TxnId → whole.Call) (S : Scheme) (start : Beginning) (is : IsSchemeOf plan asked S) (begins : IsBeginning plan start) (coords : ℕ) where
  begun_server_means : (n : ℕ) → ServerMeans plan asked S start first_log n (begun_server start n)
  begun_server_means n =
      record {
        number = refl;
        groups = record { entries = λ e h. absurd h; finds = λ r h p. absurd (omega arith) };
        part = record {
          cells = λ x e. begins.cells n x (sym (is.cell_shard x) ∙ e);
          elsewhere = λ x apart. begins.elsewhere n x (λ e. apart (is.cell_shard x ∙ e));
          later = λ e h. absurd h;
          at_once = λ e h. absurd h;
        };
        known = λ k h. absurd h;
        fetched = λ a h. absurd h;
        ended = λ t h. inr (inl (begins.ended n t h));
        links = tt;
        decided = λ t h. absurd (omega arith);
        back = λ t d. absurd (false≢true d.own);
        forgot = λ t h. absurd (let k = h.began in omega arith);
        taken = record {
          decided = λ c t h. absurd h;
          all = λ t d. absurd (false≢true d.own);
          one = λ c e t h. absurd h;
          mates = λ c t u h. absurd h;
          whole = λ c t u h. absurd h;
          order = λ t u h. absurd (false≢true h);
        };
        follows = λ u t h. absurd (false≢true h);
      }

  begun_coord_means : (n : ℕ) → CoordMeans plan asked S start first_log (begun_coord start n)
  begun_coord_means n = record { pending = λ x h. absurd h; unanswered = λ x h. absurd h; views = λ u h. absurd h; all = λ q l. inr (inr (inl l)); onward = omega arith }

  pub begun_means : WorldMeans plan asked S start first_log (begun_world plan start coords)
  begun_means =
      record {
        reached = no_steps;
        order = refl;
        servers = λ n s h. (let e = found_at (begun_server start) 0 plan.program.shards n s h in
            let same : 0 + n ≡ n = omega arith in
            subst (ServerMeans plan asked S start first_log n) (sym (e ∙ ap (begun_server start) same)) (begun_server_means n));
        messages = λ m h. absurd h;
        coords = λ n c h. (let e = found_at (begun_coord start) 0 coords n c h in
            let same : 0 + n ≡ n = omega arith in
            subst (CoordMeans plan asked S start first_log) (sym (e ∙ ap (begun_coord start) same)) (begun_coord_means n));
        answered = λ t reply h. absurd h;
        answers = λ t. (λ h. absurd (omega arith), λ h. absurd h.1);
      }

pub begun_submissions : (plan : Plan) (start : Beginning) (coords : ℕ) → AreSubmissions plan [] (begun_world plan start coords).coords
begun_submissions plan start coords =
    record {
      numbers = λ n c h. (let e = found_at (begun_coord start) 0 coords n c h in ap (λ (c : CoordState). c.number) e ∙ (omega arith));
      procedure = λ t p a h. absurd h;
      arguments = λ t p a h. absurd h;
      numbered = λ t p a h. absurd h;
      one = λ t p q a b h k. absurd h;
    }
