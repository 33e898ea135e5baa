use Rattle.std.proofs.Common.{rules, arith, ◌≡◌, ◌∙◌, ◌++◌, ◌∷◌, [], Some, sym, ap, subst}
use Rattle.std.proofs.lemmas.Bool.{false≢true}
use Rattle.roc_server_index.specs.GroupRefs.{cell_refs_at, no_refs, ends_with, with_group_ref}
use Rattle.roc_server_index.specs.Inner.Held.{held, cell_refs}
use Rattle.roc_server_index.proofs.Changed.{found, refs_in, room_in, cell_refs_found, IsSetAt, set_at, changes, same_refs, takes_room, on_err}
use Rattle.roc_server_index.proofs.index.Index.add.Goals as goal

pub returns-in_err-put-clause-err : goal.returns-in_err-put-clause-err
returns-in_err-put-clause-err c =
    let was : cell_refs c.in-Some.group_refs.now ≡ cell_refs_at c.args.cell c.args.self.now = ap found c.in-Some.ensures.value ∙ sym (cell_refs_found c.args.cell c.self.inside.cells.entries) ∙ ap (cell_refs_at c.args.cell) c.self.view_is in
    let now = held (c.get_mut.follows.lender c.put.new.group_refs).entries in
    let is : IsSetAt c.args.cell (cell_refs c.put.new.group_refs) c.args.self.now now = subst (λ i. IsSetAt c.args.cell (cell_refs c.put.new.group_refs) i now) c.self.view_is (set_at c.args.cell _ _ (Some c.put.new.group_refs) ((c.get_mut.follows.holds c.put.new.group_refs).3 (search rules)).0) in
    on_err c.from_residual.result (same_refs c.args.cell _ _ _ is (c.in_err-put.ensures.err ∙ ap refs_in was))

pub returns-in_err-put-clause-succeeds : goal.returns-in_err-put-clause-succeeds
returns-in_err-put-clause-succeeds c h =
    let was : cell_refs c.in-Some.group_refs.now ≡ cell_refs_at c.args.cell c.args.self.now = ap found c.in-Some.ensures.value ∙ sym (cell_refs_found c.args.cell c.self.inside.cells.entries) ∙ ap (cell_refs_at c.args.cell) c.self.view_is in
    let r = ap room_in was in
    absurd (false≢true (c.in_err-put.ensures.succeeds (omega (arith, h, r))))

pub returns-in_err-put-clause-again : goal.returns-in_err-put-clause-again
returns-in_err-put-clause-again c h =
    let was : cell_refs c.in-Some.group_refs.now ≡ cell_refs_at c.args.cell c.args.self.now = ap found c.in-Some.ensures.value ∙ sym (cell_refs_found c.args.cell c.self.inside.cells.entries) ∙ ap (cell_refs_at c.args.cell) c.self.view_is in
    absurd (false≢true (c.in_err-put.ensures.again (ap (λ r. ends_with c.args.group_ref (refs_in r)) was ∙ h)))

pub returns-in_err-put-clause-spare : goal.returns-in_err-put-clause-spare
returns-in_err-put-clause-spare c =
    let was : cell_refs c.in-Some.group_refs.now ≡ cell_refs_at c.args.cell c.args.self.now = ap found c.in-Some.ensures.value ∙ sym (cell_refs_found c.args.cell c.self.inside.cells.entries) ∙ ap (cell_refs_at c.args.cell) c.self.view_is in
    let now = held (c.get_mut.follows.lender c.put.new.group_refs).entries in
    let is : IsSetAt c.args.cell (cell_refs c.put.new.group_refs) c.args.self.now now = subst (λ i. IsSetAt c.args.cell (cell_refs c.put.new.group_refs) i now) c.self.view_is (set_at c.args.cell _ _ (Some c.put.new.group_refs) ((c.get_mut.follows.holds c.put.new.group_refs).3 (search rules)).0) in
    let r = ap room_in was in
    takes_room c.args.cell _ _ _ is (omega (arith, c.put.ensures.spare, r))

pub returns-in-Some-clause-ok : goal.returns-in-Some-clause-ok
returns-in-Some-clause-ok c =
    let was : cell_refs c.in-Some.group_refs.now ≡ cell_refs_at c.args.cell c.args.self.now = ap found c.in-Some.ensures.value ∙ sym (cell_refs_found c.args.cell c.self.inside.cells.entries) ∙ ap (cell_refs_at c.args.cell) c.self.view_is in
    let now = held (c.get_mut.follows.lender c.put.new.group_refs).entries in
    let is : IsSetAt c.args.cell (cell_refs c.put.new.group_refs) c.args.self.now now = subst (λ i. IsSetAt c.args.cell (cell_refs c.put.new.group_refs) i now) c.self.view_is (set_at c.args.cell _ _ (Some c.put.new.group_refs) ((c.get_mut.follows.holds c.put.new.group_refs).3 (search rules)).0) in
    changes c.args.cell _ _ _ is (with_group_ref c.args.group_ref) (c.in_ok-put.ensures.ok ∙ ap (λ r. with_group_ref c.args.group_ref (refs_in r)) was)

pub returns-in-Some-clause-spare : goal.returns-in-Some-clause-spare
returns-in-Some-clause-spare c =
    let was : cell_refs c.in-Some.group_refs.now ≡ cell_refs_at c.args.cell c.args.self.now = ap found c.in-Some.ensures.value ∙ sym (cell_refs_found c.args.cell c.self.inside.cells.entries) ∙ ap (cell_refs_at c.args.cell) c.self.view_is in
    let now = held (c.get_mut.follows.lender c.put.new.group_refs).entries in
    let is : IsSetAt c.args.cell (cell_refs c.put.new.group_refs) c.args.self.now now = subst (λ i. IsSetAt c.args.cell (cell_refs c.put.new.group_refs) i now) c.self.view_is (set_at c.args.cell _ _ (Some c.put.new.group_refs) ((c.get_mut.follows.holds c.put.new.group_refs).3 (search rules)).0) in
    let r = ap room_in was in
    takes_room c.args.cell _ _ _ is (omega (arith, c.put.ensures.spare, r))

pub returns-in_err-push-clause-succeeds : goal.returns-in_err-push-clause-succeeds
returns-in_err-push-clause-succeeds c h =
    let none : cell_refs_at c.args.cell c.args.self.now ≡ no_refs = sym (ap (cell_refs_at c.args.cell) c.self.view_is) ∙ cell_refs_found c.args.cell c.self.inside.cells.entries ∙ sym (ap found c.in_default.ensures.value) in
    let r = ap room_in none in
    absurd (omega (arith, h, r))

pub returns-in_err-push-clause-again : goal.returns-in_err-push-clause-again
returns-in_err-push-clause-again c h =
    let none : cell_refs_at c.args.cell c.args.self.now ≡ no_refs = sym (ap (cell_refs_at c.args.cell) c.self.view_is) ∙ cell_refs_found c.args.cell c.self.inside.cells.entries ∙ sym (ap found c.in_default.ensures.value) in
    let n = ap (λ r. ends_with c.args.group_ref (refs_in r)) none in
    absurd (false≢true (sym n ∙ h))

pub returns-in_err-insert-clause-succeeds : goal.returns-in_err-insert-clause-succeeds
returns-in_err-insert-clause-succeeds c h =
    let none : cell_refs_at c.args.cell c.args.self.now ≡ no_refs = sym (ap (cell_refs_at c.args.cell) c.self.view_is) ∙ cell_refs_found c.args.cell c.self.inside.cells.entries ∙ sym (ap found c.in_default.ensures.value) in
    let r = ap room_in none in
    absurd (omega (arith, h, r))

pub returns-in_err-insert-clause-again : goal.returns-in_err-insert-clause-again
returns-in_err-insert-clause-again c h =
    let none : cell_refs_at c.args.cell c.args.self.now ≡ no_refs = sym (ap (cell_refs_at c.args.cell) c.self.view_is) ∙ cell_refs_found c.args.cell c.self.inside.cells.entries ∙ sym (ap found c.in_default.ensures.value) in
    let n = ap (λ r. ends_with c.args.group_ref (refs_in r)) none in
    absurd (false≢true (sym n ∙ h))

pub returns-clause-ok : goal.returns-clause-ok
returns-clause-ok c =
    let same : held c.get_mut.follows.lender-at-none.entries ≡ held c.self.inside.cells.entries = ap (λ m. held m.entries) c.get_mut.follows.holds-at-none in
    let none : cell_refs_at c.args.cell c.args.self.now ≡ no_refs = sym (ap (cell_refs_at c.args.cell) c.self.view_is) ∙ cell_refs_found c.args.cell c.self.inside.cells.entries ∙ sym (ap found c.in_default.ensures.value) in
    let now = held c.insert.new.self.entries in
    let is : IsSetAt c.args.cell (cell_refs c.push.new.self) c.args.self.now now = subst (λ i. IsSetAt c.args.cell (cell_refs c.push.new.self) i now) (same ∙ c.self.view_is) (set_at c.args.cell _ _ (Some c.push.new.self) c.in_ok-insert.ensures.updates.0) in
    let new : c.push.new.self.items ≡ c.args.group_ref ∷ [] = c.in_ok-push.ensures.items ∙ ap (λ ss. ss ++ c.args.group_ref ∷ []) c.new-group_refs.ensures.items in
    changes c.args.cell _ _ _ is (with_group_ref c.args.group_ref) (new ∙ ap (λ r. with_group_ref c.args.group_ref (refs_in r)) (sym none))

pub returns-clause-spare : goal.returns-clause-spare
returns-clause-spare c =
    let same : held c.get_mut.follows.lender-at-none.entries ≡ held c.self.inside.cells.entries = ap (λ m. held m.entries) c.get_mut.follows.holds-at-none in
    let none : cell_refs_at c.args.cell c.args.self.now ≡ no_refs = sym (ap (cell_refs_at c.args.cell) c.self.view_is) ∙ cell_refs_found c.args.cell c.self.inside.cells.entries ∙ sym (ap found c.in_default.ensures.value) in
    let now = held c.insert.new.self.entries in
    let is : IsSetAt c.args.cell (cell_refs c.push.new.self) c.args.self.now now = subst (λ i. IsSetAt c.args.cell (cell_refs c.push.new.self) i now) (same ∙ c.self.view_is) (set_at c.args.cell _ _ (Some c.push.new.self) c.in_ok-insert.ensures.updates.0) in
    let r = ap room_in none in
    takes_room c.args.cell _ _ _ is (omega (arith, r))
