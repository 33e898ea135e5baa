use Rattle.std.proofs.Common.{rules, arith, ◌≡◌, ◌≤◌, ◌∙◌, Some, sym, ap, subst}
use Rattle.roc_server_index.specs.GroupRefs.{cell_refs_at, no_refs}
use Rattle.roc_server_index.specs.Inner.Held.{held, cell_refs, room_of}
use Rattle.roc_server_index.proofs.Changed.{found, refs_in, room_in, cell_refs_found, IsSetAt, set_at, same_refs, keeps_room}
use Rattle.roc_server_index.proofs.index.Index.reserve.Goals as goal

pub returns-in_err-reserve-clause-refs : goal.returns-in_err-reserve-clause-refs
returns-in_err-reserve-clause-refs c =
    let was : cell_refs c.in-Some.group_refs.now ≡ cell_refs_at c.args.cell c.args.self.now = ap found c.in-Some.ensures.value ∙ sym (cell_refs_found c.args.cell c.self.inside.cells.entries) ∙ ap (cell_refs_at c.args.cell) c.self.view_is in
    let now = held (c.get_mut.follows.lender c.reserve.new.self).entries in
    let is : IsSetAt c.args.cell (cell_refs c.reserve.new.self) c.args.self.now now = subst (λ i. IsSetAt c.args.cell (cell_refs c.reserve.new.self) i now) c.self.view_is (set_at c.args.cell _ _ (Some c.reserve.new.self) ((c.get_mut.follows.holds c.reserve.new.self).3 (search rules)).0) in
    same_refs c.args.cell _ _ _ is (c.reserve.ensures.items ∙ ap refs_in was)

pub returns-in_err-reserve-clause-succeeds : goal.returns-in_err-reserve-clause-succeeds
returns-in_err-reserve-clause-succeeds c h =
    let was : cell_refs c.in-Some.group_refs.now ≡ cell_refs_at c.args.cell c.args.self.now = ap found c.in-Some.ensures.value ∙ sym (cell_refs_found c.args.cell c.self.inside.cells.entries) ∙ ap (cell_refs_at c.args.cell) c.self.view_is in
    let r = ap room_in was in
    absurd (omega (arith, h, r, c.in_err-reserve.ensures.full))

pub returns-in_err-reserve-clause-spare : goal.returns-in_err-reserve-clause-spare
returns-in_err-reserve-clause-spare c =
    let was : cell_refs c.in-Some.group_refs.now ≡ cell_refs_at c.args.cell c.args.self.now = ap found c.in-Some.ensures.value ∙ sym (cell_refs_found c.args.cell c.self.inside.cells.entries) ∙ ap (cell_refs_at c.args.cell) c.self.view_is in
    let now = held (c.get_mut.follows.lender c.reserve.new.self).entries in
    let is : IsSetAt c.args.cell (cell_refs c.reserve.new.self) c.args.self.now now = subst (λ i. IsSetAt c.args.cell (cell_refs c.reserve.new.self) i now) c.self.view_is (set_at c.args.cell _ _ (Some c.reserve.new.self) ((c.get_mut.follows.holds c.reserve.new.self).3 (search rules)).0) in
    let h : room_of c.in-Some.group_refs.now ≤ room_of c.reserve.new.self = omega (arith, c.reserve.ensures.len, c.reserve.ensures.capacity) in
    let r = ap room_in was in
    keeps_room c.args.cell _ _ _ is (omega (arith, h, r))

pub returns-in-Some-clause-refs : goal.returns-in-Some-clause-refs
returns-in-Some-clause-refs c =
    let was : cell_refs c.in-Some.group_refs.now ≡ cell_refs_at c.args.cell c.args.self.now = ap found c.in-Some.ensures.value ∙ sym (cell_refs_found c.args.cell c.self.inside.cells.entries) ∙ ap (cell_refs_at c.args.cell) c.self.view_is in
    let now = held (c.get_mut.follows.lender c.reserve.new.self).entries in
    let is : IsSetAt c.args.cell (cell_refs c.reserve.new.self) c.args.self.now now = subst (λ i. IsSetAt c.args.cell (cell_refs c.reserve.new.self) i now) c.self.view_is (set_at c.args.cell _ _ (Some c.reserve.new.self) ((c.get_mut.follows.holds c.reserve.new.self).3 (search rules)).0) in
    same_refs c.args.cell _ _ _ is (c.reserve.ensures.items ∙ ap refs_in was)

pub returns-in-Some-clause-ok : goal.returns-in-Some-clause-ok
returns-in-Some-clause-ok c =
    let was : cell_refs c.in-Some.group_refs.now ≡ cell_refs_at c.args.cell c.args.self.now = ap found c.in-Some.ensures.value ∙ sym (cell_refs_found c.args.cell c.self.inside.cells.entries) ∙ ap (cell_refs_at c.args.cell) c.self.view_is in
    let now = held (c.get_mut.follows.lender c.reserve.new.self).entries in
    let is : IsSetAt c.args.cell (cell_refs c.reserve.new.self) c.args.self.now now = subst (λ i. IsSetAt c.args.cell (cell_refs c.reserve.new.self) i now) c.self.view_is (set_at c.args.cell _ _ (Some c.reserve.new.self) ((c.get_mut.follows.holds c.reserve.new.self).3 (search rules)).0) in
    let r = ap room_in is.own in
    omega (arith, r, c.in_ok-reserve.ensures.ok)

pub returns-in-Some-clause-spare : goal.returns-in-Some-clause-spare
returns-in-Some-clause-spare c =
    let was : cell_refs c.in-Some.group_refs.now ≡ cell_refs_at c.args.cell c.args.self.now = ap found c.in-Some.ensures.value ∙ sym (cell_refs_found c.args.cell c.self.inside.cells.entries) ∙ ap (cell_refs_at c.args.cell) c.self.view_is in
    let now = held (c.get_mut.follows.lender c.reserve.new.self).entries in
    let is : IsSetAt c.args.cell (cell_refs c.reserve.new.self) c.args.self.now now = subst (λ i. IsSetAt c.args.cell (cell_refs c.reserve.new.self) i now) c.self.view_is (set_at c.args.cell _ _ (Some c.reserve.new.self) ((c.get_mut.follows.holds c.reserve.new.self).3 (search rules)).0) in
    let h : room_of c.in-Some.group_refs.now ≤ room_of c.reserve.new.self = omega (arith, c.reserve.ensures.len, c.reserve.ensures.capacity) in
    let r = ap room_in was in
    keeps_room c.args.cell _ _ _ is (omega (arith, h, r))

pub returns-in_err-group_refs-clause-succeeds : goal.returns-in_err-group_refs-clause-succeeds
returns-in_err-group_refs-clause-succeeds c h =
    let none : cell_refs_at c.args.cell c.args.self.now ≡ no_refs = sym (ap (cell_refs_at c.args.cell) c.self.view_is) ∙ cell_refs_found c.args.cell c.self.inside.cells.entries ∙ sym (ap found c.in_default.ensures.value) in
    let r = ap room_in none in
    absurd (omega (arith, h, r))

pub returns-in_err-insert-clause-succeeds : goal.returns-in_err-insert-clause-succeeds
returns-in_err-insert-clause-succeeds c h =
    let none : cell_refs_at c.args.cell c.args.self.now ≡ no_refs = sym (ap (cell_refs_at c.args.cell) c.self.view_is) ∙ cell_refs_found c.args.cell c.self.inside.cells.entries ∙ sym (ap found c.in_default.ensures.value) in
    let r = ap room_in none in
    absurd (omega (arith, h, r))

pub returns-clause-refs : goal.returns-clause-refs
returns-clause-refs c =
    let same : held c.get_mut.follows.lender-at-none.entries ≡ held c.self.inside.cells.entries = ap (λ m. held m.entries) c.get_mut.follows.holds-at-none in
    let none : cell_refs_at c.args.cell c.args.self.now ≡ no_refs = sym (ap (cell_refs_at c.args.cell) c.self.view_is) ∙ cell_refs_found c.args.cell c.self.inside.cells.entries ∙ sym (ap found c.in_default.ensures.value) in
    let now = held c.insert.new.self.entries in
    let is : IsSetAt c.args.cell (cell_refs c.in_ok-group_refs.group_refs) c.args.self.now now = subst (λ i. IsSetAt c.args.cell (cell_refs c.in_ok-group_refs.group_refs) i now) (same ∙ c.self.view_is) (set_at c.args.cell _ _ (Some c.in_ok-group_refs.group_refs) c.in_ok-insert.ensures.updates.0) in
    same_refs c.args.cell _ _ _ is (c.in_ok-group_refs.ensures.items ∙ sym (ap refs_in none))

pub returns-clause-ok : goal.returns-clause-ok
returns-clause-ok c =
    let same : held c.get_mut.follows.lender-at-none.entries ≡ held c.self.inside.cells.entries = ap (λ m. held m.entries) c.get_mut.follows.holds-at-none in
    let none : cell_refs_at c.args.cell c.args.self.now ≡ no_refs = sym (ap (cell_refs_at c.args.cell) c.self.view_is) ∙ cell_refs_found c.args.cell c.self.inside.cells.entries ∙ sym (ap found c.in_default.ensures.value) in
    let now = held c.insert.new.self.entries in
    let is : IsSetAt c.args.cell (cell_refs c.in_ok-group_refs.group_refs) c.args.self.now now = subst (λ i. IsSetAt c.args.cell (cell_refs c.in_ok-group_refs.group_refs) i now) (same ∙ c.self.view_is) (set_at c.args.cell _ _ (Some c.in_ok-group_refs.group_refs) c.in_ok-insert.ensures.updates.0) in
    let r = ap room_in is.own in
    omega (arith, r, c.in_ok-group_refs.ensures.len, c.in_ok-group_refs.ensures.capacity)

pub returns-clause-spare : goal.returns-clause-spare
returns-clause-spare c =
    let same : held c.get_mut.follows.lender-at-none.entries ≡ held c.self.inside.cells.entries = ap (λ m. held m.entries) c.get_mut.follows.holds-at-none in
    let none : cell_refs_at c.args.cell c.args.self.now ≡ no_refs = sym (ap (cell_refs_at c.args.cell) c.self.view_is) ∙ cell_refs_found c.args.cell c.self.inside.cells.entries ∙ sym (ap found c.in_default.ensures.value) in
    let now = held c.insert.new.self.entries in
    let is : IsSetAt c.args.cell (cell_refs c.in_ok-group_refs.group_refs) c.args.self.now now = subst (λ i. IsSetAt c.args.cell (cell_refs c.in_ok-group_refs.group_refs) i now) (same ∙ c.self.view_is) (set_at c.args.cell _ _ (Some c.in_ok-group_refs.group_refs) c.in_ok-insert.ensures.updates.0) in
    let r = ap room_in none in
    keeps_room c.args.cell _ _ _ is (omega (arith, r))
