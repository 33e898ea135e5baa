use Rattle.std.proofs.Common.{List, length, ap, sym, subst, arith}
use Rattle.roc_server_rows.specs.declared.rows.Row.{Row}
use Rattle.roc_server_rows.specs.Rows.{IsRowTable}
use Rattle.roc_server_rows.proofs.Alive.{placed_length}
use Rattle.roc_server_rows.proofs.Made.{made, table_reordered}
use Rattle.roc_server_rows.proofs.rows.make.Goals as goal

pub returns-in_err-reserve-2-clause-whole : goal.returns-in_err-reserve-2-clause-whole
returns-in_err-reserve-2-clause-whole c =
    let p = c.args.parts.now in
    subst (λ (rs : List Row). IsRowTable c.reserve.new.self.entries rs p.stamp) (sym c.reserve-2.ensures.items)
    (table_reordered p.numbers.entries c.reserve.new.self.entries p.rows.items p.stamp c.requires.whole c.reserve.ensures.entries.2)

pub returns-clause-whole : goal.returns-clause-whole
returns-clause-whole c =
    let p = c.args.parts.now in
    let r = c.unknown_row-row.ensures in
    let put = rw c.unwrap.ensures at c.insert-put.ensures.updates in
    (made c.args.id p.numbers.entries c.reserve.new.self.entries c.insert-put.new.self.entries p.rows.items c.reserve-2.new.self.items
    c.place-at.new.rows.items p.stamp c.place-at.result c.unknown_row-row.result
    c.requires.whole c.requires.absent c.reserve.ensures.entries.2 c.reserve-2.ensures.items c.place-at.ensures r.id r.birth r.turn r.edges r.names put.0).table

pub returns-clause-grows : goal.returns-clause-grows
returns-clause-grows c =
    let p = c.args.parts.now in
    let r = c.unknown_row-row.ensures in
    let put = rw c.unwrap.ensures at c.insert-put.ensures.updates in
    let m = made c.args.id p.numbers.entries c.reserve.new.self.entries c.insert-put.new.self.entries p.rows.items c.reserve-2.new.self.items
    c.place-at.new.rows.items p.stamp c.place-at.result c.unknown_row-row.result
    c.requires.whole c.requires.absent c.reserve.ensures.entries.2 c.reserve-2.ensures.items c.place-at.ensures r.id r.birth r.turn r.edges r.names put.0 in
    record { rows = m.grows; lists = m.lists }

pub returns-clause-row : goal.returns-clause-row
returns-clause-row c =
    let p = c.args.parts.now in
    let r = c.unknown_row-row.ensures in
    let put = rw c.unwrap.ensures at c.insert-put.ensures.updates in
    (made c.args.id p.numbers.entries c.reserve.new.self.entries c.insert-put.new.self.entries p.rows.items c.reserve-2.new.self.items
    c.place-at.new.rows.items p.stamp c.place-at.result c.unknown_row-row.result
    c.requires.whole c.requires.absent c.reserve.ensures.entries.2 c.reserve-2.ensures.items c.place-at.ensures r.id r.birth r.turn r.edges r.names put.0).row

pub returns-clause-birth : goal.returns-clause-birth
returns-clause-birth c =
    let p = c.args.parts.now in
    let r = c.unknown_row-row.ensures in
    let put = rw c.unwrap.ensures at c.insert-put.ensures.updates in
    (made c.args.id p.numbers.entries c.reserve.new.self.entries c.insert-put.new.self.entries p.rows.items c.reserve-2.new.self.items
    c.place-at.new.rows.items p.stamp c.place-at.result c.unknown_row-row.result
    c.requires.whole c.requires.absent c.reserve.ensures.entries.2 c.reserve-2.ensures.items c.place-at.ensures r.id r.birth r.turn r.edges r.names put.0).birth

pub returns-clause-no_fewer : goal.returns-clause-no_fewer
returns-clause-no_fewer c =
    let same = ap length c.reserve-2.ensures.items in
    omega (arith, same, (placed_length c.reserve-2.new.self.items c.place-at.new.rows.items c.unknown_row-row.result c.place-at.result c.place-at.ensures).0)

pub returns-clause-at_most : goal.returns-clause-at_most
returns-clause-at_most c =
    let same = ap length c.reserve-2.ensures.items in
    omega (arith, same, (placed_length c.reserve-2.new.self.items c.place-at.new.rows.items c.unknown_row-row.result c.place-at.result c.place-at.ensures).1)
