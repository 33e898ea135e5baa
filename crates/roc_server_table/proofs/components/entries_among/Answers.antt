use Rattle.std.proofs.Common.{◌≡◌, ◌+◌, ◌++◌, ◌∷◌, [], length, length-append, refl, ap, ◌∙◌, subst, arith}
use Rattle.std.proofs.lemmas.Slice.Zip.{zip_turn, zip_end}
use Rattle.std.specs.Iterator.Adapters.{zip_first, zip_second}
use Rattle.std.specs.Slice.Iter.{iter_rest}
use Rattle.roc_server_table.proofs.EntriesAmong.{found_all, found_more, found_same, left, whole}
use Rattle.roc_server_table.proofs.components.entries_among.Goals as goal

pub loop-edge-preserved-in-Continue-1 : goal.loop-edge-preserved-in-Continue-1
loop-edge-preserved-in-Continue-1 c =
    let ids = c.args.ids.now in
    let skipped = c.args.skipped in
    let rows = c.args.rows.now in
    let es = c.args.edges.now in
    let ls = c.args.links.now in
    let start = c.into_iter-edge-iterator.result in
    let same = c.into_iter-edge-iterator.ensures.into_iter_gives in
    let first : iter_rest (zip_first start) ≡ es = ap (λ z. iter_rest (zip_first z)) same ∙ ap iter_rest c.zip-edge-items.ensures.first ∙ c.iter.ensures.rest in
    let rest : iter_rest (zip_second c.zip-edge-items.result) ≡ ls = c.zip-edge-items.ensures.second.0 in
    let second : iter_rest (zip_second start) ≡ ls = ap (λ z. iter_rest (zip_second z)) same ∙ rest in
    let edge = c.in-Some.edge in
    let link = c.in-Some.link in
    let past = c.loop-edge.yielded in
    let turn = zip_turn es ls past start c.loop-edge.edge-iterator c.next.new.self c.next.result first second c.loop-edge.yielded_by (edge, link) c.in-Some.is c.next.ensures.steps in
    let len : length past + 1 ≡ length (past ++ (edge, link) ∷ []) = omega (arith, length-append past ((edge, link) ∷ [])) in
    subst (λ i. c.push.new.self.items ++ left ids skipped rows es ls i ≡ whole ids skipped rows es ls) len
    (found_more ids skipped rows es ls (length past) edge.now link.now c.loop-edge.found.items c.leads_among.result turn.0 turn.1 (turn.2 edge.now) (turn.3 link.now)
    c.leads_among.ensures c.loop-edge.invariant c.push.new.self.items c.if-leads_among.true c.in_ok-push.ensures.items)

pub loop-edge-preserved : goal.loop-edge-preserved
loop-edge-preserved c =
    let ids = c.args.ids.now in
    let skipped = c.args.skipped in
    let rows = c.args.rows.now in
    let es = c.args.edges.now in
    let ls = c.args.links.now in
    let start = c.into_iter-edge-iterator.result in
    let same = c.into_iter-edge-iterator.ensures.into_iter_gives in
    let first : iter_rest (zip_first start) ≡ es = ap (λ z. iter_rest (zip_first z)) same ∙ ap iter_rest c.zip-edge-items.ensures.first ∙ c.iter.ensures.rest in
    let rest : iter_rest (zip_second c.zip-edge-items.result) ≡ ls = c.zip-edge-items.ensures.second.0 in
    let second : iter_rest (zip_second start) ≡ ls = ap (λ z. iter_rest (zip_second z)) same ∙ rest in
    let edge = c.in-Some.edge in
    let link = c.in-Some.link in
    let past = c.loop-edge.yielded in
    let turn = zip_turn es ls past start c.loop-edge.edge-iterator c.next.new.self c.next.result first second c.loop-edge.yielded_by (edge, link) c.in-Some.is c.next.ensures.steps in
    let len : length past + 1 ≡ length (past ++ (edge, link) ∷ []) = omega (arith, length-append past ((edge, link) ∷ [])) in
    subst (λ i. c.loop-edge.found.items ++ left ids skipped rows es ls i ≡ whole ids skipped rows es ls) len
    (found_same ids skipped rows es ls (length past) edge.now link.now c.loop-edge.found.items c.leads_among.result turn.0 turn.1 (turn.2 edge.now) (turn.3 link.now)
    c.leads_among.ensures c.loop-edge.invariant c.loop-edge.found.items c.if-leads_among.false refl)

pub returns : goal.returns
returns c =
    let ids = c.args.ids.now in
    let skipped = c.args.skipped in
    let rows = c.args.rows.now in
    let es = c.args.edges.now in
    let ls = c.args.links.now in
    let start = c.into_iter-edge-iterator.result in
    let same = c.into_iter-edge-iterator.ensures.into_iter_gives in
    let first : iter_rest (zip_first start) ≡ es = ap (λ z. iter_rest (zip_first z)) same ∙ ap iter_rest c.zip-edge-items.ensures.first ∙ c.iter.ensures.rest in
    let rest : iter_rest (zip_second c.zip-edge-items.result) ≡ ls = c.zip-edge-items.ensures.second.0 in
    let second : iter_rest (zip_second start) ≡ ls = ap (λ z. iter_rest (zip_second z)) same ∙ rest in
    let past = c.loop-edge.yielded in
    let end = zip_end es ls past start c.loop-edge.edge-iterator c.next.new.self c.next.result first second c.loop-edge.yielded_by c.in-None.is c.next.ensures.steps in
    found_all ids skipped rows es ls (length past) c.loop-edge.found.items end c.loop-edge.invariant
