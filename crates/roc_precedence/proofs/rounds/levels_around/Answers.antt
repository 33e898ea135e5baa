use Rattle.std.proofs.Common.{arith, length, [], ◌∷◌, ◌++◌, sym, ap, subst, ◌∙◌}
use Rattle.std.proofs.lemmas.Bool.{false≢true}
use Rattle.roc_depgraph.specs.Deps.{Precedes}
use Rattle.roc_depgraph.proofs.Listed.{has_from_listed, listed_from_has}
use Rattle.roc_precedence.specs.Inner.Rounds.{StepsBack}
use Rattle.roc_precedence.proofs.Back.{goes_on, has_ended, round_found, searching_ends, searching_more, search_none}
use Rattle.roc_precedence.proofs.rounds.levels_around.Goals as goal

pub returns-then-contains : goal.returns-then-contains
returns-then-contains c =
    round_found c.args.lists.now c.args.id c.search.found.keys c.step_back.new.found.keys c.search.levels.items c.push.new.self.items c.search.level.items c.in_ok-next.next.items c.search.invariant
    (subst (λ l. StepsBack (Precedes c.args.lists.now) l c.search.found.keys c.step_back.new.found.keys c.in_ok-next.next.items) c.deref-in-search.ensures.value c.in_ok-next.ensures)
    (c.in_ok-push.ensures.items ∙ ap (λ l. c.search.levels.items ++ l ∷ []) c.from_vec.ensures)
    c.args.most
    (goes_on c.is_over.result c.deref.result.now c.search.level.items c.len.result (length c.search.levels.items) c.args.most
    c.is_over.ensures c.search-test.true c.deref.ensures.value (omega (arith, c.search.levels.ok, c.len.ensures))).1
    (listed_from_has c.step_back.new.found.keys c.args.id (sym c.contains.ensures ∙ c.if-contains.true))

pub search-smaller : goal.search-smaller
search-smaller c =
    searching_ends c.args.lists.now c.args.id c.search.found.keys c.step_back.new.found.keys c.search.levels.items c.push.new.self.items c.search.level.items c.in_ok-next.next.items c.search.invariant
    (subst (λ l. StepsBack (Precedes c.args.lists.now) l c.search.found.keys c.step_back.new.found.keys c.in_ok-next.next.items) c.deref-in-search.ensures.value c.in_ok-next.ensures)
    (c.in_ok-push.ensures.items ∙ ap (λ l. c.search.levels.items ++ l ∷ []) c.from_vec.ensures)
    (goes_on c.is_over.result c.deref.result.now c.search.level.items c.len.result (length c.search.levels.items) c.args.most
    c.is_over.ensures c.search-test.true c.deref.ensures.value (omega (arith, c.search.levels.ok, c.len.ensures))).0

pub search-preserved : goal.search-preserved
search-preserved c =
    searching_more c.args.lists.now c.args.id c.search.found.keys c.step_back.new.found.keys c.search.levels.items c.push.new.self.items c.search.level.items c.in_ok-next.next.items c.search.invariant
    (subst (λ l. StepsBack (Precedes c.args.lists.now) l c.search.found.keys c.step_back.new.found.keys c.in_ok-next.next.items) c.deref-in-search.ensures.value c.in_ok-next.ensures)
    (c.in_ok-push.ensures.items ∙ ap (λ l. c.search.levels.items ++ l ∷ []) c.from_vec.ensures)
    (λ h. false≢true (sym c.if-contains.false ∙ (c.contains.ensures ∙ has_from_listed c.step_back.new.found.keys c.args.id h)))

pub returns : goal.returns
returns c =
    search_none c.args.lists.now c.args.id c.search.found.keys c.search.levels.items c.search.level.items c.args.most c.search.invariant
    (has_ended c.is_over.result c.deref.result.now c.search.level.items c.len.result (length c.search.levels.items) c.args.most
    c.is_over.ensures c.search-test.false c.deref.ensures.value (omega (arith, c.search.levels.ok, c.len.ensures)))
