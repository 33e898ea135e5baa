use Rattle.std.proofs.Common.{◌≡◌, ◌∙◌, ◌+◌, ◌<◌, ◌≤◌, ◌++◌, ◌∷◌, [], None, arith}
use Rattle.std.specs.Map.{lookup}
use Rattle.indexmap.proofs.CallerLemmas.{insert_entry-new}
use Rattle.roc_server_groups.specs.Inner.Keyed.{group_key_of}
use Rattle.roc_server_groups.proofs.KeyedGroups.{lookup_is, keyed_more, values_more}
use Rattle.roc_server_groups.specs.Inner.Keyed.{is_key}
use Rattle.roc_server_groups.proofs.started_groups.put.Goals as goal

pub returns-then-numbers-number-clause-keyed : goal.returns-then-numbers-number-clause-keyed
returns-then-numbers-number-clause-keyed c =
    let es = c.args.groups.now.entries in
    let e = c.args.group in
    let none : lookup (is_key (group_key_of e)) es ≡ None = lookup_is e.id e.group es c.requires.keyed.keys ∙ c.requires.absent in
    let more : c.insert.new.self.entries ≡ es ++ (group_key_of e, e) ∷ [] = (rw c.unwrap.ensures at c.insert.ensures.entries) ∙ insert_entry-new is_key c.args.groups.now (group_key_of e) e none in
    let wide : c.args.numbers.now ≤ e.group + 1 = omega (arith, c.if-numbers-number.true) in
    let own : e.group < e.group + 1 = omega arith in
    keyed_more es c.insert.new.self.entries c.args.numbers.now (e.group + 1) e c.requires.keyed more wide own

pub returns-then-numbers-number-clause-groups : goal.returns-then-numbers-number-clause-groups
returns-then-numbers-number-clause-groups c =
    let es = c.args.groups.now.entries in
    let e = c.args.group in
    let none : lookup (is_key (group_key_of e)) es ≡ None = lookup_is e.id e.group es c.requires.keyed.keys ∙ c.requires.absent in
    let more : c.insert.new.self.entries ≡ es ++ (group_key_of e, e) ∷ [] = (rw c.unwrap.ensures at c.insert.ensures.entries) ∙ insert_entry-new is_key c.args.groups.now (group_key_of e) e none in
    values_more es c.insert.new.self.entries (group_key_of e) e more

pub returns-else-numbers-number-clause-keyed : goal.returns-else-numbers-number-clause-keyed
returns-else-numbers-number-clause-keyed c =
    let es = c.args.groups.now.entries in
    let e = c.args.group in
    let none : lookup (is_key (group_key_of e)) es ≡ None = lookup_is e.id e.group es c.requires.keyed.keys ∙ c.requires.absent in
    let more : c.insert.new.self.entries ≡ es ++ (group_key_of e, e) ∷ [] = (rw c.unwrap.ensures at c.insert.ensures.entries) ∙ insert_entry-new is_key c.args.groups.now (group_key_of e) e none in
    let wide : c.args.numbers.now ≤ c.args.numbers.now = omega arith in
    let own : e.group < c.args.numbers.now = omega (arith, c.if-numbers-number.false) in
    keyed_more es c.insert.new.self.entries c.args.numbers.now c.args.numbers.now e c.requires.keyed more wide own

pub returns-else-numbers-number-clause-groups : goal.returns-else-numbers-number-clause-groups
returns-else-numbers-number-clause-groups c =
    let es = c.args.groups.now.entries in
    let e = c.args.group in
    let none : lookup (is_key (group_key_of e)) es ≡ None = lookup_is e.id e.group es c.requires.keyed.keys ∙ c.requires.absent in
    let more : c.insert.new.self.entries ≡ es ++ (group_key_of e, e) ∷ [] = (rw c.unwrap.ensures at c.insert.ensures.entries) ∙ insert_entry-new is_key c.args.groups.now (group_key_of e) e none in
    values_more es c.insert.new.self.entries (group_key_of e) e more
