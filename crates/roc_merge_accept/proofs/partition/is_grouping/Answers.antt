use Rattle.std.proofs.Common.{◌≡◌, ℕ, List, length, map, filter, sym, ◌∙◌}
use Rattle.std.proofs.lemmas.Bool.{false≢true}
use Rattle.std.proofs.lemmas.List.Sums.{length-filter}
use Rattle.std.specs.List.{count_by}
use Rattle.roc_merge_accept.specs.Inner.Tests.{has_piece}
use Rattle.roc_merge_accept.proofs.Parting.{filter_seen, grouping_from_parts, once_of_grouping}
use Rattle.roc_merge_groups.proofs.Parts.{parts_of_grouping}
use Rattle.roc_merge_accept.proofs.partition.is_grouping.Goals as goal

-- how many groups hold a piece, over the code's groups
seen : {V : Type 0} (f : V → List ℕ) (vs : List V) (x : ℕ) → length (filter (has_piece x) (map f vs)) ≡ count_by (λ v. has_piece x (f v)) vs
seen f vs x = filter_seen (has_piece x) f vs ∙ length-filter (λ v. has_piece x (f v)) vs

pub returns-then-not-are_parts : goal.returns-then-not-are_parts
returns-then-not-are_parts c =
    (λ t. absurd (false≢true t), λ is. absurd (false≢true (sym c.if-not-are_parts.true ∙ c.are_parts.ensures.1 (parts_of_grouping c.args.count (map (λ g. g.items) c.args.groups.now) is))))

pub returns-then-not-are_numbered : goal.returns-then-not-are_numbered
returns-then-not-are_numbered c = (λ t. absurd (false≢true t), λ is. absurd (false≢true (sym c.if-not-are_numbered.true ∙ c.are_numbered.ensures.1 is.numbered)))

pub returns : goal.returns
returns c =
    let groups = map (λ g. g.items) c.args.groups.now in (
      λ t. grouping_from_parts c.args.count groups (c.are_parts.ensures.0 c.if-not-are_parts.false) (c.are_numbered.ensures.0 c.if-not-are_numbered.false)
          (λ x l. seen (λ g. g.items) c.args.groups.now x ∙ c.is_each_once.ensures.0 t x l),
      λ is. c.is_each_once.ensures.1 (λ x l. sym (seen (λ g. g.items) c.args.groups.now x) ∙ once_of_grouping c.args.count groups is x l),
    )
