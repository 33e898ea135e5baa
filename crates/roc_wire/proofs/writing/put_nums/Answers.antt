-- The count is written, then one element behind the other
use Rattle.std.proofs.lemmas.Int.{to_z-of_z}
use Rattle.std.proofs.Common.{◌≡◌, ◌∙◌, ℕ, ℤ, FitsSigned, List, ◌++◌, pos, to_z, of_z, get_or, length, refl, ap, rules}
use Rattle.std.specs.Int.{w16, w64, to_be_bytes}
use Rattle.roc_wire.specs.Spelling.{num_bytes}
use Rattle.roc_wire.proofs.Parts.{begun, one_more, ended}
use Rattle.roc_wire.proofs.writing.put_nums.Goals as goal

pub loop-num-init : goal.loop-num-init
loop-num-init c = begun c.args.out.now.items c.put_u16.new.out.items (to_be_bytes w16 (length c.args.nums.now)) c.in_ok-put_u16.ensures

pub loop-num-preserved : goal.loop-num-preserved
loop-num-preserved c =
    let num : ℤ = get_or c.args.nums.now c.loop-num.num-index (pos 0) in
    let fits : FitsSigned w64 num = search rules in
    let spelled : num_bytes (to_z w64 (of_z w64 num)) ≡ num_bytes num = ap num_bytes (to_z-of_z w64 num fits) in
    one_more num_bytes _ c.loop-num.out.items c.put_i64.new.out.items c.args.nums.now c.loop-num.num-index num (pos 0) c.loop-num-test.true refl c.loop-num.invariant (c.in_ok-put_i64.ensures ∙ ap (λ (l : List ℕ). c.loop-num.out.items ++ l) spelled)

pub returns : goal.returns
returns c = ended num_bytes c.args.out.now.items (to_be_bytes w16 (length c.args.nums.now)) c.loop-num.out.items c.args.nums.now c.loop-num.num-index c.loop-num-test.false c.loop-num.invariant
