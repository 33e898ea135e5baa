use Rattle.std.proofs.Common.{◌≡◌, take}
use Rattle.std.specs.List.{flat_map}
use Rattle.std.specs.String.{string_bytes}
use Rattle.roc_log.specs.Inner.Writing.{out_text}
use Rattle.roc_log.proofs.text.append_outs.Given as goal

abbrev pub invariant-loop-out : goal.invariant-loop-out
invariant-loop-out l = string_bytes l.lines ≡ flat_map (out_text l.header) (take l.out-index l.outs)
