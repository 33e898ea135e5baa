-- Facts that fit are short
use Rattle.std.proofs.Common.{◌<◌, ◌≤◌, ◌^◌, List, [], ◌∷◌, length, arith}
use Rattle.std.specs.List.{All}
use Rattle.std.proofs.lemmas.List.Elements.{All-nil, All-cons}
use Rattle.roc_depgraph.specs.declared.known.KnownList.{KnownList}
use Rattle.roc_wire.specs.Fits.{AllAlong, Room, FitsFact, room_behind}

abbrev pub IsShort : KnownList → Type 0
IsShort fact = length fact.edges < 2 ^ 16

pub all_short : (room : Room) (facts : List KnownList) → room.1 ≤ 1000 → AllAlong FitsFact room_behind room facts → All IsShort facts
all_short room [] h k = All-nil IsShort
all_short room (fact ∷ facts) h k =
    let few : length fact.edges ≤ room.1 = k.0.2.0 in
    All-cons IsShort fact facts (omega arith) (all_short (room_behind room fact) facts (omega arith) k.1)
