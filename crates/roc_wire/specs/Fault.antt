-- How faults of datagrams are printed
use Rattle.std.specs.Prelude.{ℕ, List, codes}
use Rattle.roc_wire.specs.declared.fault.WireFault.{WireFault}
use Rattle.roc_wire.specs.declared.fault.WireFault.TheVariants.{Short, Magic, Version, Kind, Count, Order, Rest, NoMemory}

abbrev pub fault_text : WireFault → List ℕ
fault_text Short = codes "short"
fault_text Magic = codes "magic"
fault_text Version = codes "version"
fault_text Kind = codes "kind"
fault_text Count = codes "count"
fault_text Order = codes "order"
fault_text Rest = codes "rest"
fault_text NoMemory = codes "out of memory"
