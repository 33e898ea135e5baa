-- What is printed for each fault: docs/FORMATS.md, "Cluster files"
use Rattle.std.specs.Prelude.{ℕ, List, ◌++◌}
use Rattle.std.specs.Fmt.{decimal}
use lib.Chars.{codes}
use Rattle.roc_cluster.specs.declared.fault.FieldName.{FieldName}
use Rattle.roc_cluster.specs.declared.fault.FieldName.TheVariants.{Shard, Number, Host, Port, Other}
use Rattle.roc_cluster.specs.declared.fault.ClusterFault.{ClusterFault}
use Rattle.roc_cluster.specs.declared.fault.ClusterFault.TheVariants.{Toml, Field, Twice, Gap, NoMemory}

-- a key of the file, or `other` for any that it may not have
abbrev pub name_text : FieldName → List ℕ
name_text Shard = codes "shard"
name_text Number = codes "number"
name_text Host = codes "host"
name_text Port = codes "port"
name_text Other = codes "other"

-- the word of a fault, and the field or the number behind it
abbrev pub fault_text : ClusterFault → List ℕ
fault_text Toml = codes "toml"
fault_text (Field name) = codes "field " ++ name_text name
fault_text (Twice shard) = codes "twice " ++ decimal shard.0
fault_text (Gap shard) = codes "gap " ++ decimal shard.0
fault_text NoMemory = codes "out of memory"
