-- The setting of a node, as the code has it
use Rattle.roc_node.specs.declared.setting.Setting.{Setting}
use Rattle.roc_node.specs.NodeEvent.{NodeSetting}

abbrev pub setting_of : Setting → NodeSetting
setting_of s = record { plan = s.plan.now; header = s.header.now; cluster = s.cluster.now }
