-- What inner functions give, beside the rules that they judge: a reader of `parse_cluster` needs none of this
pub mod Judged
