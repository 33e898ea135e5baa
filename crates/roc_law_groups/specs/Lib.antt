pub mod GroupsRun
