-- How the nodes of a command end, whichever command it is
use Rattle.std.specs.Prelude.{ℕ, List, Option, Some, None}
use Rattle.roc_node_serve.specs.declared.ends.ServeEnd.{ServeEnd}
use Rattle.roc_node_serve.specs.declared.ends.ServeEnd.TheVariants as serve_end
use Rattle.roc_node_submit.specs.declared.ends.SubmitEnd.{SubmitEnd}
use Rattle.roc_node_submit.specs.declared.ends.SubmitEnd.TheVariants as submit_end
use Rattle.roc_node_local.specs.declared.stops.StopEnd.{StopEnd}
use Rattle.roc_node_local.specs.declared.stops.StopEnd.TheVariants as stop_end
use Rattle.roc_node_local.specs.declared.local.LocalEnd.{LocalEnd}
use Rattle.roc_node_local.specs.declared.local.LocalEnd.TheVariants as local_end

-- one of these, but for a child that is to blame; an end that a journal or a log brings has its name
pub data NodesEnd : Type 0 where
  Done : NodesEnd
  NoMemory : NodesEnd
  Unanswered : NodesEnd
  SinkFault : NodesEnd
  LinkFault : NodesEnd
  -- the journal is refused
  Journal : (file : List ℕ) → NodesEnd
  DiskFault : (file : List ℕ) → NodesEnd
  Full : (file : List ℕ) → NodesEnd
  -- the book of the log failed
  BookFault : (file : List ℕ) → NodesEnd

-- the end of a server, whose journal and log have these names
abbrev pub end_of_serve : (file log : List ℕ) → ServeEnd → NodesEnd
end_of_serve file log serve_end.Done = Done
end_of_serve file log serve_end.LinkFault = LinkFault
end_of_serve file log serve_end.SinkFault = SinkFault
end_of_serve file log serve_end.NoMemory = NoMemory
end_of_serve file log (serve_end.Journal at) = Journal file
end_of_serve file log serve_end.Full = Full file
end_of_serve file log serve_end.Disk = DiskFault file
end_of_serve file log serve_end.BookFault = BookFault log

-- of a coordinator, whose log has this name
abbrev pub end_of_submit : (log : List ℕ) → SubmitEnd → NodesEnd
end_of_submit log submit_end.Done = Done
end_of_submit log submit_end.Unanswered = Unanswered
end_of_submit log submit_end.LinkFault = LinkFault
end_of_submit log submit_end.SinkFault = SinkFault
end_of_submit log submit_end.BookFault = BookFault log
end_of_submit log submit_end.NoMemory = NoMemory

-- of one that starts its servers, if no child is to blame
abbrev pub end_of_local : LocalEnd → Option NodesEnd
end_of_local local_end.Done = Some Done
end_of_local local_end.Unanswered = Some Unanswered
end_of_local local_end.LinkFault = Some LinkFault
end_of_local local_end.SinkFault = Some SinkFault
end_of_local local_end.NoMemory = Some NoMemory
end_of_local (local_end.ChildFault shard status) = None

-- of one that sends stops
abbrev pub end_of_stops : StopEnd → NodesEnd
end_of_stops stop_end.Done = Done
end_of_stops stop_end.LinkFault = LinkFault
end_of_stops stop_end.NoMemory = NoMemory
