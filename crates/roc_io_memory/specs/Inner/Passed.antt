-- What a link in memory keeps of one send or receive.
use Rattle.roc_io.specs.Link.{LinkEvent, sending, losing, receiving, came, none_came, vain}
use Rattle.roc_io_memory.specs.declared.link.passed.Kind.{Kind}
use Rattle.roc_io_memory.specs.declared.link.passed.Kind.TheVariants.{Sent, Lost, Came, NoneCame, Vain}

abbrev pub event_of : Kind → LinkEvent
event_of (Sent datagram) = sending datagram
event_of (Lost datagram) = losing datagram
event_of (Came datagram) = receiving (came datagram)
event_of NoneCame = receiving none_came
event_of Vain = receiving vain
