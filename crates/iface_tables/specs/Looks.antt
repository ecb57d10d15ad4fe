-- What a look at a host answers.
use Rattle.socket_context.specs.Context.{ContextValue}
use Rattle.iface_tables.specs.Inner.{context_of}
use Rattle.iface_tables.specs.declared.look.Look.{Look}

abbrev pub look_context : Look → ContextValue
look_context l = record (context_of l.inner.now) { ip_mtu = l.mtu; random = l.rand }
