-- What sockets' slots and a host end as, once a `&mut` to a part of them has ended.
use Rattle.std.specs.Prelude.{◌≡◌, ℕ, Option, OnSome, Result}
use Rattle.std.specs.Borrow.{Fml, RattleType, MutBor, Lends, LendsSo, LendsSoOk}
use Rattle.std.specs.Global.{Vec}
use Rattle.std.specs.contracts.alloc.Global as global
use Rattle.std.specs.contracts.impls.GlobalAllocator.TheImpl.{ghosts}
use Rattle.std.specs.contracts.option.Option as option
use Rattle.std.specs.contracts.vec.Vec as vec
use Rattle.c_calls.specs.Link.{LinkValue}
use Rattle.c_calls.specs.contracts.link.device.FrameLink as link
use Rattle.socket_datagram.specs.contracts.dhcpv4.socket.Socket as dhcp
use Rattle.socket_datagram.specs.contracts.dns.socket.Socket as dns
use Rattle.interface.specs.Host.{HostValue}
use Rattle.interface.specs.contracts.host.Interface as interface
use Rattle.interface.specs.contracts.listener.Listener as listener
use Rattle.interface.specs.declared.listener.Listener.{Listener}
use Rattle.sockets.specs.DhcpValue.{DhcpValue}
use Rattle.sockets.specs.DnsValue.{DnsValue}
use Rattle.sockets.specs.declared.socket.Socket.{Socket}
use Rattle.sockets.specs.contracts.socket.Socket.{the_row as socket_row}
use Rattle.c_calls.specs.Host.{StackValue}
use Rattle.c_calls.specs.Numbers.{put_at}
use Rattle.c_calls.specs.SlotsValue.{SlotsValue}
use Rattle.c_calls.specs.contracts.host.Host.{the_row as host_row}
use Rattle.c_calls.specs.contracts.host.Counters.{the_row as counters_row}
use Rattle.c_calls.specs.contracts.slots.Slots.{the_row as slots_row}
use Rattle.c_calls.specs.declared.code.Code.{Code}
use Rattle.c_calls.specs.declared.host.Counters.{Counters}

-- the slot ends with the last value after the reference as its socket, with the mark that it had, and the others as they were
abbrev pub LendsSocket : MutBor SlotsValue → SlotsValue → ℕ → Option (MutBor Socket) → Fml
LendsSocket s before n r = LendsSo slots_row socket_row s r (λ new w. OnSome r (new ≡ put_at before n w)) (λ new. new ≡ before)

module _ (K : RattleType) (upcast_of : K.Denot → Socket) where
  -- the same of a socket of one kind
  abbrev pub LendsKind : MutBor SlotsValue → SlotsValue → ℕ → Result (MutBor K.Denot) Code → Fml
  LendsKind s before n r = LendsSoOk slots_row K s r (λ new w. new ≡ put_at before n (upcast_of w)) (λ new. new ≡ before)

-- A host ends with the last value after the reference as that part of it, and all else as it was.
module _ (s : MutBor StackValue) where
  abbrev pub LendsLink : MutBor LinkValue → Fml
  LendsLink r = Lends host_row link.the_row s r (λ link. record s.now { link = link })

  abbrev pub LendsSockets : MutBor SlotsValue → Fml
  LendsSockets r = Lends host_row slots_row s r (λ slots. record s.now { slots = slots })

  abbrev pub LendsInterface : MutBor HostValue → Fml
  LendsInterface r = Lends host_row interface.the_row s r (λ host. record s.now { host = host })

  abbrev pub LendsListeners : MutBor (Vec (Option Listener)) → Fml
  LendsListeners r =
      Lends host_row (vec.the_row (option.the_row listener.the_row) global.the_row ghosts) s r (λ listeners. record s.now { listeners = listeners.items })

  abbrev pub LendsLeases : MutBor (Option DhcpValue) → Fml
  LendsLeases r = Lends host_row (option.the_row dhcp.the_row) s r (λ client. record s.now { dhcp = client })

  abbrev pub LendsNames : MutBor (Option DnsValue) → Fml
  LendsNames r = Lends host_row (option.the_row dns.the_row) s r (λ client. record s.now { dns = client })

  abbrev pub LendsCounters : MutBor Counters → Fml
  LendsCounters r = Lends host_row counters_row s r (λ counters. record s.now { counters = counters })
