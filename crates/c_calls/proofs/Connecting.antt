-- A connection that is opened at a host.
use Rattle.std.proofs.Common.{◌≡◌, ℕ, ap, ◌∙◌}
use Rattle.std.specs.Prelude.{if◌then◌else◌}
use Rattle.ip_wire.specs.IpEndpoint.{IpEndpoint}
use Rattle.ip_wire.specs.IpListenEndpoint.{IpListenEndpoint}
use Rattle.interface.specs.Host.{HostValue}
use Rattle.interface.specs.Made.{with_inner}
use Rattle.interface.specs.Inner.{context_of, drawn}
use Rattle.sockets.specs.AnySocket.{as_tcp}
use Rattle.sockets.specs.TcpCalls.{connect_after, connect_draws}
use Rattle.sockets.specs.declared.socket.Socket.TheVariants as Kind
use Rattle.c_calls.specs.Slots.{after_at, draws_at}
use Rattle.c_calls.specs.Host.{StackValue}
use Rattle.c_calls.specs.SlotsValue.{SlotsValue}

module _ (slot : ℕ) (remote : IpEndpoint) (local : IpListenEndpoint) where
  abbrev host_after : StackValue → HostValue
  host_after s =
      if draws_at as_tcp (λ v. connect_draws (context_of s.host.inner) v remote local) s.slots slot
      then with_inner s.host (drawn s.host.inner) else s.host

  abbrev slots_after : StackValue → SlotsValue
  slots_after s = after_at as_tcp (λ x. Kind.Tcp x) (λ v. connect_after (context_of s.host.inner) v remote local) s.slots slot

  abbrev connected : StackValue → StackValue
  connected s = record s { host = host_after s; slots = slots_after s }

  pub connects : (s now : StackValue) (h : HostValue) (ps : SlotsValue) → s ≡ now → h ≡ host_after s → ps ≡ slots_after s
      → record s { host = h; slots = ps } ≡ connected now
  connects s now h ps is drew was_sent =
      ap (λ (x : HostValue). record s { host = x; slots = ps }) drew
      ∙ ap (λ (x : SlotsValue). record s { host = host_after s; slots = x }) was_sent
      ∙ ap connected is
