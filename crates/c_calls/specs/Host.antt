-- A host as a value: its link, its interface, its sockets, its listeners, its clients and what it counted.
use Rattle.std.specs.Prelude.{ℕ, List, Option}
use Rattle.c_calls.specs.Link.{LinkValue}
use Rattle.c_calls.specs.declared.host.Counters.{Counters}
use Rattle.interface.specs.Host.{HostValue}
use Rattle.interface.specs.declared.listener.Listener.{Listener}
use Rattle.sockets.specs.DhcpValue.{DhcpValue}
use Rattle.sockets.specs.DnsValue.{DnsValue}
use Rattle.c_calls.specs.SlotsValue.{SlotsValue}

pub record StackValue : Type 0 where
  pub link : LinkValue
  pub host : HostValue
  pub slots : SlotsValue
  pub listeners : List (Option Listener)
  pub dhcp : Option DhcpValue
  pub dns : Option DnsValue
  pub counters : Counters
