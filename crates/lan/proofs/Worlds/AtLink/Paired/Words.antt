-- What a socket reads of its host's random words: nothing in an offer, and nothing in a call where initial sequence numbers are made with a key (RFC 6528).
use Rattle.std.proofs.Common.{◌≡◌, ℕ, ℤ, List, if◌then◌else◌, Option, Some, None, refl, sym, subst}
use Rattle.ip_wire.specs.IpEndpoint.{IpEndpoint}
use Rattle.tcp_block.specs.Isn.{number_for}
use Rattle.tcp_block.specs.States.{is_closed}
use Rattle.tcp_block.specs.FourTuple.{FourTuple}
use Rattle.tcp_refinement.specs.Pair.Values.{HostContext, context_on}
use Rattle.tcp_block.specs.Calls.{connect_after, connected_by, four_tuple_for}
use Rattle.tcp_block.specs.Offers.{offer_of, offer_with}
use Rattle.tcp_block.specs.Value.{TcpValue, unoffered}
use Rattle.lan.specs.Worlds.AtLink.Calls.{at_port}

module _ (host : HostContext) (instant : ℤ) (random words : ℕ) where
  offer_with_same : (o : Option FourTuple) (v : TcpValue) → offer_with o (context_on host instant random) v ≡ offer_with o (context_on host instant words) v
  offer_with_same None v = refl
  offer_with_same (Some pair) v = refl

  pub offers_same : (v : TcpValue) → offer_of (context_on host instant random) v ≡ offer_of (context_on host instant words) v
  offers_same v = offer_with_same v.tcb.names.pair (unoffered v)

module _ (host : HostContext) (key : List ℕ) (instant : ℤ) (random words : ℕ) where
  abbrev keyed : HostContext
  keyed = record host { isn_key = Some key }

  number_same : (o : Option FourTuple) → number_for (context_on keyed instant random) o ≡ number_for (context_on keyed instant words) o
  number_same None = refl
  number_same (Some pair) = refl

  keyed_connects : (v : TcpValue) (remote : IpEndpoint) (port : ℕ) →
      connect_after (context_on keyed instant random) v remote (at_port port) ≡ connect_after (context_on keyed instant words) v remote (at_port port)
  keyed_connects v remote port =
      let pair = four_tuple_for (context_on keyed instant random) remote (at_port port) in
      λ k. if is_closed v.tcb.state then connected_by v pair (number_same pair k) else unoffered v

  pub connects_same : (v : TcpValue) (remote : IpEndpoint) (port : ℕ) → host.isn_key ≡ Some key →
      connect_after (context_on host instant random) v remote (at_port port) ≡ connect_after (context_on host instant words) v remote (at_port port)
  connects_same v remote port has =
      let same : record host { isn_key = Some key } ≡ host = λ k. record host { isn_key = sym has k } in
      subst (λ (h : HostContext).
      connect_after (context_on h instant random) v remote (at_port port) ≡ connect_after (context_on h instant words) v remote (at_port port)) same
      (keyed_connects v remote port)
