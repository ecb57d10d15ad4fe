-- A connection on numerals: three letters one way, three the other, and both sides close. Each socket has room for 64 bytes each way.
use Rattle.std.specs.Prelude.{ℕ, pos, true, List, [], ◌∷◌, replicate, None}
use Rattle.ip_wire.specs.IpAddress.TheVariants as Ip
use Rattle.ip_wire.specs.IpEndpoint.{IpEndpoint}
use Rattle.ip_wire.specs.IpListenEndpoint.{IpListenEndpoint}
use Rattle.net_base.specs.Ring.{ring}
use Rattle.tcp_block.specs.Value.{TcpValue, new_socket}
use Rattle.tcp_refinement.specs.declared.pair.event.Side.TheVariants.{A, B}
use Rattle.tcp_refinement.specs.declared.pair.event.PairEvent.{PairEvent}
use Rattle.tcp_refinement.specs.declared.pair.event.PairEvent.TheVariants.{Listen, Connect, Send, Recv, Close, Offer, Deliver}
use Rattle.tcp_refinement.specs.Pair.Steps.{happens}
use Rattle.tcp_refinement.specs.Pair.Values.{PairValue, new_pair, address_of}

abbrev pub socket : TcpValue
socket = new_socket 64 (ring [] (replicate 64 0) 0)

abbrev pub port : ℕ → IpListenEndpoint
port n = record { addr = None; port = n }

-- 192.168.1.2:80
abbrev pub server : IpEndpoint
server = record { addr = Ip.Ipv4 (address_of B); port = 80 }

abbrev pub run : PairValue → List PairEvent → PairValue
run p [] = p
run p (event ∷ events) = run (happens p event).pair events

abbrev pub opened : PairValue
opened =
    run (new_pair socket socket)
    (Listen B (port 80)
    ∷ Connect A server (port 49_500)
    ∷ Offer A (pos 0) true
    ∷ Deliver A 0
    ∷ Offer B (pos 0) true
    ∷ Deliver B 0
    ∷ Offer A (pos 0) true
    ∷ Deliver A 1
    ∷ [])

-- abc, delivered twice, and read
abbrev pub told : PairValue
told = run opened (Send A (97 ∷ 98 ∷ 99 ∷ []) ∷ Offer A (pos 0) true ∷ Deliver A 2 ∷ Deliver A 2 ∷ Recv B 8 ∷ [])

-- xyz the other way, and both sides close
abbrev pub closed : PairValue
closed =
    run told
    (Send B (120 ∷ 121 ∷ 122 ∷ [])
    ∷ Close A
    ∷ Close B
    ∷ Offer A (pos 0) true
    ∷ Offer B (pos 0) true
    ∷ Deliver A 3
    ∷ Deliver B 2
    ∷ Offer A (pos 0) true
    ∷ Deliver A 4
    ∷ Offer B (pos 0) true
    ∷ Deliver B 3
    ∷ [])

abbrev pub ended : PairValue
ended = run closed (Offer A (pos 10_000_000) true ∷ [])

abbrev pub read_out : PairValue
read_out = run ended (Recv A 8 ∷ Recv A 8 ∷ [])
