-- What is added to a socket's past by what it does.
use Rattle.std.specs.Prelude.{ℕ, ◌&&◌, Bool, true, false, List, [], ◌∷◌, ◌++◌, take, Option, Some, None, Result, Ok, Err, is_ok}
use Rattle.ip_wire.specs.IpEndpoint.{IpEndpoint}
use Rattle.ip_wire.specs.IpListenEndpoint.{IpListenEndpoint}
use Rattle.socket_context.specs.Context.{ContextValue}
use Rattle.socket_context.specs.Packet.{PacketValue, PayloadValue}
use Rattle.socket_context.specs.Packet as Carried
use Rattle.tcp_theory.specs.Segment.{Segment}
use Rattle.tcp_theory.specs.Side.{Opening}
use Rattle.tcp_theory.specs.Side.Opening.{Passive, Active}
use Rattle.tcp_block.specs.SendError.{SendError}
use Rattle.tcp_block.specs.OpenOffer.{OpenOffer}
use Rattle.tcp_block.specs.Reply.{Reply}
use Rattle.tcp_block.specs.State.{State}
use Rattle.tcp_block.specs.State.TheVariants as In
use Rattle.tcp_block.specs.Calls.{listen_answer, connect_answer}
use Rattle.tcp_block.specs.Offers.{payload_of}
use Rattle.tcp_block.specs.States.{is_closed}
use Rattle.tcp_block.specs.Value.{TcpValue}
use Rattle.tcp_refinement.specs.Tie.{Past, segment_of}

abbrev pub listened : Past → Past
listened p = record p { opening = Passive }

abbrev pub called : Past → Past
called p = record p { opening = Active }

abbrev pub with_written : Past → List ℕ → Past
with_written p bytes = record p { written = p.written ++ bytes }

abbrev pub with_read : Past → List ℕ → Past
with_read p bytes = record p { read = p.read ++ bytes }

abbrev pub with_sent : Past → Segment → Past
with_sent p x = record p { sent = p.sent ++ x ∷ [] }

-- a close counts in SYN-RECEIVED, ESTABLISHED and CLOSE-WAIT
abbrev pub closes_in : State → Bool
closes_in In.SynReceived = true
closes_in In.Established = true
closes_in In.CloseWait = true
closes_in other = false

abbrev pub closed_by : Bool → Past → Past
closed_by true p = record p { closed = true }
closed_by false p = p

-- what answers a segment is sent
abbrev pub with_answer : Past → Option Reply → Past
with_answer p None = p
with_answer p (Some reply) = with_sent p (segment_of reply.segment [])

-- an offer that is settled as sent; the queue is the one that it was made from
abbrev pub with_offer : Past → Option OpenOffer → List ℕ → Past
with_offer p None queue = p
with_offer p (Some offer) queue = with_sent p (segment_of offer.segment (payload_of offer offer.kind queue))

-- the segment of a packet
abbrev pub with_payload : Past → PayloadValue → Past
with_payload p (Carried.Segment header bytes) = with_sent p (segment_of header bytes)
with_payload p other = p

abbrev pub with_packet : Past → Option PacketValue → Past
with_packet p None = p
with_packet p (Some packet) = with_payload p packet.payload

-- CALLS, BY THEIR ANSWERS

-- a listen opens a socket that is CLOSED; accepted again on the same endpoint it changes nothing
abbrev pub listen_opens : TcpValue → IpListenEndpoint → Bool
listen_opens v endpoint = is_closed v.tcb.state && is_ok (listen_answer v endpoint)

abbrev pub connect_opens : ContextValue → TcpValue → IpEndpoint → IpListenEndpoint → Bool
connect_opens cx v remote local = is_ok (connect_answer cx v remote local)

abbrev pub opened_by : Opening → Bool → Past → Past
opened_by opening true p = record p { opening = opening }
opened_by opening false p = p

-- the bytes that a send took
abbrev pub bytes_taken : Result ℕ SendError → List ℕ → List ℕ
bytes_taken (Ok count) bytes = take count bytes
bytes_taken (Err refusal) bytes = []
