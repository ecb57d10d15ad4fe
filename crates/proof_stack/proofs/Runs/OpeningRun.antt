-- The opening of a connection is a run: its fragments, joined.
use Rattle.std.proofs.Common.{◌≡◌, List, [], ◌∷◌, ◌++◌, slice_get, Some, refl, sym, ap, ◌∙◌, subst}
use Rattle.lan.specs.Worlds.AtLink.Call.SocketCall.{Listen, Connect}
use Rattle.ip_wire.specs.IpAddress.TheVariants as Address
use Rattle.ip_wire.specs.Tcp.{normal}
use Rattle.tcp_refinement.specs.Host.{Made, made_of}
use Rattle.lan.specs.Worlds.AtLink.Moves.{IsRun, run}
use Rattle.lan.specs.Worlds.AtLink.Parties.{party}
use Rattle.lan.specs.Worlds.AtLink.Parties.Socket.{Tcp}
use Rattle.lan.specs.Worlds.AtLink.PacketsSafe.{IsInitialNet}
use Rattle.lan.specs.declared.at_link.history.event.Side.TheVariants.{A, B}
use Rattle.proof_stack.specs.Worlds.Opening.{opening, opened}
use Rattle.proof_stack.specs.Worlds.Hosts.{address, endpoint, no_names, unbound}
use Rattle.proof_stack.specs.Worlds.Played.{Doing, Play, done, start, played, steps_of, segment_at}
use Rattle.proof_stack.specs.Worlds.Played.Doing.{Calls, Asks, Comes}
use Rattle.proof_stack.specs.Worlds.Streams.{TcpSegment, initial}
use Rattle.proof_stack.proofs.Runs.Initial.{initial_one, initial_tcp}
use Rattle.proof_stack.proofs.Runs.Playing.{comes_whole, leaves_now, net_played, run_on}
use Rattle.proof_stack.proofs.Runs.Worlds.{ack}

pub are_initial : IsInitialNet unbound start.net
are_initial = record { a = initial_one (Tcp initial) initial_tcp; b = initial_one (Tcp initial) initial_tcp; history = refl }

-- the calls, and the SYN that comes
abbrev asking : List Doing
asking = Calls B (Listen 80) ∷ Calls A (Connect (endpoint B 80) 49_500) ∷ Asks A ∷ Comes B 0 ∷ []

abbrev asked : Play
asked = played start asking

-- the SYN with its acknowledgement
abbrev answering : List Doing
answering = Asks B ∷ Comes A 0 ∷ []

abbrev answered : Play
answered = played asked answering

-- the acknowledgement
abbrev sending : List Doing
sending = Asks A ∷ []

abbrev sent : Play
sent = played answered sending

abbrev coming : List Doing
coming = Comes B 1 ∷ []

asking_run : IsRun no_names start.net (steps_of start asking)
asking_run = (
  (refl, refl, refl, (refl, refl, refl)),
  ((refl, refl, refl, (refl, refl, refl)), ((refl, leaves_now A (done (done start (Calls B (Listen 80))) (Calls A (Connect (endpoint B 80) 49_500)))), ((refl, refl, comes_whole 0 refl), tt))),
)

answering_run : IsRun no_names asked.net (steps_of asked answering)
answering_run = ((refl, leaves_now B asked), ((refl, refl, comes_whole 0 refl), tt))

sending_run : IsRun no_names answered.net (steps_of answered sending)
sending_run = ((refl, leaves_now A answered), tt)

abbrev between : TcpSegment → Made
between x = made_of (Address.Ipv4 (address A)) (Address.Ipv4 (address B)) x.0 x.1

there : slice_get (party sent.net A).segments 1 ≡ Some (between (ack, []))
there = refl

named : segment_at sent A 1 ≡ (ack, [])
named = refl

was_sent : slice_get (party sent.net A).segments 1 ≡ Some (between (segment_at sent A 1))
was_sent = there ∙ sym (ap (λ (x : TcpSegment). Some (between x)) named)

is_normal : (segment_at sent A 1).0 ≡ normal (segment_at sent A 1).0
is_normal = subst (λ (x : TcpSegment). x.0 ≡ normal x.0) (sym named) refl

coming_run : IsRun no_names sent.net (steps_of sent coming)
coming_run = ((refl, refl, comes_whole 1 was_sent), tt)

joined : asking ++ (answering ++ (sending ++ coming)) ≡ opening
joined = refl

pub opening_run : IsRun no_names start.net (steps_of start opening)
opening_run =
    subst (λ (doings : List Doing). IsRun no_names start.net (steps_of start doings)) joined
    (run_on no_names start asking (answering ++ (sending ++ coming)) asking_run
    (run_on no_names asked answering (sending ++ coming) answering_run (run_on no_names answered sending coming sending_run coming_run)))

pub leads : run start.net (steps_of start opening) ≡ opened.net
leads = net_played start opening
