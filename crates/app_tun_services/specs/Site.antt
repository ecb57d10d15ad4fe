-- What is said on a connection of the site (RFC 9112, sections 6, 7 and 9).
use Rattle.std.specs.Prelude.{◌≡◌, ℕ, zero, suc, ◌+◌, ◌-◌, ◌%◌, ◌==◌, ◌&&◌, nat_lt, min, Bool, true, false, List, [], length, take, map, codes, Result, Ok, Err, None}
use Rattle.std.specs.List.{range_with_len}
use Rattle.tcp_block.specs.RecvError.{RecvError}
use Rattle.sockets.specs.State.{State}
use Rattle.sockets.specs.State.TheVariants as In
use Rattle.sockets.specs.TcpStates.{takes_writes}
use Rattle.tcp_block.specs.Calls.{send_after, recv_answer, recv_after, close_after}
use Rattle.tcp_block.specs.Value.{TcpValue, unoffered}
use Rattle.app_tun_services.specs.Counts.{counts_said, one_more}
use Rattle.app_tun_services.specs.Request.{refusal, Judges}
use Rattle.app_tun_services.specs.declared.counts.Counts.{Counts}
use Rattle.app_tun_services.specs.declared.request.Answer.{Answer}
use Rattle.app_tun_services.specs.declared.request.Reply.{Reply}
use Rattle.app_tun_services.specs.declared.request.Reply.TheVariants as Say
use Rattle.app_tun_services.specs.declared.request.Verdict.{Verdict}
use Rattle.app_tun_services.specs.declared.request.Verdict.TheVariants as Is
use Rattle.app_tun_services.specs.declared.site.Session.{Session}

-- A CONNECTION

-- its socket, and what it is in the middle of
pub record Talk : Type 0 where
  pub socket : TcpValue
  pub session : Session

abbrev pub talk : TcpValue → Session → Talk
talk socket session = record { socket = socket; session = session }

-- a connection that wasn't asked for anything
abbrev pub initial_session : Session
initial_session = record { left = 0; closes = false; was_asked = false; seen = None; answered = 0; declined = 0 }

-- for how many bytes more the send queue has room
abbrev pub room_in : TcpValue → ℕ
room_in v = length v.queued.free

-- THE MEGABYTE

abbrev pub megabyte : ℕ
megabyte = 1_000_000

-- so many bytes of it from a slot on: the 94 printable characters in turn
abbrev pub pattern : ℕ → ℕ → List ℕ
pattern from count = map (λ k. 33 + (from + k) % 94) (range_with_len 0 count)

-- how many bytes of it are said at once, from a buffer of this length
abbrev pub piece_len : ℕ → Talk → ℕ
piece_len most t = min (min (room_in t.socket) t.session.left) most

abbrev pub said_more : ℕ → Talk → Talk
said_more most t = record t {
  socket = send_after t.socket (pattern (megabyte - t.session.left) (piece_len most t));
  session = record t.session { left = t.session.left - piece_len most t };
}

-- AN ANSWER

-- the status line, and the fields that depend on the reply alone
unfoldable pub head_text : Reply → List ℕ
head_text Say.Page = codes "HTTP/1.1 200 OK\r\nContent-Type: text/html\r\nContent-Length: 106\r\n"
head_text Say.Counts = codes "HTTP/1.1 200 OK\r\nContent-Type: text/plain\r\nCache-Control: no-store\r\nContent-Length: 599\r\n"
head_text Say.Megabyte = codes "HTTP/1.1 200 OK\r\nContent-Type: text/plain\r\nContent-Length: 1000000\r\n"
head_text Say.BadRequest = codes "HTTP/1.1 400 Bad Request\r\nContent-Type: text/plain\r\nContent-Length: 12\r\n"
head_text Say.NotFound = codes "HTTP/1.1 404 Not Found\r\nContent-Type: text/plain\r\nContent-Length: 10\r\n"
head_text Say.NotAllowed = codes "HTTP/1.1 405 Method Not Allowed\r\nAllow: GET, HEAD\r\nContent-Type: text/plain\r\nContent-Length: 19\r\n"
head_text Say.TooLarge = codes "HTTP/1.1 431 Request Header Fields Too Large\r\nContent-Type: text/plain\r\nContent-Length: 32\r\n"
head_text Say.NotImplemented = codes "HTTP/1.1 501 Not Implemented\r\nContent-Type: text/plain\r\nContent-Length: 16\r\n"

unfoldable pub end_text : Bool → List ℕ
end_text true = codes "Connection: close\r\n\r\n"
end_text false = codes "\r\n"

-- the body of a reply whose body is always the same
unfoldable pub body_text : Reply → List ℕ
body_text Say.Page =
    codes "<!DOCTYPE html>\n<title>Zemplovir</title>\n<p>This page came over a TCP/IP stack whose promises are proved.\n"
body_text Say.Counts = []
body_text Say.Megabyte = []
body_text Say.BadRequest = codes "bad request\n"
body_text Say.NotFound = codes "not found\n"
body_text Say.NotAllowed = codes "method not allowed\n"
body_text Say.TooLarge = codes "request header fields too large\n"
body_text Say.NotImplemented = codes "not implemented\n"

-- the head and the line that ends it
abbrev pub head_said : Answer → TcpValue → TcpValue
head_said answer v = send_after (send_after v (head_text answer.reply)) (end_text answer.closes)

-- the body; the megabyte is said by and by
abbrev pub body_said : Counts → Reply → Talk → Talk
body_said c Say.Counts t = record t { socket = counts_said c t.socket }
body_said c Say.Megabyte t = record t { session = record t.session { left = megabyte } }
body_said c reply t = record t { socket = send_after t.socket (body_text reply) }

abbrev pub unless_head : Bool → Counts → Reply → Talk → Talk
unless_head true c reply t = t
unless_head false c reply t = body_said c reply t

-- an answer with 200, or another, is counted
abbrev pub counted : Reply → Session → Session
counted Say.Page s = record s { answered = one_more s.answered }
counted Say.Counts s = record s { answered = one_more s.answered }
counted Say.Megabyte s = record s { answered = one_more s.answered }
counted _ s = record s { declined = one_more s.declined }

-- an answer is said, without its body to HEAD, and counted; whether the connection ends after it is kept
abbrev pub said : Counts → Answer → Talk → Talk
said c answer t =
    let it = unless_head answer.is_head c answer.reply (record t { socket = head_said answer t.socket }) in
    record it { session = counted answer.reply (record it.session { closes = answer.closes; was_asked = true }) }

-- A REQUEST

abbrev pub read_by : Result ℕ RecvError → TcpValue → TcpValue
read_by (Ok count) v = recv_after v count
read_by (Err e) v = unoffered v

-- so many bytes are read
abbrev pub read : ℕ → Talk → Talk
read len t = record t { socket = read_by (recv_answer t.socket len) t.socket }

abbrev pub closed : Talk → Talk
closed t = record t { socket = close_after t.socket }

-- a request that isn't whole is waited for
abbrev pub answered : Counts → Verdict → Talk → Talk
answered c Is.Wait t = t
answered c (Is.Asks len answer) t = said c answer (read len t)
answered c (Is.Refused reply) t = said c (refusal reply) t

-- its peer has closed
abbrev pub is_end : State → Bool
is_end In.CloseWait = true
is_end _ = false

abbrev pub count_in : ℕ → Talk → ℕ
count_in most t = min most (length t.socket.received.waiting)

-- the first bytes that wait are judged, at most so many
abbrev pub JudgedAs : Counts → ℕ → Talk → Talk → Type 0
JudgedAs c most t t' =
    (verdict : Verdict) × Judges (take most t.socket.received.waiting) (is_end t.socket.tcb.state) (count_in most t == most) verdict
    × (t' ≡ answered c verdict t)

-- where its peer has closed and nothing waits, the connection closes
abbrev pub AnswersBy : Bool → Counts → ℕ → Talk → Talk → Type 0
AnswersBy true c most t t' = t' ≡ closed t
AnswersBy false c most t t' = JudgedAs c most t t'

abbrev pub Answers : Counts → ℕ → Talk → Talk → Type 0
Answers c most t t' = AnswersBy (is_end t.socket.tcb.state && (count_in most t == 0)) c most t t'

-- A TURN

-- how many bytes an answer takes, at most, but for the megabyte
abbrev pub most_reply : ℕ
most_reply = 1024

-- whether writes are taken, more of the megabyte is to be said, the connection ends, and there is no room for an answer
abbrev pub ServesBy : Bool → Bool → Bool → Bool → Counts → ℕ → Talk → Talk → Type 0
ServesBy false more closes full c most t t' = t' ≡ t
ServesBy true true closes full c most t t' = t' ≡ said_more most t
ServesBy true false true full c most t t' = t' ≡ closed t
ServesBy true false false true c most t t' = t' ≡ t
ServesBy true false false false c most t t' = Answers c most t t'

-- more of the megabyte is said, or the connection closes where it ends after an answer, or a request is answered
abbrev pub ServesOnce : Counts → ℕ → Talk → Talk → Type 0
ServesOnce c most t t' =
    ServesBy (takes_writes t.socket.tcb.state) (nat_lt 0 t.session.left) t.session.closes (nat_lt (room_in t.socket) most_reply) c most t t'

-- so often
abbrev pub ServesTimes : ℕ → Counts → ℕ → Talk → Talk → Type 0
ServesTimes zero c most t t' = t' ≡ t
ServesTimes (suc n) c most t t' = (mid : Talk) × ServesTimes n c most t mid × ServesOnce c most mid t'

-- how many requests of a connection are answered in a turn, at most
unfoldable pub rounds : ℕ
rounds = 8

abbrev pub Serves : Counts → ℕ → Talk → Talk → Type 0
Serves c most t t' = ServesTimes rounds c most t t'
