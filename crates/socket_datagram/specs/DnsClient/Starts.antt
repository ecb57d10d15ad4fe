-- How a query begins.
use Rattle.std.specs.Prelude.{◌≡◌, ℕ, ◌+◌, ◌%◌, Bool, true, false, ℤ, None, Result, Ok, Err, List}
use Rattle.net_base.specs.RandomWords.{word, next_state}
use Rattle.wire_dns.specs.Message.{written}
use Rattle.wire_dns.specs.Text.{IsNameOfText}
use Rattle.wire_dns.specs.declared.codes.DnsOpcode.TheVariants as Opcode
use Rattle.wire_dns.specs.declared.codes.DnsQueryType.{DnsQueryType}
use Rattle.wire_dns.specs.declared.name.DnsName.{DnsName}
use Rattle.wire_dns.specs.declared.question.DnsQuestion.{DnsQuestion}
use Rattle.wire_dns.specs.declared.repr.DnsRepr.{DnsRepr}
use Rattle.wire_dns.specs.declared.text.DnsNameError.{DnsNameError}
use Rattle.wire_dns.specs.declared.text.DnsNameError.TheVariants as Name
use Rattle.socket_context.specs.Context.{ContextValue}
use Rattle.socket_datagram.specs.DnsClient.Turns.{query_of}
use Rattle.socket_datagram.specs.DnsClient.Value.{DnsValue, unoffered, is_pending}
use Rattle.socket_datagram.specs.declared.dns.error.StartQueryError.{StartQueryError}
use Rattle.socket_datagram.specs.declared.dns.error.StartQueryError.TheVariants as Why
use Rattle.socket_datagram.specs.declared.dns.state.State.TheVariants.{Pending}

-- why a text that isn't a name is refused
abbrev pub refusal_of : DnsNameError → StartQueryError
refusal_of Name.Invalid = Why.InvalidName
refusal_of Name.TooLong = Why.NameTooLong

-- a query that wants the server to ask others (RFC 1035, section 4.1.1)
abbrev pub repr_of : DnsQuestion → ℕ → DnsRepr
repr_of question number = record {
  transaction_id = number;
  opcode = Opcode.Query;
  flags = record { response = false; authoritative = false; truncated = false; recursion_desired = true; recursion_available = false };
  question = question;
}

-- Two random words give the number and the port: any number of 16 bits, and any port from 1024 on.
abbrev pub number_of : ℕ → ℕ
number_of word = word % 65_536

abbrev pub port_of : ℕ → ℕ
port_of word = 1_024 + word % 64_512

-- a query begins at this instant with these two
abbrev pub started : ℤ → DnsValue → DnsQuestion → ℕ → ℕ → DnsValue
started now v question number port = record v {
  state = Pending (query_of now question number port);
  message = written (repr_of question number);
  offered = None;
}

abbrev pub StartedAs : Result DnsName DnsNameError → ContextValue → DnsValue → DnsQueryType → Result (Unit {0}) StartQueryError → DnsValue → Type 0
StartedAs (Ok name) cx v kind answer v' =
    (answer ≡ Ok tt)
    × (v' ≡ started cx.instant v (record { name = name; type_ = kind }) (number_of (word (next_state cx.random)))
    (port_of (word (next_state (next_state cx.random)))))
StartedAs (Err why) cx v kind answer v' = (answer ≡ Err (refusal_of why)) × (v' ≡ unoffered v)

-- the text is a name, and asked for, or it isn't, and nothing is asked
pub record IsStart (cx : ContextValue) (v : DnsValue) (payload : List ℕ) (kind : DnsQueryType) (answer : Result (Unit {0}) StartQueryError)
    (v' : DnsValue) : Type 0 where
  pub name : Result DnsName DnsNameError
  pub is : IsNameOfText payload name
  pub starts : StartedAs name cx v kind answer v'

-- a socket whose query has no answer yet starts none
abbrev pub StartsIf : Bool → ContextValue → DnsValue → List ℕ → DnsQueryType → Result (Unit {0}) StartQueryError → DnsValue → Type 0
StartsIf true cx v payload kind answer v' = (answer ≡ Err Why.NoFreeSlot) × (v' ≡ unoffered v)
StartsIf false cx v payload kind answer v' = IsStart cx v payload kind answer v'

abbrev pub Starts : ContextValue → DnsValue → List ℕ → DnsQueryType → Result (Unit {0}) StartQueryError → DnsValue → Type 0
Starts cx v payload kind answer v' = StartsIf (is_pending v.state) cx v payload kind answer v'
