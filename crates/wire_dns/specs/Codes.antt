-- Types of records, kinds of queries and response codes (RFC 1035, sections 3.2.2 and 4.1.1; RFC 3596), and the flags.
use Rattle.std.specs.Prelude.{◌==◌, ℕ, ◌+◌, ◌*◌, ◌/◌, ◌%◌, if◌then◌else◌}
use Rattle.wire_dns.specs.declared.codes.DnsQueryType.{DnsQueryType}
use Rattle.wire_dns.specs.declared.codes.DnsQueryType.TheVariants as Kind
use Rattle.wire_dns.specs.declared.codes.DnsOpcode.{DnsOpcode}
use Rattle.wire_dns.specs.declared.codes.DnsOpcode.TheVariants as Opcode
use Rattle.wire_dns.specs.declared.codes.DnsRcode.{DnsRcode}
use Rattle.wire_dns.specs.declared.codes.DnsRcode.TheVariants as Rcode
use Rattle.wire_dns.specs.declared.codes.DnsFlags.{DnsFlags}

-- the type of record with this number
abbrev pub type_of : ℕ → DnsQueryType
type_of n =
    if n == 1 then Kind.A
    else if n == 2 then Kind.Ns
    else if n == 5 then Kind.Cname
    else if n == 6 then Kind.Soa
    else if n == 28 then Kind.Aaaa
    else Kind.Unknown n

abbrev pub type_number : DnsQueryType → ℕ
type_number Kind.A = 1
type_number Kind.Ns = 2
type_number Kind.Cname = 5
type_number Kind.Soa = 6
type_number Kind.Aaaa = 28
type_number (Kind.Unknown n) = n

-- the kind of query with this number of four bits
abbrev pub opcode_of : ℕ → DnsOpcode
opcode_of n = if n == 0 then Opcode.Query else if n == 2 then Opcode.Status else Opcode.Unknown n

abbrev pub opcode_number : DnsOpcode → ℕ
opcode_number Opcode.Query = 0
opcode_number Opcode.Status = 2
opcode_number (Opcode.Unknown n) = n

-- the response code with this number of four bits
abbrev pub rcode_of : ℕ → DnsRcode
rcode_of n =
    if n == 0 then Rcode.NoError
    else if n == 1 then Rcode.FormErr
    else if n == 2 then Rcode.ServFail
    else if n == 3 then Rcode.NXDomain
    else if n == 4 then Rcode.NotImp
    else if n == 5 then Rcode.Refused
    else Rcode.Unknown n

-- the flags in the two bytes that hold them
abbrev pub flags_of : ℕ → ℕ → DnsFlags
flags_of high low = record {
  response = high / 0x80 % 2 == 1;
  authoritative = high / 0x04 % 2 == 1;
  truncated = high / 0x02 % 2 == 1;
  recursion_desired = high % 2 == 1;
  recursion_available = low / 0x80 % 2 == 1;
}

-- the first of these bytes, with the kind of query
abbrev pub high_byte : DnsFlags → DnsOpcode → ℕ
high_byte flags opcode =
    (if flags.response then 0x80 else 0) + 8 * opcode_number opcode + (if flags.authoritative then 0x04 else 0)
    + (if flags.truncated then 0x02 else 0) + (if flags.recursion_desired then 0x01 else 0)

-- the second, with no response code
abbrev pub low_byte : DnsFlags → ℕ
low_byte flags = if flags.recursion_available then 0x80 else 0
