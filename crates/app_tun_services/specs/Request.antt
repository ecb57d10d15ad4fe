-- What is said to a request (RFC 9110, sections 9 and 15; RFC 9112, sections 2, 3, 6 and 9).
use Rattle.std.specs.Prelude.{◌≡◌, ℕ, ◌≤◌, ◌==◌, ◌&&◌, ◌||◌, ◌⊎◌, not, nat_le, if◌then◌else◌, Bool, true, false, List, [], length, take, drop, map, position}
use Rattle.std.specs.Prelude.{codes, bytes_eq, Option, Some, None}
use Rattle.http1.specs.Fields.{Header, known_fields}
use Rattle.http1.specs.declared.fields.ContentLength.{ContentLength}
use Rattle.http1.specs.declared.fields.ContentLength.TheVariants as Length
use Rattle.http1.specs.declared.fields.KnownFields.{KnownFields}
use Rattle.http1.specs.declared.fields.TransferEncoding.{TransferEncoding}
use Rattle.http1.specs.declared.fields.TransferEncoding.TheVariants as Coding
use Rattle.httparse.specs.Grammar.{RequestHead, print_request, ReadsRequest, HasNoRequest, NeverHasRequest, MayBecomeRequest}
use Rattle.httparse.specs.Spans.{RequestExceeds, name_and_value}
use Rattle.app_tun_services.specs.declared.request.Answer.{Answer}
use Rattle.app_tun_services.specs.declared.request.Reply.{Reply}
use Rattle.app_tun_services.specs.declared.request.Reply.TheVariants.{Page, Counts, Megabyte, BadRequest, NotFound, NotAllowed, TooLarge, NotImplemented}
use Rattle.app_tun_services.specs.declared.request.Verdict.{Verdict}
use Rattle.app_tun_services.specs.declared.request.Verdict.TheVariants as Is

-- THE TARGET (RFC 9112, 3.2)

-- up to a slot, or all
abbrev pub up_to : Option ℕ → List ℕ → List ℕ
up_to None bytes = bytes
up_to (Some at) bytes = take at bytes

-- from a slot on, or the root
abbrev pub path_from : Option ℕ → List ℕ → List ℕ
path_from None bytes = codes "/"
path_from (Some at) bytes = drop at bytes

abbrev pub is_absolute : List ℕ → Bool
is_absolute target = bytes_eq (take 7 target) (codes "http://")

-- from the first slash after the scheme on
abbrev pub following_authority : List ℕ → List ℕ
following_authority rest = path_from (position (λ b. b == 47) rest) rest

abbrev pub origin_form : List ℕ → List ℕ
origin_form target = if is_absolute target then following_authority (drop 7 target) else target

-- up to the question mark before a query
abbrev pub before_query : List ℕ → List ℕ
before_query target = up_to (position (λ b. b == 63) target) target

abbrev pub path_of : List ℕ → List ℕ
path_of target = before_query (origin_form target)

-- THE REPLY

abbrev pub reply_at : List ℕ → Reply
reply_at path =
    if bytes_eq path (codes "/") then Page
    else if bytes_eq path (codes "/counts") then Counts
    else if bytes_eq path (codes "/megabyte") then Megabyte
    else NotFound

abbrev pub is_head : List ℕ → Bool
is_head method = bytes_eq method (codes "HEAD")

abbrev pub is_read : List ℕ → Bool
is_read method = bytes_eq method (codes "GET") || is_head method

-- the other methods of RFC 9110, section 9.3, and PATCH
abbrev pub is_known : List ℕ → Bool
is_known method =
    bytes_eq method (codes "POST") || bytes_eq method (codes "PUT") || bytes_eq method (codes "DELETE") || bytes_eq method (codes "CONNECT")
    || bytes_eq method (codes "OPTIONS") || bytes_eq method (codes "TRACE") || bytes_eq method (codes "PATCH")

-- a method that is known is allowed nowhere but GET and HEAD (405); one that isn't isn't implemented (501)
abbrev pub reply_to : List ℕ → List ℕ → Reply
reply_to method target =
    if is_read method then reply_at (path_of target)
    else if is_known method then NotAllowed
    else NotImplemented

-- THE FIELDS

abbrev pub is_length : ContentLength → Bool
is_length Length.Absent = true
is_length (Length.Value n) = true
is_length Length.Invalid = false

-- one Host, which HTTP/1.0 may leave out (RFC 9112, 3.2), and a length that is one (6.3)
abbrev pub is_in_order : ℕ → KnownFields → Bool
is_in_order minor known = nat_le known.hosts 1 && ((minor == 0 || known.hosts == 1) && is_length known.content_length)

abbrev pub has_length : ContentLength → Bool
has_length Length.Absent = false
has_length (Length.Value n) = not (n == 0)
has_length Length.Invalid = true

abbrev pub has_coding : TransferEncoding → Bool
has_coding Coding.Absent = false
has_coding _ = true

-- the connection ends after the answer to a request of HTTP/1.0, to one that says so, and to one with a body, which isn't read (9.3, 9.6)
abbrev pub closes_after : ℕ → KnownFields → Bool
closes_after minor known = minor == 0 || (known.close || (has_length known.content_length || has_coding known.transfer_encoding))

-- THE ANSWER

abbrev pub refusal : Reply → Answer
refusal reply = record { reply = reply; is_head = false; closes = true }

abbrev pub answer_by : List ℕ → List ℕ → ℕ → KnownFields → Answer
answer_by method target minor known =
    if is_in_order minor known
    then record { reply = reply_to method target; is_head = is_head method; closes = closes_after minor known }
    else refusal BadRequest

abbrev pub answer_to : RequestHead → Answer
answer_to head = answer_by head.method head.target head.minor (known_fields (map name_and_value head.fields))

-- THE BYTES

-- how many header fields a request may have
abbrev pub most_fields : ℕ
most_fields = 32

-- so many bytes are the head of a request
pub record Asks (bytes : List ℕ) (len : ℕ) (answer : Answer) : Type 0 where
  pub head : RequestHead
  pub reads : ReadsRequest bytes head (drop len bytes)
  pub whole : len ≡ length (print_request head)
  pub answers : answer ≡ answer_to head

-- more is to come than is looked at, or there are too many fields (431); it can't become a request, or it ends inside one (400)
abbrev pub RefusedAs : List ℕ → Bool → Bool → Reply → Type 0
RefusedAs bytes is_end is_full TooLarge = ((is_full ≡ true) × HasNoRequest bytes) ⊎ RequestExceeds most_fields bytes
RefusedAs bytes is_end is_full BadRequest = NeverHasRequest bytes ⊎ ((is_end ≡ true) × HasNoRequest bytes)
RefusedAs bytes is_end is_full reply = ⊥

abbrev pub Judges : List ℕ → Bool → Bool → Verdict → Type 0
Judges bytes is_end is_full Is.Wait = (is_end ≡ false) × (is_full ≡ false) × MayBecomeRequest bytes
Judges bytes is_end is_full (Is.Asks len answer) = Asks bytes len answer
Judges bytes is_end is_full (Is.Refused reply) = RefusedAs bytes is_end is_full reply
