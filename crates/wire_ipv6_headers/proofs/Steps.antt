-- One option, and one header, of those that are gone through.
use Rattle.std.proofs.Common.{◌≡◌, ℕ, suc, ◌+◌, Bool, false, List, drop, slice_index, ap, ◌∙◌}
use Rattle.std.specs.Prelude.{Option, Some, None}
use Rattle.wire_address.specs.Protocol.{protocol_of}
use Rattle.wire_address.specs.declared.ip.IpProtocol.{IpProtocol}
use Rattle.wire_ipv6_headers.specs.Headers.{step_at, walked, error_within, is_error_of, passed_len}
use Rattle.wire_ipv6_headers.specs.Options.{front_of, scanned}
use Rattle.wire_ipv6_headers.specs.declared.headers.Following.{Following}
use Rattle.wire_ipv6_headers.specs.declared.headers.Following.TheVariants as End
use Rattle.wire_ipv6_headers.specs.declared.headers.Step.{Step}
use Rattle.wire_ipv6_headers.specs.declared.headers.Step.TheVariants as Way
use Rattle.wire_ipv6_headers.specs.declared.options.First.{First}
use Rattle.wire_ipv6_headers.specs.declared.options.First.TheVariants as Front
use Rattle.wire_ipv6_headers.specs.declared.options.Options.{Options}
use Rattle.wire_ipv6_headers.specs.declared.options.Options.TheVariants as Asked

-- OPTIONS

-- what follows from what stands first
abbrev after_front : (most at : ℕ) → List ℕ → First → Options
after_front most at bytes Front.End = Asked.Skipped
after_front most at bytes Front.Broken = Asked.Broken
after_front most at bytes (Front.Skip len) = scanned most (at + len) (drop len bytes)
after_front most at bytes (Front.Unknown kind) = Asked.Unknown kind at

by_front : (most at : ℕ) (bytes : List ℕ) (front : First) → front_of bytes ≡ front → scanned (suc most) at bytes ≡ after_front most at bytes front
unfolding scanned
by_front most at bytes front is = ap (after_front most at bytes) is

pub scan_front : (left most at : ℕ) (bytes : List ℕ) (front : First) → left ≡ suc most → front ≡ front_of bytes
    → scanned left at bytes ≡ after_front most at bytes front
scan_front left most at bytes front more is = ap (λ n. scanned n at bytes) more ∙ by_front most at bytes front (let e : front_of bytes ≡ front = cc in e)

pub scan_none : (left at : ℕ) (bytes : List ℕ) → left ≡ 0 → scanned left at bytes ≡ Asked.Skipped
unfolding scanned
scan_none left at bytes none = ap (λ n. scanned n at bytes) none

-- HEADERS

abbrev after_step : ℕ → (at : ℕ) → List ℕ → Step → Following
after_step most at rest (Way.Goes len) = walked most (protocol_of (slice_index rest 0)) (40 + at) (at + len) (drop len rest)
after_step most at rest (Way.Stops following) = following

by_step : (most : ℕ) (protocol : IpProtocol) (named_at at : ℕ) (rest : List ℕ) (way : Step) → step_at protocol named_at at rest ≡ way
    → walked (suc most) protocol named_at at rest ≡ after_step most at rest way
unfolding walked
by_step most protocol named_at at rest way is = ap (after_step most at rest) is

pub walk_step : (left most : ℕ) (protocol : IpProtocol) (named_at at : ℕ) (rest : List ℕ) (way : Step) → left ≡ suc most
    → way ≡ step_at protocol named_at at rest → walked left protocol named_at at rest ≡ after_step most at rest way
walk_step left most protocol named_at at rest way more is =
    ap (λ n. walked n protocol named_at at rest) more ∙ by_step most protocol named_at at rest way (let e : step_at protocol named_at at rest ≡ way = cc in e)

pub walk_none : (left : ℕ) (protocol : IpProtocol) (named_at at : ℕ) (rest : List ℕ) → left ≡ 0 → walked left protocol named_at at rest ≡ End.Nothing
unfolding walked
walk_none left protocol named_at at rest none = ap (λ n. walked n protocol named_at at rest) none

-- ERRORS

abbrev after_passed : ℕ → IpProtocol → List ℕ → Option ℕ → Bool
after_passed most protocol rest (Some len) = error_within most (protocol_of (slice_index rest 0)) (drop len rest)
after_passed most protocol rest None = is_error_of protocol rest

by_passed : (most : ℕ) (protocol : IpProtocol) (rest : List ℕ) (len : Option ℕ) → passed_len protocol rest ≡ len
    → error_within (suc most) protocol rest ≡ after_passed most protocol rest len
unfolding error_within
by_passed most protocol rest len is = ap (after_passed most protocol rest) is

pub error_step : (left most : ℕ) (protocol : IpProtocol) (rest : List ℕ) (len : Option ℕ) → left ≡ suc most → len ≡ passed_len protocol rest
    → error_within left protocol rest ≡ after_passed most protocol rest len
error_step left most protocol rest len more is =
    ap (λ n. error_within n protocol rest) more ∙ by_passed most protocol rest len (let e : passed_len protocol rest ≡ len = cc in e)

pub error_none : (left : ℕ) (protocol : IpProtocol) (rest : List ℕ) → left ≡ 0 → error_within left protocol rest ≡ false
unfolding error_within
error_none left protocol rest none = ap (λ n. error_within n protocol rest) none
