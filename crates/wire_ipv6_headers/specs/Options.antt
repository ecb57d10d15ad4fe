-- Options of a hop-by-hop or a destination options header (RFC 8200, section 4.2): a type, a length, and so many bytes of data.
-- Pad1, of type 0, is a type alone. The two highest bits of a type say what a host does that doesn't know it: skip the option (00),
-- drop the packet (01), and tell the packet's source (10), or tell it unless the packet went to a group (11).
use Rattle.std.specs.Prelude.{ℕ, zero, suc, ◌+◌, ◌≤◌, ◌==◌, nat_lt, Bool, if◌then◌else◌, List, [], ◌∷◌, length, drop}
use Rattle.wire_ipv6_headers.specs.declared.options.First.{First}
use Rattle.wire_ipv6_headers.specs.declared.options.First.TheVariants as Front
use Rattle.wire_ipv6_headers.specs.declared.options.Options.{Options}
use Rattle.wire_ipv6_headers.specs.declared.options.Options.TheVariants as Asked

-- PadN, of type 1, is one of these
abbrev pub is_skipped : ℕ → Bool
is_skipped kind = nat_lt kind 64

-- what stands first among options
abbrev pub front_of : List ℕ → First
front_of [] = Front.End
front_of (kind ∷ []) = if kind == 0 then Front.Skip 1 else Front.Broken
front_of (kind ∷ len ∷ inside) =
    if kind == 0 then Front.Skip 1
    else if nat_lt (length inside) len then Front.Broken
    else if is_skipped kind then Front.Skip (2 + len)
    else Front.Unknown kind

-- What options in bytes of which the first is at `at` ask of a host that knows Pad1 and PadN alone. `most` is a bound of how many
-- there are.
unfoldable pub scanned : (most at : ℕ) → List ℕ → Options
scanned zero at bytes = Asked.Skipped
scanned (suc most) at bytes =
    elim (front_of bytes) as (λ _. Options) [
      | Front.End ↦ Asked.Skipped
      | Front.Broken ↦ Asked.Broken
      | Front.Skip len ↦ scanned most (at + len) (drop len bytes)
      | Front.Unknown kind ↦ Asked.Unknown kind at
    ]

-- each has a byte at least
abbrev pub asked_by : (at : ℕ) → List ℕ → Options
asked_by at bytes = scanned (length bytes) at bytes

-- what is skipped is there
abbrev pub SkipsWithin : ℕ → First → Type 0
SkipsWithin size (Front.Skip len) = len ≤ size
SkipsWithin size _ = Unit {0}

-- an option's offset is no later than the end
abbrev pub AsksWithin : (end : ℕ) → Options → Type 0
AsksWithin end (Asked.Unknown kind at) = at ≤ end
AsksWithin end _ = Unit {0}
