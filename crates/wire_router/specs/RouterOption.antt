-- What an option of an advertisement says, by its type and what is after its length (RFC 4861, section 4.6; RFC 8106, section 5.1; RFC 3971,
-- section 5.3.2).
use Rattle.std.specs.Prelude.{ℕ, ◌+◌, ◌*◌, ◌/◌, ◌%◌, ◌<◌, ◌^◌, ◌==◌, nat_le, ◌&&◌, if◌then◌else◌, List, ◌∷◌, ◌++◌, length, slice_index, slice_range}
use Rattle.std.specs.Int.{w32, to_be_bytes}
use Rattle.wire_address.specs.Address.{IsIpv6Address}
use Rattle.wire_address.specs.Fields.{be32}
use Rattle.wire_address.specs.declared.ipv6.Ipv6Address.{Ipv6Address}
use Rattle.wire_router.specs.declared.option.PrefixInformation.{PrefixInformation}
use Rattle.wire_router.specs.declared.option.RouterOption.{RouterOption}
use Rattle.wire_router.specs.declared.option.RouterOption.TheVariants as Says

-- a prefix: its length, the flags L and A, two lifetimes, four reserved bytes, the address
abbrev pub prefix_of : List ℕ → PrefixInformation
prefix_of inside = record {
  prefix_len = slice_index inside 0;
  on_link = slice_index inside 1 / 128 == 1;
  addrconf = slice_index inside 1 / 64 % 2 == 1;
  valid_lifetime = be32 inside 2;
  preferred_lifetime = be32 inside 6;
  prefix = record { 0 = slice_range inside 14 30 };
}

-- an option of another length than its type has is passed over
abbrev pub option_of : ℕ → List ℕ → RouterOption
option_of kind inside =
    if (kind == 1) && (length inside == 6) then Says.SourceLinkLayerAddr (record { 0 = inside })
    else (if (kind == 3) && (length inside == 30) then Says.PrefixInformation (prefix_of inside)
    else (if (kind == 5) && (length inside == 6) then Says.Mtu (be32 inside 2)
    else (if (kind == 25) && (nat_le 22 (length inside) && (length inside % 16 == 6)) then Says.RecursiveDnsServers (be32 inside 2) (length inside / 16)
    else (if kind == 14 then Says.Nonce else Says.Other))))

-- the server of names at this index
abbrev pub server_in : List ℕ → ℕ → Ipv6Address
server_in inside i = record { 0 = slice_range inside (6 + 16 * i) (6 + 16 * i + 16) }

-- the option of a prefix, as it is sent
abbrev pub prefix_inside : PrefixInformation → List ℕ
prefix_inside p =
    3 ∷ 4 ∷ p.prefix_len ∷ ((if p.on_link then 128 else 0) + (if p.addrconf then 64 else 0))
    ∷ (to_be_bytes w32 p.valid_lifetime ++ (to_be_bytes w32 p.preferred_lifetime ++ (0 ∷ 0 ∷ 0 ∷ 0 ∷ p.prefix.0)))

-- each field is a number of its width
abbrev pub IsPrefix : PrefixInformation → Type 0
IsPrefix p = (p.prefix_len < 256) × (p.valid_lifetime < 2 ^ 32) × (p.preferred_lifetime < 2 ^ 32) × IsIpv6Address p.prefix
