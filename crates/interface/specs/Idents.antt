-- How many identifications a host took for its IPv4 datagrams (RFC 6864).
use Rattle.std.specs.Prelude.{◌≡◌, ℕ, zero, suc, ◌+◌, ◌%◌, ◌^◌, ◌≤◌}
use Rattle.iface_tables.specs.Inner.{InnerValue}

-- the next one after so many
abbrev pub ident_following : ℕ → ℕ → ℕ
ident_following zero ident = ident
ident_following (suc n) ident = (ident_following n ident + 1) % 2 ^ 16

-- between two hosts so many were taken, one after the other
pub record TakesIdents (most : ℕ) (i i' : InnerValue) : Type 0 where
  pub count : ℕ
  pub few : count ≤ most
  pub next : i'.ident ≡ ident_following count i.ident
