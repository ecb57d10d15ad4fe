-- An entry that is renewed where it stands.
use Rattle.std.proofs.Common.{◌≡◌, ℕ, ℤ, List, length, refl, Some, arith}
use Rattle.std.specs.Prelude.{if◌then◌else◌, slice_get, slice_set}
use Rattle.std.specs.List.{refill}
use Rattle.std.proofs.lemmas.List.{drop_all, take_all, append-nil}
use Rattle.ip_wire.specs.AddressTests.{is_same_hardware}
use Rattle.ip_wire.specs.HardwareAddress.{HardwareAddress}
use Rattle.ip_wire.specs.IpAddress.{IpAddress}
use Rattle.iface_tables.specs.declared.neighbor.Neighbor.{Neighbor}
use Rattle.iface_tables.specs.declared.neighbor.Search.{Search}
use Rattle.iface_tables.specs.Neighbor.{CacheValue, neighbor_index_of, renewed, renewed_entry, ended, search_index, requested, silenced, one_more}

-- as many elements written over a list are what it then holds
pub refill-same : {X : Type 0} (xs ws : List X) → length ws ≡ length xs → refill (length xs) xs ws ≡ ws
refill-same xs ws same = rw (drop_all (length ws) xs (omega (arith, same)), append-nil) (take_all (length xs) ws (omega (arith, same)))

pub renewed-at : (v : CacheValue) (address : IpAddress) (hardware : HardwareAddress) (instant : ℤ) (at : ℕ) (entry : Neighbor) →
    neighbor_index_of v.entries address ≡ Some at → slice_get v.entries at ≡ Some entry
    → renewed v address hardware instant ≡ record v {
      entries = slice_set v.entries at (renewed_entry entry hardware instant);
      searches =
          if is_same_hardware entry.hardware_addr hardware then ended v.searches address else v.searches;
    }
renewed-at v address hardware instant at entry index got = rw (index, got) refl

pub requested-at : (v : CacheValue) (address : IpAddress) (instant : ℤ) (at : ℕ) (s : Search) → search_index v.searches address ≡ Some at →
    slice_get v.searches at ≡ Some s
    → requested v address instant ≡ record (silenced v instant) { searches = slice_set v.searches at (one_more s instant) }
requested-at v address instant at s index got = rw (index, got) refl
