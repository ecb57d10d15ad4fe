use Rattle.std.proofs.Common.{◌≡◌, ℕ, pos, Bool, if◌then◌else◌, [], None, true, false, length, refl}
use Rattle.std.specs.Prelude.{max, is_some, Some}
use Rattle.std.proofs.lemmas.List.{length-replicate}
use Rattle.iface_tables.specs.Groups.{no_groups}
use Rattle.iface_tables.specs.Neighbor as Neighbors
use Rattle.iface_tables.specs.Neighbor.{CacheValue}
use Rattle.iface_tables.specs.Reassembly.{initial}
use Rattle.iface_tables.specs.Settings.{neighbors_for}
use Rattle.interface.specs.Host.{HostValue}
use Rattle.interface.specs.Made.{assembler_count}
use Rattle.proof_stack.proofs.Begins.{made-has, refused-short, refused-long}
use Rattle.proof_stack.proofs.interface_host.begins.Goals as goal

abbrev cache : Bool → ℕ → CacheValue
cache many room = record { entries = []; room = room; silent = pos 0; searches = []; search_room = if many then 64 else 8 }

for_many : (many : Bool) (room : ℕ) → neighbors_for many (Neighbors.initial room) ≡ cache many room
for_many true room = refl
for_many false room = refl

tells : {X : Type 0} (is : Bool) (x : X) → is_some (if is then Some x else None) ≡ is
tells true x = refl
tells false x = refl

pub returns : goal.returns
returns g c =
    let config = c.args.config.now in
    let device = g.D.Device.described c.args.device.now in
    let instant = c.args.now in
    let result = c.new.result in
    let made = c.new.ensures in
    record {
      addresses = made-has config device instant result (λ (h : HostValue). h.inner.addresses ≡ []) made refl;
      any_ip = made-has config device instant result (λ (h : HostValue). h.inner.any_ip ≡ false) made refl;
      routes = made-has config device instant result (λ (h : HostValue). h.inner.routes ≡ []) made refl;
      route_room = made-has config device instant result (λ (h : HostValue). h.inner.route_room ≡ config.max_route_count) made refl;
      neighbors = made-has config device instant result (λ (h : HostValue). h.inner.neighbors ≡
          cache config.host_requirements (max config.neighbor_cache_count 1)) made
          (for_many config.host_requirements (max config.neighbor_cache_count 1));
      initial = made-has config device instant result (λ (h : HostValue). h.inner.initial ≡ true) made refl;
      left = made-has config device instant result (λ (h : HostValue). h.left ≡ None) made refl;
      assemblers = made-has config device instant result (λ (h : HostValue). length h.assemblers ≡ assembler_count config) made
          (length-replicate (assembler_count config) (initial 4096));
      timeout = made-has config device instant result (λ (h : HostValue). h.timeout ≡ 60000000) made refl;
      groups = made-has config device instant result (λ (h : HostValue). h.inner.groups ≡ no_groups config.max_group_count) made refl;
      reports = made-has config device instant result (λ (h : HostValue). is_some h.reports ≡ config.multicast_reports) made (tells config.multicast_reports _);
      short = refused-short config device instant result made;
      long = refused-long config device instant result made;
    }
