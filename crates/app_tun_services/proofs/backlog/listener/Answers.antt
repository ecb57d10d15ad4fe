use Rattle.std.proofs.Common.{◌≡◌, ℕ, ◌+◌, List, [], ◌∷◌, ◌++◌, arith, ap, sym, subst, ◌∙◌, refl}
use Rattle.interface.specs.SocketHandle.{SocketHandle}
use Rattle.interface.specs.Backlog.Calls.{initial_entry}
use Rattle.interface.specs.declared.listener.entry.Entry.{Entry}
use Rattle.ip_wire.specs.IpListenEndpoint.{IpListenEndpoint}
use Rattle.app_tun_services.specs.Backlogs.{handle, on_port, AreInitialEntries}
use Rattle.app_tun_services.specs.Services.{first_slot, socket_count, keeper_slot}
use Rattle.app_tun_services.proofs.Connections.{InitialTo, made_none, made_more, made_all, initial_stand}
use Rattle.app_tun_services.proofs.backlog.listener.Goals as goal

pub loop-i-init : goal.loop-i-init
loop-i-init c = (
  c.new-made.ensures.endpoint ∙ ap on_port c.port_of.ensures,
  c.new-made.ensures.keepers,
  subst (InitialTo 0 c.first_slot-first.result) (sym c.new-made.ensures.entries) (made_none c.first_slot-first.result),
)

-- one socket more
pub loop-i-preserved : goal.loop-i-preserved
loop-i-preserved c =
    let so_far = c.loop-i.invariant in
    let first = c.first_slot-first.result in
    let same : c.at.result ≡ handle (first + c.loop-i.i) = ap handle c.at.ensures in
    let added : c.add.new.self.entries.items ≡ c.loop-i.made.entries.items ++ initial_entry (handle (first + c.loop-i.i)) ∷ [] =
    c.in_ok-add.ensures.added ∙ ap (λ (h : SocketHandle). c.loop-i.made.entries.items ++ initial_entry h ∷ []) same in (
      c.add.ensures.endpoint ∙ so_far.0,
      c.add.ensures.keepers ∙ so_far.1,
      subst (InitialTo (c.loop-i.i + 1) first) (sym added) (made_more c.loop-i.i first c.loop-i.made.entries.items so_far.2),
    )

pub returns : goal.returns
returns c =
    let service = c.args.service in
    let so_far = c.loop-i.invariant in
    let made = c.add_keeper.new.self in
    let end : c.loop-i.i ≡ socket_count service = omega (arith, c.socket_count-i-end.ensures.count) in
    let to : InitialTo (socket_count service) (first_slot service) c.loop-i.made.entries.items =
    subst (λ (n : ℕ). InitialTo n (first_slot service) c.loop-i.made.entries.items) end
    (subst (λ (n : ℕ). InitialTo c.loop-i.i n c.loop-i.made.entries.items) c.first_slot-first.ensures.slot so_far.2) in
    let initial : AreInitialEntries service made.entries.items =
    subst (AreInitialEntries service) (sym c.add_keeper.ensures.entries) (made_all service c.loop-i.made.entries.items to) in
    let keeper : c.at-2.result ≡ handle (keeper_slot service) = ap handle (c.at-2.ensures ∙ c.keeper_slot.ensures) in
    record {
      is = record {
        endpoint = c.add_keeper.ensures.endpoint ∙ so_far.0;
        keepers = c.in_ok-add_keeper.ensures.added ∙
            (ap (λ (ks : List SocketHandle). ks ++ c.at-2.result ∷ []) so_far.1 ∙ ap (λ (h : SocketHandle). h ∷ []) keeper);
        stands = initial_stand service made.entries.items initial;
      };
      initial = initial;
    }
