use Rattle.std.proofs.Common.{◌≡◌, ap, ◌∙◌, refl}
use Rattle.net_base.specs.DeviceCapabilities.{DeviceCapabilities}
use Rattle.c_calls.specs.Link.{LinkValue, unused}
use Rattle.c_calls.specs.Calls.{config_of, device_of}
use Rattle.c_calls.proofs.Making.{is_fresh, made_by, refused_by}
use Rattle.c_calls.proofs.host.Host.new.Goals as goal

pub returns-in-Err : goal.returns-in-Err
returns-in-Err c =
    let configured : c.config.result ≡ config_of c.args.settings.now = c.config.ensures in
    let described : c.new-link.result.capabilities ≡ device_of c.args.settings.now =
    ap (λ (l : LinkValue). l.capabilities) c.new-link.ensures ∙ c.capabilities.ensures in
    refused_by c.args.settings.now c.args.now c.config.result c.new-link.result.capabilities c.new.result c.in-Err.error c.of_new.result
    configured described c.in-Err.is c.of_new.ensures c.new.ensures

pub returns-in-Ok : goal.returns-in-Ok
returns-in-Ok c =
    let described : c.new-link.result.capabilities ≡ device_of c.args.settings.now =
    ap (λ (l : LinkValue). l.capabilities) c.new-link.ensures ∙ c.capabilities.ensures in
    let link : c.new-link.result ≡ unused (device_of c.args.settings.now) c.args.settings.now.frames =
    c.new-link.ensures ∙ ap (λ (d : DeviceCapabilities). unused d c.args.settings.now.frames) c.capabilities.ensures in
    made_by c.args.settings.now c.args.now c.config.result c.new-link.result.capabilities c.new.result c.in-Ok.interface _ c.config.ensures described
    c.in-Ok.is c.new.ensures
    (λ host. is_fresh c.args.settings.now c.args.now _ link host c.new-in-Ok.ensures c.new-in-Ok-2.ensures.items refl refl refl)
