-- What becomes of an offered packet.
use Rattle.std.specs.Prelude.{◌≡◌, ℕ, ◌+◌, nat_le, Bool, false, MatchOption}
use Rattle.ip_wire.specs.Ip.{header_len_in, payload_len_of}
use Rattle.sockets.specs.Socket.{offered_by, settled}
use Rattle.sockets.specs.declared.socket.Socket.{Socket}

-- one that isn't longer than the room counts as sent; a longer one, or none, doesn't
abbrev pub SettlesBy : ℕ → Socket → Bool → Socket → Type 0
SettlesBy room offered sent after =
    MatchOption (offered_by offered) ((sent ≡ false) × (after ≡ offered)) (λ p. (sent ≡ nat_le (header_len_in p.header + payload_len_of p.header) room) ×
    (after ≡ settled sent offered))
