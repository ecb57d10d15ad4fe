use Rattle.std.proofs.Common.{rules, ◌≡◌, List, [], ◌∷◌, ◌++◌, ℕ, length, sym, ap, ◌∙◌}
use Rattle.tcp_state.specs.SipHash.{hash_of_words}
use Rattle.c_calls.proofs.FreePorts.{four}
use Rattle.c_calls.proofs.ports.hash_v4.Goals as goal

pub returns : goal.returns
returns c =
    let size : length c.args.addr.now.0 ≡ 4 = search rules in
    c.sip_hash.ensures
    ∙ ap (λ (bytes : List ℕ). hash_of_words c.args.key (bytes ++ c.args.port ∷ [])) (sym (four c.args.addr.now.0 size))
