use Rattle.std.proofs.Common.{rules, ◌≡◌, List, [], ◌∷◌, ◌++◌, ℕ, length, sym, ap, ◌∙◌}
use Rattle.tcp_state.specs.SipHash.{hash_of_words}
use Rattle.c_calls.proofs.FreePorts.{sixteen}
use Rattle.c_calls.proofs.ports.hash_v6.Goals as goal

pub returns : goal.returns
returns c =
    let size : length c.args.addr.now.0 ≡ 16 = search rules in
    c.sip_hash.ensures
    ∙ ap (λ (bytes : List ℕ). hash_of_words c.args.key (bytes ++ c.args.port ∷ [])) (sym (sixteen c.args.addr.now.0 size))
