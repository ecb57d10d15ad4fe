use Rattle.std.proofs.Common.{rules, ◌≡◌, length}
use Rattle.tcp_state.proofs.Words.{words_of_36}
use Rattle.tcp_state.proofs.isn_source.words_v6.Goals as goal

pub returns : goal.returns
returns c =
    let own : length c.args.local.now.0 ≡ 16 = search rules in
    let to : length c.args.remote.now.0 ≡ 16 = search rules in
    words_of_36 c.args.local.now.0 c.args.remote.now.0 _ _ c.args.local_port c.args.remote_port _ _ _ _ _ own to
    c.to_be_bytes.ensures c.to_be_bytes-2.ensures
    c.from_le_bytes.ensures c.from_le_bytes-2.ensures c.from_le_bytes-3.ensures c.from_le_bytes-4.ensures c.from_le_bytes-5.ensures
