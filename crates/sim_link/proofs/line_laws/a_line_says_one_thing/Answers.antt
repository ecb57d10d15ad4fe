use Rattle.sim_link.proofs.line_laws.a_line_says_one_thing.Goals as goal

pub returns : goal.returns
returns c one another says says' =
    let first = c.read-line.ensures.only one says in
    let second = c.read-line.ensures.only another says' in
    cc
