use Rattle.std.proofs.lemmas.List.{get_or-set_same, get_or-set_other}
use Rattle.wire_address.proofs.Puts.{be16-put16, be32-put32, put16-elsewhere, put32-elsewhere}
use Rattle.wire_address.proofs.network_order.written_numbers_are_read.Goals as goal

pub returns-clause-one : goal.returns-clause-one
returns-clause-one c = λ bytes at value within. get_or-set_same bytes at value 0 within

pub returns-clause-two : goal.returns-clause-two
returns-clause-two c = be16-put16

pub returns-clause-four : goal.returns-clause-four
returns-clause-four c = be32-put32

pub returns-clause-one_elsewhere : goal.returns-clause-one_elsewhere
returns-clause-one_elsewhere c = λ bytes at offset value other. get_or-set_other bytes at offset value 0 other

pub returns-clause-two_elsewhere : goal.returns-clause-two_elsewhere
returns-clause-two_elsewhere c = put16-elsewhere

pub returns-clause-four_elsewhere : goal.returns-clause-four_elsewhere
returns-clause-four_elsewhere c = put32-elsewhere
