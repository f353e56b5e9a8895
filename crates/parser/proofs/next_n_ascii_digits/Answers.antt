-- `next_n_ascii_digits` gathers the digits that the definition reads. Assumes nothing.
use borrow.Author.Rules.{rules}
use Rattle.parser.proofs.Runs.{gathered_room, gathered_stop, gathered_whole}
use Rattle.parser.proofs.next_n_ascii_digits.Goals as goal

pub overflow_add-block : goal.overflow_add-block
overflow_add-block c = record { fits = gathered_room c.loop-i.invariant c.loop-i-test.true c.requires c.in-Some.ensures (search rules) }

pub returns-in-None : goal.returns-in-None
returns-in-None c = gathered_stop c.loop-i.invariant c.in-None.ensures

pub returns : goal.returns
returns c = gathered_whole c.loop-i.invariant (search rules)
