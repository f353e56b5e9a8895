-- `zone_records::all_follow` meets its contract: the library's, of this test. Assumes nothing.
use Rattle.std.proofs.Common.{rules}
use Rattle.std.proofs.lemmas.Fn.{always_returns_same}
use Rattle.zone_records.specs.Inner.{follows}
use Rattle.zone_records.proofs.all_follow.Goals as goal

pub returns : goal.returns
returns c = c.is_sorted_by.ensures.cases follows (always_returns_same _ _ _ (λ a r f k. search rules))
