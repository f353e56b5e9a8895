-- `float::shifted_rem` meets its contract. The invariant: r is below n, and r * 2 ^ k has the remainder that is asked for. The measure is k. Assumes nothing.
use Rattle.std.proofs.Common.{◌≡◌, ◌*◌, ◌%◌, ◌^◌, ◌<◌}
use Rattle.float.proofs.shifted_rem.Given as goal

abbrev pub invariant-loop-k : goal.invariant-loop-k
invariant-loop-k l = (l.q < l.n) × (l.n < 2 ^ 53) × (l.r < l.n) × (l.r * 2 ^ l.k % l.n ≡ l.q * 2 ^ l.d % l.n)

abbrev pub decreases-loop-k : goal.decreases-loop-k
decreases-loop-k l = l.k
