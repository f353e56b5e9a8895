-- `zone::all_keep_rule` meets its contract: one record that breaks the rule decides, and of an odd number the last one. Assumes nothing.
use mathlib.Core.Path.{◌≡◌, sym, ap, subst, ◌∙◌}
use mathlib.Core.Bool.{Bool, true}
use Prim.Native.Nat.{ℕ, ◌+◌, ◌-◌, ◌*◌}
use native.Mathlib.Omega.{arith}
use mir.Facts.{yes_eqb}
use Rattle.zone.specs.Zone.{records, keeps, all_below}
use Rattle.zone.proofs.Rule.{is_true, all-below-not, all_below_more, all_below_last}
use Rattle.zone.proofs.all_keep_rule.Goals as goal

pub returns-then-not-keeps_rule : goal.returns-then-not-keeps_rule
returns-then-not-keeps_rule c = all-below-not c.args.n (2 * c.loop-pair.pair) _ (omega arith) (sym c.keeps_rule.ensures ∙ c.if-not-keeps_rule.true)

pub returns-then-not-keeps_rule-2 : goal.returns-then-not-keeps_rule-2
returns-then-not-keeps_rule-2 c =
    all-below-not c.args.n (2 * c.loop-pair.pair + 1) _ (omega arith) (sym c.keeps_rule-in-loop-pair.ensures ∙ c.if-not-keeps_rule-2.true)

pub loop-pair-preserved : goal.loop-pair-preserved
loop-pair-preserved c =
    let test : ℕ → Bool = keeps (records c.args.zone.now) in
    let n : ℕ = 2 * c.loop-pair.pair in
    let first = all_below_more n test c.loop-pair.invariant (sym c.keeps_rule.ensures ∙ c.if-not-keeps_rule.false) in
    let second = all_below_more (n + 1) test first (sym c.keeps_rule-in-loop-pair.ensures ∙ c.if-not-keeps_rule-2.false) in
    subst (λ (k : ℕ). all_below k test ≡ true) (let more : n + 1 + 1 ≡ 2 * (c.loop-pair.pair + 1) = omega arith in more) second

pub returns-then-n-eq0 : goal.returns-then-n-eq0
returns-then-n-eq0 c =
    let even : 2 * c.loop-pair.pair ≡ c.args.n = omega arith in
    is_true _ (yes_eqb c.if-n-eq0.true) ∙ sym (subst (λ (k : ℕ). all_below k (keeps (records c.args.zone.now)) ≡ true) even c.loop-pair.invariant)

pub returns-else-n-eq0 : goal.returns-else-n-eq0
returns-else-n-eq0 c =
    let test : ℕ → Bool = keeps (records c.args.zone.now) in
    let last : c.args.n - 1 ≡ 2 * c.loop-pair.pair = omega arith in
    let odd : 2 * c.loop-pair.pair + 1 ≡ c.args.n = omega arith in
    c.keeps_rule-else-n-eq0.ensures ∙ ap test last ∙ all_below_last (2 * c.loop-pair.pair) test c.loop-pair.invariant ∙ ap (λ (k : ℕ). all_below k test) odd
