-- At a byte that passes, at another, at the end.
use Rattle.std.proofs.Common.{◌≡◌, refl, sym, ◌∙◌, arith}
use Rattle.seeking.proofs.Places.{ended, hit, again}
use Rattle.seeking.proofs.first.Goals as goal

pub loop-i-init : goal.loop-i-init
loop-i-init g c = (omega arith, λ p d. refl)

pub returns-then-test-clause-first : goal.returns-then-test-clause-first
returns-then-test-clause-first g c = λ p d. hit p _ _ _ (c.loop-i.invariant.1 p d) (omega arith) (sym (d _ _ c.test.ensures) ∙ c.if-test.true)

pub loop-i-preserved : goal.loop-i-preserved
loop-i-preserved g c = (omega arith, λ p d. again p _ _ _ (c.loop-i.invariant.1 p d) (omega arith) (sym (d _ _ c.test.ensures) ∙ c.if-test.false))

pub returns-clause-first : goal.returns-clause-first
returns-clause-first g c = λ p d.
    let same : c.loop-i.i ≡ c.max.result = omega arith in
    rw (← same) (ended p _ _ _ (c.loop-i.invariant.1 p d) c.loop-i-test.false)
