-- `replace_back` meets its contract: before each turn the cells from i on are replaced, and those before i are not.
use Rattle.std.proofs.Common.{◌≡◌, ℕ, suc, ◌-◌, ◌≤◌, List, refl, ◌∙◌, arith}
use Rattle.pixel.specs.Cells.{Cells, Lawful, run, given}
use Rattle.pixel.proofs.Cells.{run_none, run_prepend}
use Rattle.pixel.proofs.replace.replace_back.Goals as goal

-- cell k more
more : {P : Type 0} (c : Cells P) → Lawful c → (f : ℕ → P) (k b i : ℕ) (xs₀ xs : List ℕ) (v : P) → i ≡ suc k → i ≤ b → xs ≡ run c (given f) i (b - i) xs₀ → v ≡ f k
    → c.put xs k v ≡ run c (given f) k (b - k) xs₀
unfolding given
more c law f k b i xs₀ xs v s l e q =
    let n : b - k ≡ suc (b - i) = omega arith in
    rw (n, e, q, s) (run_prepend c law f k xs₀ (b - suc k))

pub loop-i-init : goal.loop-i-init
loop-i-init g c = record { inside = c.requires.inside.0; replaced = λ law f gives. run_none _ _ _ _; kept = λ law j l. refl }

pub loop-i-preserved : goal.loop-i-preserved
loop-i-preserved g c =
    let l = c.loop-i in
    let k = l.i - 1 in
    let s : l.i ≡ suc k = omega (arith, c.loop-i-test.true) in
    record {
      inside = omega (arith, c.loop-i-test.true);
      replaced = λ law f gives.
          let v = gives _ k _ l.auto.xs (omega arith) (omega arith) (λ j m. l.invariant.kept law j (omega arith)) c.rule.ensures in
          c.put.ensures ∙ more _ law f k _ l.i _ _ _ s l.auto.i (l.invariant.replaced law f gives) v;
      kept = λ law j m.
          let n : j ≡ k → ⊥ = λ e. omega arith in
          rw c.put.ensures (law.get_other _ k j _ n) ∙ l.invariant.kept law j (omega (arith, s));
    }
