-- Laws of a fold over a range from 0: what its closure is asked at each call, and what the calls leave.
use Rattle.std.specs.Prelude.{⊤}
use mathlib.Core.List.{List, [], ◌∷◌, ◌++◌}
use mathlib.Core.Path.{◌≡◌, refl, sym, ap, ◌∙◌}
use Prim.Native.Nat.{ℕ, zero, suc, ◌+◌, ◌<◌, ◌≤◌}
use native.Mathlib.Omega.{arith}
use lib.ListN.{length, length-append}
use denote.Param.Members.{Mut}
use Rattle.std.specs.declared.ops.Range.{Range}
use Rattle.std.specs.Fn.{Called, Takes}
use Rattle.std.specs.Iterator.{Yields, FoldTurn, CallableInFold, FoldsItems}
use Rattle.std.specs.List.{range_with_len}
use Rattle.std.proofs.iter.Yields.{nat_range_steps, serves_by}
use Rattle.std.proofs.lemmas.Fn.{fold_over}
use Rattle.std.proofs.lemmas.List.FromFn.{length-range_with_len}
use Rattle.std.proofs.lemmas.Iterator.{YieldsList-from_range}

-- the numbers of xs follow each other from a on, and are below n
abbrev Follows : ℕ → ℕ → List ℕ → Type 0
Follows n a [] = ⊤
Follows n a (x ∷ xs) = (x ≡ a) × (x < n) × Follows n (a + 1) xs

follows_last : (n a x : ℕ) (xs : List ℕ) → Follows n a (xs ++ (x ∷ [])) → Follows n a xs × (x ≡ a + length xs) × (x < n)
follows_last n a x [] h = (tt, omega (arith, h.0), h.1)
follows_last n a x (y ∷ xs) h =
    let r = follows_last n (a + 1) x xs h.2 in
    ((h.0, h.1, r.0), omega (arith, r.1), r.2)

follows_range : (n a m : ℕ) → a + m ≤ n → Follows n a (range_with_len a m)
follows_range n a zero l = tt
follows_range n a (suc m) l = (refl, omega (arith, l), follows_range n (a + 1) m (omega (arith, l)))

-- a range's numbers
yielded : (xs : List ℕ) (s t : Range ℕ) → Yields nat_range_steps s xs t → Follows s.end s.start xs × (t.start ≡ s.start + length xs) × (t.end ≡ s.end)
yielded [] s t y = (tt, omega (arith, ap (λ (r : Range ℕ). r.start) y), sym (ap (λ (r : Range ℕ). r.end) y))
yielded (x ∷ xs) s t y =
    let r = yielded xs y.0 t y.2 in
    ((y.1.1.1, omega (arith, y.1.1.0, y.1.1.1), rw (y.1.0, y.1.1.2) at r.0), omega (arith, r.1, y.1.1.2), r.2 ∙ y.1.0)

-- a fact J of how many calls there were and of the value, which each call keeps
module _ {F B : Type 0} {g : Mut F (B × (ℕ × Unit {0})) B} (J : ℕ → B → Type 0) (f : F) (n : ℕ)
    (stays : (k : ℕ) (a b : B) (f' : F) → Called g f (a, (k, tt)) b f' → f' ≡ f)
    (keeps : (k : ℕ) (a b : B) (f' : F) → k < n → J k a → Called g f (a, (k, tt)) b f' → J (k + 1) b) where
  abbrev After : List ℕ → B → Type 0
  After xs a = Follows n 0 xs → J (length xs) a

  next : (xs : List ℕ) (a : B) (x : ℕ) (b : B) (f' : F) → After xs a → Called g f (a, (x, tt)) b f' → After (xs ++ (x ∷ [])) b × (f' ≡ f)
  next xs a x b f' after c = (
    (λ h.
        let r = follows_last n 0 x xs h in
        let e : x ≡ length xs = omega (arith, r.1) in
        rw (length-append, ← e) (keeps x a b f' r.2 (rw e (after r.0)) c)),
    stays x a b f' c,
  )

  pub fold_asks : (a : B) → J 0 a → ((k : ℕ) (b : B) → k < n → J k b → Takes g f (b, (k, tt))) → CallableInFold nat_range_steps g (record { start = 0; end = n }) f a
  fold_asks a j asks =
      serves_by (FoldTurn g) (λ xs q. (q.0 ≡ f) × After xs q.1)
      (λ xs q x v i r.
      let m = next xs q.1 x v.1 v.0 i.1 (rw i.0 at r) in
      (m.1, m.0))
      nat_range_steps _ _ _ (refl, λ h. j)
      (λ xs t q x u y e i.
      let w = yielded xs _ t y in
      let z : x ≡ length xs = omega (arith, w.1, e.1.1) in
      rw i.0 (asks x q.1 (omega (arith, e.1.0, e.1.1, w.2)) (rw z (i.1 w.0))))

  pub fold_gives : (a r : B) → J 0 a → FoldsItems nat_range_steps g (record { start = 0; end = n }) f a r → J n r
  fold_gives a r j ran =
      rw (length-range_with_len 0 n) at (fold_over nat_range_steps (λ x. x) g After f next _ (range_with_len 0 n) a r (YieldsList-from_range 0 n n refl (omega arith)).runs (λ h. j) ran (follows_range n 0 n (omega arith)))
