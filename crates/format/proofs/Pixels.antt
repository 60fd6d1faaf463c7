-- Laws of pixels whose channels are bytes.
use Rattle.std.proofs.lemmas.Bool.{and_parts}
use mathlib.Core.Bool.{true, ◌&&◌}
use mathlib.Core.Path.{◌≡◌, refl}
use Prim.Native.Nat.{ℕ, ◌<◌}
use native.Mathlib.Omega.{arith}
use borrow.Author.Tests.{eqb-true, eq-eqb}
use lib.Dec.{eqb}
use Rattle.format.specs.declared.Pixel.{Pixel}
use Rattle.format.specs.Byte.{add, sub}
use Rattle.format.specs.Pixel.{pixel, each, equal}
use Rattle.format.proofs.Byte.{add_sub, sub_add}

pub record Bytes (v : Pixel) : Type 0 where
  pub red : v.red < 256
  pub green : v.green < 256
  pub blue : v.blue < 256
  pub alpha : v.alpha < 256

pub each_add_sub : (u v : Pixel) → Bytes u → each add (each sub u v) v ≡ u
unfolding each
each_add_sub u v h =
    λ k. pixel (add_sub u.red v.red h.red k) (add_sub u.green v.green h.green k) (add_sub u.blue v.blue h.blue k) (add_sub u.alpha v.alpha h.alpha k)

pub each_sub_add : (u v : Pixel) → Bytes u → each sub (each add u v) v ≡ u
unfolding each
each_sub_add u v h =
    λ k. pixel (sub_add u.red v.red h.red k) (sub_add u.green v.green h.green k) (sub_add u.blue v.blue h.blue k) (sub_add u.alpha v.alpha h.alpha k)

pub each_add_comm : (u v : Pixel) → each add u v ≡ each add v u
unfolding each
each_add_comm u v = λ k. pixel (byte u.red v.red k) (byte u.green v.green k) (byte u.blue v.blue k) (byte u.alpha v.alpha k)
  where
    byte : (a b : ℕ) → add a b ≡ add b a
    byte a b = omega arith

-- the first of three moved to the end
pub each_add_turn : (u v t : Pixel) → each add u (each add v t) ≡ each add v (each add t u)
unfolding each
each_add_turn u v t = λ k. pixel (byte u.red v.red t.red k) (byte u.green v.green t.green k) (byte u.blue v.blue t.blue k) (byte u.alpha v.alpha t.alpha k)
  where
    byte : (a b c : ℕ) → add a (add b c) ≡ add b (add c a)
    byte a b c = omega arith

-- the test says what it should
pub equal_true : (u v : Pixel) → equal u v ≡ true → u ≡ v
equal_true u v e =
    let halves = and_parts (eqb u.red v.red && eqb u.green v.green) (eqb u.blue v.blue && eqb u.alpha v.alpha) e in
    let first = and_parts (eqb u.red v.red) (eqb u.green v.green) halves.0 in
    let last = and_parts (eqb u.blue v.blue) (eqb u.alpha v.alpha) halves.1 in
    let r = eqb-true u.red v.red first.0 in
    let g = eqb-true u.green v.green first.1 in
    let b = eqb-true u.blue v.blue last.0 in
    let a = eqb-true u.alpha v.alpha last.1 in
    λ k. pixel (r k) (g k) (b k) (a k)

pub equal_refl : (v : Pixel) → equal v v ≡ true
equal_refl v = rw (eq-eqb v.red v.red refl, eq-eqb v.green v.green refl, eq-eqb v.blue v.blue refl, eq-eqb v.alpha v.alpha refl)
