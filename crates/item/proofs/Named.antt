-- A prediction does not look at neighbors that its mode does not name, and an item is missing if one that it names is.
use Rattle.std.specs.Prelude.{Option, if◌then◌else◌}
use mathlib.Core.Bool.{Bool, true, false, not, ◌&&◌, ◌||◌, or_assoc, or_comm}
use mathlib.Core.List.{List, [], ◌∷◌}
use mathlib.Core.Path.{◌≡◌, refl, sym, ap, ◌∙◌}
use Prim.Native.Nat.{ℕ, zero, suc, ◌+◌, ◌-◌, ◌*◌, ◌/◌, ◌%◌, ◌^◌, ◌<◌, ◌≤◌}
use native.Mathlib.Omega.{arith}
use lib.Dec.{eqb}
use lib.ListN.{get_or, get_or-eq_default}
use Rattle.format.specs.declared.Pixel.{Pixel}
use Rattle.format.specs.Choice.{every}
use Rattle.format.specs.Byte.{sub}
use Rattle.format.specs.Indices.{some, among}
use Rattle.format.specs.Pixel.{black, clear, each}
use Rattle.format.specs.Picture.{Picture}
use Rattle.format.specs.Predictor.{predict, predicted, index, left, top, top_right, top_left, mode}
use Rattle.format.specs.Made.{mode_names, named_by, named, made}
use Rattle.format.proofs.Choice.{every_at}
use Rattle.item.specs.Made.{asked, residual_made}
use Rattle.item.specs.declared.around.Neighbor.TheVariants.{Left, Top, TopRight, TopLeft}
use Rattle.item.specs.declared.around.Neighbor.{Neighbor}
use Rattle.item.specs.Neighbors.{order, names_neighbor, neighbor_at, mode_at}
use Rattle.item.proofs.Items.{asked_made, residual-made}

-- modes 0 to 13 one by one, and all others alike
by_mode : (P : ℕ → Type 0)
    → P 0 → P 1 → P 2 → P 3 → P 4 → P 5 → P 6 → P 7 → P 8 → P 9 → P 10 → P 11 → P 12 → P 13
    → ((m : ℕ) → P (suc (suc (suc (suc (suc (suc (suc (suc (suc (suc (suc (suc (suc (suc m)))))))))))))))
    → (m : ℕ) → P m
by_mode P a b c d e f g h i j k l n o rest zero = a
by_mode P a b c d e f g h i j k l n o rest (suc zero) = b
by_mode P a b c d e f g h i j k l n o rest (suc (suc zero)) = c
by_mode P a b c d e f g h i j k l n o rest (suc (suc (suc zero))) = d
by_mode P a b c d e f g h i j k l n o rest (suc (suc (suc (suc zero)))) = e
by_mode P a b c d e f g h i j k l n o rest (suc (suc (suc (suc (suc zero))))) = f
by_mode P a b c d e f g h i j k l n o rest (suc (suc (suc (suc (suc (suc zero)))))) = g
by_mode P a b c d e f g h i j k l n o rest (suc (suc (suc (suc (suc (suc (suc zero))))))) = h
by_mode P a b c d e f g h i j k l n o rest (suc (suc (suc (suc (suc (suc (suc (suc zero)))))))) = i
by_mode P a b c d e f g h i j k l n o rest (suc (suc (suc (suc (suc (suc (suc (suc (suc zero))))))))) = j
by_mode P a b c d e f g h i j k l n o rest (suc (suc (suc (suc (suc (suc (suc (suc (suc (suc zero)))))))))) = k
by_mode P a b c d e f g h i j k l n o rest (suc (suc (suc (suc (suc (suc (suc (suc (suc (suc (suc zero))))))))))) = l
by_mode P a b c d e f g h i j k l n o rest (suc (suc (suc (suc (suc (suc (suc (suc (suc (suc (suc (suc zero)))))))))))) = n
by_mode P a b c d e f g h i j k l n o rest (suc (suc (suc (suc (suc (suc (suc (suc (suc (suc (suc (suc (suc zero))))))))))))) = o
by_mode P a b c d e f g h i j k l n o rest (suc (suc (suc (suc (suc (suc (suc (suc (suc (suc (suc (suc (suc (suc m)))))))))))))) = rest m

-- any pixel may stand for a neighbor that is not named
pub predict_named : (l t tr tl : Pixel) (m : ℕ)
    → predict m (if names_neighbor m 0 then l else clear) (if names_neighbor m 1 then t else clear) (if names_neighbor m 2 then tr else clear) (if names_neighbor m 3 then tl else clear) ≡ predict m l t tr tl
unfolding predict names_neighbor named_by
predict_named l t tr tl =
    by_mode
    (λ m. predict m (if names_neighbor m 0 then l else clear) (if names_neighbor m 1 then t else clear) (if names_neighbor m 2 then tr else clear) (if names_neighbor m 3 then tl else clear) ≡ predict m l t tr tl)
    refl refl refl refl refl refl refl refl refl refl refl refl refl refl (λ m. refl)

-- modes 14 to 255
pub names_over_13 : (m n : ℕ) → 14 ≤ m → false ≡ names_neighbor m n
unfolding names_neighbor named_by
names_over_13 m n h = ap (among n) (sym (get_or-eq_default (mode_names 0 1 2 3) [] h))

order_small : (n : Neighbor) → order n < 4
order_small Left = omega arith
order_small Top = omega arith
order_small TopRight = omega arith
order_small TopLeft = omega arith

-- bit n of a mode's mask says whether the mode names neighbor n
module _ (ms : List ℕ) where
  abbrev bit_of : ℕ → ℕ → Bool
  bit_of mode n = eqb (get_or ms mode 0 / 2 ^ n % 2) 1

  abbrev pub agree : ℕ → ℕ → Bool
  agree mode n = if bit_of mode n then names_neighbor mode n else not (names_neighbor mode n)

  -- a mask v out of masks that pass a test of every mode and neighbor, which computes
  pub mask_names : (mode v : ℕ) (n : Neighbor) → mode < 14 → v ≡ get_or ms mode 0 → every 14 (λ m. every 4 (agree m)) ≡ true
      → eqb (v / 2 ^ order n % 2) 1 ≡ names_neighbor mode (order n)
  mask_names mode v n l e t = rw e (alike _ _ (every_at 4 (agree mode) (order n) (order_small n) (every_at 14 (λ m. every 4 (agree m)) mode l t)))
    where
      alike : (a b : Bool) → (if a then b else not b) ≡ true → a ≡ b
      alike true true e = refl
      alike true false e = sym e
      alike false true e = e
      alike false false e = refl

or_swap : (a b c : Bool) → (a || (b || c)) ≡ (b || (a || c))
or_swap a b c = sym (or_assoc a b c) ∙ ap (λ (d : Bool). d || c) (or_comm a b) ∙ or_assoc b a c

-- one of the neighbors that are named passes the test t
module _ (t : ℕ → Bool) (l tp tr tl : ℕ) where
  pub some_named : (m : ℕ) → some t (named_by m l tp tr tl) ≡ ((names_neighbor m 0 && t l) || ((names_neighbor m 1 && t tp) || ((names_neighbor m 2 && t tr) || ((names_neighbor m 3 && t tl) || false))))
  unfolding names_neighbor named_by
  some_named =
      by_mode
      (λ m. some t (named_by m l tp tr tl) ≡ ((names_neighbor m 0 && t l) || ((names_neighbor m 1 && t tp) || ((names_neighbor m 2 && t tr) || ((names_neighbor m 3 && t tl) || false)))))
      refl refl refl refl refl
      (ap (λ (b : Bool). t l || b) (or_swap (t tr) (t tp) false))
      refl refl
      (or_swap (t tl) (t tp) false)
      refl
      (ap (λ (b : Bool). t l || b) (or_swap (t tl) (t tp) (t tr || false) ∙ ap (λ (b : Bool). t tp || b) (or_swap (t tl) (t tr) false)))
      refl refl refl (λ m. refl)

-- a residual by the neighbors that are asked for
residual_asked : (t : ℕ → Bool) (f : Picture) (m q l tp tr tl : ℕ)
    → residual_made m (made (t q) (f q)) (asked (names_neighbor m 0) (made (t l) (f l))) (asked (names_neighbor m 1) (made (t tp) (f tp))) (asked (names_neighbor m 2) (made (t tr) (f tr))) (asked (names_neighbor m 3) (made (t tl) (f tl)))
    ≡ made (t q || some t (named_by m l tp tr tl)) (each sub (f q) (predict m (f l) (f tp) (f tr) (f tl)))
residual_asked t f m q l tp tr tl =
    rw (
      asked_made (names_neighbor m 0) (t l) (f l),
      asked_made (names_neighbor m 1) (t tp) (f tp),
      asked_made (names_neighbor m 2) (t tr) (f tr),
      asked_made (names_neighbor m 3) (t tl) (f tl),
      residual-made m (t q) (names_neighbor m 0 && t l) (names_neighbor m 1 && t tp) (names_neighbor m 2 && t tr) (names_neighbor m 3 && t tl),
      predict_named (f l) (f tp) (f tr) (f tl) m,
      ← some_named t l tp tr tl m,
    )

-- the border rule is a mode

border_predict : (a b : Bool) (m : ℕ) (l t tr tl : Pixel) → (if a then (if b then black else l) else (if b then t else predict m l t tr tl)) ≡ predict (if a then (if b then 0 else 1) else (if b then 2 else m)) l t tr tl
unfolding predict
border_predict true true m l t tr tl = refl
border_predict true false m l t tr tl = refl
border_predict false true m l t tr tl = refl
border_predict false false m l t tr tl = refl

border_named : (a b : Bool) (m l t tr tl : ℕ) → (if a then (if b then [] else (l ∷ [])) else (if b then (t ∷ []) else named_by m l t tr tl)) ≡ named_by (if a then (if b then 0 else 1) else (if b then 2 else m)) l t tr tl
unfolding named_by
border_named true true m l t tr tl = refl
border_named true false m l t tr tl = refl
border_named false true m l t tr tl = refl
border_named false false m l t tr tl = refl

if_index : (f : Picture) (b : Bool) (i j : ℕ) → (if b then f i else f j) ≡ f (if b then i else j)
if_index f true i j = refl
if_index f false i j = refl

module _ (w bits : ℕ) (d f : Picture) (x y : ℕ) where
  predicted_mode : predicted w bits d f x y ≡ predict (mode_at w bits d x y) (f (neighbor_at w x y Left)) (f (neighbor_at w x y Top)) (f (neighbor_at w x y TopRight)) (f (neighbor_at w x y TopLeft))
  unfolding predicted mode_at neighbor_at
  predicted_mode =
      border_predict (eqb y 0) (eqb x 0) (mode w bits d x y) (left w f x y) (top w f x y) (top_right w f x y) (top_left w f x y)
      ∙ ap (λ (v : Pixel). predict (mode_at w bits d x y) (left w f x y) (top w f x y) v (top_left w f x y)) (if_index f (eqb (x + 1) w) (y * w) ((y - 1) * w + (x + 1)))

  named_mode : named w bits d x y ≡ named_by (mode_at w bits d x y) (neighbor_at w x y Left) (neighbor_at w x y Top) (neighbor_at w x y TopRight) (neighbor_at w x y TopLeft)
  unfolding named mode_at neighbor_at
  named_mode = border_named (eqb y 0) (eqb x 0) (mode w bits d x y) (left w index x y) (top w index x y) (top_right w index x y) (top_left w index x y)

  -- a residual of a stage whose items are those of f, where t tests what is missing
  pub residual_stage : (t : ℕ → Bool) (q m : ℕ) (r v l tp tr tl : Option Pixel) → m ≡ mode_at w bits d x y → r ≡ residual_made m v l tp tr tl → v ≡ made (t q) (f q)
      → l ≡ asked (names_neighbor m 0) (made (t (neighbor_at w x y Left)) (f (neighbor_at w x y Left)))
      → tp ≡ asked (names_neighbor m 1) (made (t (neighbor_at w x y Top)) (f (neighbor_at w x y Top)))
      → tr ≡ asked (names_neighbor m 2) (made (t (neighbor_at w x y TopRight)) (f (neighbor_at w x y TopRight)))
      → tl ≡ asked (names_neighbor m 3) (made (t (neighbor_at w x y TopLeft)) (f (neighbor_at w x y TopLeft)))
      → r ≡ made (t q || some t (named w bits d x y)) (each sub (f q) (predicted w bits d f x y))
  residual_stage t q m r v l tp tr tl e a b c g h i =
      a
      ∙ rw (b, c, g, h, i) (residual_asked t f m q (neighbor_at w x y Left) (neighbor_at w x y Top) (neighbor_at w x y TopRight) (neighbor_at w x y TopLeft) ∙ cc (e, predicted_mode, named_mode))
