-- How many indices a packed pixel can hold, case by case.
use Rattle.std.proofs.Common.{◌≡◌, ℕ, ◌⊎◌, sym, refl, subst, inl, inr, arith}
use Rattle.pixel.specs.Stride.{Places}

pub by_places : (P : ℕ → Type 0) → P 1 → P 2 → P 4 → P 8 → (n : ℕ) → Places n → P n
by_places P a b c d n h = go h.only
  where
    go : (n ≡ 1) ⊎ ((n ≡ 2) ⊎ ((n ≡ 4) ⊎ (n ≡ 8))) → P n
    go (inl q) = subst P (sym q) a
    go (inr (inl q)) = subst P (sym q) b
    go (inr (inr (inl q))) = subst P (sym q) c
    go (inr (inr (inr q))) = subst P (sym q) d

pub places_1 : Places 1
places_1 = record { some = omega arith; most = omega arith; only = inl refl }

pub places_2 : Places 2
places_2 = record { some = omega arith; most = omega arith; only = inr (inl refl) }

pub places_4 : Places 4
places_4 = record { some = omega arith; most = omega arith; only = inr (inr (inl refl)) }

pub places_8 : Places 8
places_8 = record { some = omega arith; most = omega arith; only = inr (inr (inr refl)) }
