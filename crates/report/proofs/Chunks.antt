-- Pixels of a part that is lent, one by one as four bytes each.
use mathlib.Core.List.{List, []}
use mathlib.Core.Path.{◌≡◌, refl, ap, ◌∙◌}
use Prim.Native.Nat.{ℕ, zero, suc, ◌+◌, ◌-◌, ◌*◌, ◌/◌, ◌<◌, ◌≤◌}
use native.Mathlib.Omega.{arith}
use lib.ListN.{length, take, drop, get_or, length-drop}
use lib.Seq.{length-take-le}
use Rattle.std.proofs.lemmas.List.{drop-drop}
use Rattle.std.specs.Simd.{first_chunks}
use Rattle.format.specs.Picture.{pixels}
use Rattle.pixel.proofs.Part.{pixel_part}

chunk_at : (k i : ℕ) (xs : List ℕ) → i < k → get_or (first_chunks 4 k xs) i [] ≡ take 4 (drop (4 * i) xs)
chunk_at zero i xs l = absurd (omega arith)
chunk_at (suc k) zero xs l = refl
chunk_at (suc k) (suc i) xs l =
    let e : 4 + 4 * i ≡ 4 * suc i = omega arith in
    chunk_at k i (drop 4 xs) (omega arith) ∙ ap (take 4) (drop-drop (4 * i) 4 xs ∙ ap (λ (n : ℕ). drop n xs) e)

-- pixel i of those from pixel m up to pixel n
pub chunk_pixel : (m n i : ℕ) (xs : List ℕ) (chunks : List (List ℕ)) → m + i < n → 4 * n ≤ length xs
    → chunks ≡ first_chunks 4 (length (take (4 * n - 4 * m) (drop (4 * m) xs)) / 4) (take (4 * n - 4 * m) (drop (4 * m) xs))
    → pixels (get_or chunks i []) 0 ≡ pixels xs (m + i)
chunk_pixel m n i xs chunks l fits e =
    let part = take (4 * n - 4 * m) (drop (4 * m) xs) in
    let long : length part ≡ 4 * n - 4 * m = length-take-le (4 * n - 4 * m) (drop (4 * m) xs) (omega (arith, length-drop (4 * m) xs)) in
    let z : i + 0 ≡ i = omega arith in
    ap (λ (c : List (List ℕ)). pixels (get_or c i []) 0) e
    ∙ ap (λ (c : List ℕ). pixels c 0) (chunk_at (length part / 4) i part (omega (arith, long)))
    ∙ pixel_part i 4 part (omega (arith, long)) 0 (omega arith)
    ∙ ap (pixels part) z
    ∙ pixel_part m (4 * n - 4 * m) xs (omega arith) i (omega arith)
