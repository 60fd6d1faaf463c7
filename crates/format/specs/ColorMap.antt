-- The color map, which the file stores as differences of entries (document 01, module 7), and its two calls.
use Rattle.std.specs.Prelude.{Bool, not, ◌||◌, List, ℕ, zero, suc, ◌+◌, ◌-◌, ◌%◌, eqb, ltb, length, if◌then◌else◌}
use Rattle.format.specs.declared.Refusal.TheVariants.{MapLength}
use Rattle.format.specs.Refusals.{number}
use Rattle.format.specs.Byte.{add, sub}
use Rattle.format.specs.Picture.{byte_at, written_bytes}

-- each byte from the fifth on gains the byte four before it, front to back: adjust_color_map
unfoldable pub adjusted : (ℕ → ℕ) → ℕ → ℕ
adjusted b zero = b 0
adjusted b (suc zero) = b 1
adjusted b (suc (suc zero)) = b 2
adjusted b (suc (suc (suc zero))) = b 3
adjusted b (suc (suc (suc (suc i)))) = add (b (4 + i)) (adjusted b i)

-- its undoing: each byte from the fifth on loses the byte four before it
unfoldable pub unadjusted : (ℕ → ℕ) → ℕ → ℕ
unadjusted b i = if ltb i 4 then b i else sub (b i) (b (i - 4))

-- refusal 10: length 0, over 1024 or not a multiple of 4
abbrev pub refused : ℕ → Bool
refused n = eqb n 0 || (ltb 1024 n || not (eqb (n % 4) 0))

-- what both calls return
unfoldable pub color_map_answer : List ℕ → ℕ
color_map_answer xs = if refused (length xs) then number MapLength else 0

-- the bytes that each leaves: a refusal changes none
unfoldable pub adjust_color_map : List ℕ → List ℕ
adjust_color_map xs = if refused (length xs) then xs else written_bytes (length xs) (adjusted (byte_at xs)) xs

unfoldable pub unadjust_color_map : List ℕ → List ℕ
unadjust_color_map xs = if refused (length xs) then xs else written_bytes (length xs) (unadjusted (byte_at xs)) xs
