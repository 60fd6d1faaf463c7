-- Laws of subtract green: the two directions undo each other on bytes.
use mathlib.Core.Path.{◌≡◌}
use Prim.Native.Nat.{ℕ}
use Rattle.format.specs.Pixel.{pixel}
use Rattle.format.specs.Picture.{Picture}
use Rattle.format.specs.SubtractGreen.{green_stored, green_rebuilt}
use Rattle.format.proofs.Byte.{add_sub, sub_add}
use Rattle.format.proofs.Pixels.{Bytes}

pub green_rebuilt_stored : (f : Picture) (q : ℕ) → Bytes (f q) → green_rebuilt (green_stored f) q ≡ f q
unfolding green_rebuilt green_stored
green_rebuilt_stored f q h =
    λ k. pixel (add_sub (f q).red (f q).green h.red k) (f q).green (add_sub (f q).blue (f q).green h.blue k) (f q).alpha

pub green_stored_rebuilt : (g : Picture) (q : ℕ) → Bytes (g q) → green_stored (green_rebuilt g) q ≡ g q
unfolding green_rebuilt green_stored
green_stored_rebuilt g q h =
    λ k. pixel (sub_add (g q).red (g q).green h.red k) (g q).green (sub_add (g q).blue (g q).green h.blue k) (g q).alpha
