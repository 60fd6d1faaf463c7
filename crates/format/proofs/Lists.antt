-- Lists of calls: what holds of each call carries to every list, by induction on the list.
use Rattle.std.specs.Prelude.{if◌then◌else◌}
use mathlib.Core.Bool.{Bool, true, false}
use mathlib.Core.List.{List, [], ◌∷◌}
use mathlib.Core.Path.{◌≡◌, refl, sym, ap, ◌∙◌}
use Prim.Native.Nat.{ℕ, ◌+◌}
use native.Mathlib.Nat.{add-zero, add_assoc}
use Rattle.format.specs.Refusals.{accepted}
use Rattle.format.specs.Lists.{Machine, in_turn, left_by, answers_to, accepted_calls, total}

-- two machines of which each call, from related states, has one answer and leaves related states: so has every list
module _ {S T C : Type 0} (m : Machine S C) (n : Machine T C) (R : S → T → Type 0)
    (step : (s : S) (t : T) (c : C) → R s t → (m.answer s c ≡ n.answer t c) × R (m.leave s c) (n.leave t c)) where
  pub related : (calls : List C) (s : S) (t : T) → R s t → (answers_to m s calls ≡ answers_to n t calls) × R (left_by m s calls) (left_by n t calls)
  unfolding answers_to in_turn
  related [] s t r = (refl, r)
  related (c ∷ calls) s t r =
      let a = step s t c r in
      let b = related calls (m.leave s c) (n.leave t c) a.1 in
      (cc (a.0, b.0), b.1)

-- where an accepted call makes its change and a refused one none, a list leaves what the accepted calls' changes make
-- in turn
module _ {S C : Type 0} (m : Machine S C) (change : S → C → S)
    (leaves : (s : S) (c : C) → m.leave s c ≡ (if accepted (m.answer s c) then change s c else s)) where
  pub left_accepted : (calls : List C) (s : S) → left_by m s calls ≡ in_turn change s (accepted_calls (answers_to m s calls) calls)
  unfolding answers_to in_turn accepted_calls
  left_accepted [] s = refl
  left_accepted (c ∷ calls) s =
      left_accepted calls (m.leave s c)
      ∙ ap (λ (t : S). in_turn change t rest) (leaves s c)
      ∙ go (accepted (m.answer s c))
    where
      rest : List C
      rest = accepted_calls (answers_to m (m.leave s c) calls) calls

      go : (b : Bool) → in_turn change (if b then change s c else s) rest ≡ in_turn change s (if b then c ∷ rest else rest)
      go true = refl
      go false = refl

-- what each call keeps, a list keeps
module _ {S C A : Type 0} (m : Machine S C) (value : S → A) (keeps : (s : S) (c : C) → value (m.leave s c) ≡ value s) where
  pub left_kept : (calls : List C) (s : S) → value (left_by m s calls) ≡ value s
  unfolding in_turn
  left_kept [] s = refl
  left_kept (c ∷ calls) s = left_kept calls (m.leave s c) ∙ keeps s c

-- a number to which an accepted call adds what g gives of it, and a refused one nothing: a list adds what the accepted
-- calls add together
module _ {S C : Type 0} (m : Machine S C) (value : S → ℕ) (g : C → ℕ)
    (adds : (s : S) (c : C) → value (m.leave s c) ≡ value s + (if accepted (m.answer s c) then g c else 0)) where
  pub left_total : (calls : List C) (s : S) → value (left_by m s calls) ≡ value s + total g (accepted_calls (answers_to m s calls) calls)
  unfolding answers_to in_turn accepted_calls
  left_total [] s = sym (add-zero (value s))
  left_total (c ∷ calls) s =
      left_total calls (m.leave s c) ∙ ap (λ (n : ℕ). n + total g rest) (adds s c) ∙ go (accepted (m.answer s c))
    where
      rest : List C
      rest = accepted_calls (answers_to m (m.leave s c) calls) calls

      go : (b : Bool) → value s + (if b then g c else 0) + total g rest ≡ value s + total g (if b then c ∷ rest else rest)
      go true = add_assoc (value s) (g c) (total g rest)
      go false = ap (λ (n : ℕ). n + total g rest) (add-zero (value s))
