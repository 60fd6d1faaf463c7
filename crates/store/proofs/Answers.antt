-- The number and the bytes of `store` at each of its returns, from a chain's value back to its bytes.
use Rattle.std.specs.Prelude.{Result, Ok, Err, if◌then◌else◌}
use mathlib.Core.Bool.{Bool, true, false}
use mathlib.Core.List.{List}
use mathlib.Core.Path.{◌≡◌, refl}
use Prim.Native.Nat.{ℕ}
use Rattle.format.specs.declared.Refusal.{Refusal}
use Rattle.format.specs.declared.Refusal.TheVariants.{NoEntry}
use Rattle.format.specs.Picture.{pixels}
use Rattle.format.specs.Chain.{step_at, count}
use Rattle.format.specs.Refusals.{number, returned, ◌unless◌, ◌before◌, accepted as by_number}
use Rattle.format.specs.Calls.{strip_of, storable, pair_refusal, store_answer, store_strip}
use Rattle.format.proofs.Steps.{stored_steps, accepts_steps}
use Rattle.chain.specs.declared.record.ValidChain.{ValidChain}
use Rattle.chain.specs.Valid.{steps_of, stored_by}
use Rattle.chain.specs.Reading.{ChainOf, Opened}
use Rattle.store.specs.declared.storing.Storing.{Storing}
use Rattle.store.specs.Turns.{accepted, Stored}

-- by the test
abbrev decided : Bool → Result (Unit {0}) Refusal
decided b = if b then Ok tt else Err NoEntry

module _ (w h : ℕ) (cs ds picture strip : List ℕ) where
  -- 21, or the strip
  module _ (e : pair_refusal w h cs ds picture strip ≡ 0) (v : ValidChain) (o : Opened w h cs ds picture strip v) (s : Storing) (made_of : (s.opened ≡ v) × (s.picture.now ≡ picture)) where
    abbrev accepting : Bool
    accepting = storable w h cs ds (pixels picture)

    of : ChainOf w h cs s.opened.chain
    of = rw made_of.0 o.of

    on : s.opened.«data».now ≡ ds
    on = rw made_of.0 o.on

    same : accepted s ≡ accepting
    same = rw (on, made_of.1, of.count, of.height) (accepts_steps (steps_of s.opened.chain) (step_at cs w) h ds (pixels picture) (count cs) of.steps.at)

    made : stored_by s.opened.chain s.opened.«data».now s.opened.chain.count (pixels s.picture.now) ≡ strip_of w h cs ds (pixels picture)
    made = rw (on, made_of.1, of.count) (stored_steps (steps_of s.opened.chain) (step_at cs w) h ds (pixels picture) (count cs) of.steps.at)

    pub answered : (r : Result (Unit {0}) Refusal) (ys : List ℕ) → Stored s strip r ys
        → (returned r ≡ store_answer w h cs ds picture strip) × (ys ≡ store_strip w h cs ds picture strip)
    unfolding store_answer store_strip
    answered r ys t = rw (t.answer, t.bytes, same, made, e, of.height, of.strip) (both accepting _)
      where
        both : (b : Bool) (left : List ℕ)
            → (returned (decided b) ≡ (0 before (number NoEntry unless b)))
            × ((if b then left else strip) ≡ (if by_number (0 before (number NoEntry unless b)) then left else strip))
        both true left = (refl, refl)
        both false left = (refl, refl)
