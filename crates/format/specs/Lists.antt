-- Lists of calls, each on what the last one left: of any state and any kind of call.
use Rattle.std.specs.Prelude.{List, [], ◌∷◌, ℕ, ◌+◌, if◌then◌else◌}
use Rattle.format.specs.Refusals.{accepted}

-- what a call c answers where the state is s, and the state that it leaves
pub record Machine (S C : Type 0) : Type 0 where
  pub answer : S → C → ℕ
  pub leave : S → C → S

-- changes made in turn, each to what the last one left
unfoldable pub in_turn : {S C : Type 0} → (S → C → S) → S → List C → S
in_turn change s [] = s
in_turn change s (c ∷ cs) = in_turn change (change s c) cs

-- what a list of calls leaves, and the answers to them
abbrev pub left_by : {S C : Type 0} → Machine S C → S → List C → S
left_by m s cs = in_turn m.leave s cs

unfoldable pub answers_to : {S C : Type 0} → Machine S C → S → List C → List ℕ
answers_to m s [] = []
answers_to m s (c ∷ cs) = m.answer s c ∷ answers_to m (m.leave s c) cs

-- the calls that were accepted, by the answers to them
unfoldable pub accepted_calls : {C : Type 0} → List ℕ → List C → List C
accepted_calls [] cs = []
accepted_calls (a ∷ rest) [] = []
accepted_calls (a ∷ rest) (c ∷ cs) = if accepted a then c ∷ accepted_calls rest cs else accepted_calls rest cs

-- what g gives of each call, together
abbrev pub total : {C : Type 0} → (C → ℕ) → List C → ℕ
total g [] = 0
total g (c ∷ cs) = g c + total g cs
