-- Laws of hints: how they are made, from the last entry to the first, and that following them finds the lowest index.
use Rattle.std.specs.Prelude.{Some, None}
use borrow.Author.Tests.{le-ltb}
use mathlib.Core.Bool.{Bool, true, false}
use mathlib.Core.List.{List}
use mathlib.Core.Path.{◌≡◌, sym, ap, ◌∙◌}
use Prim.Native.Nat.{ℕ, suc, ◌+◌, ◌<◌, ◌≤◌}
use native.Mathlib.Decide.{ℕ_discrete, dec_lt}
use native.Mathlib.Omega.{arith}
use lib.ListN.{length, set, length-set, replicate, get_or-replicate, length-replicate, get_or-eq_default}
use lib.Seq.{get_or-set_same, get_or-set_other}
use Rattle.format.specs.declared.Pixel.{Pixel}
use Rattle.format.specs.Pixel.{equal}
use Rattle.format.specs.Picture.{Picture, byte_at}
use Rattle.format.specs.ColorTable.{index_of}
use Rattle.format.proofs.Pixels.{equal_true, equal_refl}
use Rattle.format.proofs.ColorTable.{index_is, index_none}
use Rattle.color_table.specs.Found.{found}
use Rattle.color_table.proofs.Index.{found_at, found_none}
use Rattle.color_table.specs.Hints.{slot_of, in_slot, link, Toward, Linked, Hints}

slot_below : (v : Pixel) → slot_of v < 4096
unfolding slot_of
slot_below v = omega arith

-- no hints

zeros : (n s : ℕ) → byte_at (replicate n 0) s ≡ 0
zeros n s = go (dec_lt s n)
  where
    go : Dec (s < n) → byte_at (replicate n 0) s ≡ 0
    go (yes l) = get_or-replicate n s 0 0 l
    go (no l) = let k : length (replicate {A = ℕ} n 0) ≡ n = length-replicate n 0 in get_or-eq_default (replicate n 0) 0 {n = s} (omega arith)

pub linked_none : (size : ℕ) (e : Picture) → 1 ≤ size → Linked size size e (replicate 4352 0)
linked_none size e pos = record {
  full = length-replicate {A = ℕ} 4352 0;
  below = λ i. rw (zeros 4352 i) pos;
  first = λ j l m. absurd (omega arith);
  next = λ i j l m n q. absurd (omega arith);
  since = λ s l m. let z = zeros 4352 s in absurd (omega arith);
  up = λ i m. let z = zeros 4352 (4096 + i) in absurd (omega arith);
}

-- entry a in front of what its slot holds

module _ (a size : ℕ) (e : Picture) (hints : List ℕ) (h : Linked (a + 1) size e hints) (l : a < size) (m : size ≤ 256) where
  abbrev s : ℕ
  s = slot_of (e a)

  abbrev more : List ℕ
  more = set (set hints (4096 + a) (in_slot hints s)) s a

  full : length more ≡ 4352
  full = length-set (set hints (4096 + a) (in_slot hints s)) s a ∙ length-set hints (4096 + a) (in_slot hints s) ∙ h.full

  slot_own : in_slot more s ≡ a
  slot_own =
      let b = slot_below (e a) in
      let f = length-set hints (4096 + a) (in_slot hints s) ∙ h.full in
      get_or-set_same (set hints (4096 + a) (in_slot hints s)) s a 0 (omega arith)

  other : (i : ℕ) → (i ≡ s → ⊥) → (i ≡ 4096 + a → ⊥) → byte_at more i ≡ byte_at hints i
  other i n k = get_or-set_other (set hints (4096 + a) (in_slot hints s)) s i a 0 n ∙ get_or-set_other hints (4096 + a) i (in_slot hints s) 0 k

  slot_other : (t : ℕ) → t < 4096 → (t ≡ s → ⊥) → in_slot more t ≡ in_slot hints t
  slot_other t u n = other t n (λ p. omega arith)

  link_own : link more a ≡ in_slot hints s
  link_own =
      let b = slot_below (e a) in
      let f = h.full in
      get_or-set_other (set hints (4096 + a) (in_slot hints s)) s (4096 + a) a 0 (λ p. omega arith)
      ∙ get_or-set_same hints (4096 + a) (in_slot hints s) 0 (omega arith)

  link_other : (i : ℕ) → (i ≡ a → ⊥) → link more i ≡ link hints i
  link_other i n = let b = slot_below (e a) in other (4096 + i) (λ p. omega arith) (λ p. n (omega arith))

  below : (i : ℕ) → byte_at more i < size
  below i = go (ℕ_discrete i s) (ℕ_discrete i (4096 + a))
    where
      go : Dec (i ≡ s) → Dec (i ≡ 4096 + a) → byte_at more i < size
      go (yes p) d = rw (p, slot_own) l
      go (no n) (yes p) = rw (p, link_own) (h.below s)
      go (no n) (no k) = rw (other i n k) (h.below i)

  first : (j : ℕ) → a ≤ j → j < size → Toward e a (in_slot more (slot_of (e j))) j
  first j b c = go (ℕ_discrete (slot_of (e j)) s) (ℕ_discrete j a)
    where
      go : Dec (slot_of (e j) ≡ s) → Dec (j ≡ a) → Toward e a (in_slot more (slot_of (e j))) j
      go (yes p) d = rw (p, slot_own) (record { from = omega arith; before = b; same = sym p })
      go (no n) (yes q) = absurd (n (ap (λ (i : ℕ). slot_of (e i)) q))
      go (no n) (no q) =
          let t = h.first j (omega arith) c in
          let u = t.from in
          rw (slot_other (slot_of (e j)) (slot_below (e j)) n) (record { from = omega arith; before = t.before; same = t.same })

  next : (i j : ℕ) → a ≤ i → i < j → j < size → slot_of (e i) ≡ slot_of (e j) → Toward e (suc i) (link more i) j
  next i j b c d q = go (ℕ_discrete i a)
    where
      go : Dec (i ≡ a) → Toward e (suc i) (link more i) j
      go (yes p) =
          let t = h.first j (omega arith) d in
          let u = t.from in
          let r : s ≡ slot_of (e j) = ap (λ (k : ℕ). slot_of (e k)) (sym p) ∙ q in
          rw (p, link_own, r) (record { from = omega arith; before = t.before; same = t.same })
      go (no n) = rw (link_other i n) (h.next i j (omega arith) c d q)

  since : (t : ℕ) → t < 4096 → 0 < in_slot more t → a ≤ in_slot more t
  since t b c = go (ℕ_discrete t s)
    where
      go : Dec (t ≡ s) → a ≤ in_slot more t
      go (yes p) = rw (p, slot_own) (omega arith)
      go (no n) = let o = slot_other t b n in let u = h.since t b (omega arith) in omega arith

  up : (i : ℕ) → 0 < link more i → i < link more i
  up i b = go (ℕ_discrete i a)
    where
      go : Dec (i ≡ a) → i < link more i
      go (yes p) =
          let o : link more i ≡ in_slot hints s = rw p link_own in
          let u = h.since s (slot_below (e a)) (omega arith) in
          omega arith
      go (no n) = let o = link_other i n in let u = h.up i (omega arith) in omega arith

  linked : Linked a size e more
  linked = record { full = full; below = below; first = first; next = next; since = since; up = up }

pub linked_more : (a b s size : ℕ) (e : Picture) (hints : List ℕ) → b ≡ a + 1 → s ≡ slot_of (e a) → Linked b size e hints → a < size → size ≤ 256
    → Linked a size e (set (set hints (4096 + a) (in_slot hints s)) s a)
linked_more a b s size e hints p q h l m = rw q (linked a size e hints (rw p at h) l m)

-- following them: every entry that is v is reached from i

abbrev pub Leads : ℕ → Picture → Pixel → ℕ → Type 0
Leads size e v i = (j : ℕ) → j < size → e j ≡ v → Toward e 0 i j

module _ (size : ℕ) (e : Picture) (hints : List ℕ) (h : Hints size e hints) (v : Pixel) where
  -- past an entry that is not v
  past : (i j : ℕ) → Leads size e v i → equal (e i) v ≡ false → j < size → e j ≡ v → Toward e (suc i) (link hints i) j
  past i j f n l q =
      let t = f j l q in
      let b = t.before in
      h.next i j (omega arith) (apart (ℕ_discrete i j) b) l t.same
    where
      apart : Dec (i ≡ j) → i ≤ j → i < j
      apart (no p) b = omega arith
      apart (yes p) b =
          let z : ◌≡◌ {A = Bool} true false = sym (equal_refl v) ∙ ap (λ (u : Pixel). equal u v) (sym q ∙ ap e (sym p)) ∙ n in
          let o : ◌≡◌ {A = ℕ} 0 1 = cc in
          absurd (omega arith)

  pub leads_link : (i : ℕ) → Leads size e v i → equal (e i) v ≡ false → Leads size e v (link hints i)
  leads_link i f n j l q = let t = past i j f n l q in record { from = omega arith; before = t.before; same = t.same }

  pub leads_found : (i : ℕ) → Leads size e v i → i < size → equal (e i) v ≡ true → Some i ≡ found size e v
  leads_found i f l q = found_at size e v i (index_is size e v i l (equal_true (e i) v q) (λ j m p. (f j m p).before)) l

  pub leads_none : (i : ℕ) → Leads size e v i → equal (e i) v ≡ false → link hints i ≡ 0 → None ≡ found size e v
  leads_none i f n z =
      found_none size e v (le-ltb (index_of size e v) size (omega (arith, index_none size e v (λ j l q. let t = past i j f n l q in let u = t.from in omega arith))))
