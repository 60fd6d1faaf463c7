-- Laws of counts: pixels of one color more.
use mathlib.Core.Bool.{Bool, true, false}
use mathlib.Core.List.{List}
use mathlib.Core.Path.{◌≡◌, sym, ap, ◌∙◌}
use Prim.Native.Nat.{ℕ, ◌+◌, ◌-◌, ◌*◌, ◌/◌, ◌<◌, ◌≤◌}
use native.Mathlib.Decide.{ℕ_discrete}
use native.Mathlib.Omega.{arith}
use borrow.Author.Tests.{eq-eqb, ne_eqb}
use lib.Dec.{eqb}
use lib.ListN.{length, take, set, length-set, replicate, get_or-replicate, length-replicate}
use lib.Seq.{length-take-le, get_or-set_same, get_or-set_other}
use Rattle.format.specs.Indices.{how_many}
use Rattle.format.specs.declared.Pixel.{Pixel}
use Rattle.format.specs.Picture.{Picture, pixels}
use Rattle.format.specs.ColorTable.{index_of}
use Rattle.format.proofs.Indices.{how_many_same, how_many_most, how_many_alike}
use Rattle.format.proofs.ColorTable.{index_most}
use Rattle.color_table.specs.OneOf.{EachOf}
use Rattle.color_table.proofs.Fronts.{pixels_front}
use Rattle.color_table.proofs.Index.{each_same}
use Rattle.report.specs.Counts.{at, most_pixels, Counted}
use Rattle.report.specs.Counting.{count_of, CountedIn}
use Rattle.report.specs.declared.count.Counts.{Counts}
use Rattle.report.specs.declared.count.Counting.{Counting}

-- n pixels that were lent are counted
pub counted_front : (m : ℕ) (e : Picture) (n : ℕ) (xs counts : List ℕ) → 4 * n ≤ length xs → Counted m e (length (take (4 * n) xs) / 4) (pixels (take (4 * n) xs)) counts
    → Counted m e n (pixels xs) counts
counted_front m e n xs counts fits h = record {
  full = h.full;
  found = λ k l.
      let q : length (take (4 * n) xs) / 4 ≡ n = omega (arith, length-take-le (4 * n) xs fits) in
      (rw q at (h.found k l)) ∙ how_many_same n _ _ (λ j u. ap (λ (v : Pixel). eqb (index_of m e v) k) (pixels_front (4 * n) xs j (omega arith)));
}

module _ (m : ℕ) (e f : Picture) where
  pub counted_none : m ≤ 256 → Counted m e 0 f (replicate 257 0)
  counted_none l = record { full = length-replicate {A = ℕ} 257 0; found = λ k b. get_or-replicate 257 k 0 0 (omega arith) }

  -- n pixels more that are v, which is found at k
  pub counted_more : (i n k : ℕ) (v : Pixel) (counts ys : List ℕ) → Counted m e i f counts → m ≤ 256
      → k ≡ index_of m e v → ((q : ℕ) → i ≤ q → q < i + n → f q ≡ v)
      → ys ≡ set counts k (at counts k + n) → Counted m e (i + n) f ys
  counted_more i n k v counts ys h b p all w = record { full = rw w (length-set counts k (at counts k + n) ∙ h.full); found = λ j l. rw w (at_index j l (ℕ_discrete k j)) }
    where
      here : k ≤ m
      here = rw p (index_most m e v)

      alike : (j : ℕ) (t : Bool) → eqb k j ≡ t → (q : ℕ) → i ≤ q → q < i + n → eqb (index_of m e (f q)) j ≡ t
      alike j t r q l u = ap (λ (x : Pixel). eqb (index_of m e x) j) (all q l u) ∙ rw p at r

      at_index : (j : ℕ) → j ≤ m → Dec (k ≡ j) → at (set counts k (at counts k + n)) j ≡ how_many (i + n) (λ q. eqb (index_of m e (f q)) j)
      at_index j l (yes q) =
          let s = h.full in
          let a = h.found j l in
          let t = how_many_alike i n (λ q. eqb (index_of m e (f q)) j) true (alike j true (eq-eqb k j q)) in
          rw (q, get_or-set_same counts j (at counts j + n) 0 (omega arith)) (omega arith)
      at_index j l (no q) =
          let a = h.found j l in
          let t = how_many_alike i n (λ q. eqb (index_of m e (f q)) j) false (alike j false (ne_eqb k j q)) in
          rw (get_or-set_other counts k j (at counts k + n) 0 (λ z. q (sym z))) (omega arith)

-- the first i pixels are counted, and v is found at k
module _ {t : Counting} {i : ℕ} {counts : Counts} (h : CountedIn t i counts) {k : ℕ} (v : Pixel)
    (p : k ≡ index_of t.list.now.entries.size (pixels t.list.now.entries.bytes.now) v) where
  few : k ≤ t.list.now.entries.size
  few = rw p (index_most t.list.now.entries.size (pixels t.list.now.entries.bytes.now) v)

  -- n pixels more have room there
  pub counted_room : (n : ℕ) → i + n ≤ count_of t → (k ≤ 256) × (at counts.numbers k + n ≤ most_pixels)
  counted_room n l =
      let b = how_many_most i (λ q. eqb (index_of t.list.now.entries.size (pixels t.list.now.entries.bytes.now) (pixels t.picture.now q)) k) in
      (omega (arith, few, t.list.now.entries.most), omega (arith, b, h.numbers.found k few, t.few))

  -- one more
  pub counted_one : (j : ℕ) (ys : Counts) → i + 1 ≡ j → pixels t.picture.now i ≡ v
      → ys.numbers ≡ set counts.numbers k (at counts.numbers k + 1) → ys.size ≡ counts.size → CountedIn t j ys
  counted_one j ys n e w s =
      let f = pixels t.picture.now in
      record {
        size = s ∙ h.size;
        numbers = rw n at (counted_more t.list.now.entries.size (pixels t.list.now.entries.bytes.now) f i 1 k v _ _ h.numbers t.list.now.entries.most p (λ q l u. let z : i ≡ q = omega arith in ap f (sym z) ∙ e) w);
      }

  -- pixels i to j, which are v, are counted
  pub counted_run : (j : ℕ) (ys : Counts) → i ≤ j → EachOf v v (pixels t.picture.now) i (j - i)
      → ys.numbers ≡ set counts.numbers k (at counts.numbers k + (j - i)) → ys.size ≡ counts.size → CountedIn t j ys
  counted_run j ys l all w s =
      let n : i + (j - i) ≡ j = omega arith in
      let e = pixels t.list.now.entries.bytes.now in
      let f = pixels t.picture.now in
      record {
        size = s ∙ h.size;
        numbers = rw n at (counted_more t.list.now.entries.size e f i (j - i) k v _ _ h.numbers t.list.now.entries.most p (each_same v f i (j - i) all) w);
      }
