-- What refusal 0 gives: a valid chain's sizes and records, and how the refusal of a chain is found record by record.
use Rattle.std.proofs.lemmas.Bool.{and_parts}
use Rattle.std.specs.Prelude.{Ok, Err, if◌then◌else◌}
use mathlib.Core.Bool.{Bool, true, false, not, ◌&&◌}
use mathlib.Core.List.{List}
use mathlib.Core.Path.{◌≡◌, refl, sym, ap, ◌∙◌}
use Prim.Native.Nat.{ℕ, zero, suc, ◌+◌, ◌-◌, ◌*◌, ◌%◌, ◌<◌, ◌≤◌}
use native.Mathlib.Nat.{zero-add}
use native.Mathlib.Omega.{arith}
use borrow.Author.Tests.{ltb-false, leb-true, eqb-true, eqb-false, ne_eqb, not-true, not-false}
use lib.Dec.{eqb, leb, ltb}
use lib.ListN.{length}
use Rattle.format.specs.Choice.{every}
use Rattle.format.specs.declared.Step.{Step}
use Rattle.format.specs.declared.Refusal.TheVariants.{UnknownKind, KindAgain, NotTabled, WrongLength, BeyondData}
use Rattle.format.specs.Picture.{byte_at}
use Rattle.format.specs.Sizes.{Sized}
use Rattle.format.specs.Chain.{by_kind, record_at, narrowed, width_at, step_at, count}
use Rattle.format.specs.Refusals.{used_before, blocks_tabled, green_tabled, table_tabled, tabled, block_bytes, tabled_length, checked, returned, ◌unless◌, ◌before◌, records_refusal, in_range, whole_records, size_refusal, chain_refusal, input_refusal}
use Rattle.format.specs.ValidStep.{ValidBlocks, ValidTable, ValidStep}
use Rattle.format.proofs.Choice.{every_at}
use Rattle.format.proofs.ByKind.{by_kind_blocks, by_kind_3}
use Rattle.format.proofs.Stages.{KnownKinds, width_at_pos, width_record}

-- refusals in order

pub before_none : (a b : ℕ) → a ≡ 0 → (a before b) ≡ b
before_none a b e = rw e

pub before_some : (a b : ℕ) → (a ≡ 0 → ⊥) → (a before b) ≡ a
before_some a b n = rw (ne_eqb a 0 n)

pub before_zero : (a b : ℕ) → (a before b) ≡ 0 → (a ≡ 0) × (b ≡ 0)
before_zero a b = go (eqb a 0) (eqb-true a 0) (eqb-false a 0)
  where
    go : (t : Bool) → (t ≡ true → a ≡ 0) → (t ≡ false → a ≡ 0 → ⊥) → (if t then b else a) ≡ 0 → (a ≡ 0) × (b ≡ 0)
    go true x y e = (x refl, e)
    go false x y e = absurd (y refl e)

pub unless_zero : (n : ℕ) (b : Bool) → (suc n unless b) ≡ 0 → b ≡ true
unless_zero n true e = refl
unless_zero n false e = absurd (omega arith)

-- bits and size, as the table of kinds has them

module _ (s : Step) (p : tabled s ≡ true) where
  fields : by_kind s.kind (blocks_tabled s) (blocks_tabled s) (green_tabled s) (table_tabled s) ≡ true
  unfolding tabled
  fields = (and_parts (eqb s.zero 0) _ p).1

  of_blocks : s.kind ≤ 1 → blocks_tabled s ≡ true
  of_blocks l = sym (by_kind_blocks (blocks_tabled s) (green_tabled s) (table_tabled s) s.kind l) ∙ fields

  of_table : s.kind ≡ 3 → (leb 1 s.size && leb s.size 256) ≡ true
  of_table e = (and_parts (eqb s.bits 0) _ (sym (by_kind_3 (blocks_tabled s) (blocks_tabled s) (green_tabled s) (table_tabled s) s.kind e) ∙ fields)).1

  pub blocks_bits : s.kind ≤ 1 → s.bits ≤ 9
  blocks_bits l = leb-true s.bits 9 (and_parts (leb s.bits 9) _ (and_parts (leb 2 s.bits) _ (of_blocks l)).1).0

  pub table_size : s.kind ≡ 3 → s.size ≤ 256
  table_size e = leb-true s.size 256 (and_parts (leb 1 s.size) _ (of_table e)).1

-- one record

-- the tests that a record passes
pub record Passed (again : Bool) (h : ℕ) (ds : List ℕ) (s : Step) : Type 0 where
  pub known : ltb 3 s.kind ≡ false
  pub new : again ≡ false
  pub rightly : tabled s ≡ true
  pub long : eqb s.length (tabled_length s h) ≡ true
  pub inside : ltb (length ds) (s.offset + s.length) ≡ false

module _ (again : Bool) (h : ℕ) (ds : List ℕ) (s : Step) where
  pub passed : returned (checked again h ds s) ≡ 0 → Passed again h ds s
  unfolding checked
  passed = go (ltb 3 s.kind) again (tabled s) (eqb s.length (tabled_length s h)) (ltb (length ds) (s.offset + s.length)) refl refl refl refl refl
    where
      go : (a b c d e : Bool) → ltb 3 s.kind ≡ a → again ≡ b → tabled s ≡ c → eqb s.length (tabled_length s h) ≡ d → ltb (length ds) (s.offset + s.length) ≡ e
          → returned (if a then Err UnknownKind else (if b then Err KindAgain else (if not c then Err NotTabled else (if not d then Err WrongLength else (if e then Err BeyondData else Ok s))))) ≡ 0
          → Passed again h ds s
      go true b c d e p q r t u z = absurd (omega arith)
      go false true c d e p q r t u z = absurd (omega arith)
      go false false false d e p q r t u z = absurd (omega arith)
      go false false true false e p q r t u z = absurd (omega arith)
      go false false true true true p q r t u z = absurd (omega arith)
      go false false true true false p q r t u z = record { known = p; new = q; rightly = r; long = t; inside = u }

  -- what the table of kinds says of the length, and of bits and size
  lengths : Passed again h ds s → s.length ≡ by_kind s.kind (block_bytes s h) (block_bytes s h) 0 (4 * s.size)
  unfolding tabled_length
  lengths p = eqb-true s.length _ p.long

  valid_blocks : Passed again h ds s → s.kind ≤ 1 → ValidBlocks s h
  valid_blocks p l = record {
    least = leb-true 2 s.bits (and_parts (leb 2 s.bits) _ (of_blocks s p.rightly l)).0;
    most = blocks_bits s p.rightly l;
    long = lengths p ∙ by_kind_blocks (block_bytes s h) 0 (4 * s.size) s.kind l;
  }

  valid_table : Passed again h ds s → s.kind ≡ 3 → ValidTable s
  valid_table p e = record {
    some = leb-true 1 s.size (and_parts (leb 1 s.size) _ (of_table s p.rightly e)).0;
    most = table_size s p.rightly e;
    long = lengths p ∙ by_kind_3 (block_bytes s h) (block_bytes s h) 0 (4 * s.size) s.kind e;
  }

  pub passed_valid : Passed again h ds s → ValidStep s h (length ds)
  passed_valid p = record {
    known = ltb-false 3 s.kind p.known;
    inside = ltb-false (length ds) (s.offset + s.length) p.inside;
    blocks = valid_blocks p;
    table = valid_table p;
  }

-- the first k records

module _ (cs : List ℕ) (w h : ℕ) (ds : List ℕ) where
  -- the refusal of one record more: an earlier one's, or its own
  pub records_refused : (k : ℕ) → (records_refusal cs w h ds k ≡ 0 → ⊥) → records_refusal cs w h ds (suc k) ≡ records_refusal cs w h ds k
  unfolding records_refusal
  records_refused k m = before_some (records_refusal cs w h ds k) _ m

  pub records_next : (k : ℕ) → records_refusal cs w h ds k ≡ 0 → records_refusal cs w h ds (suc k) ≡ returned (checked (used_before cs k) h ds (step_at cs w k))
  unfolding records_refusal
  records_next k e = before_none (records_refusal cs w h ds k) _ e

  records_zero : (k : ℕ) → records_refusal cs w h ds (suc k) ≡ 0 → (records_refusal cs w h ds k ≡ 0) × (returned (checked (used_before cs k) h ds (step_at cs w k)) ≡ 0)
  unfolding records_refusal
  records_zero k e = before_zero (records_refusal cs w h ds k) _ e

  stays : (d j : ℕ) → records_refusal cs w h ds (d + j) ≡ 0 → records_refusal cs w h ds j ≡ 0
  stays zero j e = rw zero-add at e
  stays (suc d) j e =
      let m : suc d + j ≡ suc (d + j) = omega arith in
      stays d j (records_zero (d + j) (rw m at e)).0

  pub refusal_stays : (j k : ℕ) → j ≤ k → records_refusal cs w h ds k ≡ 0 → records_refusal cs w h ds j ≡ 0
  refusal_stays j k l e =
      let m : k ≡ (k - j) + j = omega arith in
      stays (k - j) j (rw m at e)

  lasts : (d j : ℕ) → (records_refusal cs w h ds j ≡ 0 → ⊥) → records_refusal cs w h ds (d + j) ≡ records_refusal cs w h ds j
  lasts zero j m = rw zero-add refl
  lasts (suc d) j m =
      let e : suc d + j ≡ suc (d + j) = omega arith in
      let r = lasts d j m in
      rw e (records_refused (d + j) (λ z. m (sym r ∙ z)) ∙ r)

  -- a refusal is that of any records more
  pub refusal_lasts : (j k : ℕ) → j ≤ k → (records_refusal cs w h ds j ≡ 0 → ⊥) → records_refusal cs w h ds k ≡ records_refusal cs w h ds j
  refusal_lasts j k l m =
      let e : k ≡ (k - j) + j = omega arith in
      ap (records_refusal cs w h ds) e ∙ lasts (k - j) j m

  pub records_passed : (k j : ℕ) → j < k → records_refusal cs w h ds k ≡ 0 → Passed (used_before cs j) h ds (step_at cs w j)
  records_passed k j l e = passed (used_before cs j) h ds (step_at cs w j) (records_zero j (refusal_stays (suc j) k l e)).1

-- a kind that is not used before
pub used_once : (cs : List ℕ) (w k : ℕ) → used_before cs k ≡ false → (j : ℕ) → j < k → (step_at cs w j).kind ≡ (step_at cs w k).kind → ⊥
unfolding record_at
used_once cs w k e j l =
    let other : ℕ → Bool = λ i. not (eqb (byte_at cs (16 * i)) (byte_at cs (16 * k))) in
    let t = every_at k other j l (not-false (every k other) e) in
    eqb-false (byte_at cs (16 * j)) (byte_at cs (16 * k)) (not-true (eqb (byte_at cs (16 * j)) (byte_at cs (16 * k))) t)

-- a record of a known kind takes columns a wide to columns b wide
pub record Fits (s : Step) (a b : ℕ) : Type 0 where
  pub wide : 1 ≤ s.width
  pub known : s.kind ≤ 3
  pub from : s.width ≡ a
  pub to : narrowed s ≡ b

-- the chain

module _ (w h : ℕ) (cs ds : List ℕ) where
  -- past tests 1 and 2
  pub chain_records : (in_range w && in_range h) ≡ true → whole_records cs ≡ true → input_refusal w h cs ds ≡ records_refusal cs w h ds (count cs)
  unfolding input_refusal size_refusal chain_refusal
  chain_records e p = rw (e, p)

module _ (w h : ℕ) (cs ds : List ℕ) (valid : input_refusal w h cs ds ≡ 0) where
  tests : ((in_range w && in_range h) ≡ true) × (whole_records cs ≡ true) × (records_refusal cs w h ds (count cs) ≡ 0)
  unfolding input_refusal size_refusal chain_refusal
  tests =
      let a = before_zero (1 unless (in_range w && in_range h)) _ valid in
      let b = before_zero (2 unless whole_records cs) _ a.1 in
      (unless_zero 0 (in_range w && in_range h) a.0, unless_zero 1 (whole_records cs) b.0, b.1)

  pub valid_sized : Sized w h
  valid_sized =
      let both = and_parts (in_range w) (in_range h) tests.0 in
      let a = and_parts (leb 1 w) (leb w 16384) both.0 in
      let b = and_parts (leb 1 h) (leb h 16384) both.1 in
      record { wide = leb-true 1 w a.0; narrow = leb-true w 16384 a.1; tall = leb-true 1 h b.0; low = leb-true h 16384 b.1 }

  pub valid_short : length cs ≤ 64
  valid_short = leb-true (length cs) 64 (and_parts (eqb (length cs % 16) 0) (leb (length cs) 64) tests.1).1

  pub valid_count : count cs ≤ 4
  valid_count = omega (arith, valid_short)

  pub valid_records : records_refusal cs w h ds (count cs) ≡ 0
  valid_records = tests.2

  valid_passed : (k : ℕ) → k < count cs → Passed (used_before cs k) h ds (step_at cs w k)
  valid_passed k l = records_passed cs w h ds (count cs) k l valid_records

  pub valid_step : (k : ℕ) → k < count cs → ValidStep (step_at cs w k) h (length ds)
  valid_step k l = passed_valid (used_before cs k) h ds (step_at cs w k) (valid_passed k l)

  pub valid_known : KnownKinds cs w (count cs)
  valid_known k l = (valid_step k l).known

  -- no kind twice
  pub valid_once : (k : ℕ) → k < count cs → (j : ℕ) → j < k → (step_at cs w j).kind ≡ (step_at cs w k).kind → ⊥
  valid_once k l = used_once cs w k (valid_passed k l).new

  -- the records of a valid chain, with the widths before and after them
  pub valid_fits : (j : ℕ) → j < count cs → Fits (step_at cs w j) (width_at cs w j) (width_at cs w (suc j))
  unfolding width_at
  valid_fits j l = record {
    wide = rw (width_record cs j (width_at cs w j)) (width_at_pos cs w j valid_sized.wide);
    known = valid_known j l;
    from = width_record cs j (width_at cs w j);
    to = refl;
  }
