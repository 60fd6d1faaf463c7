-- `columns_of` meets its contract: each pixel is the entry of its index.
use borrow.Author.Rules.{rules}
use native.Mathlib.Omega.{arith}
use lib.ListN.{length-replicate}
use Prim.Native.Nat.{ℕ}
use Rattle.color_table.specs.Table.{column_in}
use Rattle.color_table.proofs.Entries.{columns_whole}
use Rattle.color_table.proofs.table.Padded.columns.Goals as goal

pub returns : goal.returns
returns c =
    let p = c.args.self.now in
    columns_whole _ _ _ _ _ (c.fill.ensures (column_in p.per_byte p.entries) (λ i v a b post. search rules)) (omega arith) p.places (length-replicate {A = ℕ} 8192 0)
