-- `tabled_length` meets its contract: the table of kinds bounds bits and size.
use native.Mathlib.Omega.{arith}
use Rattle.format.proofs.Valid.{blocks_bits, table_size}
use Rattle.chain.proofs.known.Known.tabled_length.Goals as goal

pub block_bytes-requires : goal.block_bytes-requires
block_bytes-requires c = grind (arith, blocks_bits)

pub overflow_mul-result : goal.overflow_mul-result
overflow_mul-result c = grind (arith, table_size)
