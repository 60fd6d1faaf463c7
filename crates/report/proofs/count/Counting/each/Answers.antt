-- `each` meets its contract: before each turn the pixels before it are counted.
use Rattle.std.proofs.Common.{arith, rules, ◌≡◌, ◌+◌, ◌<◌, sym, ◌∙◌, [], slice_index_or}
use Rattle.format.specs.Picture.{pixels}
use Rattle.report.proofs.Chunks.{chunk_pixel}
use Rattle.report.proofs.Counts.{counted_room, counted_one}
use Rattle.report.proofs.count.Counting.each.Goals as goal

pub add-requires : goal.add-requires
add-requires c = counted_room c.loop-pixel.invariant _ c.place.ensures 1 (omega arith)

pub loop-pixel-preserved : goal.loop-pixel-preserved
unfolding pixels
loop-pixel-preserved c =
    let l = c.loop-pixel in
    let a = c.args in
    let all = c.as_chunks.ensures in
    let here : a.from + l.pixel-index < a.to = omega (arith, all.front_len) in
    let w : c.from.result ≡ pixels (slice_index_or c.as_chunks.result.0.now l.pixel-index []) 0 = search rules in
    counted_one l.invariant _ c.place.ensures _ _ (omega arith)
    (sym (w ∙ chunk_pixel a.from a.to l.pixel-index a.self.now.picture.now _ here (omega arith) all.front))
    c.add.ensures.added c.add.ensures.size
