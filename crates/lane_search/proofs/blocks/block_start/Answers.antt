use Rattle.std.proofs.Common.{◌≡◌, ◌+◌, ◌*◌, min, length, pos, negsuc, ◌+ℤ◌, ◌-ℤ◌, ◌∙◌, arith, length-take, take, add-one, w64, SFits, to_z, of_z, rules}
use Rattle.std.proofs.Math.Nat.{suc-mul}
use Rattle.std.proofs.lemmas.Int.{ints, to_z-of_z}
use Rattle.lane_search.specs.Readings.{line_read}
use Rattle.lane_search.proofs.Sampled.{read_short}
use Rattle.lane_search.proofs.Rows.{row_below, rows_above, row_front}
use Rattle.lane_search.proofs.Pairs.{pair_first}
use Rattle.lane_search.proofs.PastLine.{begun_past}
use Rattle.lane_search.proofs.blocks.block_start.Goals as goal

pub loop-row-init : goal.loop-row-init
loop-row-init g c =
    let first = c.furthest_place-first in
    let h : SFits w64 first.result.sum = search rules in
    let f : SFits w64 c.laden_at.result = search rules in
    let n = length c.args.tops.now in
    let starts = c.end-starts.result + 15999 in
    let e : pos (min (0 * n) starts) -ℤ pos 15999 ≡ negsuc 15998 = omega (arith, ints) in
    rw e (pair_first g.S.Sense.order (line_read c.args.weighed.now.sample.now) c.args.weighed.now.load _ _ _ (record { place = first.result.place; furthest = first.ensures })
    (simp to_z-of_z at c.new-worst.ensures.sum ∙ simp to_z-of_z at c.laden_at.ensures) c.new-worst.ensures.place)

pub overflow_sub-from : goal.overflow_sub-from
overflow_sub-from g c =
    let short = c.args.weighed.now.sample.now.short in
    let lt = row_below c.loop-row.row (length c.args.tops.now) (c.end-starts.result + 15999) (omega arith) (omega arith) in
    omega (arith, ints)

pub best_tops-requires : goal.best_tops-requires
best_tops-requires g c =
    let short = c.args.weighed.now.sample.now.short in
    let lt = row_below c.loop-row.row (length c.args.tops.now) (c.end-starts.result + 15999) (omega arith) (omega arith) in
    record { low = omega (arith, ints); high = omega (arith, ints) }

pub offer_row-requires : goal.offer_row-requires
offer_row-requires g c =
    let short = c.args.weighed.now.sample.now.short in
    let row = c.loop-row.row in
    let n = length c.args.tops.now in
    let starts = c.end-starts.result + 15999 in
    let lt = row_below row n starts (omega arith) (omega arith) in
    let from : to_z w64 (of_z w64 (to_z w64 (row * n) -ℤ pos 15999)) ≡ pos (min (row * n) starts) -ℤ pos 15999 = omega (arith, ints) in
    let few = length-take c.min-on_line.result c.best_tops.new.tops in
    record {
      low = omega (arith, ints);
      high = omega (arith, ints);
      tops = row_front _ _ _ _ _ _ c.best_tops.ensures (omega arith);
      before = rw from c.loop-row.invariant;
    }

pub loop-row-preserved : goal.loop-row-preserved
loop-row-preserved g c =
    let short = c.args.weighed.now.sample.now.short in
    let row = c.loop-row.row in
    let n = length c.args.tops.now in
    let starts = c.end-starts.result + 15999 in
    let lt = row_below row n starts (omega arith) (omega arith) in
    let few = length-take c.min-on_line.result c.best_tops.new.tops in
    let more : (row + 1) * n ≡ row * n + n = rw add-one (suc-mul row n) in
    let e : to_z w64 (of_z w64 (to_z w64 (row * n) -ℤ pos 15999)) +ℤ pos (length (take c.min-on_line.result c.best_tops.new.tops)) ≡ pos (min ((row + 1) * n) starts) -ℤ pos 15999 = omega (arith, ints) in
    rw e at c.offer_row.ensures

pub returns : goal.returns
returns g c =
    let short = c.args.weighed.now.sample.now.short in
    let len = read_short c.args.weighed.now.sample.now in
    let all = rows_above c.loop-row.row (length c.args.tops.now) (c.end-starts.result + 15999) (omega arith) (omega arith) in
    begun_past g.S.Sense.beyond (line_read c.args.weighed.now.sample.now) c.args.weighed.now.load _ _ _ c.args.weighed.now.load.length_limit (omega (arith, ints)) (omega (arith, ints)) c.loop-row.invariant
