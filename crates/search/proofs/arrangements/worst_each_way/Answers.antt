use Rattle.lane_search.specs.Readings.{line_read}
use Rattle.search.proofs.WorstOfAll.{both_alike, found_up, found_down}
use Rattle.search.proofs.arrangements.worst_each_way.Goals as goal

pub returns : goal.returns
returns c =
    let read = line_read c.args.sample.now in
    let t = c.args.set.now.loads in
    let rising = c.furthest_loads-rising in
    let falling = c.furthest_loads-falling in
    record {
      up = λ l alike. found_up (c.across-most.ensures l t (both_alike read l t rising.result alike rising.ensures.heavy rising.ensures.light) (both_alike read l t falling.result alike falling.ensures.heavy falling.ensures.light));
      down = λ l alike. found_down (c.across-least.ensures l t (both_alike read l t falling.result alike falling.ensures.heavy falling.ensures.light) (both_alike read l t rising.result alike rising.ensures.heavy rising.ensures.light));
    }
