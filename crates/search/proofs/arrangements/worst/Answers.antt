use Rattle.std.proofs.Common.{rules}
use Rattle.lines.specs.Lines.{line_no}
use Rattle.lane_search.specs.Readings.{line_read, Alike}
use Rattle.search.proofs.WorstOfAll.{both_alike, found_up, found_down}
use Rattle.search.proofs.arrangements.worst.Goals as goal

pub returns-in-Up : goal.returns-in-Up
returns-in-Up g c =
    let read = line_read c.of-sample.result in
    let l = line_no (g.F.Family.lines c.args.family.now) c.args.line in
    let t = c.args.set.now.loads in
    let alike : Alike read l = search rules in
    let up = c.furthest_loads-up in
    let down = c.furthest_loads-down in
    rw c.in-Up.is
    (found_up (c.across.ensures l t (both_alike read l t up.result alike up.ensures.heavy up.ensures.light) (both_alike read l t down.result alike down.ensures.heavy down.ensures.light)))

pub returns-in-Down : goal.returns-in-Down
returns-in-Down g c =
    let read = line_read c.of-sample.result in
    let l = line_no (g.F.Family.lines c.args.family.now) c.args.line in
    let t = c.args.set.now.loads in
    let alike : Alike read l = search rules in
    let up = c.furthest_loads-up in
    let down = c.furthest_loads-down in
    rw c.in-Down.is
    (found_down (c.across-in-Down.ensures l t (both_alike read l t down.result alike down.ensures.heavy down.ensures.light) (both_alike read l t up.result alike up.ensures.heavy up.ensures.light)))
