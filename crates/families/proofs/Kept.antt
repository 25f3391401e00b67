-- What drafted lines keep, in the words of stations and in those of runs.
use Rattle.std.proofs.Common.{◌≡◌, ℤ, refl}
use Rattle.lines.specs.Asks.{AllYes}
use Rattle.lines.specs.Lines.{Limits}
use Rattle.families.specs.contracts.station_head.StationHeadHead.TheImpl as by_stations
use Rattle.families.specs.contracts.run_head.RunHeadHead.TheImpl as by_runs
use Rattle.families.specs.declared.drafted_lines.DraftedLines.{DraftedLines}
use Rattle.families.specs.declared.rows.StationHead.{StationHead}
use Rattle.families.specs.declared.rows.RunHead.{RunHead}
use Rattle.families.specs.declared.rows.Run.{Run}
use Rattle.families.specs.Drafts.{drafted_lines}
use Rattle.families.specs.DraftLimits.{found_each}
use Rattle.families.specs.Stations.{no_station_head, station_draft, station_questions, station_lines, station_limits}
use Rattle.families.specs.Runs.{no_run_head, run_draft, run_questions, run_lines, run_limits}

pub stations_yes : (s : DraftedLines StationHead ℤ by_stations.ghosts) → AllYes (station_questions s.heads.now s.rows.now)
stations_yes s = s.right

pub stations_lines : (s : DraftedLines StationHead ℤ by_stations.ghosts) → drafted_lines by_stations.ghosts.taken by_stations.ghosts.draft s.heads.now s.rows.now ≡ station_lines s.heads.now s.rows.now
stations_lines s = refl

pub stations_limits : (s : DraftedLines StationHead ℤ by_stations.ghosts) → Limits (station_lines s.heads.now s.rows.now)
stations_limits s =
    let y = stations_yes s in
    let f = found_each (λ h. h.stations) station_draft s.heads.now s.rows.now 0 no_station_head y.1 in
    station_limits s.heads.now s.rows.now y.0 (λ i h. (f i h).0) (λ i h. (f i h).1) (λ i h. (f i h).2)

pub runs_yes : (s : DraftedLines RunHead Run by_runs.ghosts) → AllYes (run_questions s.heads.now s.rows.now)
runs_yes s = s.right

pub runs_lines : (s : DraftedLines RunHead Run by_runs.ghosts) → drafted_lines by_runs.ghosts.taken by_runs.ghosts.draft s.heads.now s.rows.now ≡ run_lines s.heads.now s.rows.now
runs_lines s = refl

pub runs_limits : (s : DraftedLines RunHead Run by_runs.ghosts) → Limits (run_lines s.heads.now s.rows.now)
runs_limits s =
    let y = runs_yes s in
    let f = found_each (λ h. h.runs) run_draft s.heads.now s.rows.now 0 no_run_head y.1 in
    run_limits s.heads.now s.rows.now y.0 (λ i h. (f i h).0) (λ i h. (f i h).1) (λ i h. (f i h).2)
