-- `planner::summarize` meets its contract: the row holds the table's seconds, and the way in the columns is summed by it.
use Rattle.std.proofs.Common.{◌≡◌, ◌-◌, ℕ, List, refl, sym, ap, ◌∙◌, arith, rules, length-take-le, of_calls}
use Rattle.table.specs.Read.{read_table, jobs_of}
use Rattle.builder.specs.RowLaws.{header_count, header_few, header_whole}
use Rattle.planning.specs.Listing.{path}
use Rattle.planner.specs.Plan.{seconds_of}
use Rattle.planner.specs.Way.{linked, row_seconds}
use Rattle.planner.specs.WayLaws.{row_seconds_are, row_in_time, links_row}
use Rattle.planner.proofs.summarize.Goals as goal

pub load-requires : goal.load-requires
load-requires c =
    let a = c.args in (
      header_count a.table.now (λ i. search rules) a.header c.requires.0,
      header_few a.table.now (λ i. search rules) a.header c.requires.0,
      search of_calls,
    )

pub slice_bounds-seconds-end : goal.slice_bounds-seconds-end
slice_bounds-seconds-end c =
    let a = c.args in
    omega (arith, c.load.ensures.sized, header_few a.table.now (λ i. search rules) a.header c.requires.0)

pub slice_bounds-way_seconds-end : goal.slice_bounds-way_seconds-end
slice_bounds-way_seconds-end c =
    let a = c.args in
    sym (length-take-le _ _ (omega (arith, c.load.ensures.sized, header_few a.table.now (λ i. search rules) a.header c.requires.0)))

pub way_seconds-requires : goal.way_seconds-requires
way_seconds-requires c =
    let a = c.args in
    let row = header_whole a.table.now (λ i. search rules) a.header c.requires.0 c.load.ensures refl (λ j. j.seconds) (λ j x p. search rules) in (
      links_row (jobs_of (read_table a.table.now)) _ a.size.entries _ _ a.depths.now row c.requires.1,
      rw row (row_in_time a.table.now (λ i. search rules)),
    )

pub returns : goal.returns
returns c =
    let a = c.args in
    let row = header_whole a.table.now (λ i. search rules) a.header c.requires.0 c.load.ensures refl (λ j. j.seconds) (λ j x p. search rules) in
    let way = path (linked a.actions.now a.parents.now) (a.size.entries - 1) in
    let sum : c.way_seconds.result ≡ seconds_of (jobs_of (read_table a.table.now)) way =
    c.way_seconds.ensures ∙ ap (λ (r : List ℕ). row_seconds r way) row ∙ row_seconds_are (jobs_of (read_table a.table.now)) way in
    rw (c.whole_minutes-minutes.ensures, sum, c.requires.1.last_depth)
