-- `distances::measure_table` meets its contract: what is loaded are the table's actions, so that the states' distances by them are those under the table.
use Rattle.std.proofs.Common.{refl, sym, take, arith, rules, length-take-le, of_calls}
use lib.Pow.{pow_pos}
use Rattle.job.specs.Job.{action_of}
use Rattle.table.specs.Read.{read_table}
use Rattle.table.proofs.ReadLaws.{headed_sound}
use Rattle.builder.specs.RowLaws.{header_count, header_few, header_whole}
use Rattle.distances.specs.MeasureLaws.{fits_table, distances_table}
use Rattle.distances.proofs.measure_table.Goals as goal

pub load-requires : goal.load-requires
load-requires c =
    let a = c.args in (
      header_count a.table.now (λ i. search rules) a.header c.requires.0,
      header_few a.table.now (λ i. search rules) a.header c.requires.0,
      search of_calls,
    )

pub slice_bounds-jobs-end : goal.slice_bounds-jobs-end
slice_bounds-jobs-end c =
    let a = c.args in
    omega (arith, c.load.ensures.sized, header_few a.table.now (λ i. search rules) a.header c.requires.0)

pub slice_bounds-measure_states-end : goal.slice_bounds-measure_states-end
slice_bounds-measure_states-end c =
    let a = c.args in
    sym (length-take-le _ _ (omega (arith, c.load.ensures.sized, header_few a.table.now (λ i. search rules) a.header c.requires.0)))

pub measure_states-requires : goal.measure_states-requires
measure_states-requires c =
    let a = c.args in
    let (t, r, h) = headed_sound (read_table a.table.now) c.requires.0 in
    let loaded = header_whole a.table.now (λ i. search rules) a.header c.requires.0 c.load.ensures refl action_of (λ j x p. search rules) in (
      rw c.requires.2 (fits_table a.table.now (λ i. search rules) a.header c.requires.0 t r (take a.header.jobs c.load.new.row) loaded c.requires.1),
      omega (arith, c.requires.2, pow_pos a.header.facts),
    )

pub returns : goal.returns
returns c =
    let a = c.args in
    let loaded = header_whole a.table.now (λ i. search rules) a.header c.requires.0 c.load.ensures refl action_of (λ j x p. search rules) in
    λ t r. distances_table a.table.now (λ i. search rules) a.header c.requires.0 t r (take a.header.jobs c.load.new.row) loaded _ _ c.measure_states.ensures
