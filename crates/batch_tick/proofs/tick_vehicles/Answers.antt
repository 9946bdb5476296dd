-- `batch_tick::tick_vehicles` meets its contract.
use Rattle.batch_tick.specs.BatchTickLaws.{walked_answers}
use Rattle.batch_tick.proofs.tick_vehicles.Goals as goal

pub returns : goal.returns
returns c = walked_answers c.args.header _ _ c.in_ok-check_readings.ensures c.in_ok-check_list.ensures c.walk_all.ensures
