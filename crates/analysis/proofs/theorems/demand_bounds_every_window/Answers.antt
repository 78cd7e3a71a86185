use Rattle.analysis.proofs.Windows.{window_bound}
use Rattle.analysis.proofs.theorems.demand_bounds_every_window.Goals as goal

pub returns : goal.returns
returns c = record { load_within_demand = window_bound }
