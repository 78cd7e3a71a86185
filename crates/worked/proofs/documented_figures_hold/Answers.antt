use Rattle.worked.proofs.Computed.{figures}
use Rattle.worked.proofs.documented_figures_hold.Goals as goal

pub returns : goal.returns
returns c = record { every_figure_holds = figures }
